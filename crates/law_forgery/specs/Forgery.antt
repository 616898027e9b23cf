-- What the first `forged` of a run says: a tag was accepted that nobody who holds its key made.
use Rattle.std.specs.Prelude.{◌≡◌, ℕ, true, false, ◌≤◌, ◌⊎◌, List, [], ◌∷◌, ◌++◌, length, take}
use Rattle.std.specs.Prelude.{slice_get}
use Rattle.std.specs.Prelude.{Option, Some, None}
use Rattle.std.specs.Option.{option_flatten}
use Rattle.sx_trace.specs.declared.items.Item.{Item}
use Rattle.sx_trace.specs.declared.items.Item.TheVariants as item
use Rattle.sx_lang.specs.declared.sides.Side.TheVariants.{To}
use Rattle.sx_ledger.specs.declared.entry.Maker.TheVariants as maker
use Rattle.sx_tag.specs.Wrap.{crypt}
use Rattle.spec_machine.specs.State.{State}
use Rattle.spec_machine.specs.Memory.{bytes_from}
use Rattle.spec_machine.specs.Ranges.{meets_private}
use Rattle.sx_sched.specs.Lines.{Line}
use Rattle.spec_run.specs.Setting.{Setting, Site}
use Rattle.spec_run.specs.Ledger.{Made, NO_TARGET, made_entry, is_made}
use Rattle.spec_run.specs.Deployer.{key_of, connection_key}
use Rattle.sx_wire.specs.Headers.{is_set_key_header, is_event_header, link_in, epoch_in}
use Rattle.spec_run.specs.Law.{IsSoundSetting, LinesInForm}
use Rattle.spec_run.specs.Run.{run}
use Rattle.spec_run.specs.State.{World, switched_on}
use Rattle.spec_run.specs.Observation.{has_end}
use Rattle.law_forgery.specs.Moments.{Moment, moment, FirstForged, NoForged}

-- a key by what it is for: a module at a boot of its node, or a connection in an epoch
pub data KeyName : Type 0 where
  OfModule : (m boot : ℕ) → KeyName
  OfLink : (link epoch : ℕ) → KeyName

-- the key of a module at a boot of its node; none if there is no such module
abbrev pub key_at : Setting → ℕ → Option Site → List ℕ
key_at set boot None = []
key_at set boot (Some site) = key_of set site boot

-- the key of this name
abbrev pub key_named : Setting → KeyName → List ℕ
key_named set (OfModule m boot) = key_at set boot (slice_get set.sites m)
key_named set (OfLink link epoch) = connection_key set link epoch

-- Somebody who holds the key wrapped the body under the header. Under a module's key that is the
-- deployer, who makes its set-key packets, or the module, which answers asks; under a connection's
-- key it is any module.
abbrev pub WasWrapped : List Made → KeyName → List ℕ → List ℕ → Type 0
WasWrapped ledger (OfModule m boot) header body =
    (is_made ledger (made_entry maker.Deployer m boot header body) ≡ true)
    ⊎ (is_made ledger (made_entry (maker.Module m) NO_TARGET boot header body) ≡ true)
WasWrapped ledger (OfLink link epoch) header body =
    (k : ℕ) × (is_made ledger (made_entry (maker.Module k) NO_TARGET 0 header body) ≡ true)

-- Whoever accepts a tag, and the key that its header calls for: a module that opens an end, the key
-- that it has at the present boot; a module that takes an event, the key of the event's connection
-- and epoch; the deployer, who takes an answer for the open ask, the key of the asked module at the
-- boot that the answer is for.
pub data CallsFor (set : Setting) (w : World) : Option ℕ → List ℕ → KeyName → Type 0 where
  Opens : (m : ℕ) (site : Site) (s : State) (header : List ℕ) → slice_get set.sites m ≡ Some site
      → slice_get w.nodes site.node ≡ Some s → s.boot ≤ 65536 → is_set_key_header header ≡ true
      → CallsFor set w (Some m) header (OfModule m s.boot)
  Takes : (m : ℕ) (header : List ℕ) → is_event_header header ≡ true
      → has_end set.app m (link_in header) To ≡ true
      → CallsFor set w (Some m) header (OfLink (link_in header) (epoch_in header))
  Answers : (m boot : ℕ) (ask : List ℕ)
      → option_flatten (slice_get w.deployer.open_asks m) ≡ Some ask
      → CallsFor set w None ask (OfModule m boot)

-- the tag is in the memory of a node, outside all private sections, or it is a packet
pub data StandsIn (w : World) (tag : List ℕ) : Type 0 where
  InMemory : (n at : ℕ) (s : State) → slice_get w.nodes n ≡ Some s
      → meets_private s.sections.live at 16 ≡ false → bytes_from s.mem at 16 ≡ tag → StandsIn w tag
  AsPacket : (k : ℕ) → slice_get w.packets k ≡ Some tag → StandsIn w tag

-- it was so at a moment of the run, at the latest at the k-th
pub record Presented (set : Setting) (lines : List Line) (k : ℕ) (tag : List ℕ) : Type 0 where
  pub j : ℕ
  pub past : Moment
  pub early : j ≤ k
  pub at : moment set lines j ≡ Some past
  pub stands : StandsIn past.world tag

-- A tag was accepted under the key that its header calls for: all of its 16 bytes are those of this
-- header and cipher, and nobody who holds the key wrapped a body that makes them.
pub record Forgery (set : Setting) (lines : List Line) (k : ℕ) (w : World) (who : Option ℕ)
    : Type 0 where
  pub key : KeyName
  pub header : List ℕ
  pub cipher : List ℕ
  pub tag : List ℕ
  pub calls : CallsFor set w who header key
  pub presented : Presented set lines k tag
  pub whole : tag
      ≡ take 16 (set.mac (key_named set key) (0x54 ∷ length header ∷ (header ++ cipher)))
  pub unmade : (body : List ℕ) → crypt set.mac (key_named set key) header body ≡ cipher
      → WasWrapped w.ledger key header body → ⊥

-- the first `forged` of a run is such an acceptance
abbrev pub ForgedUnmade : Type 0
ForgedUnmade = (set : Setting) → IsSoundSetting set → (lines : List Line) → length lines ≤ 65536
    → LinesInForm set lines → (k : ℕ) (now : Moment) (who : Option ℕ)
    → FirstForged set lines k now who → Forgery set lines k now.world who

-- and if the items of a run have a first `forged`, there is the moment that shows it
abbrev pub ForgedShown : Type 0
ForgedShown = (set : Setting) (lines : List Line) (front rest : List Item) (who : Option ℕ)
    → (run set (switched_on set) lines).items ≡ front ++ item.Forged who ∷ rest → NoForged front
    → (k : ℕ) × (now : Moment) × FirstForged set lines k now who

-- the moment that shows the first `forged` of a run, and the acceptance that it is
pub record FirstForgery (set : Setting) (lines : List Line) (who : Option ℕ) : Type 0 where
  pub k : ℕ
  pub now : Moment
  pub first : FirstForged set lines k now who
  pub forgery : Forgery set lines k now.world who

-- Wherever the items of a run have a first `forged`, it is such an acceptance.
abbrev pub ForgedIsForgery : Setting → List Line → Type 0
ForgedIsForgery set lines = (front rest : List Item) (who : Option ℕ)
    → (run set (switched_on set) lines).items ≡ front ++ item.Forged who ∷ rest → NoForged front
    → FirstForgery set lines who
