-- What the keys of connections show.
use Rattle.std.specs.Prelude.{◌≡◌, ◌≢◌, ◌⊎◌, ℕ, if◌then◌else◌, true, false, List, [], ◌∷◌}
use Rattle.std.specs.Prelude.{length, map, slice_get, slice_index, Some, None}
use Rattle.sx_trace.specs.declared.items.Item.{Item}
use Rattle.sx_rules.specs.declared.access.Access.TheVariants.{Read}
use Rattle.sx_rules.specs.declared.section.Section.{Section}
use Rattle.sx_rules.specs.Access.{Lives, in_private, section_of}
use Rattle.sx_tag.specs.Keys.{identity, module_key}
use Rattle.sx_model.specs.Legal.{is_forged}
use Rattle.spec_machine.specs.Memory.{word, bytes_from}
use Rattle.spec_machine.specs.State.{State}
use Rattle.spec_machine.specs.Run.{may_range}
use Rattle.spec_machine.specs.ModuleRows.{own_key}
use Rattle.spec_machine.specs.Step.{pc_of, own_of}
use Rattle.sx_image.specs.Image.{public_bytes}
use Rattle.sx_sched.specs.Lines.{Line}
use Rattle.spec_run.specs.Setting.{Setting, deployed, module_of}
use Rattle.spec_run.specs.Deployer.{list_at}
use Rattle.spec_run.specs.Law.{IsSoundSetting}
use Rattle.spec_run.specs.State.{World, switched_on}
use Rattle.spec_run.specs.Run.{run}
use Rattle.law_isolation.specs.Happening.{Step}
use Rattle.law_forgery.specs.Tags.{SameTags}
use Rattle.law_forgery.specs.Bare.{bare_section}
use Rattle.law_forgery.specs.Moments.{Moment, moment, NoForged, NoneBefore}
use Rattle.law_connections.specs.Unlinked.{Unlinked}

-- the items up to the first `forged`, and with it
abbrev pub upto_forged : List Item → List Item
upto_forged [] = []
upto_forged (i ∷ items) = i ∷ (if is_forged i then [] else upto_forged items)

-- the byte is in no private section of a deployed module of the n-th node
abbrev pub InTheOpen : Setting → ℕ → State → ℕ → Type 0
InTheOpen a n s k = (x : Section) → Lives s.sections.live x → deployed a.sites n s.mem x ≢ None
    → in_private x k ≡ false

-- The n-th nodes differ in keys, in private bytes of deployed modules, and in what was last wrapped
-- or unwrapped, alone.
pub record SameOutside (a : Setting) (n : ℕ) (s t : State) : Type 0 where
  pub rest : t
      ≡ record s { mem = t.mem; sections = t.sections; key = t.key; exchange = t.exchange }
  pub live : map bare_section t.sections.live ≡ map bare_section s.sections.live
  pub next : t.sections.next ≡ s.sections.next
  pub size : length t.mem ≡ length s.mem
  pub mem : (k : ℕ) → InTheOpen a n s k → slice_index t.mem k ≡ slice_index s.mem k

-- the worlds are the same outside deployed modules: nodes, packets and deployer
pub record SameWorldOutside (a : Setting) (w v : World) : Type 0 where
  pub count : length v.nodes ≡ length w.nodes
  pub nodes : (n : ℕ) (s t : State) → slice_get w.nodes n ≡ Some s → slice_get v.nodes n ≡ Some t
      → SameOutside a n s t
  pub packets : v.packets ≡ w.packets
  pub deployer : v.deployer ≡ w.deployer

-- the section that a protect would make of what registers hold
abbrev pub wanted : State → Section
wanted s = record {
  layout = record {
    pub_from = slice_index s.regs 10;
    pub_to = slice_index s.regs 11;
    priv_from = slice_index s.regs 12;
    priv_to = slice_index s.regs 13;
  };
  provider = slice_index s.regs 9;
  id = 0;
  key = [];
}

-- the identity of a section with the bytes that are there
abbrev pub identity_in : List ℕ → Section → List ℕ
identity_in mem x = let l = x.layout in
    identity (public_bytes l mem) l.pub_from l.pub_to l.priv_from l.priv_to

-- The next step of the n-th node, of code of no deployed module, keeps to such keys and modules:
-- if it wraps or unwraps with 16 bytes that it may read, they are such a key, and if it
-- admits a module that isn't deployed, this is such a one, by boot, provider and identity.
pub record KeepsTo (a : Setting) (IsKey : List ℕ → Type 0) (IsModule : ℕ → ℕ → List ℕ → Type 0)
    (n : ℕ) (s : State) : Type 0 where
  pub held : (word s.mem (pc_of s) ≡ 0x1384) ⊎ (word s.mem (pc_of s) ≡ 0x1385) → (own : Section)
      → section_of s.sections.live (own_of s) ≡ Some own → own_key s.regs ≡ false
      → may_range s.sections.live (own_of s) Read (slice_index s.regs 9) 16 ≡ true
      → IsKey (bytes_from s.mem (slice_index s.regs 9) 16)
  pub admitted : word s.mem (pc_of s) ≡ 0x1381 → deployed a.sites n s.mem (wanted s) ≡ None
      → IsModule s.boot (slice_index s.regs 9) (identity_in s.mem (wanted s))

-- so does each step of the run, until a `forged` is shown; a module is such by its node, too
abbrev pub RunKeepsTo : Setting → (List ℕ → Type 0) → (ℕ → ℕ → ℕ → List ℕ → Type 0) → List Line
    → Type 0
RunKeepsTo a IsKey IsModule lines = (k : ℕ) (now : Moment) → moment a lines k ≡ Some now
    → NoneBefore a lines k → (n : ℕ) (s : State) → now.next ≡ Step n
    → slice_get now.world.nodes n ≡ Some s → module_of a.sites n s (own_of s) ≡ None
    → KeepsTo a IsKey (IsModule n) n s

-- no tag under the key of this module, by node, boot, provider and identity, tells the settings
-- apart
abbrev pub SameModule : Setting → Setting → ℕ → ℕ → ℕ → List ℕ → Type 0
SameModule a b n boot provider identity =
    SameTags a.mac (module_key a.mac (list_at a.keys n) boot provider identity) b.mac
    (module_key b.mac (list_at b.keys n) boot provider identity)

-- no step of the run uses a key, or admits a module, under which a tag tells the settings apart
abbrev pub NothingGuessed : Setting → Setting → List Line → Type 0
NothingGuessed a b = RunKeepsTo a (λ k. SameTags a.mac k b.mac k) (SameModule a b)

-- The runs show the same up to the first `forged`, and if there is none they come to worlds that
-- are the same outside deployed modules.
abbrev pub RunsAlike : Setting → Setting → List Line → Type 0
RunsAlike a b lines =
    let x = run a (switched_on a) lines in
    let y = run b (switched_on b) lines in
    (upto_forged y.items ≡ upto_forged x.items)
    × (NoForged x.items → SameWorldOutside a x.world y.world)

-- So the run of this schedule is like that of each sound setting whose connections have keys of
-- their own, unless code of no deployed module guesses.
abbrev pub LinksAreUnseen : Setting → List Line → Type 0
LinksAreUnseen a lines = (b : Setting) → IsSoundSetting b → Unlinked a b
    → NothingGuessed a b lines → RunsAlike a b lines
