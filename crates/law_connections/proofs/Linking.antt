-- How two runs are related whose settings are unlinked, and what opens in them.
use Rattle.std.proofs.Common.{◌≡◌, ℕ, ◌+◌, ◌*◌, ◌/◌, ◌%◌, true, List, length, sym, subst, arith}
use Rattle.std.specs.Prelude.{slice_get, slice_index, Some}
use Rattle.sx_mean.specs.Application.{PartTree}
use Rattle.sx_mean.specs.Ends.{ends_of}
use Rattle.sx_rules.specs.declared.section.Section.{Section}
use Rattle.sx_rules.specs.Access.{Lives}
use Rattle.sx_tag.specs.Mac.{Mac}
use Rattle.sx_tag.specs.Wrap.{crypt}
use Rattle.spec_machine.specs.State.{State}
use Rattle.spec_invocation.specs.Protocol.{set_key_size}
use Rattle.spec_invocation.specs.ModuleState.{ModuleState, state_of}
use Rattle.spec_invocation.specs.Entries.{header_in}
use Rattle.sx_image.specs.Image.{private_bytes}
use Rattle.spec_run.specs.Setting.{Setting, Site, is_at_site}
use Rattle.sx_wire.specs.Headers.{set_key_header}
use Rattle.sx_tmpl.specs.Unseen.{HoldsNoKey}
use Rattle.spec_run.specs.Deployer.{key_of, connection_key}
use Rattle.spec_run.specs.Law.{IsTagUnder}
use Rattle.law_forgery.specs.Tags.{SameTags, rekeyed}
use Rattle.law_forgery.proofs.Accepting.{key_long}
use Rattle.law_forgery.proofs.Fields.{field_key}
use Rattle.law_connections.specs.Unlinked.{Unlinked}
use Rattle.law_connections.proofs.Outside.{sites_on, is_deployed, AlikeOutside}
use Rattle.law_connections.proofs.Twice.{key_in, SameEnds}
use Rattle.law_connections.proofs.KeyPackets.{key_tells}

-- A setting, and the one with another tag function, other keys and another secret.
module _ (a : Setting) (nac : Mac) (keys : List (List ℕ)) (secret : List ℕ) where
  abbrev pub second : Setting
  second = rekeyed a nac keys secret

  -- in each run the key is that of the connection field
  abbrev pub Linked : ℕ → List ℕ → List ℕ → Type 0
  Linked field k l = (k ≡ field_key a field) × (l ≡ field_key second field)

  -- what set-key packets with this header open to: in both runs to the key of its connection, or in
  -- neither
  abbrev pub Opens : List ℕ → List ℕ → List ℕ → Type 0
  Opens header k l = (link epoch side : ℕ) → header ≡ set_key_header link epoch side
      → (k ≡ connection_key a link epoch → l ≡ connection_key second link epoch) × (l ≡ connection_key second link epoch → k ≡ connection_key a link epoch)

  -- the state that a module's private section represents
  abbrev pub state_in : ℕ → PartTree → Section → List ℕ → ModuleState
  state_in m q x mem = state_of q.tree (ends_of a.app m) (private_bytes x.layout mem)

  -- private sections of a module with this many ends agree where no key may be
  abbrev pub SameShown : ℕ → List ℕ → List ℕ → Type 0
  SameShown ends p q = (o : ℕ) → HoldsNoKey ends o 1 → slice_index q o ≡ slice_index p o

  -- The private sections agree where no key may be, and the states that they represent differ in
  -- the keys of open ends, which are so related.
  abbrev pub SameStates : (ℕ → List ℕ → List ℕ → Type 0) → ℕ → PartTree → Section → List ℕ → List ℕ → Type 0
  SameStates Related m q x mem mem2 =
      ((state_in m q x mem2).cells ≡ (state_in m q x mem).cells) × SameEnds Related (state_in m q x mem).ends (state_in m q x mem2).ends
      × SameShown (length (ends_of a.app m)) (private_bytes x.layout mem) (private_bytes x.layout mem2)

  -- the n-th nodes of the two runs, where no deployed module runs
  pub record SameNode (n : ℕ) (s t : State) : Type 0 where
    pub outside : AlikeOutside a.mac nac (sites_on a.sites n) s t
    pub rests : (x : Section) → Lives s.sections.live x → is_deployed (sites_on a.sites n) s.mem x ≡ true → s.cur ≡ x.id → ⊥
    pub states : (m : ℕ) (q : PartTree) (site : Site) (x : Section) → slice_get a.app.parts m ≡ Some q → slice_get a.sites m ≡ Some site
        → Lives s.sections.live x → is_at_site n s.mem x site ≡ true → SameStates Linked m q x s.mem t.mem

  module _ (unlinked : Unlinked a second) where
    pub linked_tags : (field : ℕ) (k l : List ℕ) → Linked field k l → SameTags a.mac k nac l
    linked_tags field k l h =
        let parts : field % 256 + 256 * (field / 256) ≡ field = omega arith in
        subst (λ (x : List ℕ). SameTags a.mac x nac l) (sym h.0)
        (subst (λ (y : List ℕ). SameTags a.mac (field_key a field) nac y) (sym h.1)
        (subst (λ (f : ℕ). SameTags a.mac (field_key a f) nac (field_key second f)) parts (unlinked.links (field % 256) (field / 256))))

    pub opens_linked : IsTagUnder a.secret a.mac → IsTagUnder secret nac → (m boot : ℕ) (site : Site) → slice_get a.sites m ≡ Some site → (packet : List ℕ) → length packet ≡ set_key_size
        → Opens (header_in packet) (key_in a.mac (key_of a site boot) packet) (key_in nac (key_of second site boot) packet)
    opens_linked one two m boot site sited packet size link epoch side e =
        let x = connection_key a link epoch in
        let y = connection_key second link epoch in
        let same : crypt a.mac (key_of a site boot) (header_in packet) x ≡ crypt nac (key_of second site boot) (header_in packet) y =
        subst (λ (h : List ℕ). crypt a.mac (key_of a site boot) h x ≡ crypt nac (key_of second site boot) h y) (sym e) (unlinked.pads m boot link epoch side site sited) in (
          key_tells a.mac nac a.secret secret (key_of a site boot) (key_of second site boot) packet x y one two size (key_long a link epoch one) (key_long second link epoch two) same,
          key_tells nac a.mac secret a.secret (key_of second site boot) (key_of a site boot) packet y x two one size (key_long second link epoch two) (key_long a link epoch one) (sym same),
        )
