-- What the world needs of a node's steps beside what is proved of them: three laws of the machine.
use Rattle.std.proofs.Common.{◌≡◌, ℕ, inl, inr, ◌==◌, Bool, true, false, if◌then◌else◌, List, Option, Some, None, refl, ◌∙◌, ap, arith}
use Rattle.std.specs.Prelude.{slice_index, replicate, nat_le, nat_lt, ◌-◌}
use Rattle.std.proofs.lemmas.Bool.{and_from, le-leb, lt-ltb}
use Rattle.sx_rules.specs.declared.access.Violation.{Violation}
use Rattle.sx_rules.specs.declared.section.Section.{Section}
use Rattle.sx_rules.specs.Access.{Sections, Lives, holder, section_of}
use Rattle.sx_tag.specs.Mac.{Mac}
use Rattle.spec_machine.specs.declared.kinds.Event.TheVariants as event
use Rattle.spec_machine.specs.State.{State, reset}
use Rattle.spec_machine.specs.Run.{Outcome, Finished, Violated, Module, untouched}
use Rattle.spec_machine.specs.Step.{step, own_of, attempt, settled_step, given_at_pc}
use Rattle.sx_image.specs.Watched.{violation_of}
use Rattle.spec_machine.specs.Node.{IsNode}
use Rattle.sx_image.specs.Image.{public_bytes, private_bytes}
use Rattle.spec_machine.specs.Touches.{Replays}
use Rattle.spec_machine.specs.Frame.{KeptPublic}
use Rattle.spec_machine.specs.Given.{Given}
use Rattle.spec_machine.proofs.Events.{IsTold, Told, Same, Admits, Removes, ToldBy, attempt_told}
use Rattle.spec_machine.proofs.Stays.{step_is_node}
use Rattle.spec_machine.specs.Acting.{Step}
use Rattle.spec_machine.proofs.PublicKept.{public_kept}
use Rattle.spec_machine.proofs.Sparse.{shows_touches}
use Rattle.spec_machine.proofs.Meanings as meanings

-- a live section's public bytes are as before, unless the node was reset
abbrev pub PublicKept : Mac → Type 0
PublicKept mac = (s : State) (sec : Section) → IsNode s → Lives s.sections.live sec → violation_of (step mac s).shown.event ≡ None
    → public_bytes sec.layout (step mac s).state.mem ≡ public_bytes sec.layout s.mem

-- registers and memory stay in range
abbrev pub StaysNode : Mac → Type 0
StaysNode mac = (s : State) → IsNode s → IsNode (step mac s).state

-- what is shown of the devices is all that happened to them
abbrev pub ShowsTouches : Mac → Type 0
ShowsTouches mac = (s : State) → IsNode s → violation_of (step mac s).shown.event ≡ None → Replays s.sections.live (own_of s) (step mac s).shown.touch s.devices (step mac s).state.devices

pub record MachineLaws (mac : Mac) : Type 0 where
  pub node : StaysNode mac
  pub public : PublicKept mac
  pub shown : ShowsTouches mac

-- a section that was just protected has private bytes of zero
abbrev pub FreshSections : Mac → Type 0
FreshSections mac = (s : State) (id : ℕ) (sec : Section) → IsNode s → (step mac s).shown.event ≡ event.Protected id → section_of (step mac s).state.sections.live id ≡ Some sec
    → private_bytes sec.layout (step mac s).state.mem ≡ replicate (sec.layout.priv_to - sec.layout.priv_from) 0

-- a step that violates
pub record Violates (mac : Mac) (s : State) (v : Violation) : Type 0 where
  pub state : (step mac s).state ≡ reset s
  pub touch : (step mac s).shown.touch ≡ untouched
  pub event : (step mac s).shown.event ≡ event.Reset v

told_none : (mac : Mac) (g : Given) (m0 m : List ℕ) (t : Sections) (e : Rattle.spec_machine.specs.declared.kinds.Event.Event) (v : Violation) → Told mac g m0 m t e → violation_of e ≡ Some v → ⊥
told_none mac g m0 m t e v (Same h s) q = told e h q
  where
    none_some : ◌≡◌ {A = Option Violation} None (Some v) → ⊥
    none_some e = cc

    told : (e : Rattle.spec_machine.specs.declared.kinds.Event.Event) → IsTold g e → violation_of e ≡ Some v → ⊥
    told event.Quiet h q = none_some q
    told (event.Reset w) h q = h
    told (event.Protected id) h q = h
    told (event.Removed id) h q = h
    told (event.Wrapped id) h q = none_some q
    told (event.Unwrapped id) h q = none_some q
    told (event.Left id) h q = h
told_none mac g m0 m t e v (Admits r a w) q = absurd cc
told_none mac g m0 m t e v (Removes s f r w) q = absurd cc

left_none : (b : Bool) (own : ℕ) (v : Violation) → violation_of (if b then event.Quiet else event.Left own) ≡ Some v → ⊥
left_none true own v q = absurd cc
left_none false own v q = absurd cc

settled_violates : (mac : Mac) (s : State) (o : Outcome) (v : Violation) → ToldBy mac (given_at_pc mac s) s.mem o → violation_of (settled_step s o).shown.event ≡ Some v
    → ((settled_step s o).state ≡ reset s) × ((settled_step s o).shown.touch ≡ untouched) × ((settled_step s o).shown.event ≡ event.Reset v)
settled_violates mac s (Finished regs x) v h q = absurd (left_none (Rattle.std.specs.Prelude.◌||◌ (own_of s == 0) (holder s.sections.live (slice_index regs 0) == own_of s)) (own_of s) v q)
settled_violates mac s (Violated w) v h q = (refl, refl, ap event.Reset (some_inj w v q))
  where
    some_inj : (a b : Violation) → ◌≡◌ {A = Option Violation} (Some a) (Some b) → a ≡ b
    some_inj a b e = cc
settled_violates mac s (Module regs x t e c) v h q = absurd (told_none mac (given_at_pc mac s) s.mem x.mem t e v h q)

pub violates : (mac : Mac) (s : State) (v : Violation) → violation_of (step mac s).shown.event ≡ Some v → Violates mac s v
violates mac s v q = let h = settled_violates mac s (attempt mac s) v (attempt_told mac s) q in record { state = h.0; touch = h.1; event = h.2 }

-- what a quiet step leaves of the rest
pub record Onward (s t : State) : Type 0 where
  pub cur : t.cur ≡ (if own_of t == own_of s then own_of s else 0)
  pub boot : t.boot ≡ s.boot

settled_onward : (s : State) (o : Outcome) → violation_of (settled_step s o).shown.event ≡ None → Onward s (settled_step s o).state
settled_onward s (Finished regs x) q = record { cur = refl; boot = refl }
settled_onward s (Violated v) q = absurd cc
settled_onward s (Module regs x t e c) q = record { cur = refl; boot = refl }

pub onward : (mac : Mac) (s : State) → violation_of (step mac s).shown.event ≡ None → Onward s (step mac s).state
onward mac s q = settled_onward s (attempt mac s) q

-- the sections after a quiet step, by its event
pub data Sectioned (s t : State) (e : Rattle.spec_machine.specs.declared.kinds.Event.Event) : Type 0 where
  Stay : t.sections ≡ s.sections → ((id : ℕ) → e ≡ event.Protected id → ⊥) → Sectioned s t e
  Fewer : t.sections ≡ Rattle.sx_rules.specs.Admission.removed s.sections (own_of s) → ((id : ℕ) → e ≡ event.Protected id → ⊥) → Sectioned s t e
  More : (l : Rattle.sx_rules.specs.declared.section.Layout.Layout) (provider : ℕ) (key places : List ℕ) → Rattle.sx_rules.specs.Admission.refusal s.sections l places ≡ None
      → t.sections ≡ Rattle.sx_rules.specs.Admission.admitted s.sections l provider key → e ≡ event.Protected s.sections.next → Sectioned s t e

told_no : (g : Given) (e : Rattle.spec_machine.specs.declared.kinds.Event.Event) → IsTold g e → (id : ℕ) → e ≡ event.Protected id → ⊥
told_no g event.Quiet h id e = cc
told_no g (event.Reset v) h id e = h
told_no g (event.Protected k) h id e = h
told_no g (event.Removed k) h id e = h
told_no g (event.Wrapped k) h id e = cc
told_no g (event.Unwrapped k) h id e = cc
told_no g (event.Left k) h id e = h

left_no : (b : Bool) (own id : ℕ) → (if b then event.Quiet else event.Left own) ≡ event.Protected id → ⊥
left_no true own id e = cc
left_no false own id e = cc

told_sections : (mac : Mac) (s t : State) (m : List ℕ) (u : Sections) (e : Rattle.spec_machine.specs.declared.kinds.Event.Event)
    → t.sections ≡ u → Told mac (given_at_pc mac s) s.mem m u e → Sectioned s t e
told_sections mac s t m u e tu (Same h a) = Stay (tu ∙ a) (told_no (given_at_pc mac s) e h)
told_sections mac s t m u e tu (Admits r a w) = More _ _ _ _ r (tu ∙ a) refl
told_sections mac s t m u e tu (Removes sec f a w) = Fewer (tu ∙ a) (λ id g. removed_no (own_of s) id g)
  where
    removed_no : (k id : ℕ) → event.Removed k ≡ event.Protected id → ⊥
    removed_no k id g = cc

settled_sections : (mac : Mac) (s : State) (o : Outcome) → ToldBy mac (given_at_pc mac s) s.mem o
    → violation_of (settled_step s o).shown.event ≡ None → Sectioned s (settled_step s o).state (settled_step s o).shown.event
settled_sections mac s (Finished regs x) h q = Stay refl (left_no (Rattle.std.specs.Prelude.◌||◌ (own_of s == 0) (holder s.sections.live (slice_index regs 0) == own_of s)) (own_of s))
settled_sections mac s (Violated v) h q = absurd cc
settled_sections mac s (Module regs x t e c) h q = told_sections mac s (settled_step s (Module regs x t e c)).state x.mem t e refl h

pub sections_after : (mac : Mac) (s : State) → violation_of (step mac s).shown.event ≡ None → Sectioned s (step mac s).state (step mac s).shown.event
sections_after mac s q = settled_sections mac s (attempt mac s) (attempt_told mac s) q

-- the laws hold
pub no_reset : (s t : State) → t.boot ≡ s.boot → t ≡ reset s → ⊥
no_reset s t b r = let e = ap (λ (z : State). z.boot) r in absurd (omega (arith, b, e))

pub public_same : (sec : Section) (m n : List ℕ) → KeptPublic sec m n → public_bytes sec.layout n ≡ public_bytes sec.layout m
public_same sec m n h = meanings.same_bytes m n sec.layout.pub_from (sec.layout.pub_to - sec.layout.pub_from) (λ k lo hi.
    h k (and_from (nat_le sec.layout.pub_from k) (nat_lt k sec.layout.pub_to) (le-leb sec.layout.pub_from k lo) (lt-ltb k sec.layout.pub_to (omega (arith, lo, hi)))))

pub machine_laws : (mac : Mac) → MachineLaws mac
machine_laws mac = record {
  node = step_is_node mac;
  public = λ s sec node l q. elim (public_kept mac Step s sec node.placed l) [
    | inl k ↦ public_same sec s.mem (step mac s).state.mem k
    | inr r ↦ absurd (no_reset s (step mac s).state (onward mac s q).boot r)
  ];
  shown = λ s node q. elim (shows_touches mac s node) [
    | inl k ↦ k
    | inr r ↦ absurd (no_reset s (step mac s).state (onward mac s q).boot r)
  ];
}

pub fresh_sections : (mac : Mac) → FreshSections mac
fresh_sections mac s id sec node e f = meanings.fresh_sections mac s id sec node.placed e f
