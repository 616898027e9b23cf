-- Which events a step shows, and what they say of the sections.
use Rattle.std.proofs.Common.{◌≡◌, ◌≢◌, ℕ, ◌+◌, ◌==◌, ◌||◌, Bool, true, false, if◌then◌else◌, [], Option, Some, None, refl, sym, ◌∙◌, ap, arith}
use Rattle.std.specs.Prelude.{slice_index, List}
use Rattle.std.proofs.lemmas.Bool.{or_parts, eqb-false}
use Rattle.sx_rules.specs.declared.access.Violation.{Violation}
use Rattle.sx_rules.specs.declared.section.Section.{Section}
use Rattle.sx_rules.specs.Access.{Sections, holder, section_of}
use Rattle.sx_rules.specs.Placed.{Placed}
use Rattle.sx_rules.proofs.Placing.{remove_removes}
use Rattle.sx_tag.specs.Mac.{Mac}
use Rattle.spec_machine.specs.declared.kinds.Event.{Event}
use Rattle.spec_machine.specs.declared.kinds.Event.TheVariants as event
use Rattle.spec_machine.specs.State.{State}
use Rattle.spec_machine.specs.Run.{Outcome, Finished, Violated, Module}
use Rattle.spec_machine.specs.Step.{own_of, attempt, settled_step, step, given_at_pc}
use Rattle.spec_machine.specs.Given.{Given}
use Rattle.spec_machine.proofs.Events.{IsTold, Told, Same, Admits, Removes, ToldBy, attempt_told}
use Rattle.sx_image.specs.Watched.{violation_of}
use Rattle.spec_run.proofs.steps.Stretch.{IsPlain}

-- A step whose sections stay, and which is no reset.

told_is_plain : (g : Given) (e : Event) → IsTold g e → IsPlain e
told_is_plain g event.Quiet h = tt
told_is_plain g (event.Reset v) h = absurd h
told_is_plain g (event.Protected id) h = absurd h
told_is_plain g (event.Removed id) h = absurd h
told_is_plain g (event.Wrapped id) h = tt
told_is_plain g (event.Unwrapped id) h = tt
told_is_plain g (event.Left id) h = absurd h

left_plain : (b : Bool) (own : ℕ) → IsPlain (if b then event.Quiet else event.Left own)
left_plain true own = tt
left_plain false own = tt

told_plain : (mac : Mac) (g : Given) (m0 m : List ℕ) (t : Sections) (e : Event) → Placed g.sections → t ≡ g.sections → Told mac g m0 m t e → IsPlain e
told_plain mac g m0 m t e pl same (Same h s) = told_is_plain g e h
told_plain mac g m0 m t e pl same (Admits r a w) =
    let n : g.sections.next + 1 ≡ g.sections.next = ap (λ (z : Sections). z.next) (sym a ∙ same) in absurd (omega (arith, n))
told_plain mac g m0 m t e pl same (Removes s f r w) =
    let gone : section_of t.live g.own ≡ None = ap (λ (z : Sections). section_of z.live g.own) r ∙ remove_removes g.sections g.own pl in
    absurd (some_none (sym f ∙ (ap (λ (z : Sections). section_of z.live g.own) (sym same) ∙ gone)))
  where
    some_none : ◌≡◌ {A = Option Section} (Some s) None → ⊥
    some_none e = cc

settled_plain : (mac : Mac) (s : State) (o : Outcome) → Placed s.sections → ToldBy mac (given_at_pc mac s) s.mem o
    → (settled_step s o).state.sections ≡ s.sections → violation_of (settled_step s o).shown.event ≡ None → IsPlain (settled_step s o).shown.event
settled_plain mac s (Finished regs x) pl h same q = left_plain ((own_of s == 0) || (holder s.sections.live (slice_index regs 0) == own_of s)) (own_of s)
settled_plain mac s (Violated v) pl h same q = absurd (some_none q)
  where
    some_none : ◌≡◌ {A = Option Violation} (Some v) None → ⊥
    some_none e = cc
settled_plain mac s (Module regs x t e c) pl h same q = told_plain mac (given_at_pc mac s) s.mem x.mem t e pl same h

pub plain_events : (mac : Mac) (s : State) → Placed s.sections → (step mac s).state.sections ≡ s.sections → violation_of (step mac s).shown.event ≡ None → IsPlain (step mac s).shown.event
plain_events mac s pl same q = settled_plain mac s (attempt mac s) pl (attempt_told mac s) same q

-- A step that shows that a module left ends outside its public section.

abbrev IsLeft : Event → Type 0
IsLeft event.Quiet = ⊥
IsLeft (event.Reset v) = ⊥
IsLeft (event.Protected id) = ⊥
IsLeft (event.Removed id) = ⊥
IsLeft (event.Wrapped id) = ⊥
IsLeft (event.Unwrapped id) = ⊥
IsLeft (event.Left id) = Unit {0}

left_if : (b : Bool) (own : ℕ) → IsLeft (if b then event.Quiet else event.Left own) → b ≡ false
left_if true own h = absurd h
left_if false own h = refl

told_not_left : (g : Given) (e : Event) → IsTold g e → IsLeft e → ⊥
told_not_left g event.Quiet h l = l
told_not_left g (event.Reset v) h l = l
told_not_left g (event.Protected id) h l = l
told_not_left g (event.Removed id) h l = l
told_not_left g (event.Wrapped id) h l = l
told_not_left g (event.Unwrapped id) h l = l
told_not_left g (event.Left id) h l = h

told_left : (mac : Mac) (g : Given) (m0 m : List ℕ) (t : Sections) (e : Event) → Told mac g m0 m t e → IsLeft e → ⊥
told_left mac g m0 m t e (Same h s) l = told_not_left g e h l
told_left mac g m0 m t e (Admits r a w) l = l
told_left mac g m0 m t e (Removes s f r w) l = l

settled_left : (mac : Mac) (s : State) (o : Outcome) → ToldBy mac (given_at_pc mac s) s.mem o → IsLeft (settled_step s o).shown.event → own_of (settled_step s o).state ≢ own_of s
settled_left mac s (Finished regs x) h l same =
    let f = or_parts (own_of s == 0) (holder s.sections.live (slice_index regs 0) == own_of s) (left_if ((own_of s == 0) || (holder s.sections.live (slice_index regs 0) == own_of s)) (own_of s) l) in
    absurd (eqb-false (holder s.sections.live (slice_index regs 0)) (own_of s) f.1 same)
settled_left mac s (Violated v) h l same = absurd l
settled_left mac s (Module regs x t e c) h l same = absurd (told_left mac (given_at_pc mac s) s.mem x.mem t e h l)

pub left_outside : (mac : Mac) (s : State) → IsLeft (step mac s).shown.event → own_of (step mac s).state ≢ own_of s
left_outside mac s = settled_left mac s (attempt mac s) (attempt_told mac s)

pub not_left : (e : Event) → (IsLeft e → ⊥) → (m : ℕ) (s : State) → Rattle.spec_run.proofs.steps.Stretch.done_items m s e ≡ []
not_left event.Quiet h m s = refl
not_left (event.Reset v) h m s = refl
not_left (event.Protected id) h m s = refl
not_left (event.Removed id) h m s = refl
not_left (event.Wrapped id) h m s = refl
not_left (event.Unwrapped id) h m s = refl
not_left (event.Left id) h m s = absurd (h tt)
