-- The boot count rises by one at a reset, and only then; so a run keeps a section or raises it, and each run is guarded.
use Rattle.std.proofs.Common.{◌≡◌, ◌+◌, ◌≤◌, ◌<◌, ◌⊎◌, inl, inr, List, [], ◌∷◌, refl, ◌∙◌, ap, arith, Option, Some, None}
use Rattle.sx_rules.specs.declared.access.Violation.{Violation}
use Rattle.sx_rules.specs.declared.section.Section.{Section}
use Rattle.sx_rules.specs.Access.{Lives}
use Rattle.sx_rules.specs.Placed.{Placed}
use Rattle.sx_tag.specs.Mac.{Mac}
use Rattle.spec_machine.specs.declared.kinds.Refused.{Refused}
use Rattle.spec_machine.specs.declared.kinds.Event.TheVariants.{Reset}
use Rattle.spec_machine.specs.State.{State, power_on}
use Rattle.spec_machine.specs.Run.{Outcome, Finished, Violated, Module, exec}
use Rattle.spec_machine.specs.Step.{Shown, start, attempt, settled_step, step}
use Rattle.spec_machine.specs.Acts.{unless, put_refusal, take_refusal, busy, irq_refusal, interrupt, interrupted}
use Rattle.spec_machine.specs.Guard.{PrivateKept}
use Rattle.spec_machine.specs.Acting.{Act, Step, Restart, Put, Set, Take, Sense, Interrupt, acted, acted_all}
use Rattle.spec_machine.specs.Guarding.{AllFromOutside, AreGuarded, GuardedRun}
use Rattle.sx_rules.proofs.Placing.{starts_placed}
use Rattle.spec_machine.proofs.Sections.{acted_placed, stays_placed}
use Rattle.spec_machine.specs.Laws.{RunsGuarded}
use Rattle.spec_machine.proofs.RunGuard.{acts_guarded, runs_blind}

-- the count is as before, or one higher
abbrev pub Counts : State → State → Type 0
Counts a b = (a.boot ≤ b.boot) × (b.boot ≤ a.boot + 1)

settled_counts : (a : State) (o : Outcome) → Counts a (settled_step a o).state
settled_counts a (Finished regs x) = (omega arith, omega arith)
settled_counts a (Violated v) = (omega arith, omega arith)
settled_counts a (Module regs x t e c) = (omega arith, omega arith)

-- a step that ends in no reset keeps the count
settled_quiet : (a : State) (o : Outcome) → ((v : Violation) → (settled_step a o).shown.event ≡ Reset v → ⊥) → (settled_step a o).state.boot ≡ a.boot
settled_quiet a (Finished regs x) f = refl
settled_quiet a (Violated v) f = absurd (f v refl)
settled_quiet a (Module regs x t e c) f = refl

pub step_counts : (mac : Mac) (a : State) → Counts a (step mac a).state
step_counts mac a = settled_counts a (attempt mac a)

pub step_quiet : (mac : Mac) (a : State) → ((v : Violation) → (step mac a).shown.event ≡ Reset v → ⊥) → (step mac a).state.boot ≡ a.boot
step_quiet mac a = settled_quiet a (attempt mac a)

unless_counts : {T : Type 0} (o : Option Refused) (a : State) (done : Shown T) → Counts a done.state → Counts a (unless o a done).state
unless_counts None a done h = h
unless_counts (Some r) a done h = (omega arith, omega arith)

interrupted_counts : (a : State) (o : Outcome) → Counts a (interrupted a o).state
interrupted_counts a (Finished regs x) = (omega arith, omega arith)
interrupted_counts a (Violated v) = (omega arith, omega arith)
interrupted_counts a (Module regs x t e c) = (omega arith, omega arith)

pub boots_count : (mac : Mac) (act : Act) (a : State) → Counts a (acted mac act a).state
boots_count mac Step a = step_counts mac a
boots_count mac Restart a = (omega arith, omega arith)
boots_count mac (Put at bytes) a = unless_counts (put_refusal a at _) a _ (omega arith, omega arith)
boots_count mac (Set r v) a = unless_counts (busy a) a _ (omega arith, omega arith)
boots_count mac (Take at n) a = unless_counts (take_refusal a at n) a _ (omega arith, omega arith)
boots_count mac (Sense device v) a = unless_counts (busy a) a _ (omega arith, omega arith)
boots_count mac (Interrupt line) a = unless_counts (irq_refusal a) a _ (interrupted_counts a (exec a.sections 0 (interrupt line a.regs) (start a)))

all_counts : (mac : Mac) (acts : List Act) (a : State) → a.boot ≤ (acted_all mac acts a).state.boot
all_counts mac [] a = omega arith
all_counts mac (act ∷ acts) a =
    let one = (boots_count mac act a).0 in
    let rest = all_counts mac acts (acted mac act a).state in
    omega (arith, one, rest)

-- a run keeps the private bytes, or the node was reset in it
pub runs_keep : (mac : Mac) (s : Section) (acts : List Act) (a : State) → Placed a.sections → Lives a.sections.live s → AllFromOutside mac s acts a
    → (PrivateKept s a.mem (acted_all mac acts a).state.mem × Lives (acted_all mac acts a).state.sections.live s) ⊎ (a.boot < (acted_all mac acts a).state.boot)
runs_keep mac s [] a p l f = inl (λ k h. refl, l)
runs_keep mac s (act ∷ acts) a p l f =
    let x = (acted mac act a).state in
    let end = (acted_all mac acts x).state in
    let low = (boots_count mac act a).0 in
    let high = all_counts mac acts x in
    elim (acts_guarded mac s act a p l (f.0 l)).kept as (λ u. (PrivateKept s a.mem end.mem × Lives end.sections.live s) ⊎ (a.boot < end.boot)) [
      | inl k ↦ elim (runs_keep mac s acts x (acted_placed mac act a p) k.1 f.1) as (λ u. (PrivateKept s a.mem end.mem × Lives end.sections.live s) ⊎ (a.boot < end.boot)) [
        | inl rest ↦ inl (λ i h. rest.0 i h ∙ k.0 i h, rest.1)
        | inr more ↦ inr (omega (arith, low, more))
      ]
      | inr r ↦ let e : x.boot ≡ a.boot + 1 = ap (λ (z : State). z.boot) r in inr (omega (arith, e, high))
    ]

-- Every list of acts from a placed state on is guarded.

acts_each : (mac : Mac) (acts : List Act) (a : State) → Placed a.sections → AreGuarded mac acts a
acts_each mac [] a p = tt
acts_each mac (act ∷ acts) a p = (λ s l f. acts_guarded mac s act a p l f, acts_each mac acts (acted mac act a).state (acted_placed mac act a p))

run_guarded : (mac : Mac) (acts : List Act) (a : State) → Placed a.sections → GuardedRun mac acts a
run_guarded mac acts a p = record {
  each = acts_each mac acts a p;
  blind = λ s b f h. runs_blind mac s acts a b p f h;
  kept = λ s l f. runs_keep mac s acts a p l f;
}

pub runs_guarded : RunsGuarded
runs_guarded mac key devices before acts =
    run_guarded mac acts (acted_all mac before (power_on key devices)).state (stays_placed mac before (power_on key devices) starts_placed)
