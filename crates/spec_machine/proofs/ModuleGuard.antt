-- A module instruction of other code than s's is guarded.
use Rattle.std.proofs.Common.{◌≢◌, ℕ, true, false, cond, ◌==◌, List, refl}
use Rattle.sx_rules.specs.declared.section.Section.{Section}
use Rattle.sx_rules.specs.Access.{Lives}
use Rattle.sx_rules.specs.Placed.{Placed}
use Rattle.sx_tag.specs.Mac.{Mac}
use Rattle.spec_machine.specs.Given.{Given, untouched_with}
use Rattle.spec_machine.specs.Run.{exec}
use Rattle.spec_machine.specs.Protect.{protect, unprotect}
use Rattle.spec_machine.specs.ModuleRows.{module_row}
use Rattle.spec_machine.specs.Modules.{module_instruction}
use Rattle.spec_machine.specs.Guard.{Alike}
use Rattle.spec_machine.proofs.PlanGuard.{SameOutcome, KeptBy, exec_alike, exec_kept}
use Rattle.spec_machine.proofs.ProtectGuard.{protect_kept, protect_alike}
use Rattle.spec_machine.proofs.UnprotectGuard.{unprotect_kept, unprotect_alike}

pub module_kept : (mac : Mac) (s : Section) (g : Given) (m : List ℕ) (code : ℕ) → Placed g.sections → Lives g.sections.live s → g.own ≢ s.id
    → KeptBy s m (module_instruction mac code g m)
module_kept mac s g m code p l ne =
    elim (code == 0) as (λ b. KeptBy s m (cond b (unprotect g m) (cond (code == 1) (protect mac g m) (exec g.sections g.own (module_row mac code g) (untouched_with g m))))) [
      | true ↦ unprotect_kept s g m p l ne
      | false ↦ elim (code == 1) as (λ b. KeptBy s m (cond b (protect mac g m) (exec g.sections g.own (module_row mac code g) (untouched_with g m)))) [
        | true ↦ protect_kept mac s g m l
        | false ↦ exec_kept g.sections g.own s l ne (module_row mac code g) m (untouched_with g m) (λ k q. refl)
      ]
    ]

pub module_alike : (mac : Mac) (s : Section) (g : Given) (m n : List ℕ) (code : ℕ) → Lives g.sections.live s → g.own ≢ s.id → Alike s m n
    → SameOutcome s (module_instruction mac code g m) (module_instruction mac code g n)
module_alike mac s g m n code l ne h =
    elim (code == 0) as (λ b. SameOutcome s (cond b (unprotect g m) (cond (code == 1) (protect mac g m) (exec g.sections g.own (module_row mac code g) (untouched_with g m))))
    (cond b (unprotect g n) (cond (code == 1) (protect mac g n) (exec g.sections g.own (module_row mac code g) (untouched_with g n))))) [
      | true ↦ unprotect_alike s g m n h
      | false ↦ elim (code == 1) as (λ b. SameOutcome s (cond b (protect mac g m) (exec g.sections g.own (module_row mac code g) (untouched_with g m)))
          (cond b (protect mac g n) (exec g.sections g.own (module_row mac code g) (untouched_with g n)))) [
            | true ↦ protect_alike mac s g m n l h
            | false ↦ exec_alike g.sections g.own s l ne (module_row mac code g) (untouched_with g m) n h
          ]
    ]
