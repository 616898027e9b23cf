-- Module instructions by their codes.
use Rattle.std.proofs.Common.{◌≡◌, ℕ, Bool, cond, ◌==◌, List, Some, ap, ◌∙◌}
use Rattle.std.proofs.lemmas.Bool.{ne_eqb}
use Rattle.sx_rules.specs.declared.section.Section.{Section}
use Rattle.sx_tag.specs.Mac.{Mac}
use Rattle.spec_machine.specs.Given.{Given, own_section, untouched_with}
use Rattle.spec_machine.specs.Protect.{protect, unprotect}
use Rattle.spec_machine.specs.ModuleRows.{within, attest, wrap, unwrap, module_row}
use Rattle.spec_machine.specs.Modules.{module_instruction}
use Rattle.spec_machine.specs.Run.{exec}

-- as code of a module
pub attest_row : (mac : Mac) (g : Given) (own : Section) → own_section g ≡ Some own → module_row mac 2 g ≡ attest mac g own
unfolding module_row
attest_row mac g own h = ap (within g (attest mac g)) h

pub wrap_row : (mac : Mac) (g : Given) (own : Section) → own_section g ≡ Some own → module_row mac 4 g ≡ wrap mac g own
unfolding module_row
wrap_row mac g own h = ap (within g (wrap mac g)) h

pub unwrap_row : (mac : Mac) (g : Given) (own : Section) → own_section g ≡ Some own → module_row mac 5 g ≡ unwrap mac g own
unfolding module_row
unwrap_row mac g own h = ap (within g (unwrap mac g)) h

-- any but unprotect and protect is its row
pub other_code : (mac : Mac) (code : ℕ) (g : Given) (mem : List ℕ) → (code ≡ 0 → ⊥) → (code ≡ 1 → ⊥)
    → module_instruction mac code g mem ≡ exec g.sections g.own (module_row mac code g) (untouched_with g mem)
other_code mac code g mem zeroth first =
    let row = exec g.sections g.own (module_row mac code g) (untouched_with g mem) in
    ap (λ (b : Bool). cond b (unprotect g mem) (cond (code == 1) (protect mac g mem) row)) (ne_eqb code 0 zeroth)
    ∙ ap (λ (b : Bool). cond b (protect mac g mem) row) (ne_eqb code 1 first)
