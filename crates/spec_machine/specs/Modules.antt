-- The module instructions.
use Rattle.std.specs.Prelude.{ℕ, ◌==◌, nat_lt, Bool, ◌&&◌, not, if◌then◌else◌, List}
use Rattle.sx_tag.specs.Mac.{Mac}
use Rattle.spec_machine.specs.Given.{Given, untouched_with}
use Rattle.spec_machine.specs.Run.{Outcome, exec}
use Rattle.spec_machine.specs.Protect.{protect, unprotect}
use Rattle.spec_machine.specs.ModuleRows.{module_row}

-- 0x1380 with the code added is the word of a module instruction (own encodings)
abbrev pub is_code : ℕ → Bool
is_code code = nat_lt code 8 && not (code == 3)

-- the instruction with this code; 0 unprotects and 1 protects
abbrev pub module_instruction : Mac → ℕ → Given → List ℕ → Outcome
module_instruction mac code g mem =
    if code == 0 then unprotect g mem
    else if code == 1 then protect mac g mem
    else exec g.sections g.own (module_row mac code g) (untouched_with g mem)
