-- What is said of the code of a text that was read.
use Rattle.std.proofs.Common.{◌≡◌, ◌<◌, ℕ, List, sym, subst, Option, Some, None}
use Rattle.std.specs.Prelude.{Result, Ok}
use Rattle.sx_asm.specs.declared.error.AsmError.{AsmError}
use Rattle.sx_asm.specs.Assembled.{assembled}
use Rattle.command_asm.specs.Assembling.{Gathered, judged, code_at}
use Rattle.command_asm.proofs.Sizes.{Standing, assembled_stands}

judged_ok : (bad : Option ℕ) (r : Result (List ℕ) AsmError) (code : List ℕ) → judged bad r ≡ Ok code → r ≡ Ok code
judged_ok None r code e = e
judged_ok (Some n) r code e = absurd (cc e)

-- the code that is listed is in words, none above 65,535
pub list_stands : (at : ℕ) (g : Gathered) (code slice : List ℕ) → at < 65536 → code_at at g ≡ Ok code → slice ≡ code → Standing at slice
list_stands at g code slice low e same =
    let P : List ℕ → Type 0 = λ x. Standing at x in
    subst P (sym same) (assembled_stands at g.text code low (judged_ok g.bad (assembled at g.text) code e))
