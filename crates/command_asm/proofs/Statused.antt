-- No listing ends with the status for other words.
use Rattle.std.proofs.Common.{◌≡◌, ◌+◌, ◌∙◌, ℕ, Bool, List, length, sym, Result, Ok, Err}
use Rattle.command_promise.specs.declared.status.Status.{Status}
use Rattle.command_promise.specs.declared.status.Status.TheVariants.{Done, Misused}
use Rattle.command_promise.specs.Told.{CommandAt, Output}
use Rattle.command_promise.proofs.Laws.{told-some}
use Rattle.command_promise.proofs.Endings.{pick}
use Rattle.sx_asm.specs.declared.error.AsmError.{AsmError}
use Rattle.sx_asm.specs.declared.error.AsmError.TheVariants as error
use Rattle.command_asm.specs.Assembling.{Input, code_at, told_code, asm_input, input, AsmPromise}
use Rattle.command_asm.specs.Assembling as asm
use Rattle.command_asm.specs.Disassembling.{HexInput, Bytes, BadLine, dis_given, hex_input, is_listed, unlisted, DisPromise}
use Rattle.command_asm.specs.Disassembling as dis
use Rattle.command_asm.specs.Listing.{listing}
use Rattle.command_text.specs.Output.{end_line}
use Rattle.std.specs.Prelude.{◌++◌}

code_not_two : (at : ℕ) (r : Result (List ℕ) AsmError) → (told_code at r).status ≡ Misused → ⊥
code_not_two at (Ok code) e = cc e
code_not_two at (Err (error.Fault rule number)) e = cc e
code_not_two at (Err error.OutOfMemory) e = cc e

text_not_two : (at : ℕ) (i : Input) → (asm_input at i).status ≡ Misused → ⊥
text_not_two at (asm.Whole g) e = code_not_two at (code_at at g) e
text_not_two at asm.Unread e = cc e

pub asm_not_two : {tells to_tell : Bool} {m0 m1 : CommandAt} {status : Status} (at : ℕ) → AsmPromise at tells to_tell m0 m1 status → status ≡ Misused → ⊥
asm_not_two at a two =
    let w = told-some a.told in
    text_not_two at (input w.0) (sym (w.1.0.whole (λ five. cc (two, five)) (λ six. cc (two, six))).0 ∙ two)

bytes_not_two : (at : ℕ) (g : HexInput) → (dis_given at g).status ≡ Misused → ⊥
bytes_not_two at (Bytes bytes) e =
    pick (is_listed at (length bytes)) (record { text = listing at bytes ++ end_line; status = Done }) unlisted
    (λ (o : Output). o.status ≡ Misused → ⊥) (λ x. cc x) (λ x. cc x) e
bytes_not_two at (BadLine number) e = cc e
bytes_not_two at dis.Unread e = cc e

pub dis_not_two : {tells to_tell : Bool} {m0 m1 : CommandAt} {status : Status} (at : ℕ) → DisPromise at tells to_tell m0 m1 status → status ≡ Misused → ⊥
dis_not_two at d two =
    let w = told-some d.told in
    bytes_not_two at (hex_input 1 w.0) (sym (w.1.0.whole (λ five. cc (two, five)) (λ six. cc (two, six))).0 ∙ two)
