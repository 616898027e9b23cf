-- The plan of a plain instruction of one word that has a shortcut.
use Rattle.std.proofs.Common.{◌≡◌, ℕ, List, Option, ap, subst, ◌∙◌}
use Rattle.std.specs.Prelude.{option_map}
use Rattle.sx_isa.specs.declared.instruction.Instr.{Instr}
use Rattle.sx_isa.specs.Reading.{length_of}
use Rattle.spec_machine.specs.Registers.{at_pc, onward, reg}
use Rattle.spec_machine.specs.Rows.{row, row_of, with_words, program}
use Rattle.sx_executor.specs.declared.shortcut.Form.{Form}
use Rattle.sx_executor.specs.declared.shortcut.Shortcut.{Shortcut}
use Rattle.sx_executor.specs.Reads.{IsDecoded}
use Rattle.sx_executor.specs.Shortcuts.{instruction_of, words_of}

-- it is the row of the instruction that its word says
one_word : (first : ℕ) (regs : List ℕ) (i : Instr) → IsDecoded first i 1
    → program first regs ≡ row i (at_pc regs (onward (reg regs 0) 2)) (onward (reg regs 0) 2)
unfolding program length_of
one_word first regs i read =
    let pc = reg regs 0 in
    let moved = at_pc regs (onward pc 2) in
    ap (λ (o : Option (Instr × ℕ)). with_words (option_map (λ (f : Instr × ℕ). f.1) o) first moved pc) read
    ∙ ap (λ (o : Option (Instr × ℕ)). row_of o moved pc) read

-- the same of a shortcut of this form
pub of_form : (s : Shortcut) (form : Form) → s.form ≡ form → words_of form ≡ 1 → (regs : List ℕ)
    → program s.first regs ≡ row (instruction_of form) (at_pc regs (onward (reg regs 0) 2)) (onward (reg regs 0) 2)
of_form s form is one regs =
    let read : IsDecoded s.first (instruction_of form) (words_of form) =
    subst (λ (f : Form). IsDecoded s.first (instruction_of f) (words_of f)) is s.read in
    one_word s.first regs (instruction_of form) (subst (λ (n : ℕ). IsDecoded s.first (instruction_of form) n) one read)
