-- What a step does where an instruction is at PC.
use Rattle.std.specs.Prelude.{◌≡◌, ◌*◌, ◌⊎◌, true, length}
use Rattle.sx_isa.specs.declared.instruction.Instr.{Instr}
use Rattle.sx_isa.specs.declared.instruction.Instr.TheVariants.{Two, One, Reti, Jump, Sancus}
use Rattle.sx_isa.specs.Spelling.{spelling}
use Rattle.sx_isa.specs.Standing.{InstructionStands}
use Rattle.sx_rules.specs.declared.access.Violation.TheVariants as bad
use Rattle.sx_tag.specs.Mac.{Mac}
use Rattle.spec_machine.specs.Registers.{onward, at_pc}
use Rattle.spec_machine.specs.State.{State}
use Rattle.spec_machine.specs.Run.{Outcome, Violated, exec}
use Rattle.spec_machine.specs.Rows.{row}
use Rattle.spec_machine.specs.Modules.{module_instruction}
use Rattle.spec_machine.specs.Step.{pc_of, own_of, start, given_at_pc, is_let_run, attempt}
use Rattle.spec_machine.specs.Node.{AreRegisters}

-- a plain instruction's row, as code of its module; PC is after its first word, and `next` is the
-- address after its last
abbrev pub done_plainly : State → Instr → Outcome
done_plainly a i =
    exec a.sections (own_of a) (row i (at_pc a.regs (onward (pc_of a) 2))
    (onward (pc_of a) (2 * length (spelling i)))) (start a)

-- an instruction done
abbrev pub instruction_done : Mac → State → Instr → Outcome
instruction_done mac a (Sancus code) = module_instruction mac code (given_at_pc mac a) a.mem
instruction_done mac a (Two op byte src dst) = done_plainly a (Two op byte src dst)
instruction_done mac a (One op byte arg) = done_plainly a (One op byte arg)
instruction_done mac a Reti = done_plainly a Reti
instruction_done mac a (Jump cond offset) = done_plainly a (Jump cond offset)

-- a step that is let run does the instruction that is at PC, or may not take one of its
-- extension words
abbrev pub DoesWhatStands : Type 0
DoesWhatStands = (mac : Mac) (a : State) (i : Instr) → AreRegisters a.regs
    → InstructionStands a.mem (pc_of a) i → is_let_run a ≡ true
    → (attempt mac a ≡ instruction_done mac a i)
    ⊎ ((attempt mac a ≡ Violated bad.Fetch) ⊎ (attempt mac a ≡ Violated bad.Device))
