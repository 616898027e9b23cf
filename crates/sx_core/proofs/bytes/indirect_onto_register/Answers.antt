use Rattle.std.proofs.Common.{ℕ, subst, false}
use Rattle.sx_isa.specs.declared.instruction.Operand.TheVariants.{Absolute, Reg}
use Rattle.spec_machine.specs.Registers.{reg}
use Rattle.spec_machine.specs.Rows.{two}
use Rattle.sx_executor.specs.Machine.{Machine, RunsPlan}
use Rattle.sx_core.proofs.bytes.indirect_onto_register.Goals as goal

pub returns : goal.returns
returns g c =
    let RunsFrom : ℕ → Machine → Type 0 = λ r m. RunsPlan (two c.args.op false (Absolute r) (Reg c.args.dst) m.regs c.args.next) m c.byte_onto_register.result c.byte_onto_register.new.executor in
    let Runs : Machine → Type 0 = λ m. RunsFrom (reg m.regs c.args.src) m in
    let read : Runs c.set_pc.new.self = subst (λ (r : ℕ). RunsFrom r c.set_pc.new.self) c.register-at.ensures c.byte_onto_register.ensures in
    let runs = subst Runs c.set_pc.ensures read in
    (runs.0, record { own = runs.1.own; sections = runs.1.sections; devices = runs.1.devices })
