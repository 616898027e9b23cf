use Rattle.std.proofs.Common.{subst, false}
use Rattle.sx_isa.specs.declared.instruction.Operand.TheVariants.{Increment, Reg}
use Rattle.spec_machine.specs.Rows.{two}
use Rattle.sx_executor.specs.Machine.{Machine, RunsPlan}
use Rattle.sx_core.proofs.bytes.increment_onto_register.Goals as goal

pub returns-in_default : goal.returns-in_default
returns-in_default g c =
    let Runs : Machine → Type 0 = λ m. RunsPlan (two c.args.op false (Increment c.args.src) (Reg c.args.dst) m.regs c.args.next) m c.two_near.result c.two_near.new.executor in
    let runs = subst Runs c.set_pc.ensures c.two_near.ensures in
    (runs.0, record { own = runs.1.own; sections = runs.1.sections; devices = runs.1.devices })
