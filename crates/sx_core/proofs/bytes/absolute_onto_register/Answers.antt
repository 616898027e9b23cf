use Rattle.std.proofs.Common.{subst, false}
use Rattle.sx_isa.specs.declared.instruction.Operand.TheVariants.{Absolute, Reg}
use Rattle.spec_machine.specs.Rows.{two}
use Rattle.sx_executor.specs.Machine.{Machine, RunsPlan}
use Rattle.sx_core.proofs.bytes.absolute_onto_register.Goals as goal

pub returns : goal.returns
returns g c =
    let Runs : Machine → Type 0 = λ m. RunsPlan (two c.args.op false (Absolute c.args.at) (Reg c.args.dst) m.regs c.args.next) m c.byte_onto_register.result c.byte_onto_register.new.executor in
    let runs = subst Runs c.set_pc.ensures c.byte_onto_register.ensures in
    (runs.0, record { own = runs.1.own; sections = runs.1.sections; devices = runs.1.devices })
