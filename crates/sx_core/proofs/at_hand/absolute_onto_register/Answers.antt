use Rattle.std.proofs.Common.{subst, true}
use Rattle.sx_isa.specs.declared.instruction.Operand.TheVariants.{Absolute, Reg}
use Rattle.spec_machine.specs.Rows.{two}
use Rattle.sx_executor.specs.Machine.{Machine}
use Rattle.sx_core.specs.Quickly.{EndsStep}
use Rattle.sx_core.proofs.at_hand.absolute_onto_register.Goals as goal

pub returns : goal.returns
returns g c =
    let Ends : Machine → Type 0 = λ m. EndsStep (two c.args.op true (Absolute c.args.at) (Reg c.args.dst) m.regs c.args.next) m c.word_onto_register.result c.word_onto_register.new.executor in
    let ends = subst Ends c.set_pc.ensures c.word_onto_register.ensures in
    ((ends.0.0, record { own = ends.0.1.own; sections = ends.0.1.sections; devices = ends.0.1.devices }), ends.1)
