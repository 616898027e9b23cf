use Rattle.std.proofs.Common.{subst, true}
use Rattle.sx_isa.specs.declared.instruction.Operand.TheVariants.{Absolute}
use Rattle.spec_machine.specs.Rows.{two}
use Rattle.sx_executor.specs.Machine.{Machine}
use Rattle.sx_core.specs.Quickly.{EndsStep}
use Rattle.sx_core.proofs.triple.absolute_onto_absolute.Goals as goal

pub returns : goal.returns
returns g c =
    let Ends : Machine → Type 0 = λ m. EndsStep (two c.args.op true (Absolute c.args.x) (Absolute c.args.z) m.regs c.args.next) m c.word_onto_absolute.result c.word_onto_absolute.new.executor in
    let ends = subst Ends c.set_pc.ensures c.word_onto_absolute.ensures in
    ((ends.0.0, record { own = ends.0.1.own; sections = ends.0.1.sections; devices = ends.0.1.devices }), ends.1)
