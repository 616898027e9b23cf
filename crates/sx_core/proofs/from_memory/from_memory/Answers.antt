use Rattle.std.proofs.Common.{sym, subst, true}
use Rattle.sx_isa.specs.declared.instruction.Operand.TheVariants.{Reg}
use Rattle.spec_machine.specs.Plan.{Plan}
use Rattle.spec_machine.specs.Rows.{two}
use Rattle.sx_executor.specs.Machine.{Machine}
use Rattle.sx_core.specs.Quickly.{EndsStep}
use Rattle.sx_core.specs.Places.{place_of}
use Rattle.sx_core.proofs.from_memory.from_memory.Goals as goal

pub returns : goal.returns
returns g c =
    let here = c.set_pc.new.self in
    let dst = c.args.dst in
    let from = place_of c.args.base c.args.x in
    let Does : Plan → Type 0 = λ plan. EndsStep plan here c.word_onto_register.result c.word_onto_register.new.executor in
    let Ends : Machine → Type 0 = λ m. EndsStep (two c.args.op true from (Reg dst) m.regs c.args.next) m c.word_onto_register.result c.word_onto_register.new.executor in
    let loaded : Ends here = subst Does (sym (c.address_of-at.ensures.source c.args.op true (Reg dst) c.args.next)) c.word_onto_register.ensures in
    let ends = subst Ends c.set_pc.ensures loaded in
    ((ends.0.0, record { own = ends.0.1.own; sections = ends.0.1.sections; devices = ends.0.1.devices }), ends.1)
