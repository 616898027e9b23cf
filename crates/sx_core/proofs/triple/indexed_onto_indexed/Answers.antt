use Rattle.std.proofs.Common.{ℕ, subst, true}
use Rattle.sx_isa.specs.declared.instruction.Operand.TheVariants.{Absolute, Indexed}
use Rattle.spec_machine.specs.Registers.{reg, onward}
use Rattle.spec_machine.specs.Rows.{two}
use Rattle.sx_executor.specs.Machine.{Machine}
use Rattle.sx_core.specs.Quickly.{EndsStep}
use Rattle.sx_core.proofs.triple.indexed_onto_indexed.Goals as goal

pub returns : goal.returns
returns g c =
    let EndsFrom : ℕ → Machine → Type 0 = λ r m. EndsStep (two c.args.op true (Absolute (onward r c.args.x)) (Indexed c.args.base c.args.z) m.regs (onward c.args.pc 6)) m c.word_onto_indexed.result c.word_onto_indexed.new.executor in
    let Ends : Machine → Type 0 = λ m. EndsFrom (reg m.regs c.args.from) m in
    let read : Ends c.set_pc.new.self = subst (λ (r : ℕ). EndsFrom r c.set_pc.new.self) c.register.ensures c.word_onto_indexed.ensures in
    let ends = subst Ends c.set_pc.ensures read in
    ((ends.0.0, record { own = ends.0.1.own; sections = ends.0.1.sections; devices = ends.0.1.devices }), ends.1)
