use Rattle.std.proofs.Common.{rules, ◌≡◌, ap, sym, subst, ◌∙◌}
use Rattle.sx_isa.specs.Extending.{extended}
use Rattle.sx_isa.specs.declared.instruction.Op2.TheVariants.{Mov}
use Rattle.spec_machine.specs.Registers.{at_pc, onward}
use Rattle.spec_machine.specs.Rows.{row}
use Rattle.sx_executor.specs.declared.shortcut.Double.{Double}
use Rattle.sx_executor.specs.declared.shortcut.Double.TheVariants.{FromIndexed}
use Rattle.sx_executor.specs.Shortcuts.{double_of}
use Rattle.sx_core.specs.Quickly.{EndsStep}
use Rattle.sx_core.proofs.quick.with_extension.Goals as goal

pub returns-in-FromIndexed-Mov-default-default : goal.returns-in-FromIndexed-Mov-default-default
returns-in-FromIndexed-Mov-default-default g c =
    let m = c.args.executor.now in
    let base = c.in-FromIndexed-Mov-default-default.base in let dst = c.in-FromIndexed-Mov-default-default.dst in
    let Does : Double → Type 0 = λ form. EndsStep (row (extended (double_of form) c.args.x 0) (at_pc m.regs (onward c.args.pc 2)) (onward c.args.pc 4)) m c.load_indexed.result c.load_indexed.new.executor in
    let moves : c.in-FromIndexed-Mov-default-default.op ≡ Mov = search rules in
    let form_is = c.in-FromIndexed-Mov-default-default.is ∙ ap (λ op. FromIndexed op base dst) moves in
    subst Does (sym form_is) c.load_indexed.ensures
