use Rattle.std.proofs.Common.{rules, ◌≡◌, ap, sym, subst, ◌∙◌}
use Rattle.sx_isa.specs.declared.instruction.Op2.TheVariants.{Mov}
use Rattle.spec_machine.specs.Registers.{at_pc}
use Rattle.spec_machine.specs.Rows.{row}
use Rattle.sx_executor.specs.declared.shortcut.Single.{Single}
use Rattle.sx_executor.specs.declared.shortcut.Single.TheVariants.{FromIncrement}
use Rattle.sx_executor.specs.Shortcuts.{single_of}
use Rattle.sx_core.specs.Quickly.{EndsStep}
use Rattle.sx_core.proofs.quick.without_extension.Goals as goal

pub returns-in-FromIncrement-Mov-default-default : goal.returns-in-FromIncrement-Mov-default-default
returns-in-FromIncrement-Mov-default-default g c =
    let m = c.args.executor.now in
    let src = c.in-FromIncrement-Mov-default-default.src in let dst = c.in-FromIncrement-Mov-default-default.dst in
    let Does : Single → Type 0 = λ form. EndsStep (row (single_of form) (at_pc m.regs c.args.next) c.args.next) m c.pop.result c.pop.new.executor in
    let moves : c.in-FromIncrement-Mov-default-default.op ≡ Mov = search rules in
    let form_is = c.in-FromIncrement-Mov-default-default.is ∙ ap (λ op. FromIncrement op src dst) moves in
    subst Does (sym form_is) c.pop.ensures
