use Rattle.std.proofs.Common.{rules, ◌≡◌, ℕ, true, refl, sym, subst}
use Rattle.sx_isa.specs.declared.instruction.Operand.TheVariants.{Reg, Const}
use Rattle.spec_machine.specs.Plan.{Plan}
use Rattle.spec_machine.specs.Registers.{at_pc, onward}
use Rattle.spec_machine.specs.Rows.{row, program, two}
use Rattle.sx_executor.specs.Machine.{RunsPlan}
use Rattle.sx_executor.specs.declared.shortcut.Form.TheVariants as form
use Rattle.sx_executor.specs.Shortcuts.{single_of}
use Rattle.sx_core.proofs.OneWord.{of_form}
use Rattle.sx_core.proofs.called.step_called.Goals as goal

pub returns-in-ConstantOntoSpecial : goal.returns-in-ConstantOntoSpecial
returns-in-ConstantOntoSpecial g c =
    let m = c.args.executor.now in
    let s = c.shortcut-shortcut.result.now in
    let op = c.in-ConstantOntoSpecial.op in let value = c.in-ConstantOntoSpecial.value in let dst = c.in-ConstantOntoSpecial.dst in
    let Does : Plan → Type 0 = λ plan. RunsPlan plan m c.constant_onto_special.result c.constant_onto_special.new.executor in
    let At : ℕ → Type 0 = λ pc. Does (two op true (Const value) (Reg dst) (at_pc m.regs (onward pc 2)) (onward pc 2)) in
    let same : s.first ≡ c.args.first = search rules in
    let plan = subst Does (sym (of_form s (form.ConstantOntoSpecial op value dst) c.in-ConstantOntoSpecial.is refl m.regs)) (subst At c.register-pc.ensures c.constant_onto_special.ensures) in
    subst (λ (w : ℕ). Does (program w m.regs)) same plan

pub returns-in-Single : goal.returns-in-Single
returns-in-Single g c =
    let m = c.args.executor.now in
    let s = c.shortcut-shortcut.result.now in
    let f = c.in-Single.form in
    let Does : Plan → Type 0 = λ plan. RunsPlan plan m c.step_single.result c.step_single.new.executor in
    let At : ℕ → Type 0 = λ pc. Does (row (single_of f) (at_pc m.regs (onward pc 2)) (onward pc 2)) in
    let same : s.first ≡ c.args.first = search rules in
    let plan = subst Does (sym (of_form s (form.Single f) c.in-Single.is refl m.regs)) (subst At c.register-pc.ensures c.step_single.ensures) in
    subst (λ (w : ℕ). Does (program w m.regs)) same plan
