use Rattle.std.proofs.Common.{rules, ◌≡◌, ℕ, true, false, ap, refl, sym, subst, ◌∙◌}
use Rattle.sx_isa.specs.declared.instruction.Op2.TheVariants.{Add, Sub, Cmp, Bic}
use Rattle.sx_isa.specs.declared.instruction.Operand.TheVariants.{Reg, Const}
use Rattle.sx_isa.specs.Extending.{extended}
use Rattle.sx_isa.specs.Reading.{length_of}
use Rattle.spec_machine.specs.Plan.{Plan}
use Rattle.spec_machine.specs.Run.{Outcome}
use Rattle.spec_machine.specs.Answers.{EndsPlain, followed}
use Rattle.spec_machine.specs.Registers.{at_pc, onward}
use Rattle.spec_machine.specs.Rows.{row, with_words, program, two}
use Rattle.sx_executor.specs.declared.shortcut.Form.{Form}
use Rattle.sx_executor.specs.declared.shortcut.Form.TheVariants as form
use Rattle.sx_executor.specs.Machine.{ran, moment_of, KeepsSections}
use Rattle.sx_executor.specs.Shortcuts.{instruction_of, single_of, byte_single_of}
use Rattle.sx_core.specs.Quickly.{EndsStep, MayEndStep, answer_of, is_quiet}
use Rattle.sx_core.proofs.OneWord.{of_form}
use Rattle.sx_core.proofs.quick.step_at_hand.Goals as goal

pub returns-in-Registers : goal.returns-in-Registers
returns-in-Registers g c =
    let m = c.args.executor.now in
    let s = c.shortcut-shortcut.result.now in
    let op = c.in-Registers.op in let src = c.in-Registers.src in let dst = c.in-Registers.dst in
    let Does : Plan → Type 0 = λ plan. EndsStep plan m c.from_register.result c.from_register.new.executor in
    let At : ℕ → Type 0 = λ pc. Does (two op true (Reg src) (Reg dst) (at_pc m.regs (onward pc 2)) (onward pc 2)) in
    let same : s.first ≡ c.args.first = search rules in
    let plan = subst Does (sym (of_form s (form.Registers op src dst) c.in-Registers.is refl m.regs)) (subst At c.register-pc.ensures c.from_register.ensures) in
    subst (λ (w : ℕ). Does (program w m.regs)) same plan

pub returns-in-AddConstant : goal.returns-in-AddConstant
returns-in-AddConstant g c =
    let m = c.args.executor.now in
    let s = c.shortcut-shortcut.result.now in
    let value = c.in-AddConstant.value in let dst = c.in-AddConstant.dst in
    let Does : Plan → Type 0 = λ plan. EndsStep plan m c.from_constant.result c.from_constant.new.executor in
    let At : ℕ → Type 0 = λ pc. Does (two Add true (Const value) (Reg dst) (at_pc m.regs (onward pc 2)) (onward pc 2)) in
    let same : s.first ≡ c.args.first = search rules in
    let plan = subst Does (sym (of_form s (form.AddConstant value dst) c.in-AddConstant.is refl m.regs)) (subst At c.register-pc.ensures c.from_constant.ensures) in
    subst (λ (w : ℕ). Does (program w m.regs)) same plan

pub returns-in-SubtractConstant : goal.returns-in-SubtractConstant
returns-in-SubtractConstant g c =
    let m = c.args.executor.now in
    let s = c.shortcut-shortcut.result.now in
    let value = c.in-SubtractConstant.value in let dst = c.in-SubtractConstant.dst in
    let Does : Plan → Type 0 = λ plan. EndsStep plan m c.from_constant-in-SubtractConstant.result c.from_constant-in-SubtractConstant.new.executor in
    let At : ℕ → Type 0 = λ pc. Does (two Sub true (Const value) (Reg dst) (at_pc m.regs (onward pc 2)) (onward pc 2)) in
    let same : s.first ≡ c.args.first = search rules in
    let plan = subst Does (sym (of_form s (form.SubtractConstant value dst) c.in-SubtractConstant.is refl m.regs)) (subst At c.register-pc.ensures c.from_constant-in-SubtractConstant.ensures) in
    subst (λ (w : ℕ). Does (program w m.regs)) same plan

pub returns-in-CompareConstant : goal.returns-in-CompareConstant
returns-in-CompareConstant g c =
    let m = c.args.executor.now in
    let s = c.shortcut-shortcut.result.now in
    let value = c.in-CompareConstant.value in let dst = c.in-CompareConstant.dst in
    let Does : Plan → Type 0 = λ plan. EndsStep plan m c.from_constant-in-CompareConstant.result c.from_constant-in-CompareConstant.new.executor in
    let At : ℕ → Type 0 = λ pc. Does (two Cmp true (Const value) (Reg dst) (at_pc m.regs (onward pc 2)) (onward pc 2)) in
    let same : s.first ≡ c.args.first = search rules in
    let plan = subst Does (sym (of_form s (form.CompareConstant value dst) c.in-CompareConstant.is refl m.regs)) (subst At c.register-pc.ensures c.from_constant-in-CompareConstant.ensures) in
    subst (λ (w : ℕ). Does (program w m.regs)) same plan

pub returns-in-Constant : goal.returns-in-Constant
returns-in-Constant g c =
    let m = c.args.executor.now in
    let s = c.shortcut-shortcut.result.now in
    let op = c.in-Constant.op in let value = c.in-Constant.value in let dst = c.in-Constant.dst in
    let Does : Plan → Type 0 = λ plan. EndsStep plan m c.from_constant-in-Constant.result c.from_constant-in-Constant.new.executor in
    let At : ℕ → Type 0 = λ pc. Does (two op true (Const value) (Reg dst) (at_pc m.regs (onward pc 2)) (onward pc 2)) in
    let same : s.first ≡ c.args.first = search rules in
    let plan = subst Does (sym (of_form s (form.Constant op value dst) c.in-Constant.is refl m.regs)) (subst At c.register-pc.ensures c.from_constant-in-Constant.ensures) in
    subst (λ (w : ℕ). Does (program w m.regs)) same plan

pub returns-in-ConstantOntoSpecial-Bic-default-default : goal.returns-in-ConstantOntoSpecial-Bic-default-default
returns-in-ConstantOntoSpecial-Bic-default-default g c =
    let m = c.args.executor.now in
    let s = c.shortcut-shortcut.result.now in
    let value = c.in-ConstantOntoSpecial-Bic-default-default.value in let dst = c.in-ConstantOntoSpecial-Bic-default-default.dst in
    let Does : Plan → Type 0 = λ plan. EndsStep plan m c.constant_onto_register.result c.constant_onto_register.new.executor in
    let At : ℕ → Type 0 = λ pc. Does (two Bic true (Const value) (Reg dst) (at_pc m.regs (onward pc 2)) (onward pc 2)) in
    let same : s.first ≡ c.args.first = search rules in
    let clears : c.in-ConstantOntoSpecial-Bic-default-default.op ≡ Bic = search rules in
    let form_is = c.in-ConstantOntoSpecial-Bic-default-default.is ∙ ap (λ op. form.ConstantOntoSpecial op value dst) clears in
    let plan = subst Does (sym (of_form s (form.ConstantOntoSpecial Bic value dst) form_is refl m.regs)) (subst At c.register-pc.ensures c.constant_onto_register.ensures) in
    subst (λ (w : ℕ). Does (program w m.regs)) same plan

pub returns-in-Single : goal.returns-in-Single
returns-in-Single g c =
    let m = c.args.executor.now in
    let s = c.shortcut-shortcut.result.now in
    let f = c.in-Single.form in
    let Does : Plan → Type 0 = λ plan. MayEndStep plan m c.without_extension.result c.without_extension.new.executor in
    let At : ℕ → Type 0 = λ pc. Does (row (single_of f) (at_pc m.regs (onward pc 2)) (onward pc 2)) in
    let same : s.first ≡ c.args.first = search rules in
    let plan = subst Does (sym (of_form s (form.Single f) c.in-Single.is refl m.regs)) (subst At c.register-pc.ensures c.without_extension.ensures) in
    subst (λ (w : ℕ). Does (program w m.regs)) same plan

pub returns-in-ByteSingle : goal.returns-in-ByteSingle
returns-in-ByteSingle g c =
    let m = c.args.executor.now in
    let s = c.shortcut-shortcut.result.now in
    let f = c.in-ByteSingle.form in
    let Does : Plan → Type 0 = λ plan. EndsStep plan m c.without_byte_extension.result c.without_byte_extension.new.executor in
    let At : ℕ → Type 0 = λ pc. Does (row (byte_single_of f) (at_pc m.regs (onward pc 2)) (onward pc 2)) in
    let same : s.first ≡ c.args.first = search rules in
    let plan = subst Does (sym (of_form s (form.ByteSingle f) c.in-ByteSingle.is refl m.regs)) (subst At c.register-pc.ensures c.without_byte_extension.ensures) in
    subst (λ (w : ℕ). Does (program w m.regs)) same plan

pub returns-in-ByteConstant : goal.returns-in-ByteConstant
returns-in-ByteConstant g c =
    let m = c.args.executor.now in
    let s = c.shortcut-shortcut.result.now in
    let op = c.in-ByteConstant.op in let value = c.in-ByteConstant.value in let dst = c.in-ByteConstant.dst in
    let Does : Plan → Type 0 = λ plan. EndsStep plan m c.from_byte_constant.result c.from_byte_constant.new.executor in
    let At : ℕ → Type 0 = λ pc. Does (two op false (Const value) (Reg dst) (at_pc m.regs (onward pc 2)) (onward pc 2)) in
    let same : s.first ≡ c.args.first = search rules in
    let plan = subst Does (sym (of_form s (form.ByteConstant op value dst) c.in-ByteConstant.is refl m.regs)) (subst At c.register-pc.ensures c.from_byte_constant.ensures) in
    subst (λ (w : ℕ). Does (program w m.regs)) same plan

pub returns-in-Ok-fetch_second-3 : goal.returns-in-Ok-fetch_second-3
unfolding program length_of
returns-in-Ok-fetch_second-3 g c =
    let m = c.args.executor.now in
    let s = c.shortcut-shortcut.result.now in
    let base = c.in-AddIndexed.base in let dst = c.in-AddIndexed.dst in let x = c.in-Ok-fetch_second-3.x in
    let pc = c.register-pc.result in
    let answer = c.add_indexed.result in let n = c.add_indexed.new.executor in
    let Ends : Outcome → Type 0 = λ o. (EndsPlain o (answer_of answer) n.regs (moment_of n) × KeepsSections m n) × (is_quiet answer ≡ true → n.touches ≡ m.touches) in
    let regs = at_pc m.regs (onward pc 2) in
    let Rows : Form → Type 0 = λ f. Ends (ran (row (extended (instruction_of f) x 0) regs (onward pc 4)) m) in
    let ended : Rows s.form = subst Rows (sym c.in-AddIndexed.is) c.add_indexed.ensures in
    let fetched = c.fetch_second-in-AddIndexed.ensures regs ∙ ap (λ answer. followed answer (λ word. ran (row (extended (instruction_of s.form) word 0) regs (onward pc 4)) m)) c.in-Ok-fetch_second-3.is in
    let At : ℕ → Type 0 = λ p. Ends (ran (with_words (length_of s.first) s.first (at_pc m.regs (onward p 2)) p) m) in
    let at = subst At c.register-pc.ensures (subst Ends (sym fetched) ended) in
    let same : s.first ≡ c.args.first = search rules in
    subst (λ (w : ℕ). Ends (ran (program w m.regs) m)) same at
