use Rattle.std.proofs.Common.{◌+◌, ◌*◌, [], ◌∷◌, ◌++◌, length, sym, ap, ◌∙◌, arith}
use Rattle.sx_lang.specs.View.{module_of}
use Rattle.sx_ir.specs.declared.ir.Ir.TheVariants as ir
use Rattle.sx_stub.proofs.Steps.{taken}
use Rattle.sx_stub.proofs.inputs.put_take_case.Goals as goal

pub returns-in_ok-put_choice-clause-code : goal.returns-in_ok-put_choice-clause-code
returns-in_ok-put_choice-clause-code c =
    let x = c.args.code.now.items in
    let next = c.len.result + 2 + c.take_len.result in
    let index = ap (λ k. x ++ ir.JumpEqual 74 (12 * k) (length x + 2) ∷ ir.Jump next ∷ []) c.from.ensures in
    taken (module_of c.args.tree.now) c.put_take.result x c.put_choice.new.code.items c.put_take.new.code.items c.args.k next c.args.e.now
    (sym c.is_receiving.ensures ∙ c.if-is_receiving.true) (omega (arith, c.len.ensures, c.take_len.ensures.len)) (c.in_ok-put_choice.ensures ∙ index) c.put_take.ensures
