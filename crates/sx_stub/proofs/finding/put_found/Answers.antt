use Rattle.spec_invocation.specs.Protocol.{entry_register}
use Rattle.std.proofs.Common.{◌≡◌, ◌+◌, [], ◌∷◌, ◌++◌, length, refl, ap, ◌∙◌, arith}
use Rattle.sx_lang.specs.View.{module_of}
use Rattle.sx_ir.specs.declared.ir.Ir.TheVariants as ir
use Rattle.sx_stub.specs.Stub.{input_found, key_found, key_place}
use Rattle.sx_stub.proofs.Steps.{behind, grown}
use Rattle.sx_stub.proofs.finding.put_found.Goals as goal

pub returns : goal.returns
returns c =
    let r = c.put_key_found.result in
    let tree = module_of c.args.tree.now in
    let ends = c.args.ends.now in
    let x = c.args.code.now.items in
    let y = c.put_kept.new.code.items in
    let w = c.put_input_found.new.code.items in
    let z = c.put_key_found.new.code.items in
    let key = key_place tree ends (length x) in
    let here : c.len.result ≡ length x = omega (arith, c.len.ensures) in
    let key_is = c.behind_input_found-key.ensures.place ∙ ap (λ p. p + 3 + length (input_found tree ends (p + 3))) here in
    let kept = ir.Store 74 ∷ ir.Saved entry_register ∷ ir.JumpZero key ∷ [] in
    let first : y ≡ x ++ kept = c.in_ok-put_kept.ensures ∙ ap (λ k. x ++ ir.Store 74 ∷ ir.Saved entry_register ∷ ir.JumpZero k ∷ []) key_is in
    let one : length y ≡ length x + 3 = grown x y kept first in
    behind r x y z kept (λ p. input_found tree ends p ++ key_found ends key) (length x + 3) first refl
    (behind r y w z (input_found tree ends (length y)) (λ p. key_found ends p) key c.in_ok-put_input_found.ensures (ap (λ p. p + length (input_found tree ends p)) one) c.put_key_found.ensures)
