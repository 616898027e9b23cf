use Rattle.spec_invocation.specs.Protocol.{header_size, other_tag, value_size}
use Rattle.std.proofs.Common.{ℕ, ◌+◌, ◌*◌, List, [], ◌∷◌, ◌++◌, length, ap, ◌∙◌, refl}
use Rattle.sx_mean.specs.Offsets.{end_key_at}
use Rattle.sx_lang.specs.View.{module_of}
use Rattle.sx_ir.specs.declared.ir.Ir.{Ir}
use Rattle.sx_ir.specs.declared.ir.Ir.TheVariants as ir
use Rattle.sx_stub.specs.Stub.{refuse_unless, taken_code}
use Rattle.sx_stub.proofs.Steps.{behind}
use Rattle.sx_stub.proofs.inputs.put_take.Goals as goal

pub returns : goal.returns
returns c =
    let x = c.args.code.now.items in
    let y = c.put.new.code.items in
    let w = c.put_refuse_unless.new.code.items in
    let z = c.put_taken.new.code.items in
    let last = taken_code (module_of c.args.tree.now) c.args.k c.args.e.now in
    let refused : ℕ → List Ir = λ p. refuse_unless p [] other_tag in
    let first = c.in_ok-put.ensures ∙ ap (λ o. x ++ ir.Open o 16 header_size 2 value_size ∷ []) c.end_key_at.ensures in
    behind c.put_taken.result x y z (ir.Open (end_key_at c.args.k) 16 header_size 2 value_size ∷ []) (λ p. refused p ++ last) (length x + 1) first refl
    (behind c.put_taken.result y w z (refused (length y)) (λ p. last) (length y + 5) c.in_ok-put_refuse_unless.ensures refl c.put_taken.ensures)
