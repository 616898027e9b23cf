use Rattle.spec_invocation.specs.Protocol.{set_key_kind, set_key_size}
use Rattle.std.proofs.Common.{◌+◌, [], ◌∷◌, ◌++◌, length, refl, arith}
use Rattle.sx_ir.specs.declared.ir.Ir.TheVariants as ir
use Rattle.sx_stub.specs.Stub.{is_no_side, refuse_if, refuse_kind, wanted_end}
use Rattle.sx_stub.proofs.Steps.{behind, grown}
use Rattle.sx_stub.proofs.keys.put_set_key.Goals as goal

pub returns : goal.returns
returns c =
    let r = c.put_wanted_end.result in
    let x = c.args.code.now.items in
    let y = c.put.new.code.items in
    let w = c.put_refuse_kind.new.code.items in
    let v = c.put_refuse.new.code.items in
    let z = c.put_wanted_end.new.code.items in
    let last = wanted_end ++ ir.Store 72 ∷ ir.Jump c.args.search ∷ [] in
    let copy = ir.CopyIn set_key_size 16 ∷ [] in
    let one = grown x y copy c.in_ok-put.ensures in
    behind r x y z copy (λ p. refuse_kind p set_key_kind ++ (refuse_if (length x + 5) is_no_side 5 ++ last)) (length x + 1) c.in_ok-put.ensures refl
    (behind r y w z (refuse_kind (length y) set_key_kind) (λ p. refuse_if p is_no_side 5 ++ last) (length x + 5) c.in_ok-put_refuse_kind.ensures (omega (arith, one))
    (behind r w v z (refuse_if (length w) is_no_side 5) (λ p. last) (length w + 7) c.in_ok-put_refuse.ensures refl c.put_wanted_end.ensures))
