use Rattle.spec_invocation.specs.Protocol.{other_tag}
use Rattle.std.proofs.Common.{◌+◌, [], ◌∷◌, ◌++◌, length, refl, arith}
use Rattle.sx_ir.specs.declared.ir.Ir.TheVariants as ir
use Rattle.sx_stub.specs.Stub.{cases, is_keyed_code, open_any, refuse_if, refuse_unless}
use Rattle.sx_stub.proofs.Steps.{behind, grown}
use Rattle.sx_stub.proofs.keys.put_key_found.Goals as goal

pub returns : goal.returns
returns c =
    let r = c.put_open_cases.result in
    let ends = c.args.ends.now in
    let x = c.args.code.now.items in
    let y = c.put_keyed_test.new.code.items in
    let w = c.put.new.code.items in
    let v = c.put_refuse_unless.new.code.items in
    let z = c.put_open_cases.new.code.items in
    let keyed = refuse_if (length x) (is_keyed_code (length ends)) 5 in
    let unwrap = ir.Open 0 16 6 56 16 ∷ [] in
    let one = grown x y keyed c.in_ok-put_keyed_test.ensures in
    let two = grown y w unwrap c.in_ok-put.ensures in
    behind r x y z keyed (λ p. unwrap ++ (refuse_unless (length x + 24) [] other_tag ++ cases open_any (length x + 29) 0 ends)) (length x + 23) c.in_ok-put_keyed_test.ensures refl
    (behind r y w z unwrap (λ p. refuse_unless p [] other_tag ++ cases open_any (length x + 29) 0 ends) (length x + 24) c.in_ok-put.ensures (omega (arith, one))
    (behind r w v z (refuse_unless (length w) [] other_tag) (λ p. cases open_any p 0 ends) (length x + 29) c.in_ok-put_refuse_unless.ensures (omega (arith, one, two)) c.put_open_cases.ensures))
