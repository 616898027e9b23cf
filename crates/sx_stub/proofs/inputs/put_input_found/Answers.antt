use Rattle.std.proofs.Common.{◌+◌, ◌++◌, length, refl, arith}
use Rattle.sx_lang.specs.View.{module_of}
use Rattle.sx_stub.specs.Stub.{cases, has_number_above, is_open_code, is_other_epoch, is_past_number, refuse_if, refuse_unless, take_receiving}
use Rattle.sx_stub.proofs.Steps.{behind, grown}
use Rattle.sx_stub.proofs.inputs.put_input_found.Goals as goal

pub returns : goal.returns
returns c =
    let r = c.put_take_cases.result in
    let n = length c.args.ends.now in
    let x = c.args.code.now.items in
    let y = c.put_open_test.new.code.items in
    let w = c.put_epoch_test.new.code.items in
    let v = c.put_past_test.new.code.items in
    let u = c.put_last_test.new.code.items in
    let z = c.put_take_cases.new.code.items in
    let opened = refuse_unless (length x) (is_open_code n) 5 in
    let other = refuse_if (length y) (is_other_epoch n) 5 in
    let past = refuse_if (length w) (is_past_number n) 6 in
    let one = grown x y opened c.in_ok-put_open_test.ensures in
    let two = grown y w other c.in_ok-put_epoch_test.ensures in
    let three = grown w v past c.in_ok-put_past_test.ensures in
    let fifth = cases (take_receiving (module_of c.args.tree.now)) (length x + 41) 0 c.args.ends.now in
    let fourth = refuse_unless (length x + 33) has_number_above 6 ++ fifth in
    let third = refuse_if (length x + 23) (is_past_number n) 6 ++ fourth in
    behind r x y z opened (λ p. refuse_if p (is_other_epoch n) 5 ++ third) (length x + 9) c.in_ok-put_open_test.ensures refl
    (behind r y w z other (λ p. refuse_if p (is_past_number n) 6 ++ fourth) (length x + 23) c.in_ok-put_epoch_test.ensures (omega (arith, one))
    (behind r w v z past (λ p. refuse_unless p has_number_above 6 ++ fifth) (length x + 33) c.in_ok-put_past_test.ensures (omega (arith, one, two))
    (behind r v u z (refuse_unless (length v) has_number_above 6) (λ p. cases (take_receiving (module_of c.args.tree.now)) p 0 c.args.ends.now) (length x + 41) c.in_ok-put_last_test.ensures
    (omega (arith, one, two, three)) c.put_take_cases.ensures)))
