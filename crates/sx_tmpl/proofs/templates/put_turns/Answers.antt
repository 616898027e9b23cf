use Rattle.std.proofs.Common.{◌≡◌, ◌%◌, drop, take, refl}
use Rattle.std.proofs.lemmas.Bool.{eq-eqb}
use Rattle.sx_ir.specs.Sizes.{turn_size}
use Rattle.sx_tmpl.specs.Template.{turns}
use Rattle.sx_tmpl.proofs.Putting.{then_rest}
use Rattle.sx_tmpl.proofs.templates.put_turns.Goals as goal

pub returns-in_ok-put_four-2 : goal.returns-in_ok-put_four-2
returns-in_ok-put_four-2 c =
    let size : turn_size c.args.count ≡ 8 = rw (eq-eqb (c.args.count % 8) 0 c.if-count-eq0.true) refl in
    let all = c.put_three.new.text.items in
    let from_4 = then_rest c.put_three.result (take 4 (drop 4 (turns 8))) (drop 8 (turns 8)) c.put_four.new.text.items c.put_four-then-count-eq0.new.text.items all c.in_ok-put_four-2.ensures c.put_three.ensures in
    rw size (then_rest c.put_three.result (take 4 (turns 8)) (drop 4 (turns 8)) c.args.text.now.items c.put_four.new.text.items all c.in_ok-put_four.ensures from_4)
