use Rattle.std.proofs.Common.{drop, take}
use Rattle.sx_tmpl.specs.Template.{multiply}
use Rattle.sx_tmpl.proofs.Putting.{then_rest}
use Rattle.sx_tmpl.proofs.templates.put_product.Goals as goal

pub returns : goal.returns
returns c =
    let all = c.put_three.new.text.items in
    let from_4 = then_rest c.put_three.result (take 4 (drop 4 multiply)) (drop 8 multiply) c.put_four.new.text.items c.put_four-2.new.text.items all c.in_ok-put_four-2.ensures c.put_three.ensures in
    then_rest c.put_three.result (take 4 multiply) (drop 4 multiply) c.args.text.now.items c.put_four.new.text.items all c.in_ok-put_four.ensures from_4
