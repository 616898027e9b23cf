use Rattle.std.proofs.Common.{[], ◌∷◌}
use Rattle.sx_tmpl.proofs.Putting.{shaped_after, then_rest}
use Rattle.sx_tmpl.proofs.put.put_three.Goals as goal

pub put_two-requires : goal.put_two-requires
put_two-requires c = shaped_after c.args.first (c.args.second ∷ c.args.third ∷ []) c.requires

pub returns : goal.returns
returns c =
    then_rest c.put_two.result (c.args.first ∷ []) (c.args.second ∷ c.args.third ∷ []) c.args.text.now.items c.put_one.new.text.items c.put_two.new.text.items c.in_ok-put_one.ensures
    c.put_two.ensures
