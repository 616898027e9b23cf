use Rattle.std.proofs.Common.{[], ◌∷◌}
use Rattle.sx_tmpl.proofs.Putting.{shaped_after, then_rest}
use Rattle.sx_tmpl.proofs.put.put_four.Goals as goal

pub put_three-requires : goal.put_three-requires
put_three-requires c = shaped_after c.args.first (c.args.second ∷ c.args.third ∷ c.args.fourth ∷ []) c.requires

pub returns : goal.returns
returns c =
    then_rest c.put_three.result (c.args.first ∷ []) (c.args.second ∷ c.args.third ∷ c.args.fourth ∷ []) c.args.text.now.items c.put_one.new.text.items c.put_three.new.text.items c.in_ok-put_one.ensures
    c.put_three.ensures
