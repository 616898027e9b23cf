use Rattle.std.proofs.Common.{[], ◌∷◌}
use Rattle.sx_tmpl.proofs.Putting.{shaped_after, then_rest}
use Rattle.sx_tmpl.proofs.put.put_two.Goals as goal

pub put_one-requires-2 : goal.put_one-requires-2
put_one-requires-2 c = shaped_after c.args.first (c.args.second ∷ []) c.requires

pub returns : goal.returns
returns c =
    then_rest c.put_one-2.result (c.args.first ∷ []) (c.args.second ∷ []) c.args.text.now.items c.put_one.new.text.items c.put_one-2.new.text.items c.in_ok-put_one.ensures
    c.put_one-2.ensures
