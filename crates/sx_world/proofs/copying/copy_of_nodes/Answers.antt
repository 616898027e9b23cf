use Rattle.std.proofs.Common.{◌+◌, ◌++◌, ◌∷◌, [], take, sym, ap, arith, ◌∙◌}
use Rattle.std.proofs.lemmas.List.{take_more}
use Rattle.sx_world.proofs.copying.copy_of_nodes.Goals as goal

pub loop-node-preserved : goal.loop-node-preserved
loop-node-preserved g c =
    let i = c.loop-node.node-index in
    let nodes = c.args.nodes.now in
    let node = c.node-item.result in
    c.in_ok-push.ensures.items ∙ ap (λ xs. xs ++ c.in_ok-copy.field-0 ∷ []) c.loop-node.invariant
    ∙ ap (λ x. take i nodes ++ x ∷ []) (c.in_ok-copy.ensures ∙ c.node-item.is)
    ∙ sym (take_more nodes i node (omega (arith, c.loop-node-test.true, c.loop-node.auto.node-index-end)))
