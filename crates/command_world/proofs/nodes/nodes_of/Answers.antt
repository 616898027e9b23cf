use Rattle.std.proofs.Common.{◌≡◌, ℕ, refl, subst, sym, arith}
use Rattle.std.specs.Prelude.{slice_index_or}
use Rattle.sx_deploy.specs.SeenDeployment.{deployed_as}
use Rattle.spec_run.specs.Accepted.{setting_of}
use Rattle.command_world.proofs.Powering.{one_node}
use Rattle.command_world.proofs.nodes.nodes_of.Goals as goal

pub nodes-preserved : goal.nodes-preserved
nodes-preserved g c = record {
  within = omega (arith, c.nodes-test.true, c.from.ensures, c.len.ensures, c.args.deployment.now.keys.ok);
  nodes = λ texts.
      one_node (setting_of g.T.Tag.mac (deployed_as c.args.deployment.now) texts) _ c.nodes.nodes.items
      c.push_node.new.nodes.items _ c.nodes.number c.args.deployment.now.keys.items c.index-key.result.now
      (omega (arith, c.nodes-test.true, c.from.ensures, c.len.ensures, c.args.deployment.now.keys.ok))
      (sym (subst (λ (n : ℕ). c.index-key.result.now ≡ slice_index_or c.args.deployment.now.keys.items n c.index-key.result.now) c.from-in-nodes.ensures c.index-key.ensures))
      c.in_ok-push_node.ensures refl (c.nodes.invariant.nodes texts);
}
