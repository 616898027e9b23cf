use Rattle.std.specs.Prelude.{◌≡◌, ◌≤◌, ◌-◌, ◌++◌, ℕ, List, drop, length}
use Rattle.sx_deploy.specs.SeenDeployment.{deployed_as}
use Rattle.spec_run.specs.Accepted.{setting_of}
use Rattle.spec_run.specs.State.{nodes_from}
use Rattle.command_world.proofs.nodes.nodes_of.Given as goal

-- the nodes so far, and after them those that are left
abbrev pub invariant-nodes : goal.invariant-nodes
invariant-nodes g l =
    let d = deployed_as l.fn.deployment in record {
      within : l.number ≤ length l.fn.deployment.keys.items;
      nodes : (texts : List (List ℕ)) → l.nodes.items ++ nodes_from (setting_of g.T.Tag.mac d texts) l.number (drop l.number d.keys) ≡ nodes_from (setting_of g.T.Tag.mac d texts) 0 d.keys;
    }

abbrev pub decreases-nodes : goal.decreases-nodes
decreases-nodes g l = length l.fn.deployment.keys.items - l.number
