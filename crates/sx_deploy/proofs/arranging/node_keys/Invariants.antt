use Rattle.std.proofs.Common.{◌≡◌, ◌++◌, map, drop}
use Rattle.sx_entries.specs.declared.entries.NodeEntry.{NodeEntry}
use Rattle.sx_deploy.proofs.arranging.node_keys.Given as goal

abbrev pub invariant-loop-node : goal.invariant-loop-node
invariant-loop-node l = l.keys.items ++ map (λ (n : NodeEntry). n.key) (drop l.node-index l.nodes) ≡ map (λ (n : NodeEntry). n.key) l.nodes
