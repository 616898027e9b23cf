use Rattle.std.specs.Prelude.{◌≡◌, ◌++◌, drop}
use Rattle.command_describe.specs.Output.{each_from, node_line}
use Rattle.command_describe.proofs.devices.push_nodes.Given as goal

abbrev pub invariant-loop-name : goal.invariant-loop-name
invariant-loop-name l = l.text.items ++ each_from (λ n. node_line) l.name-index (drop l.name-index l.names) ≡ l.fn.text.items ++ each_from (λ n. node_line) 0 l.names
