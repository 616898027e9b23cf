use Rattle.std.proofs.Common.{◌≡◌, ◌+◌, ◌≤◌, min, drop, map}
use Rattle.sx_lang.specs.Sizes.{handlers_nodes}
use Rattle.sx_lang.specs.View.{handler_of}
use Rattle.sx_lang.proofs.sizes.nodes_of_handlers.Given as goal

abbrev pub invariant-loop-h : goal.invariant-loop-h
invariant-loop-h l =
    (l.total ≤ 4294967295) × (min (l.total + handlers_nodes (map handler_of (drop l.h-index l.handlers))) 4294967295 ≡ min (handlers_nodes (map handler_of l.handlers)) 4294967295)
