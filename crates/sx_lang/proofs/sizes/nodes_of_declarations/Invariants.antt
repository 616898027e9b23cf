use Rattle.std.proofs.Common.{◌≡◌, ◌+◌, ◌≤◌, min, drop}
use Rattle.sx_lang.specs.Sizes.{declarations_nodes}
use Rattle.sx_lang.proofs.sizes.nodes_of_declarations.Given as goal

abbrev pub invariant-loop-d : goal.invariant-loop-d
invariant-loop-d l =
    (l.total ≤ 4294967295) × (min (l.total + declarations_nodes (drop l.d-index l.decls)) 4294967295 ≡ min (declarations_nodes l.decls) 4294967295)
