use Rattle.std.proofs.Common.{◌≡◌, ◌++◌, drop, map}
use Rattle.sx_span.specs.View.{paths_in}
use Rattle.sx_table.specs.Made.{ways_from}
use Rattle.sx_check.specs.Source.{source_tree}
use Rattle.sx_table.specs.Places.{place_as}
use Rattle.sx_table.proofs.made.ways_from.Given as goal

abbrev pub invariant-loop-p : goal.invariant-loop-p
invariant-loop-p l = paths_in l.found.items ++ ways_from (source_tree l.code) l.input l.i (map place_as (drop l.p-index l.ps))
    ≡ paths_in l.fn.found.items ++ ways_from (source_tree l.code) l.input l.i (map place_as l.ps)
