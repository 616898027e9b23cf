use Rattle.std.proofs.Common.{◌≡◌, ◌++◌, ◌-◌, drop}
use Rattle.std.specs.List.{flat_map}
use Rattle.sx_lang.specs.View.{block_of, statement_of}
use Rattle.sx_span.specs.Paths.{inner_paths, paths_after_block, paths_after_statement, turns}
use Rattle.sx_span.specs.View.{path_of, paths_in}
use Rattle.sx_span.proofs.paths.+follow.Given as goal

abbrev pub invariant-follow_each-loop-trail : goal.invariant-follow_each-loop-trail
invariant-follow_each-loop-trail l =
    paths_in l.found.items ++ flat_map (paths_after_statement l.decls (statement_of l.s)) (paths_in l.trail-iterator.rest.items)
    ≡ flat_map (paths_after_statement l.decls (statement_of l.s)) (paths_in l.fn.trails.items)

abbrev pub invariant-follow_block-loop-s : goal.invariant-follow_block-loop-s
invariant-follow_block-loop-s l =
    flat_map (paths_after_block l.decls (block_of (drop l.s-index l.s-items))) (paths_in l.trails.items)
    ≡ paths_after_block l.decls (block_of l.s-items) (path_of l.fn.trail)

abbrev pub invariant-follow_each_in-loop-trail : goal.invariant-follow_each_in-loop-trail
invariant-follow_each_in-loop-trail l =
    paths_in l.found.items ++ flat_map (inner_paths l.decls (block_of l.block.items)) (paths_in l.trail-iterator.rest.items)
    ≡ paths_in l.fn.found.items ++ flat_map (inner_paths l.decls (block_of l.block.items)) (paths_in l.fn.trails.items)

abbrev pub invariant-follow_turns-loop-turn : goal.invariant-follow_turns-loop-turn
invariant-follow_turns-loop-turn l =
    flat_map (turns (l.n - l._turn) (inner_paths l.decls (block_of l.body.items))) (paths_in l.trails.items)
    ≡ turns l.n (inner_paths l.decls (block_of l.body.items)) (path_of l.fn.trail)
