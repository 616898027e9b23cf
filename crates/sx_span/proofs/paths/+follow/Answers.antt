use Rattle.std.proofs.Common.{◌∙◌, ◌-◌, ap, arith, true, false, rules}
use Rattle.sx_lang.specs.View.{block_of, expression_of}
use Rattle.sx_span.specs.Ranges.{Path}
use Rattle.sx_span.specs.Narrow.{narrow}
use Rattle.sx_span.specs.Paths.{inner_paths, paths_after_block, turns}
use Rattle.sx_span.specs.View.{path_of, paths_in}
use Rattle.sx_span.proofs.Following.{block_ends, block_on, both_are, left_is, none, on_ok, onward, repeated_is, taken_is, turn_on, turns_done}
use Rattle.sx_span.proofs.paths.+follow.Goals as goal

pub follow_block-loop-s-preserved : goal.follow_block-loop-s-preserved
follow_block-loop-s-preserved t c =
    block_on c.args.decls.now c.deref-s-items.result.now c.loop-s.s-index c.s-item.result (paths_in c.loop-s.trails.items) (paths_in c.in_ok-trails.trails.items)
    (paths_after_block c.args.decls.now (block_of c.deref-s-items.result.now) (path_of c.args.trail)) c.loop-s-test.true c.s-item.is c.in_ok-trails.ensures c.loop-s.invariant

pub follow_block-returns : goal.follow_block-returns
follow_block-returns t c =
    block_ends c.forget_each.result c.args.decls.now c.deref-s-items.result.now c.args.block.now.items c.loop-s.s-index c.len-outer.result (path_of c.args.trail)
    (paths_in c.loop-s.trails.items) (paths_in c.args.found.now.items) (paths_in c.forget_each.new.found.items) (search rules) (search rules) c.loop-s-test.false c.loop-s.invariant c.forget_each.ensures

pub follow_statement-returns-in_ok-narrow-in-If : goal.follow_statement-returns-in_ok-narrow-in-If
follow_statement-returns-in_ok-narrow-in-If t c =
    on_ok c.follow_each_in.result
    (left_is c.args.decls.now c.args.s.now c.in-If.e c.in-If.then c.in-If.otherwise (path_of c.args.trail) c.in-If.is c.range_of-test.result (paths_in c.args.found.now.items)
    (paths_in c.narrow.new.found.items) (paths_in c.follow_each_in.new.found.items) c.range_of-test.ensures c.if-test-eq0.true
    (none c.new-trails.result.items (paths_in c.narrow.new.found.items) (narrow c.args.decls.now (expression_of c.in-If.e) false (path_of c.args.trail)) c.new-trails.ensures.items c.in_ok-narrow-in-If.ensures))
    c.follow_each_in.ensures

pub follow_statement-returns-in_ok-narrow-in-If-2 : goal.follow_statement-returns-in_ok-narrow-in-If-2
follow_statement-returns-in_ok-narrow-in-If-2 t c =
    on_ok c.follow_each_in-then-test-gt0.result
    (taken_is c.args.decls.now c.args.s.now c.in-If.e c.in-If.then c.in-If.otherwise (path_of c.args.trail) c.in-If.is c.range_of-test.result (paths_in c.args.found.now.items)
    (paths_in c.narrow-then-test-gt0.new.found.items) (paths_in c.follow_each_in-then-test-gt0.new.found.items) c.range_of-test.ensures c.if-test-eq0.false c.if-test-gt0.true
    (none c.new-trails-then-test-gt0.result.items (paths_in c.narrow-then-test-gt0.new.found.items) (narrow c.args.decls.now (expression_of c.in-If.e) true (path_of c.args.trail)) c.new-trails-then-test-gt0.ensures.items c.in_ok-narrow-in-If-2.ensures))
    c.follow_each_in-then-test-gt0.ensures

pub follow_statement-returns-in_ok-narrow-in-If-4 : goal.follow_statement-returns-in_ok-narrow-in-If-4
follow_statement-returns-in_ok-narrow-in-If-4 t c =
    on_ok c.follow_each_in-else-test-gt0-2.result
    (both_are c.args.decls.now c.args.s.now c.in-If.e c.in-If.then c.in-If.otherwise (path_of c.args.trail) c.in-If.is c.range_of-test.result (paths_in c.args.found.now.items)
    (paths_in c.narrow-else-test-gt0.new.found.items) (paths_in c.follow_each_in-else-test-gt0.new.found.items) (paths_in c.narrow-else-test-gt0-2.new.found.items)
    (paths_in c.follow_each_in-else-test-gt0-2.new.found.items) c.range_of-test.ensures c.if-test-eq0.false c.if-test-gt0.false
    (none c.new-trails-else-test-gt0.result.items (paths_in c.narrow-else-test-gt0.new.found.items) (narrow c.args.decls.now (expression_of c.in-If.e) true (path_of c.in_ok-again-in-If.again)) c.new-trails-else-test-gt0.ensures.items c.in_ok-narrow-in-If-3.ensures
    ∙ ap (λ (p : Path). narrow c.args.decls.now (expression_of c.in-If.e) true p) c.in_ok-again-in-If.ensures)
    c.in_ok-follow_each_in-in-If.ensures
    (none c.new-others.result.items (paths_in c.narrow-else-test-gt0-2.new.found.items) (narrow c.args.decls.now (expression_of c.in-If.e) false (path_of c.args.trail)) c.new-others.ensures.items c.in_ok-narrow-in-If-4.ensures))
    c.follow_each_in-else-test-gt0-2.ensures

pub follow_statement-returns-in-Repeat : goal.follow_statement-returns-in-Repeat
follow_statement-returns-in-Repeat t c =
    on_ok c.follow_turns.result
    (repeated_is c.args.decls.now c.args.s.now c.in-Repeat.n c.in-Repeat.body (path_of c.args.trail) (paths_in c.args.found.now.items) (paths_in c.follow_turns.new.found.items) c.in-Repeat.is)
    c.follow_turns.ensures

pub follow_turns-loop-turn-preserved : goal.follow_turns-loop-turn-preserved
follow_turns-loop-turn-preserved t c =
    turn_on c.args.n c.loop-turn._turn (inner_paths c.args.decls.now (block_of c.args.body.now.items)) (paths_in c.loop-turn.trails.items) (paths_in c.follow_each_in.new.found.items)
    (turns c.args.n (inner_paths c.args.decls.now (block_of c.args.body.now.items)) (path_of c.args.trail)) (omega arith)
    (none c.new-next.result.items _ _ c.new-next.ensures.items c.in_ok-follow_each_in.ensures) c.loop-turn.invariant

pub follow_turns-returns : goal.follow_turns-returns
follow_turns-returns t c =
    onward c.push_each.result (paths_in c.args.found.now.items) (paths_in c.loop-turn.trails.items)
    (turns c.args.n (inner_paths c.args.decls.now (block_of c.args.body.now.items)) (path_of c.args.trail)) (paths_in c.push_each.new.found.items)
    (turns_done (c.args.n - c.loop-turn._turn) (inner_paths c.args.decls.now (block_of c.args.body.now.items)) (paths_in c.loop-turn.trails.items)
    (turns c.args.n (inner_paths c.args.decls.now (block_of c.args.body.now.items)) (path_of c.args.trail)) (omega arith) c.loop-turn.invariant)
    c.push_each.ensures
