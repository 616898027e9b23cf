use Rattle.std.proofs.Common.{◌-◌, ◌∙◌, arith, sym}
use Rattle.sx_mean.proofs.Steps.{takes_then, takes_else, repeats, no_more, one_more}
use Rattle.sx_mean.proofs.statements.+run.Goals as goal

pub run_turns-loop-turn-preserved : goal.run_turns-loop-turn-preserved
run_turns-loop-turn-preserved t c =
    sym (one_more c.args.turns c.loop-turn._turn _ _ _ (omega arith) c.in_ok-run_block.ensures) ∙ c.loop-turn.invariant

pub run_turns-returns : goal.run_turns-returns
run_turns-returns t c = no_more (c.args.turns - c.loop-turn._turn) _ _ _ (omega arith) c.loop-turn.invariant

pub run_statement-returns-in_ok-run_block-in-If : goal.run_statement-returns-in_ok-run_block-in-If
run_statement-returns-in_ok-run_block-in-If t c =
    takes_then _ _ c.in-If.e c.in-If.then c.in-If.otherwise _ _ c.evaluate.result c.in-If.is c.evaluate.ensures c.if-evaluate-ne0.true c.in_ok-run_block-in-If.ensures

pub run_statement-returns-in_ok-run_block-in-If-2 : goal.run_statement-returns-in_ok-run_block-in-If-2
run_statement-returns-in_ok-run_block-in-If-2 t c =
    takes_else _ _ c.in-If.e c.in-If.then c.in-If.otherwise _ _ c.evaluate.result c.in-If.is c.evaluate.ensures c.if-evaluate-ne0.false c.in_ok-run_block-in-If-2.ensures

pub run_statement-returns-in-Repeat : goal.run_statement-returns-in-Repeat
run_statement-returns-in-Repeat t c = repeats _ _ c.in-Repeat.n c.in-Repeat.body _ _ _ c.in-Repeat.is c.run_turns.ensures
