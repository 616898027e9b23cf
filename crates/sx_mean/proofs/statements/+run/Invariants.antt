use Rattle.std.proofs.Common.{◌≡◌, ◌-◌, drop}
use Rattle.sx_lang.specs.View.{block_of}
use Rattle.sx_mean.specs.Meaning.{after_block, in_block, times}
use Rattle.sx_mean.specs.View.{state_of}
use Rattle.sx_mean.proofs.statements.+run.Given as goal

abbrev pub invariant-run_block-loop-s : goal.invariant-run_block-loop-s
invariant-run_block-loop-s l = after_block l.decls (block_of (drop l.s-index l.s-items)) (state_of l.moment) ≡ after_block l.decls (block_of l.s-items) (state_of l.fn.moment)

abbrev pub invariant-run_turns-loop-turn : goal.invariant-run_turns-loop-turn
invariant-run_turns-loop-turn l = times (l.turns - l._turn) (λ st. in_block l.decls (block_of l.body.items) st) (state_of l.moment)
    ≡ times l.turns (λ st. in_block l.decls (block_of l.body.items) st) (state_of l.fn.moment)
