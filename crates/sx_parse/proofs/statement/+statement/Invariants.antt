use Rattle.std.proofs.Common.{◌<◌, ◌∷◌, length}
use Rattle.sx_lang.specs.View.{block_of}
use Rattle.spec_grammar.specs.Machine.{A_block, Statements, Of_block}
use Rattle.sx_parse.specs.Reading.{ReadsValue}
use Rattle.sx_parse.proofs.statement.+statement.Given as goal

abbrev pub decreases-block : goal.decreases-block
decreases-block l = length l.tokens.now

abbrev pub decreases-statement : goal.decreases-statement
decreases-statement l = length l.tokens.now

abbrev pub decreases-condition : goal.decreases-condition
decreases-condition l = length l.tokens.now

abbrev pub decreases-otherwise : goal.decreases-otherwise
decreases-otherwise l = length l.tokens.now

abbrev pub decreases-repetition : goal.decreases-repetition
decreases-repetition l = length l.tokens.now

abbrev pub invariant-block-loop-body : goal.invariant-block-loop-body
invariant-block-loop-body l = record {
  chain : ReadsValue (λ st. A_block ∷ st) l.depth l.fn.tokens (Of_block (block_of l.body.items)) (λ st. Statements ∷ st) l.rest;
  shorter : length l.rest < length l.fn.tokens;
}

abbrev pub decreases-block-loop-body : goal.decreases-block-loop-body
decreases-block-loop-body l = length l.rest
