use Rattle.std.proofs.Common.{◌+◌, ◌<◌, ◌∷◌, length, ◌*◌}
use Rattle.sx_lang.specs.View.{expression_of}
use Rattle.spec_grammar.specs.Machine.{Operand, Factors, Addends, Of_expression}
use Rattle.sx_parse.specs.Wanted.{sum_wanted}
use Rattle.sx_parse.specs.Reading.{ReadsValue}
use Rattle.sx_parse.proofs.expression.+expression.Given as goal

abbrev pub decreases-expression : goal.decreases-expression
decreases-expression l = 8 * length l.tokens.now + 4

abbrev pub decreases-sum : goal.decreases-sum
decreases-sum l = 8 * length l.tokens.now + 3

abbrev pub decreases-term : goal.decreases-term
decreases-term l = 8 * length l.tokens.now + 2

abbrev pub decreases-operand : goal.decreases-operand
decreases-operand l = 8 * length l.tokens.now + 1

abbrev pub decreases-variable : goal.decreases-variable
decreases-variable l = 8 * length l.tokens.now + 5

abbrev pub invariant-sum-loop-first : goal.invariant-sum-loop-first
invariant-sum-loop-first l = record {
  chain : ReadsValue sum_wanted l.depth l.fn.tokens (Of_expression (expression_of l.left)) (λ st. Addends l.count ∷ st) l.rest;
  shorter : length l.rest < length l.fn.tokens;
}

abbrev pub decreases-sum-loop-first : goal.decreases-sum-loop-first
decreases-sum-loop-first l = length l.rest

abbrev pub invariant-term-loop-first : goal.invariant-term-loop-first
invariant-term-loop-first l = record {
  chain : ReadsValue (λ st. Operand ∷ Factors 0 ∷ st) l.depth l.fn.tokens (Of_expression (expression_of l.left)) (λ st. Factors l.count ∷ st) l.rest;
  shorter : length l.rest < length l.fn.tokens;
}

abbrev pub decreases-term-loop-first : goal.decreases-term-loop-first
decreases-term-loop-first l = length l.rest
