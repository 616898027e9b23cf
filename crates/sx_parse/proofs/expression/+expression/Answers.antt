use Rattle.std.proofs.Common.{sym, ◌∙◌, arith}
use Rattle.sx_parse.proofs.Expressions.{expression_alone, name_indexed, one_factor, one_addend, shorter_by}
use Rattle.sx_parse.proofs.expression.+expression.Goals as goal

pub expression-returns-in_default-comparison_operator-clause-reads :
    goal.expression-returns-in_default-comparison_operator-clause-reads
expression-returns-in_default-comparison_operator-clause-reads t c =
    expression_alone _ _ _ c.in-Some.after.now c.in-Some.first.now _ c.in_ok-left.ensures.reads c.in-Some.ensures.cases.0 (sym c.comparison_operator.ensures ∙ c.in_default-comparison_operator.is)

pub variable-returns-in_ok-found-in-OpenSquare-clause-reads :
    goal.variable-returns-in_ok-found-in-OpenSquare-clause-reads
variable-returns-in_ok-found-in-OpenSquare-clause-reads t c =
    name_indexed _ _ _ c.in-Some.rest.now _ _ c.in-Some.first.now _ _ c.in-Some.ensures.cases.0 c.in-OpenSquare.is
    (omega arith) c.in_ok-inner-in-OpenSquare.ensures.reads c.in_ok-rest-in-OpenSquare.ensures.takes c.in_ok-found-in-OpenSquare.ensures

pub sum-loop-first-preserved : goal.sum-loop-first-preserved
sum-loop-first-preserved t c = record {
  chain = one_addend _ c.loop-first.count _ _ c.in-Some.after.now _ c.in-Some.first.now c.in-Some-addend_operator.op _ _ _ c.loop-first.invariant.chain
      c.in-Some.ensures.cases.0 (sym c.addend_operator.ensures ∙ c.in-Some-addend_operator.is) (omega arith) c.in_ok-right.ensures.reads c.in_ok-left-2.ensures;
  shorter = shorter_by _ c.loop-first.rest.now c.in-Some.after.now _ c.in-Some.first.now c.loop-first.invariant.shorter c.in-Some.ensures.cases.0 c.in_ok-right.ensures.shorter;
}

pub term-loop-first-preserved : goal.term-loop-first-preserved
term-loop-first-preserved t c = record {
  chain = one_factor _ c.loop-first.count _ _ c.in-Some.after.now _ c.in-Some.first.now c.in-Some-factor_operator.op _ _ _ c.loop-first.invariant.chain
      c.in-Some.ensures.cases.0 (sym c.factor_operator.ensures ∙ c.in-Some-factor_operator.is) (omega arith) c.in_ok-right.ensures.reads c.in_ok-left-2.ensures;
  shorter = shorter_by _ c.loop-first.rest.now c.in-Some.after.now _ c.in-Some.first.now c.loop-first.invariant.shorter c.in-Some.ensures.cases.0 c.in_ok-right.ensures.shorter;
}
