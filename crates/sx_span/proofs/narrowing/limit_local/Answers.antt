use Rattle.std.proofs.Common.{◌∙◌, arith, sym}
use Rattle.sx_span.proofs.Places.{limited_at}
use Rattle.sx_span.proofs.narrowing.limit_local.Goals as goal

pub returns-then-eq : goal.returns-then-eq
returns-then-eq c =
    limited_at c.loop-i.locals c.args.locals.now c.args.x.now c.loop-i.i c.args.range _ _ c.loop-i.invariant.0 (omega arith) (sym c.eq.ensures ∙ c.if-eq.true) c.loop-i.invariant.1
