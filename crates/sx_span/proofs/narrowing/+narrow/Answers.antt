use Rattle.std.proofs.Common.{arith}
use Rattle.sx_lang.specs.View.{expression_of}
use Rattle.sx_span.proofs.Places.{weighs}
use Rattle.sx_span.proofs.narrowing.+narrow.Goals as goal

pub narrow_either-narrow_each-requires : goal.narrow_either-narrow_each-requires
narrow_either-narrow_each-requires t c = (let w = weighs (expression_of c.args.a.now) in let d = c.decreases in omega (arith, w, d), c.requires)
