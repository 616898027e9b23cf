use Rattle.std.proofs.Common.{arith}
use Rattle.sx_tmpl.proofs.Texts.TextPlaces.{bytes_within}
use Rattle.sx_compile.proofs.bodies.place_offset.Goals as goal

pub overflow_cast-result : goal.overflow_cast-result
overflow_cast-result c = let a = c.offset.ensures in let b = bytes_within c.args.place c.args.code.now.ops.items in let s = c.requires.small in omega (arith, a, b, s)
