-- The bytes of the pieces that marks make.
use Rattle.std.proofs.Common.{◌≡◌, ◌+◌, ◌≤◌, List, [], ◌∷◌, ◌++◌, ap, arith}
use Rattle.spec_invocation.specs.Marks.{HasPrefix, Mark}
use Rattle.spec_invocation.specs.Pieces.{made_bytes}

pub made_bytes-append : (xs ys : List Mark) → made_bytes (xs ++ ys) ≡ made_bytes xs + made_bytes ys
made_bytes-append [] ys = omega arith
made_bytes-append (x ∷ xs) ys = let e = made_bytes-append xs ys in omega (arith, e)

-- a prefix makes no more
pub made_prefix : (all seen : List Mark) → HasPrefix all seen → made_bytes seen ≤ made_bytes all
made_prefix all seen (rest, e) = let x = made_bytes-append seen rest in let y = ap made_bytes e in omega (arith, x, y)
