-- Operators on intervals.
use Rattle.std.specs.Prelude.{◌+◌, ◌*◌, ◌-◌, ◌==◌, ◌&&◌, ◌||◌, nat_lt, nat_le, min, max}
use Rattle.std.specs.Prelude.{if◌then◌else◌}
use Rattle.sx_lang.specs.declared.tree.UnOp.{UnOp}
use Rattle.sx_lang.specs.declared.tree.UnOp.TheVariants.{Neg, Inv, Not}
use Rattle.sx_lang.specs.declared.tree.BinOp.{BinOp}
use Rattle.sx_lang.specs.declared.tree.BinOp.TheVariants.{Add, Sub, Or, Xor, Mul, And, Eq, Ne, Lt}
use Rattle.sx_lang.specs.declared.tree.BinOp.TheVariants.{Le, Gt, Ge}
use Rattle.sx_mean.specs.Meaning.{combine}
use Rattle.sx_span.specs.Intervals.{Interval, between, decided, most_of_bits, only, wrapped}

-- surely a number of the one is less than each of the other
abbrev pub less : Interval → Interval → Interval
less a b = decided (nat_lt a.high b.low) (nat_le b.high a.low)

-- the same for at most
abbrev pub at_most : Interval → Interval → Interval
at_most a b = decided (nat_le a.high b.low) (nat_lt b.high a.low)

-- equal where both are one number, unequal where they share none
abbrev pub equal : Interval → Interval → Interval
equal a b = decided (nat_le a.high b.low && nat_le b.high a.low)
    (nat_lt a.high b.low || nat_lt b.high a.low)

-- a unary operator
abbrev pub apply_range : UnOp → Interval → Interval
apply_range Neg a = wrapped (65536 - a.high) (65536 - a.low)
apply_range Inv a = between (65535 - a.high) (65535 - a.low)
apply_range Not a = decided (a.high == 0) (nat_lt 0 a.low)

-- exact where both are one number
abbrev pub exact : BinOp → Interval → Interval → Interval → Interval
exact op a b i =
    if a.low == a.high && b.low == b.high then only (combine op a.low b.low) else i

-- a binary operator
abbrev pub combine_range : BinOp → Interval → Interval → Interval
combine_range Add a b = wrapped (a.low + b.low) (a.high + b.high)
combine_range Sub a b = wrapped (a.low + (65536 - b.high)) (a.high + (65536 - b.low))
combine_range Or a b = exact Or a b (between (max a.low b.low) (most_of_bits a.high b.high))
combine_range Xor a b = exact Xor a b (between 0 (most_of_bits a.high b.high))
combine_range Mul a b = wrapped (a.low * b.low) (a.high * b.high)
combine_range And a b = exact And a b (between 0 (min a.high b.high))
combine_range Eq a b = equal a b
combine_range Ne a b = apply_range Not (equal a b)
combine_range Lt a b = less a b
combine_range Le a b = at_most a b
combine_range Gt a b = less b a
combine_range Ge a b = at_most b a
