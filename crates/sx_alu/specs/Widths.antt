-- Which widths a calculation has, and a number of a width with its sign.
use Rattle.std.specs.Prelude.{ℕ, ℤ, pos, negsuc, ◌-◌, Bool, true, if◌then◌else◌}
use Rattle.sx_alu.specs.declared.calculation.Calc.{Calc}
use Rattle.sx_alu.specs.declared.calculation.Calc.TheVariants.{Add, AddCarry, Sub, SubCarry, And}
use Rattle.sx_alu.specs.declared.calculation.Calc.TheVariants.{AndNot, Or, Xor, Rrc, Rra, Swap}
use Rattle.sx_alu.specs.declared.calculation.Calc.TheVariants.{Extend}
use Rattle.sx_alu.specs.Table.{limit, is_negative}

-- a word or a byte as a signed number, in two's complement
abbrev pub signed : Bool → ℕ → ℤ
signed wide x = if is_negative wide x then negsuc (limit wide - 1 - x) else pos x

-- the exchange of a word's bytes and the extension of a sign are of words alone
abbrev pub has_width : Calc → Bool → Bool
has_width Swap wide = wide
has_width Extend wide = wide
has_width Add wide = true
has_width AddCarry wide = true
has_width Sub wide = true
has_width SubCarry wide = true
has_width And wide = true
has_width AndNot wide = true
has_width Or wide = true
has_width Xor wide = true
has_width Rrc wide = true
has_width Rra wide = true
