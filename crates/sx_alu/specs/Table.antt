-- What each calculation gives, and what it does to the flags (TI, MSP430x2xx Family User's Guide,
-- "Instruction Set"). V after a rotation through the carry is 0 here, where TI's guides differ.
use Rattle.std.specs.Prelude.{ℕ, ◌+◌, ◌*◌, ◌-◌, ◌/◌, ◌%◌, ◌==◌, Bool, false, ◌&&◌, not, nat_le}
use Rattle.std.specs.Prelude.{if◌then◌else◌, bit_and, bit_or, bit_xor}
use Rattle.sx_alu.specs.declared.flags.Flags.{Flags}
use Rattle.sx_alu.specs.declared.calculation.Calc.{Calc}
use Rattle.sx_alu.specs.declared.calculation.Calc.TheVariants.{Add, AddCarry, Sub, SubCarry, And}
use Rattle.sx_alu.specs.declared.calculation.Calc.TheVariants.{AndNot, Or, Xor, Rrc, Rra, Swap}
use Rattle.sx_alu.specs.declared.calculation.Calc.TheVariants.{Extend}
use Rattle.lemmas.specs.Truth.{truth}

-- how many numbers a word or a byte has
abbrev pub limit : Bool → ℕ
limit wide = if wide then 65536 else 256

-- the numbers from here on are negative
abbrev pub half : Bool → ℕ
half wide = if wide then 32768 else 128

-- whether the top bit is set, so that the value is negative as a signed number
abbrev pub is_negative : Bool → ℕ → Bool
is_negative wide x = nat_le (half wide) x

-- every bit the other way
abbrev pub inverse : Bool → ℕ → ℕ
inverse wide x = limit wide - 1 - x

-- exclusive or
abbrev pub differ : Bool → Bool → Bool
differ a b = if a then not b else b

-- a result with Z and N of it, and C and V as given
abbrev pub with_flags : Bool → ℕ → Bool → Bool → ℕ × Flags
with_flags wide r c v = (r, record { c = c; z = r == 0; n = is_negative wide r; v = v })

-- a sum cut to its width; C is the carry out of it
abbrev pub carried : Bool → ℕ → Bool → ℕ × Flags
carried wide sum v = with_flags wide (sum % limit wide) (nat_le (limit wide) sum) v

-- V where both operands have one sign and the result has the other
abbrev pub sum_row : Bool → ℕ → ℕ → ℕ → ℕ × Flags
sum_row wide s d carry =
    let sum = d + s + carry in
    let one_sign = not (differ (is_negative wide d) (is_negative wide s)) in
    carried wide sum (one_sign && differ (is_negative wide (sum % limit wide)) (is_negative wide d))

-- the destination plus the source's inverse; V where the operands differ in sign and the result's
-- sign isn't the destination's
abbrev pub difference_row : Bool → ℕ → ℕ → ℕ → ℕ × Flags
difference_row wide s d carry =
    let sum = d + inverse wide s + carry in
    let two_signs = differ (is_negative wide d) (is_negative wide s) in
    carried wide sum (two_signs && differ (is_negative wide (sum % limit wide))
    (is_negative wide d))

-- C is "not zero"
abbrev pub tested : Bool → ℕ → Bool → ℕ × Flags
tested wide r v = with_flags wide r (not (r == 0)) v

-- a shift right by one, with a bit that enters at the top; C is the bit that leaves
abbrev pub shifted : Bool → ℕ → Bool → ℕ × Flags
shifted wide s top = with_flags wide (s / 2 + truth top * half wide) (s % 2 == 1) false

-- bit 7 in all bits above it
abbrev pub extended : ℕ → ℕ
extended s = s % 256 + truth (is_negative false (s % 256)) * 0xff00

-- the result and the flags of a calculation on a source s and a destination d of its width
abbrev pub row : Calc → Bool → ℕ → ℕ → Flags → ℕ × Flags
row Add wide s d f = sum_row wide s d 0
row AddCarry wide s d f = sum_row wide s d (truth f.c)
row Sub wide s d f = difference_row wide s d 1
row SubCarry wide s d f = difference_row wide s d (truth f.c)
row And wide s d f = tested wide (bit_and d s) false
row AndNot wide s d f = (bit_and d (inverse wide s), f)
row Or wide s d f = (bit_or d s, f)
row Xor wide s d f = tested wide (bit_xor d s) (is_negative wide d && is_negative wide s)
row Rrc wide s d f = shifted wide s f.c
row Rra wide s d f = shifted wide s (is_negative wide s)
row Swap wide s d f = (s % 256 * 256 + s / 256, f)
row Extend wide s d f = tested wide (extended s) false
