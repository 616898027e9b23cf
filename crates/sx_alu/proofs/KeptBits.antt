-- The bits of the status register that are no flags, by a mask.
use Rattle.std.proofs.Common.{◌≡◌, ℕ, ◌+◌, ◌*◌, ◌/◌, ◌%◌, ◌<◌, arith, ap, sym, ◌∙◌}
use Rattle.std.specs.Prelude.{bit_and}
use Rattle.std.specs.Int.Bits.{and_zero_r}
use Rattle.std.proofs.lemmas.Nat.{and_shr, and_mask, and_assoc}
use Rattle.std.proofs.lemmas.Nat.Bits.{bit_at_and}

pub kept_bits : (n : ℕ) → n < 65536 → bit_and n 65272 ≡ n / 512 * 512 + n / 8 % 32 * 8
kept_bits n h =
    let x = bit_and n 65272 in
    let high : x / 512 ≡ n / 512 % 128 = and_shr n 65272 9 ∙ and_mask (n / 512) 7 in
    let overflow : x / 256 % 2 ≡ 0 = omega (arith, bit_at_and n 65272 8) in
    let middle : x / 8 % 32 ≡ n / 8 % 32 = sym (and_mask (x / 8) 5) ∙
    (ap (λ y. bit_and y 31) (and_shr n 65272 3) ∙ (and_assoc 31 (n / 8) 8159 ∙ and_mask (n / 8) 5)) in
    let low : x % 8 ≡ 0 = sym (and_mask x 3) ∙ (and_assoc 7 n 65272 ∙ and_zero_r n) in
    omega arith
