-- Numbers that are cut at 255.
use Rattle.std.proofs.Common.{◌≡◌, ℕ, true, false, nat_lt, min, refl, arith, inl, inr}
use Rattle.std.proofs.lemmas.Bool.{cases_Bool}
use Rattle.std.proofs.lemmas.Bool.Decides.{nat_tests}

pub many_cut : (n : ℕ) → nat_lt 16 (min n 255) ≡ nat_lt 16 n
many_cut n = elim (cases_Bool (nat_lt 16 n)) [
  | inl many ↦ (let cut : nat_lt 16 (min n 255) ≡ true = grind (arith, nat_tests, many) in rw (cut, many) refl)
  | inr few ↦ (let cut : nat_lt 16 (min n 255) ≡ false = grind (arith, nat_tests, few) in rw (cut, few) refl)
]
