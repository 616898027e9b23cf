-- Numbers: comparisons, and a number of two bytes.
use Rattle.std.proofs.Common.{◌≡◌, ℕ, suc, ◌+◌, ◌*◌, ◌/◌, ◌%◌, Bool, true, false, nat_lt, refl, arith}
use Rattle.std.proofs.lemmas.Bool.{lt-ltb, le-ltb, ltb-false, ltb-true}

pub less_by_one : (i n : ℕ) → nat_lt (1 + i) (suc n) ≡ nat_lt i n
less_by_one i n = go (nat_lt i n) refl
  where
    go : (t : Bool) → nat_lt i n ≡ t → nat_lt (1 + i) (suc n) ≡ t
    go true e = let l = ltb-true i n e in lt-ltb (1 + i) (suc n) (omega (arith, l))
    go false e = let l = ltb-false i n e in le-ltb (1 + i) (suc n) (omega (arith, l))

pub two_bytes : (n : ℕ) → n % 256 + 256 * (n / 256) ≡ n
two_bytes n = omega arith
