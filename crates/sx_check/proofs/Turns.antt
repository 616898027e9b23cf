-- What a block sends may be cut before its turns are counted.
use Rattle.std.proofs.Common.{◌≡◌, ℕ, zero, suc, ◌*◌, ◌≤◌, Bool, true, false, nat_le, min, refl, arith}
use Rattle.std.proofs.Math.Nat.{suc-mul}
use Rattle.std.proofs.lemmas.Bool.Decides.{nat_tests}

pub within : (b : ℕ) → nat_le b 65536 ≡ true → min b 65536 ≡ b
within b h = grind (arith, nat_tests)

pub above : (b : ℕ) → nat_le b 65536 ≡ false → 65536 ≤ b
above b h = grind (arith, nat_tests)

pub sends_cut : (n b : ℕ) → min (n * min b 65536) 65536 ≡ min (n * b) 65536
sends_cut zero b = omega arith
sends_cut (suc n) b = go (nat_le b 65536) refl
  where
    go : (t : Bool) → nat_le b 65536 ≡ t → min (suc n * min b 65536) 65536 ≡ min (suc n * b) 65536
    go true h = rw (within b h) refl
    go false h = omega (arith, suc-mul n (min b 65536), suc-mul n b, above b h)
