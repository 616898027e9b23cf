-- Truth values: as numbers, and where one follows from another.
use Rattle.std.proofs.Common.{◌≡◌, ◌≤◌, Bool, true, false, ◌&&◌, ◌||◌, not, refl, arith}
use Rattle.lemmas.specs.Truth.{truth}

pub truth_small : (b : Bool) → truth b ≤ 1
truth_small true = omega arith
truth_small false = omega arith

pub or_none : (b : Bool) → (b || false) ≡ b
or_none true = refl
or_none false = refl

-- what never holds without another
pub and_not : (a b : Bool) → (a && not b) ≡ false → a ≡ true → b ≡ true
and_not a true n e = refl
and_not true false n e = absurd (cc)
and_not false false n e = absurd (cc)
