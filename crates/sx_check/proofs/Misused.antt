-- Whether a name is used as its own kind may be tested before whether it is known.
use Rattle.std.proofs.Common.{◌≡◌, Bool, true, false, ◌&&◌, not, refl}

pub well : (known usable : Bool) → usable ≡ true → false ≡ (known && not usable)
well true true h = refl
well false true h = refl
well known false h = absurd (cc)

pub badly : (known usable : Bool) → usable ≡ false → known ≡ (known && not usable)
badly true false h = refl
badly false false h = refl
badly known true h = absurd (cc)
