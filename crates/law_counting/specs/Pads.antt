-- A cipher instead of a pad: the same count.
use Rattle.std.specs.Prelude.{◌≡◌, ℕ, Bool, List, [], ◌∷◌, bit_xor}
use Rattle.law_counting.specs.Counting.{IsTable, count}

-- each value exclusive or the value of the key beside it
abbrev pub mixed : List ℕ → List ℕ → List ℕ
mixed [] t = []
mixed (k ∷ ks) [] = []
mixed (k ∷ ks) (v ∷ vs) = bit_xor k v ∷ mixed ks vs

-- Of all pads as many make a cipher that passes as there are ciphers that pass, whatever the body.
abbrev pub CiphersAreRandom : Type 0
CiphersAreRandom = (n : ℕ) (body : List ℕ) (p : List ℕ → Bool) → IsTable n 256 body
    → count n 256 (λ pad. p (mixed body pad)) ≡ count n 256 p
