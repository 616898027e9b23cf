-- Each list of choices of other keys is a moving of keys.
use Rattle.std.specs.Prelude.{◌≡◌, ◌≢◌, ◌⊎◌, bytes_eq, ℕ, ◌<◌, if◌then◌else◌}
use Rattle.std.specs.Prelude.{List, [], ◌∷◌, length, All}
use Rattle.law_connections.specs.Unlinks.{IsMoving}

-- a key, and one in its place
pub record Choice : Type 0 where
  pub old : List ℕ
  pub new : List ℕ

-- each of two keys in the other's place
abbrev pub exchanged : Choice → List ℕ → List ℕ
exchanged c k = if bytes_eq k c.old then c.new else if bytes_eq k c.new then c.old else k

-- one choice after the other
abbrev pub chosen : List Choice → List ℕ → List ℕ
chosen [] k = k
chosen (c ∷ cs) k = chosen cs (exchanged c k)

-- and back
abbrev pub unchosen : List Choice → List ℕ → List ℕ
unchosen [] k = k
unchosen (c ∷ cs) k = exchanged c (unchosen cs k)

-- each choice is of two keys of bytes, of one length
abbrev pub AreKeys : List Choice → Type 0
AreKeys [] = Unit {0}
AreKeys (c ∷ cs) = (length c.new ≡ length c.old) × All (λ b. b < 256) c.old
    × All (λ b. b < 256) c.new × AreKeys cs

-- the key is in none of the choices
abbrev pub IsNotIn : List Choice → List ℕ → Type 0
IsNotIn [] k = Unit {0}
IsNotIn (c ∷ cs) k = (k ≢ c.old) × (k ≢ c.new) × IsNotIn cs k

-- no two keys of the choices are the same, but that a choice may be of a key for itself
abbrev pub AreDistinct : List Choice → Type 0
AreDistinct [] = Unit {0}
AreDistinct (c ∷ cs) = IsNotIn cs c.old × IsNotIn cs c.new × AreDistinct cs

-- the choice is one of these
abbrev pub IsChosen : List Choice → Choice → Type 0
IsChosen [] x = ⊥
IsChosen (c ∷ cs) x = (x ≡ c) ⊎ IsChosen cs x

-- Every list of choices is a moving of keys; if no two keys are the same each key gets the
-- chosen one; and a key in none of them stays.
abbrev pub ChoicesMove : Type 0
ChoicesMove = (cs : List Choice) → AreKeys cs
    → IsMoving (chosen cs) (unchosen cs)
    × (AreDistinct cs → (x : Choice) → IsChosen cs x → chosen cs x.old ≡ x.new)
    × ((k : List ℕ) → IsNotIn cs k → chosen cs k ≡ k)
