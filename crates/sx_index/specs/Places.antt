-- Where a name is in a list.
use Rattle.std.specs.Prelude.{ℕ, List, position, Option}
use Rattle.std.specs.Str.{bytes_eq}

-- the place of a name in its list
abbrev pub place_of : List (List ℕ) → List ℕ → Option ℕ
place_of names text = position (λ name. bytes_eq name text) names
