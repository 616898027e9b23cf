-- What it means that an index is one of a list of names.
use Rattle.std.specs.Prelude.{◌≡◌, ℕ, ◌<◌, ◌≤◌, List, [], ◌∷◌, ◌++◌, length, Some, None}
use Rattle.std.specs.Str.{bytes_eq}
use Rattle.indexmap.specs.IndexMap.{get}
use Rattle.sx_index.specs.Places.{place_of}
use Rattle.sx_index.specs.declared.index.NameIndex.{NameIndex}

-- the index gives the index of each name, and no name of the list is empty or too long for one
pub record IsNameIndex (index : NameIndex) (names : List (List ℕ)) : Type 0 where
  pub gives : (text : List ℕ) → get bytes_eq index.places text ≡ place_of names text
  pub sized : (text : List ℕ) (i : ℕ) → place_of names text ≡ Some i → (0 < length text)
      × (length text ≤ 16)

-- where the old index is one of a list, the new is one of the list with the name after it
abbrev pub GrowsIndex : NameIndex → NameIndex → List ℕ → ℕ → Type 0
GrowsIndex old new name place = (names : List (List ℕ)) → length names ≡ place
    → IsNameIndex old names → IsNameIndex new (names ++ name ∷ [])

-- where the old index is one of a list, so is the new
abbrev pub KeepsIndex : NameIndex → NameIndex → Type 0
KeepsIndex old new = (names : List (List ℕ)) → IsNameIndex old names → IsNameIndex new names

-- a list of which this is the index has no such name
abbrev pub IsNewTo : NameIndex → List ℕ → Type 0
IsNewTo index name = (names : List (List ℕ)) → IsNameIndex index names → place_of names name ≡ None
