-- Each text has exactly one reading.
use Rattle.std.specs.Prelude.{◌≡◌, ℕ, List}
use Rattle.sx_lex.specs.declared.tokens.Place.{Place}
use Rattle.sx_lex.specs.declared.tokens.Placed.{Placed}
use Rattle.sx_lex.specs.Lexed.{Lexed}

-- a text has no two readings
abbrev pub OneReading : Type 0
OneReading = (at end last : Place) (bs : List ℕ) (ts us : List Placed) → Lexed at bs ts end
    → Lexed at bs us last → (ts ≡ us) × (end ≡ last)

-- each text has a reading
abbrev pub HasReading : Type 0
HasReading = (at : Place) (bs : List ℕ) → (ts : List Placed) × (end : Place) × Lexed at bs ts end
