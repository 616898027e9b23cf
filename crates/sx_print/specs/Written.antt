-- What printing a part adds to a text.
use Rattle.std.specs.Prelude.{◌≡◌, ℕ, Bool, true, ◌&&◌, List, [], ◌∷◌, ◌++◌, nat_le}
use Rattle.sx_print.specs.Pieces.{Piece, name, number, quoted, indent, text_of}

-- each number is one of 16 bits
abbrev pub is_short : Piece → Bool
is_short (number n g) = nat_le n 65535
is_short (name x g) = true
is_short (quoted k g) = true
is_short indent = true

-- each number among the pieces is a word
abbrev pub are_short : List Piece → Bool
are_short [] = true
are_short (p ∷ ps) = is_short p && are_short ps

-- the first text with the one part still to come is the second text with the other, whatever
-- follows
pub record Goes (before : List ℕ) (left : List Piece
    → List Piece) (after : List ℕ) (then : List Piece → List Piece) : Type 0 where
  pub text : (rest : List Piece) → before ++ text_of (left rest) ≡ after ++ text_of (then rest)
  pub short : (rest : List Piece) → are_short (then rest) ≡ true → are_short (left rest) ≡ true

-- the part was written
abbrev pub Wrote : List ℕ → (List Piece → List Piece) → List ℕ → Type 0
Wrote before part after = Goes before part after (λ rest. rest)
