-- The tokens of a text and their places.
use Rattle.std.specs.Prelude.{◌≡◌, ℕ, ◌+◌, min, Bool, true, false, ◌||◌, ◌&&◌, List, [], ◌∷◌, drop}
use Rattle.std.specs.Prelude.{◌==◌}
use Rattle.sx_lex.specs.declared.tokens.Kind.{Kind}
use Rattle.sx_lex.specs.declared.tokens.Kind.TheVariants.{Bad}
use Rattle.sx_lex.specs.declared.tokens.Place.{Place}
use Rattle.sx_lex.specs.declared.tokens.Placed.{Placed}
use Rattle.sx_lex.specs.Words.{line_length, IsLongest, NoToken}

-- a number above the greatest is given as the greatest
abbrev pub up : ℕ → ℕ → ℕ
up n k = min (n + k) 4294967295

-- this many bytes further in the line
abbrev pub along : Place → ℕ → Place
along at n = record { line = at.line; column = up at.column n }

-- the first byte of the next line
abbrev pub below : Place → Place
below at = record { line = up at.line 1; column = 1 }

-- the place of a text's first byte
abbrev pub start : Place
start = record { line = 1; column = 1 }

-- a space or a tab; a carriage return outside a comment is no token
abbrev pub is_space : ℕ → Bool
is_space b = b == 32 || b == 9

-- two slashes, which begin a comment
abbrev pub begins_comment : List ℕ → Bool
begins_comment (a ∷ b ∷ bs) = a == 47 && b == 47
begins_comment _ = false

-- `Lexed at text tokens end`: the text that begins at this place has these tokens, and its reading
-- ends there
pub data Lexed : Place → List ℕ → List Placed → Place → Type 0 where
  at_end : {at : Place} → Lexed at [] [] at
  space : {at end : Place} {b : ℕ} {bs : List ℕ} {ts : List Placed} → is_space b ≡ true
      → Lexed (along at 1) bs ts end → Lexed at (b ∷ bs) ts end
  newline : {at end : Place} {bs : List ℕ} {ts : List Placed} → Lexed (below at) bs ts end
      → Lexed at (10 ∷ bs) ts end
  -- up to the end of the line, or of the text
  comment : {at end : Place} {bs : List ℕ} {ts : List Placed} → begins_comment bs ≡ true
      → Lexed (along at (line_length bs)) (drop (line_length bs) bs) ts end → Lexed at bs ts end
  token : {at end : Place} {n : ℕ} {bs : List ℕ} {k : Kind} {ts : List Placed} → IsLongest bs n k
      → Lexed (along at n) (drop n bs) ts end → Lexed at bs (record { kind = k; place = at } ∷ ts)
      end
  -- what is no token ends the reading
  bad : {at : Place} {b : ℕ} {bs : List ℕ} → is_space b ≡ false → (b == 10) ≡ false
      → begins_comment (b ∷ bs) ≡ false → NoToken (b ∷ bs)
      → Lexed at (b ∷ bs) (record { kind = Bad; place = at } ∷ []) at
