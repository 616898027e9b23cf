-- The words of a line, and the text after some of them.
use Rattle.std.specs.Prelude.{ℕ, zero, suc, if◌then◌else◌, List, [], ◌∷◌, ◌++◌}
use Rattle.std.specs.Prelude.{Option, Some, None}
use Rattle.sx_lex.specs.Lexed.{is_space}

-- a word that has begun, before the words after it
abbrev pub ended_word : List ℕ → List (List ℕ) → List (List ℕ)
ended_word [] rest = rest
ended_word (b ∷ bs) rest = (b ∷ bs) ∷ rest

-- the words of a text after a word that has begun
abbrev pub words_behind : List ℕ → List ℕ → List (List ℕ)
words_behind begun [] = ended_word begun []
words_behind begun (b ∷ bs) =
    if is_space b then ended_word begun (words_behind [] bs) else words_behind (begun ++ b ∷ []) bs

-- the longest runs of bytes that aren't spaces or tabs, in order
unfoldable pub words_of : List ℕ → List (List ℕ)
words_of text = words_behind [] text

-- a text after the blanks that it begins with
abbrev pub past_blanks : List ℕ → List ℕ
past_blanks [] = []
past_blanks (b ∷ bs) = if is_space b then past_blanks bs else b ∷ bs

-- a text after the word that it begins with
abbrev pub past_word : List ℕ → List ℕ
past_word [] = []
past_word (b ∷ bs) = if is_space b then b ∷ bs else past_word bs

-- The text after this many words and the blanks that follow them. Blanks within it and at its end
-- are its own.
abbrev pub text_behind : ℕ → List ℕ → List ℕ
text_behind zero text = past_blanks text
text_behind (suc k) text = text_behind k (past_word (past_blanks text))

-- This many words: where there are as many, these.

-- exactly one word
abbrev pub one_word : List (List ℕ) → Option (List ℕ)
one_word (a ∷ []) = Some a
one_word words = None

-- exactly two words
abbrev pub two_words : List (List ℕ) → Option (List ℕ × List ℕ)
two_words (a ∷ b ∷ []) = Some (a, b)
two_words words = None

-- exactly three words
abbrev pub three_words : List (List ℕ) → Option (List ℕ × List ℕ × List ℕ)
three_words (a ∷ b ∷ c ∷ []) = Some (a, b, c)
three_words words = None

-- exactly four words
abbrev pub four_words : List (List ℕ) → Option (List ℕ × List ℕ × List ℕ × List ℕ)
four_words (a ∷ b ∷ c ∷ d ∷ []) = Some (a, b, c, d)
four_words words = None

-- two words before others
abbrev pub two_before : List (List ℕ) → Option (List ℕ × List ℕ)
two_before (a ∷ b ∷ c ∷ more) = Some (a, b)
two_before words = None
