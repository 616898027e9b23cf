-- The words of a line that has a space between two.
use Rattle.std.proofs.Common.{◌≡◌, ℕ, Bool, true, false, not, List, [], ◌∷◌, ◌++◌, refl, sym, ap, ◌∙◌, append_assoc}
use Rattle.std.specs.List.{list_all}
use Rattle.std.proofs.lemmas.List.{append-nil}
use Rattle.std.proofs.lemmas.Bool.{and_parts, not-true}
use Rattle.sx_lex.specs.Lexed.{is_space}
use Rattle.sx_sched.specs.Words.{ended_word, words_behind, words_of}

abbrev pub is_plain : ℕ → Bool
is_plain b = not (is_space b)

-- some bytes, and no blank
abbrev pub is_word : List ℕ → Bool
is_word [] = false
is_word (b ∷ bs) = list_all is_plain (b ∷ bs)

-- words, each after a space
abbrev pub spaced : List (List ℕ) → List ℕ
spaced [] = []
spaced (w ∷ ws) = 32 ∷ (w ++ spaced ws)

-- a word that has begun goes on
goes_on : (begun w rest : List ℕ) → list_all is_plain w ≡ true → words_behind begun (w ++ rest) ≡ words_behind (begun ++ w) rest
goes_on begun [] rest h = ap (λ (w : List ℕ). words_behind w rest) (sym (append-nil begun))
goes_on begun (b ∷ bs) rest h =
    let both = and_parts (is_plain b) (list_all is_plain bs) h in
    let plain : is_space b ≡ false = not-true (is_space b) both.0 in
    let step : words_behind begun (b ∷ (bs ++ rest)) ≡ words_behind (begun ++ b ∷ []) (bs ++ rest) = rw plain refl in
    step ∙ goes_on (begun ++ b ∷ []) bs rest both.1 ∙ ap (λ (w : List ℕ). words_behind w rest) (append_assoc begun (b ∷ []) bs)

closed_word : (w : List ℕ) (rest : List (List ℕ)) → is_word w ≡ true → ended_word w rest ≡ w ∷ rest
closed_word [] rest h = absurd (cc)
closed_word (b ∷ bs) rest h = refl

word_plain : (w : List ℕ) → is_word w ≡ true → list_all is_plain w ≡ true
word_plain [] h = refl
word_plain (b ∷ bs) h = h

parted : (begun bs : List ℕ) → words_behind begun (32 ∷ bs) ≡ ended_word begun (words_behind [] bs)
parted begun bs = refl

spaced_read : (begun : List ℕ) (ws : List (List ℕ)) → list_all is_word ws ≡ true → words_behind begun (spaced ws) ≡ ended_word begun ws
spaced_read begun [] h = refl
spaced_read begun (w ∷ ws) h =
    let both = and_parts (is_word w) (list_all is_word ws) h in
    let inner : words_behind [] (w ++ spaced ws) ≡ w ∷ ws =
    goes_on [] w (spaced ws) (word_plain w both.0) ∙ spaced_read w ws both.1 ∙ closed_word w ws both.0 in
    parted begun (w ++ spaced ws) ∙ ap (ended_word begun) inner

pub words_read : (w : List ℕ) (ws : List (List ℕ)) → list_all is_word (w ∷ ws) ≡ true → words_of (w ++ spaced ws) ≡ w ∷ ws
unfolding words_of
words_read w ws h =
    let both = and_parts (is_word w) (list_all is_word ws) h in
    goes_on [] w (spaced ws) (word_plain w both.0) ∙ spaced_read w ws both.1 ∙ closed_word w ws both.0
