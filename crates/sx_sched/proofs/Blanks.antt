-- Words and the runs of bytes that they are.
use Rattle.std.proofs.Common.{◌≡◌, ℕ, zero, suc, ◌+◌, ◌<◌, ◌≤◌, true, false, List, [], ◌∷◌, ◌++◌, length, take, drop, get_or, refl, sym, ap, ◌∙◌, append_assoc, arith}
use Rattle.std.proofs.lemmas.List.{append-nil, get_or-drop}
use Rattle.sx_lex.specs.Lexed.{is_space}
use Rattle.sx_sched.specs.Words.{ended_word, words_behind, words_of}

parted : (begun : List ℕ) (b : ℕ) (bs : List ℕ) → is_space b ≡ true → words_behind begun (b ∷ bs) ≡ ended_word begun (words_behind [] bs)
parted begun b bs e = rw e refl

longer : (begun : List ℕ) (b : ℕ) (bs : List ℕ) → is_space b ≡ false → words_behind begun (b ∷ bs) ≡ words_behind (begun ++ b ∷ []) bs
longer begun b bs e = rw e refl

pub first_left : (text : List ℕ) (i : ℕ) → get_or (drop i text) 0 0 ≡ get_or text i 0
first_left text i = let e : i + 0 ≡ i = omega arith in get_or-drop i text 0 0 ∙ ap (λ (k : ℕ). get_or text k 0) e

-- blanks before a text separate no words
pub past_blanks : (text : List ℕ) (i : ℕ) → i ≤ length text → ((k : ℕ) → k < i → is_space (get_or text k 0) ≡ true) → words_of (drop i text) ≡ words_of text
unfolding words_of
past_blanks text zero h f = refl
past_blanks [] (suc i) h f = absurd (omega (arith, h))
past_blanks (b ∷ bs) (suc i) h f =
    past_blanks bs i (omega (arith, h)) (λ k lt. f (suc k) (omega (arith, lt))) ∙ sym (parted [] b bs (f 0 (omega arith)))

-- a word that has begun goes on to the first blank
goes_on : (begun text : List ℕ) (i : ℕ) → i ≤ length text → ((k : ℕ) → k < i → is_space (get_or text k 0) ≡ false)
    → (i < length text → is_space (get_or text i 0) ≡ true) → words_behind begun text ≡ ended_word (begun ++ take i text) (words_behind [] (drop i text))
goes_on begun [] zero h f e = rw append-nil refl
goes_on begun (b ∷ bs) zero h f e =
    let blank : is_space b ≡ true = e (omega arith) in
    parted begun b bs blank ∙ (rw append-nil (ap (ended_word begun) (sym (parted [] b bs blank))))
goes_on begun [] (suc i) h f e = absurd (omega (arith, h))
goes_on begun (b ∷ bs) (suc i) h f e =
    longer begun b bs (f 0 (omega arith))
    ∙ goes_on (begun ++ b ∷ []) bs i (omega (arith, h)) (λ k lt. f (suc k) (omega (arith, lt))) (λ lt. e (omega (arith, lt)))
    ∙ ap (λ (begun : List ℕ). ended_word begun (words_behind [] (drop i bs))) (append_assoc begun (b ∷ []) (take i bs))

-- the first word of a text that begins with one
pub first_word : (b : ℕ) (bs : List ℕ) (i : ℕ) → is_space b ≡ false → i ≤ length (b ∷ bs) → ((k : ℕ) → k < i → is_space (get_or (b ∷ bs) k 0) ≡ false)
    → (i < length (b ∷ bs) → is_space (get_or (b ∷ bs) i 0) ≡ true) → words_of (b ∷ bs) ≡ take i (b ∷ bs) ∷ words_of (drop i (b ∷ bs))
unfolding words_of
first_word b bs zero n h f e = absurd (let t : true ≡ false = sym (e (omega arith)) ∙ n in cc)
first_word b bs (suc i) n h f e = goes_on [] (b ∷ bs) (suc i) h f e

pub first_of : (text : List ℕ) (i : ℕ) → 0 < length text → is_space (get_or text 0 0) ≡ false → i ≤ length text → ((k : ℕ) → k < i → is_space (get_or text k 0) ≡ false)
    → (i < length text → is_space (get_or text i 0) ≡ true) → words_of text ≡ take i text ∷ words_of (drop i text)
first_of [] i l n h f e = absurd (omega (arith, l))
first_of (b ∷ bs) i l n h f e = first_word b bs i n h f e

pub no_words : (text : List ℕ) → length text ≡ 0 → words_of text ≡ []
unfolding words_of
no_words [] h = refl
no_words (b ∷ bs) h = absurd (omega (arith, h))
