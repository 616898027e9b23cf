-- Each line of the workload keeps the rules.
use Rattle.std.proofs.Common.{◌≡◌, ℕ, zero, suc, ◌+◌, ◌-◌, ◌*◌, ◌/◌, ◌%◌, ◌<◌, ◌≤◌, Bool, true, false, nat_lt, codes, decimal, List, [], ◌∷◌, ◌++◌, refl, sym, ap, subst, arith}
use Rattle.std.specs.Prelude.{Result, Ok, IsOk, is_ok, if◌then◌else◌}
use Rattle.std.specs.List.{list_all}
use Rattle.std.proofs.lemmas.List.{append-nil}
use Rattle.std.proofs.lemmas.Bool.{and_parts}
use Rattle.sx_asm.specs.Assembled.{assembled}
use Rattle.sx_io.specs.Numbers.{number_of}
use Rattle.sx_sched.specs.declared.lines.LineError.{LineError}
use Rattle.sx_sched.specs.Lines.{Sense, Give}
use Rattle.sx_sched.specs.Words.{text_behind, words_of}
use Rattle.sx_sched.specs.Reading.{◌>>=◌, said_line, said_in}
use Rattle.sx_bulk.specs.Bulk.{setup, event, line, line_at}
use Rattle.sx_bulk.specs.Laws.{names, WellFormed}
use Rattle.sx_sched.proofs.Spaced.{is_word, spaced, words_read}
use Rattle.sx_sched.proofs.Decimals.{decimal_word, number_said}

abbrev IsGood : List ℕ → Type 0
IsGood text = IsOk (said_line assembled names text)

-- a line of words, where they say one whatever text follows them
good : (w : List ℕ) (ws : List (List ℕ)) → list_all is_word (w ∷ ws) ≡ true → ((t : List ℕ) → IsOk (said_in assembled names t (w ∷ ws))) → IsGood (w ++ spaced ws)
unfolding said_line
good w ws words says =
    let text = w ++ spaced ws in
    subst (λ (v : List (List ℕ)). IsOk (said_in assembled names (text_behind 3 text) v)) (sym (words_read w ws words)) (says (text_behind 3 text))

-- The lines that have a number are proved from their words, and the others are computed.

sense : (v : ℕ) → v ≤ 32767 → IsGood (codes "sense light " ++ decimal v)
unfolding names
sense v h =
    let text : codes "sense" ++ spaced (codes "light" ∷ decimal v ∷ []) ≡ codes "sense light " ++ decimal v =
    ap (λ (ds : List ℕ). codes "sense light " ++ ds) (append-nil (decimal v)) in
    let words : list_all is_word (codes "sense" ∷ codes "light" ∷ decimal v ∷ []) ≡ true = rw (decimal_word v (omega (arith, h))) refl in
    subst IsGood text (good (codes "sense") (codes "light" ∷ decimal v ∷ []) words (λ t.
    subst (λ (r : Result ℕ LineError). IsOk (r >>= (λ value. Ok (Sense 0 value)))) (sym (number_said 32767 v h (omega (arith, h)))) refl))

give_a : (n : ℕ) → n ≤ 4294967295 → IsGood (codes "give " ++ decimal n ++ codes " a 0x300")
unfolding names number_of
give_a n h =
    let words : list_all is_word (codes "give" ∷ decimal n ∷ codes "a" ∷ codes "0x300" ∷ []) ≡ true = rw (decimal_word n (omega (arith, h))) refl in
    good (codes "give") (decimal n ∷ codes "a" ∷ codes "0x300" ∷ []) words (λ t.
    subst (λ (r : Result ℕ LineError). IsOk (r >>= (λ packet. Ok (Give packet 0 768)))) (sym (number_said 4294967295 n h (omega (arith, h)))) refl)

give_b : (n : ℕ) → n ≤ 4294967295 → IsGood (codes "give " ++ decimal n ++ codes " b 0x300")
unfolding names number_of
give_b n h =
    let words : list_all is_word (codes "give" ∷ decimal n ∷ codes "b" ∷ codes "0x300" ∷ []) ≡ true = rw (decimal_word n (omega (arith, h))) refl in
    good (codes "give") (decimal n ∷ codes "b" ∷ codes "0x300" ∷ []) words (λ t.
    subst (λ (r : Result ℕ LineError). IsOk (r >>= (λ packet. Ok (Give packet 1 768)))) (sym (number_said 4294967295 n h (omega (arith, h)))) refl)

-- each of these lines keeps the rules
infixr 10 ◌also◌
data AreGood : List (List ℕ) → Type 0 where
  no_more : AreGood []
  ◌also◌ : {text : List ℕ} {more : List (List ℕ)} → IsGood text → AreGood more → AreGood (text ∷ more)

blank : IsGood []
unfolding said_line words_of
blank = refl

-- a line after their end is blank
good_at : (those : List (List ℕ)) (k : ℕ) → AreGood those → IsGood (line_at those k)
good_at those k no_more = blank
good_at those zero (h also hs) = h
good_at those (suc k) (◌also◌ {more = more} h hs) = good_at more k hs

are_good : (those : List (List ℕ)) → list_all (λ text. is_ok (said_line assembled names text)) those ≡ true → AreGood those
are_good [] h = no_more
are_good (text ∷ more) h =
    let rest : Bool = list_all (λ text. is_ok (said_line assembled names text)) more in
    (and_parts (is_ok (said_line assembled names text)) rest h).0 also are_good more (and_parts (is_ok (said_line assembled names text)) rest h).1

setup_good : AreGood setup
unfolding said_line words_of names number_of setup
setup_good = are_good setup refl

event_good : (i : ℕ) → i < 8000 → AreGood (event i)
unfolding said_line words_of names number_of event
event_good i h =
    sense ((37 * i) % 200) (omega arith)
    also refl also refl also give_a (10 + 2 * i) (omega (arith, h))
    also refl also refl also give_b (11 + 2 * i) (omega (arith, h))
    also refl
    also no_more

pub well_formed : WellFormed
unfolding line
well_formed i h = go (nat_lt i 26)
  where
    go : (b : Bool) → IsGood (if b then line_at setup i else line_at (event ((i - 26) / 8)) ((i - 26) % 8))
    go true = good_at setup i setup_good
    go false = good_at (event ((i - 26) / 8)) ((i - 26) % 8) (event_good ((i - 26) / 8) (omega (arith, h)))
