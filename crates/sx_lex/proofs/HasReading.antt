-- Each text has a reading.
use Rattle.std.proofs.Common.{◌≡◌, ◌⊎◌, inl, inr, ℕ, zero, suc, ◌<◌, ◌≤◌, Bool, true, false, ◌==◌, List, [], ◌∷◌, length, take, drop, Option, Some, None, refl, sym, ap, ◌∙◌, subst, arith, length-drop}
use Rattle.std.proofs.lemmas.Bool.Decides.{nat_tests}
use Rattle.sx_lex.specs.declared.tokens.Kind.{Kind}
use Rattle.sx_lex.specs.declared.tokens.Kind.TheVariants.{Bad}
use Rattle.sx_lex.specs.declared.tokens.Place.{Place}
use Rattle.sx_lex.specs.declared.tokens.Placed.{Placed}
use Rattle.sx_lex.specs.Words.{IsLongest, NoToken, kind_of, line_length}
use Rattle.sx_lex.specs.Lexed.{along, below, is_space, begins_comment, Lexed, at_end, space, newline, comment, token, bad}
use Rattle.sx_lex.specs.Laws.{HasReading}

-- the longest token at a text's prefix
record Longest (text : List ℕ) : Type 0 where
  size : ℕ
  kind : Kind
  is_longest : IsLongest text size kind

-- no prefix longer than n bytes is a token
abbrev NoLonger : List ℕ → ℕ → Type 0
NoLonger text n = (m : ℕ) → n < m → m ≤ length text → kind_of (take m text) ≡ None

no_longer : (text : List ℕ) (n : ℕ) → kind_of (take (suc n) text) ≡ None → NoLonger text (suc n) → NoLonger text n
no_longer text n e none m l i = go (m == suc n) refl
  where
    go : (t : Bool) → (m == suc n) ≡ t → kind_of (take m text) ≡ None
    go true f = let same : m ≡ suc n = grind (arith, nat_tests, f) in ap (λ m. kind_of (take m text)) same ∙ e
    go false f = let more : suc n < m = grind (arith, nat_tests, f, l) in none m more i

no_token : (text : List ℕ) → NoLonger text 0 → NoToken text
no_token text none = record { none = λ m i. go m i }
  where
    go : (m : ℕ) → m ≤ length text → kind_of (take m text) ≡ None
    go zero i = refl
    go (suc m) i = none (suc m) (omega arith) i

-- the prefixes are tried from the longest on
longest_to : (text : List ℕ) (n : ℕ) → n ≤ length text → NoLonger text n → Longest text ⊎ NoToken text
longest_to text zero i none = inr (no_token text none)
longest_to text (suc n) i none = go (kind_of (take (suc n) text)) refl (λ more. longest_to text n (omega arith) more)
  where
    go : (o : Option Kind) → kind_of (take (suc n) text) ≡ o → (NoLonger text n → Longest text ⊎ NoToken text) → Longest text ⊎ NoToken text
    go (Some k) e again = inl (record { size = suc n; kind = k; is_longest = record { here = e; inside = i; longest = none } })
    go None e again = again (no_longer text n e none)

longest : (text : List ℕ) → Longest text ⊎ NoToken text
longest text = longest_to text (length text) (omega arith) (go)
  where
    go : NoLonger text (length text)
    go m l i = absurd (omega arith)

abbrev Reading : Place → List ℕ → Type 0
Reading at bs = (ts : List Placed) × (end : Place) × Lexed at bs ts end

-- a text of at most this many bytes
reading : (most : ℕ) (at : Place) (bs : List ℕ) → length bs ≤ most → Reading at bs
reading most at [] l = ([], at, at_end)
reading zero at (b ∷ bs) l = absurd (omega arith)
reading (suc most) at (b ∷ bs) l = go (is_space b) (b == 10) (begins_comment (b ∷ bs)) refl refl refl (λ at bs l. reading most at bs l)
  where
    -- what a byte or more leave is shorter
    shorter : (n : ℕ) → length (drop n bs) ≤ most
    shorter n = omega (arith, l, length-drop n bs)

    word : Longest (b ∷ bs) ⊎ NoToken (b ∷ bs) → is_space b ≡ false → (b == 10) ≡ false → begins_comment (b ∷ bs) ≡ false
        → ((at : Place) (rest : List ℕ) → length rest ≤ most → Reading at rest) → Reading at (b ∷ bs)
    word (inr none) s n c again = (record { kind = Bad; place = at } ∷ [], at, bad s n c none)
    word (inl w) s n c again = sized w.size w.kind w.is_longest again
      where
        sized : (n : ℕ) (k : Kind) → IsLongest (b ∷ bs) n k → ((at : Place) (rest : List ℕ) → length rest ≤ most → Reading at rest) → Reading at (b ∷ bs)
        sized zero k w again = absurd (let none : None ≡ Some k = w.here in cc)
        sized (suc n) k w again = let r = again (along at (suc n)) (drop n bs) (shorter n) in (record { kind = k; place = at } ∷ r.0, r.1, token w r.2)

    go : (s n c : Bool) → is_space b ≡ s → (b == 10) ≡ n → begins_comment (b ∷ bs) ≡ c → ((at : Place) (rest : List ℕ) → length rest ≤ most → Reading at rest) → Reading at (b ∷ bs)
    go true n c e f g again = let r = again (along at 1) bs (omega (arith, l)) in (r.0, r.1, space e r.2)
    go false true c e f g again =
        let same : b ≡ 10 = grind (arith, nat_tests, f) in
        let r = again (below at) bs (omega (arith, l)) in
        (r.0, r.1, subst (λ b. Lexed at (b ∷ bs) r.0 r.1) (sym same) (newline r.2))
    go false false true e f g again =
        let size : line_length (b ∷ bs) ≡ suc (line_length bs) = rw f refl in
        let r = again (along at (suc (line_length bs))) (drop (line_length bs) bs) (shorter (line_length bs)) in
        (r.0, r.1, comment g (subst (λ n. Lexed (along at n) (drop n (b ∷ bs)) r.0 r.1) (sym size) r.2))
    go false false false e f g again = word (longest (b ∷ bs)) e f g again

pub has_reading : HasReading
has_reading at bs = reading (length bs) at bs (omega arith)
