-- Texts that are read as tokens, part by part.
use Rattle.std.proofs.Common.{◌≡◌, ℕ, zero, suc, ◌<◌, Bool, true, false, ◌||◌, List, [], ◌∷◌, ◌++◌, refl, ap, ◌∙◌, arith, subst}
use Rattle.std.specs.Prelude.{◌==◌}
use Rattle.std.specs.List.{list_all}
use Rattle.std.proofs.lemmas.Bool.Decides.{nat_tests}
use Rattle.std.proofs.lemmas.Bool.{and_right, eqb-true}
use Rattle.sx_lex.specs.Lexed.{begins_comment}
use Rattle.sx_asm.specs.declared.written.Token.{Token}
use Rattle.sx_asm.specs.Tokens.{is_word_byte, joins, onto, runs, is_gap, token_of, tokens_in}
use Rattle.sx_asm.proofs.Runs.{run_of}

-- no word goes on here
abbrev pub NotWord : List ℕ → Type 0
NotWord [] = Unit {0}
NotWord (b ∷ bs) = is_word_byte b ≡ false

pub no : {A : Type 0} → false ≡ true → A
no h = absurd (cc)

pub all_first : (p : ℕ → Bool) (x : ℕ) (xs : List ℕ) → list_all p (x ∷ xs) ≡ true → p x ≡ true
all_first p x xs h = by_test (p x) refl
  where
    by_test : (b : Bool) → p x ≡ b → p x ≡ true
    by_test true e = e
    by_test false e = no (rw e at h)

pub all_rest : (p : ℕ → Bool) (x : ℕ) (xs : List ℕ) → list_all p (x ∷ xs) ≡ true → list_all p xs ≡ true
all_rest p x xs h = rw (all_first p x xs h) at h

not_hash : (a : ℕ) → is_word_byte a ≡ true → (a == 35) ≡ false
not_hash a h = by_test (a == 35) refl
  where
    by_test : (b : Bool) → (a == 35) ≡ b → (a == 35) ≡ false
    by_test false e = e
    by_test true e = no (rw (eqb-true a 35 e) at h)

not_slash : (a : ℕ) → is_word_byte a ≡ true → (a == 47) ≡ false
not_slash a h = by_test (a == 47) refl
  where
    by_test : (b : Bool) → (a == 47) ≡ b → (a == 47) ≡ false
    by_test false e = e
    by_test true e = no (rw (eqb-true a 47 e) at h)

not_gap : (a : ℕ) (bs : List ℕ) → is_word_byte a ≡ true → is_gap (a ∷ bs) ≡ false
not_gap a bs h = by_test (a == 32) (a == 9) refl refl
  where
    by_test : (s t : Bool) → (a == 32) ≡ s → (a == 9) ≡ t → is_gap (a ∷ bs) ≡ false
    by_test false false e f = rw (e, f) refl
    by_test true t e f = no (rw (eqb-true a 32 e) at h)
    by_test false true e f = no (rw (eqb-true a 9 f) at h)

not_comment : (a : ℕ) (bs : List ℕ) → is_word_byte a ≡ true → begins_comment (a ∷ bs) ≡ false
not_comment a [] h = refl
not_comment a (b ∷ bs) h = rw (not_slash a h) refl

apart : (a c : ℕ) → is_word_byte a ≡ true → is_word_byte c ≡ false → joins a c ≡ false
apart a c h n = rw (h, n, not_hash a h, not_slash a h) (and_right (a == c) false refl)

runs_word : (a : ℕ) (bs rest : List ℕ) → is_word_byte a ≡ true → list_all is_word_byte bs ≡ true → NotWord rest
    → runs (a ∷ (bs ++ rest)) ≡ (a ∷ bs) ∷ runs rest
runs_word a [] [] h k n = refl
runs_word a [] (c ∷ cs) h k n = rw (run_of c cs, apart a c h n) refl
runs_word a (b ∷ bs) rest h k n =
    let w : is_word_byte b ≡ true = all_first is_word_byte b bs k in
    let j : joins a b ≡ true = rw (h, w) refl in
    ap (onto a) (runs_word b bs rest w (all_rest is_word_byte b bs k) n) ∙ (rw j refl)

-- a sign that joins nothing
runs_sign : (c : ℕ) (rest : List ℕ) → is_word_byte c ≡ false → (c == 35 || c == 47) ≡ false → runs (c ∷ rest) ≡ (c ∷ []) ∷ runs rest
runs_sign c [] w s = refl
runs_sign c (d ∷ ds) w s =
    let j : joins c d ≡ false = rw (w, s) (and_right (c == d) false refl) in rw (run_of d ds, j) refl

runs_hash : (rest : List ℕ) → runs (35 ∷ 48 ∷ rest) ≡ (35 ∷ []) ∷ runs (48 ∷ rest)
runs_hash rest = rw (run_of 48 rest) refl

runs_hashes : (rest : List ℕ) → runs (35 ∷ 35 ∷ 48 ∷ rest) ≡ (35 ∷ 35 ∷ []) ∷ runs (48 ∷ rest)
runs_hashes rest = ap (onto 35) (runs_hash rest)

abbrev pub read_in : List ℕ → List Token
read_in text = tokens_in (runs text)

-- a word of word bytes alone
abbrev pub is_whole : List ℕ → Bool
is_whole [] = false
is_whole (a ∷ bs) = list_all is_word_byte (a ∷ bs)

pub reads_word : (w rest : List ℕ) (t : Token) → is_whole w ≡ true → token_of w ≡ t → NotWord rest → read_in (w ++ rest) ≡ t ∷ read_in rest
reads_word [] rest t h e n = no h
reads_word (a ∷ bs) rest t h e n =
    let w : is_word_byte a ≡ true = all_first is_word_byte a bs h in
    ap tokens_in (runs_word a bs rest w (all_rest is_word_byte a bs h) n)
    ∙ (rw (not_comment a bs w, not_gap a bs w) (ap (λ (x : Token). x ∷ read_in rest) e))

pub reads_blank : (rest : List ℕ) → read_in (32 ∷ rest) ≡ read_in rest
reads_blank rest = ap tokens_in (runs_sign 32 rest refl refl)

pub reads_sign : (c : ℕ) (rest : List ℕ) (t : Token) → is_word_byte c ≡ false → (c == 35 || c == 47) ≡ false → is_gap (c ∷ []) ≡ false → token_of (c ∷ []) ≡ t
    → read_in (c ∷ rest) ≡ t ∷ read_in rest
reads_sign c rest t w s g e = ap tokens_in (runs_sign c rest w s) ∙ (rw g (ap (λ (x : Token). x ∷ read_in rest) e))

pub reads_hash : (rest : List ℕ) → read_in (35 ∷ 48 ∷ rest) ≡ token_of (35 ∷ []) ∷ read_in (48 ∷ rest)
reads_hash rest = ap tokens_in (runs_hash rest)

pub reads_hashes : (rest : List ℕ) → read_in (35 ∷ 35 ∷ 48 ∷ rest) ≡ token_of (35 ∷ 35 ∷ []) ∷ read_in (48 ∷ rest)
reads_hashes rest = ap tokens_in (runs_hashes rest)

-- a property of each number below a bound
abbrev pub Each : ℕ → (ℕ → Type 0) → Type 0
Each zero P = Unit {0}
Each (suc k) P = P k × Each k P

pub each : (k : ℕ) (P : ℕ → Type 0) → Each k P → (r : ℕ) → r < k → P r
each zero P h r l = absurd (omega (arith, l))
each (suc k) P h r l = by_test (r == k) refl (each k P h.1 r)
  where
    by_test : (b : Bool) → (r == k) ≡ b → (r < k → P r) → P r
    by_test true e f = let g : k ≡ r = grind (arith, nat_tests, e) in subst P g h.0
    by_test false e f = f (grind (arith, nat_tests, e, l))
