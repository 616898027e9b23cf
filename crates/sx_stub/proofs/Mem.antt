-- Reads after writes of words and bytes.
use Rattle.std.proofs.Common.{◌≡◌, ◌≢◌, ℕ, zero, suc, ◌+◌, ◌*◌, ◌/◌, ◌%◌, ◌<◌, ◌≤◌, ◌⊎◌, inl, List, [], ◌∷◌, ◌++◌, length, get_or, set, take, ⊎_elim, refl, sym, ap, ◌∙◌, arith}
use Rattle.std.specs.Prelude.{All}
use Rattle.std.proofs.Math.Seq.{take-length}
use Rattle.std.proofs.lemmas.List.{get_or-set_same, get_or-set_other, length-set, take_more}
use Rattle.std.proofs.lemmas.List.Elements.{All-set, All-append}
use Rattle.std.proofs.lemmas.Bool.{cases_lt}
use Rattle.std.proofs.Math.ListN.{get_or-eq_default}
use Rattle.spec_machine.proofs.PublicKept.{put_other}
use Rattle.sx_isa.proofs.StandingLemmas.{even_same}
use Rattle.sx_isa.specs.Memory.{even}
use Rattle.spec_machine.specs.Memory.{word, put_word, bytes_from, put_bytes}

pub word_even : (m : List ℕ) (a : ℕ) → a % 2 ≡ 0 → word m a ≡ get_or m a 0 + 256 * get_or m (a + 1) 0
word_even m a e = ap (λ (b : ℕ). get_or m b 0 + 256 * get_or m (b + 1) 0) (even_same a e)

pub put_even : (m : List ℕ) (a v : ℕ) → a % 2 ≡ 0 → put_word m a v ≡ set (set m a (v % 256)) (a + 1) (v / 256)
put_even m a v e = ap (λ (b : ℕ). set (set m b (v % 256)) (b + 1) (v / 256)) (even_same a e)

pub get-put_other : (m : List ℕ) (a v b : ℕ) → a % 2 ≡ 0 → b ≢ a → b ≢ a + 1
    → get_or (put_word m a v) b 0 ≡ get_or m b 0
get-put_other m a v b e p q = ap (λ (l : List ℕ). get_or l b 0) (put_even m a v e) ∙ rw (get_or-set_other, get_or-set_other) refl

pub get-put_low : (m : List ℕ) (a v : ℕ) → a % 2 ≡ 0 → a < length m → get_or (put_word m a v) a 0 ≡ v % 256
get-put_low m a v e p = let ne : a ≢ a + 1 = omega arith in ap (λ (l : List ℕ). get_or l a 0) (put_even m a v e) ∙ rw (get_or-set_other, get_or-set_same) refl

pub get-put_high : (m : List ℕ) (a v : ℕ) → a % 2 ≡ 0 → a + 1 < length m → get_or (put_word m a v) (a + 1) 0 ≡ v / 256
get-put_high m a v e p = let le = length-set m a (v % 256) in let q : a + 1 < length (set m a (v % 256)) = omega arith in
    ap (λ (l : List ℕ). get_or l (a + 1) 0) (put_even m a v e) ∙ rw get_or-set_same refl

pub word-put_same : (m : List ℕ) (a v : ℕ) → a % 2 ≡ 0 → a + 1 < length m → word (put_word m a v) a ≡ v
word-put_same m a v e p =
    let lo = get-put_low m a v e (omega arith) in
    let hi = get-put_high m a v e p in
    word_even (put_word m a v) a e ∙ omega (arith, lo, hi)

-- the same two bytes are the same word
pub word_same : (m n : List ℕ) (a b : ℕ) → a % 2 ≡ 0 → b % 2 ≡ 0 → get_or n b 0 ≡ get_or m a 0
    → get_or n (b + 1) 0 ≡ get_or m (a + 1) 0 → word n b ≡ word m a
word_same m n a b e f lo hi = word_even n b f ∙ omega (arith, lo, hi) ∙ sym (word_even m a e)

pub word-put_other : (m : List ℕ) (a v b : ℕ) → a % 2 ≡ 0 → b % 2 ≡ 0 → b ≢ a → word (put_word m a v) b ≡ word m b
word-put_other m a v b e f p =
    word_same m (put_word m a v) b b f f (get-put_other m a v b e p (omega arith)) (get-put_other m a v (b + 1) e (omega arith) (omega arith))

-- each number of the list is a byte
abbrev pub AllBytes : List ℕ → Type 0
AllBytes m = All (λ b. b < 256) m

pub byte_at : (m : List ℕ) (k : ℕ) → AllBytes m → get_or m k 0 < 256
byte_at m k h = ⊎_elim (λ (p : k < length m). h k 0 p) (λ (p : length m ≤ k). rw (get_or-eq_default m 0 p) (omega arith)) (cases_lt k (length m))

pub word_lt : (m : List ℕ) (a : ℕ) → AllBytes m → word m a < 65536
word_lt m a h = let p = byte_at m (even a) h in let q = byte_at m (even a + 1) h in omega (arith, p, q)

pub AllBytes-put_word : (m : List ℕ) (a v : ℕ) → v < 65536 → AllBytes m → AllBytes (put_word m a v)
AllBytes-put_word m a v lt h =
    All-set (λ (b : ℕ). b < 256) (set m (even a) (v % 256)) (even a + 1) (v / 256) (omega arith) (All-set (λ (b : ℕ). b < 256) m (even a) (v % 256) (omega arith) h)

pub AllBytes-put_bytes : (m : List ℕ) (at : ℕ) (bs : List ℕ) → AllBytes m → AllBytes (put_bytes m at bs)
AllBytes-put_bytes m at [] h = h
AllBytes-put_bytes m at (b ∷ bs) h = AllBytes-put_bytes (set m at (b % 256)) (at + 1) bs (All-set (λ (b : ℕ). b < 256) m at (b % 256) (omega arith) h)

pub bytes_from_same : (m n : List ℕ) (a b k : ℕ) → ((i : ℕ) → i < k → get_or n (b + i) 0 ≡ get_or m (a + i) 0)
    → bytes_from n b k ≡ bytes_from m a k
unfolding bytes_from
bytes_from_same m n a b zero f = refl
bytes_from_same m n a b (suc k) f =
    let x = bytes_from_same m n a b k (λ i p. f i (omega arith)) in
    let y = f k (omega arith) in
    ap (λ (l : List ℕ). l ++ get_or n (b + k) 0 ∷ []) x ∙ ap (λ (v : ℕ). bytes_from m a k ++ v ∷ []) y

-- the first k bytes of a list
pub bytes_from_take : (bs : List ℕ) (k : ℕ) → k ≤ length bs → bytes_from bs 0 k ≡ take k bs
unfolding bytes_from
bytes_from_take bs zero le = refl
bytes_from_take bs (suc k) le =
    let x = bytes_from_take bs k (omega arith) in
    let e : suc k ≡ k + 1 = omega arith in
    ap (λ (l : List ℕ). l ++ get_or bs (0 + k) 0 ∷ []) x
    ∙ ap (λ (i : ℕ). take k bs ++ get_or bs i 0 ∷ []) (omega arith)
    ∙ sym (ap (λ (i : ℕ). take i bs) e ∙ take_more bs k 0 (omega arith))

-- what was written
pub get-put_bytes_in : (m : List ℕ) (at : ℕ) (bs : List ℕ) (i : ℕ) → AllBytes bs → i < length bs
    → at + length bs ≤ length m → get_or (put_bytes m at bs) (at + i) 0 ≡ get_or bs i 0
get-put_bytes_in m at [] i h lt le = absurd (omega (arith, lt))
get-put_bytes_in m at (b ∷ bs) zero h lt le =
    let p : b < 256 = h 0 0 (omega arith) in
    let here = put_other bs (set m at (b % 256)) (at + 1) (at + 0) (inl (omega arith)) in
    let e : at + 0 ≡ at = omega arith in
    here ∙ ap (λ (k : ℕ). get_or (set m at (b % 256)) k 0) e ∙ get_or-set_same m at (b % 256) 0 (omega (arith, le)) ∙ omega (arith, p)
get-put_bytes_in m at (b ∷ bs) (suc i) h lt le =
    let e : at + suc i ≡ at + 1 + i = omega arith in
    let len = length-set m at (b % 256) in
    ap (λ (k : ℕ). get_or (put_bytes (set m at (b % 256)) (at + 1) bs) k 0) e
    ∙ get-put_bytes_in (set m at (b % 256)) (at + 1) bs i (λ k d lt. h (suc k) d (omega arith)) (omega (arith, lt)) (omega (arith, le, len))

pub bytes_from_put : (m : List ℕ) (at : ℕ) (bs : List ℕ) → AllBytes bs → at + length bs ≤ length m
    → bytes_from (put_bytes m at bs) at (length bs) ≡ bs
bytes_from_put m at bs h le =
    bytes_from_same bs (put_bytes m at bs) 0 at (length bs) (λ i p. get-put_bytes_in m at bs i h p le ∙ ap (λ (k : ℕ). get_or bs k 0) (omega arith))
    ∙ bytes_from_take bs (length bs) (omega arith) ∙ take-length bs

pub AllBytes-bytes_from : (m : List ℕ) (at n : ℕ) → AllBytes m → AllBytes (bytes_from m at n)
unfolding bytes_from
AllBytes-bytes_from m at zero h = λ k d p. absurd (omega (arith, p))
AllBytes-bytes_from m at (suc n) h =
    All-append (λ (b : ℕ). b < 256) (bytes_from m at n) (get_or m (at + n) 0 ∷ []) (AllBytes-bytes_from m at n h) (one (get_or m (at + n) 0) (byte_at m (at + n) h))
  where
    one : (b : ℕ) → b < 256 → AllBytes (b ∷ [])
    one b p zero d q = p
    one b p (suc k) d q = absurd (omega (arith, q))
