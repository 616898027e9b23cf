-- Instructions in memory: how they read, how they are put together, and when they stay.
use Rattle.std.proofs.Common.{◌≡◌, ℕ, suc, ◌+◌, ◌*◌, ◌%◌, ◌<◌, ◌≤◌, List, [], ◌∷◌, ◌++◌, length, take, refl, ap, sym, ◌∙◌, arith, length-append, Some, ◌↔◌}
use Rattle.sx_isa.specs.declared.instruction.Instr.{Instr}
use Rattle.sx_isa.specs.Spelling.{spelling}
use Rattle.sx_isa.specs.Instructions.{BeginsWith}
use Rattle.sx_isa.specs.Reading.{instruction_at}
use Rattle.sx_isa.specs.Memory.{even, word}
use Rattle.sx_isa.specs.Standing.{word_at, WordsStand, InstructionStands, AllStand, AreInstructions, words_of}
use Rattle.sx_isa.proofs.Spelled.{reads, spelling_short}

pub even_same : (a : ℕ) → a % 2 ≡ 0 → even a ≡ a
even_same a e = omega (arith, e)

-- an address counts modulo 65,536
word_same : (bytes : List ℕ) (a b : ℕ) → a % 65536 ≡ b % 65536 → word_at bytes a ≡ word_at bytes b
word_same bytes a b e = ap (λ (i : ℕ). word bytes i) e

words_same : (bytes : List ℕ) (ws : List ℕ) (a b : ℕ) → a % 65536 ≡ b % 65536 → WordsStand bytes a ws →
    WordsStand bytes b ws
words_same bytes [] a b e h = tt
words_same bytes (w ∷ ws) a b e h =
    (word_same bytes b a (sym e) ∙ h.0, words_same bytes ws (a + 2) (b + 2) (omega arith) h.1)

pub all_same : (bytes : List ℕ) (is : List Instr) (a b : ℕ) → a % 65536 ≡ b % 65536 →
    AllStand bytes a is → AllStand bytes b is
all_same bytes [] a b e h = tt
all_same bytes (i ∷ is) a b e h =
    ((h.0.0, words_same bytes (spelling i) a b e h.0.1), all_same bytes is (a + 2 * length (spelling i)) (b + 2 * length (spelling i)) (omega arith) h.1)

take_words : (bytes : List ℕ) (a : ℕ) (ws : List ℕ) → length ws ≤ 3 → WordsStand bytes a ws →
    take (length ws) (word_at bytes a ∷ word_at bytes (a + 2) ∷ word_at bytes (a + 4) ∷ []) ≡ ws
take_words bytes a [] h s = refl
take_words bytes a (x ∷ []) h s = ap (λ v. v ∷ []) s.0
take_words bytes a (x ∷ y ∷ []) h s = let p = s.0 in let q = s.1.0 in cc
take_words bytes a (x ∷ y ∷ z ∷ []) h s =
    let p = s.0 in let q = s.1.0 in
    let r : word_at bytes (a + 4) ≡ z = word_same bytes (a + 4) (a + 2 + 2) (omega arith) ∙ s.1.1.0 in
    cc
take_words bytes a (x ∷ y ∷ z ∷ v ∷ ws) h s = absurd (omega arith)

pub stands_begins : (bytes : List ℕ) (a : ℕ) (i : Instr) → InstructionStands bytes a i →
    BeginsWith (word_at bytes a ∷ word_at bytes (a + 2) ∷ word_at bytes (a + 4) ∷ []) i (length (spelling i))
stands_begins bytes a i h = (h.0, refl, take_words bytes a (spelling i) (spelling_short i) h.1)

pub stands_reads : (bytes : List ℕ) (a : ℕ) (i : Instr) → InstructionStands bytes a i →
    instruction_at (word_at bytes a) (word_at bytes (a + 2)) (word_at bytes (a + 4)) ≡ Some (i, length (spelling i))
stands_reads bytes a i h = reads _ _ _ i (length (spelling i)) (stands_begins bytes a i h)

words_append : (bytes : List ℕ) (ws vs : List ℕ) (a : ℕ) →
    WordsStand bytes a (ws ++ vs) ↔ (WordsStand bytes a ws × WordsStand bytes (a + 2 * length ws) vs)
words_append bytes [] vs a = (
  λ h. (tt, words_same bytes vs a (a + 2 * 0) (omega arith) h),
  λ h. words_same bytes vs (a + 2 * 0) a (omega arith) h.1,
)
words_append bytes (w ∷ ws) vs a =
    let more = words_append bytes ws vs (a + 2) in (
      λ h. (let rest = more.0 h.1 in ((h.0, rest.0), words_same bytes vs (a + 2 + 2 * length ws) (a + 2 * suc (length ws)) (omega arith) rest.1)),
      λ h. (h.0.0, more.1 (h.0.1, words_same bytes vs (a + 2 * suc (length ws)) (a + 2 + 2 * length ws) (omega arith) h.1)),
    )

pub all_words : (bytes : List ℕ) (is : List Instr) (a : ℕ) →
    AllStand bytes a is ↔ (AreInstructions is × WordsStand bytes a (words_of is))
all_words bytes [] a = (λ h. (tt, tt), λ h. tt)
all_words bytes (i ∷ is) a =
    let more = all_words bytes is (a + 2 * length (spelling i)) in
    let both = words_append bytes (spelling i) (words_of is) a in (
      λ h. (let rest = more.0 h.1 in ((h.0.0, rest.0), both.1 (h.0.1, rest.1))),
      λ h. (let parts = both.0 h.1 in ((h.0.0, parts.0), more.1 (h.0.1, parts.1))),
    )

pub all_append : (bytes : List ℕ) (is js : List Instr) (a : ℕ) →
    AllStand bytes a (is ++ js) ↔ (AllStand bytes a is × AllStand bytes (a + 2 * length (words_of is)) js)
all_append bytes [] js a = (
  λ h. (tt, all_same bytes js a (a + 2 * 0) (omega arith) h),
  λ h. all_same bytes js (a + 2 * 0) a (omega arith) h.1,
)
all_append bytes (i ∷ is) js a =
    let m = length (spelling i) in
    let more = all_append bytes is js (a + 2 * m) in
    let far : (a + 2 * m + 2 * length (words_of is)) % 65536 ≡
    (a + 2 * length (words_of (i ∷ is))) % 65536 = omega
    (arith, length-append (spelling i) (words_of is)) in (
      λ h. (let rest = more.0 h.1 in ((h.0, rest.0), all_same bytes js (a + 2 * m + 2 * length (words_of is)) (a + 2 * length (words_of (i ∷ is))) far rest.1)),
      λ h. (h.0.0, more.1 (h.0.1, all_same bytes js (a + 2 * length (words_of (i ∷ is))) (a + 2 * m + 2 * length (words_of is)) (sym far) h.1)),
    )

words_kept : (m n : List ℕ) (ws : List ℕ) (a : ℕ) →
    ((k : ℕ) → k < length ws → word_at m (a + 2 * k) ≡ word_at n (a + 2 * k)) → WordsStand m a ws →
    WordsStand n a ws
words_kept m n [] a same h = tt
words_kept m n (w ∷ ws) a same h = (
  word_same n a (a + 2 * 0) (omega arith) ∙
      (sym (same 0 (omega arith)) ∙ (word_same m (a + 2 * 0) a (omega arith) ∙ h.0)),
  words_kept m n ws (a + 2)
      (λ k below. word_same m (a + 2 + 2 * k) (a + 2 * suc k) (omega arith) ∙ (same (suc k) (omega arith) ∙ word_same n (a + 2 * suc k) (a + 2 + 2 * k) (omega arith))) h.1,
)

pub all_kept : (m n : List ℕ) (is : List Instr) (a : ℕ) →
    ((k : ℕ) → k < length (words_of is) → word_at m (a + 2 * k) ≡ word_at n (a + 2 * k)) →
    AllStand m a is → AllStand n a is
all_kept m n is a same h =
    let parts = (all_words m is a).0 h in (all_words n is a).1
    (parts.0, words_kept m n (words_of is) a same parts.1)
