-- The text after blanks and words.
use Rattle.std.proofs.Common.{◌≡◌, ℕ, zero, suc, ◌<◌, ◌≤◌, true, false, List, [], ◌∷◌, length, drop, get_or, refl, arith}
use Rattle.sx_lex.specs.Lexed.{is_space}
use Rattle.sx_sched.specs.Words.{past_blanks, past_word}

pub behind_blanks : (text : List ℕ) (i : ℕ) → i ≤ length text → ((k : ℕ) → k < i → is_space (get_or text k 0) ≡ true)
    → (i < length text → is_space (get_or text i 0) ≡ false) → drop i text ≡ past_blanks text
behind_blanks [] zero h f e = refl
behind_blanks [] (suc i) h f e = absurd (omega (arith, h))
behind_blanks (b ∷ bs) zero h f e = rw (e (omega arith)) refl
behind_blanks (b ∷ bs) (suc i) h f e =
    rw (f 0 (omega arith)) (behind_blanks bs i (omega (arith, h)) (λ k lt. f (suc k) (omega (arith, lt))) (λ lt. e (omega (arith, lt))))

pub behind_word : (text : List ℕ) (i : ℕ) → i ≤ length text → ((k : ℕ) → k < i → is_space (get_or text k 0) ≡ false)
    → (i < length text → is_space (get_or text i 0) ≡ true) → drop i text ≡ past_word text
behind_word [] zero h f e = refl
behind_word [] (suc i) h f e = absurd (omega (arith, h))
behind_word (b ∷ bs) zero h f e = rw (e (omega arith)) refl
behind_word (b ∷ bs) (suc i) h f e =
    rw (f 0 (omega arith)) (behind_word bs i (omega (arith, h)) (λ k lt. f (suc k) (omega (arith, lt))) (λ lt. e (omega (arith, lt))))
