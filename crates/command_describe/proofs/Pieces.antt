-- What is appended piece by piece.
use Rattle.std.proofs.Common.{◌≡◌, ◌∙◌, ℕ, List, ◌++◌, append_assoc, ap, Result, Ok, Err}
use Rattle.std.specs.Prelude.{OnOk, if◌then◌else◌, is_ok}

pub first_word : (t0 t1 before word : List ℕ) → t1 ≡ t0 ++ before ++ word → t1 ≡ t0 ++ (before ++ word)
first_word t0 t1 before word e = e ∙ append_assoc t0 before word

-- a further word after these
pub next_word : (t0 t1 t2 words before word : List ℕ) → t1 ≡ t0 ++ words → t2 ≡ t1 ++ before ++ word → t2 ≡ t0 ++ (words ++ before ++ word)
next_word t0 t1 t2 words before word e f =
    f ∙ ap (λ (t : List ℕ). t ++ before ++ word) e ∙ ap (λ (t : List ℕ). t ++ word) (append_assoc t0 words before) ∙ append_assoc t0 (words ++ before) word

-- the newline after them
pub line_end : {A E : Type 0} (r : Result A E) (t0 t new words newline other : List ℕ) → t ≡ t0 ++ words → new ≡ (if is_ok r then t ++ newline else other)
    → OnOk r (new ≡ t0 ++ (words ++ newline))
line_end (Ok x) t0 t new words newline other e f = f ∙ ap (λ (t : List ℕ). t ++ newline) e ∙ append_assoc t0 words newline
line_end (Err x) t0 t new words newline other e f = tt
