-- From this state a system comes to a goal within a bound, and until then a fact holds.
use Rattle.std.specs.Prelude.{◌≡◌, ℕ, ◌+◌, ◌≤◌}

-- one step: the next state, or an end
pub data Stepped (S V : Type 0) : Type 0 where
  Goes : S → Stepped S V
  Stops : V → Stepped S V

-- Within a cost of n, where each step has its own, the system comes to a state of Q, or it ends
-- with a v of which B holds; each state before has P. B is said of the state before the last step.
pub data Comes (S V : Type 0) (step : S → Stepped S V) (cost : S → ℕ) (P : S → Type 0) (B : S → V
    → Type 0) (Q : S → Type 0) : ℕ → S → Type 0 where
  Here : {n : ℕ} {s : S} → Q s → Comes S V step cost P B Q n s
  Next : {k n : ℕ} {s t : S} → P s → step s ≡ Goes t → cost s + k ≤ n
      → Comes S V step cost P B Q k t → Comes S V step cost P B Q n s
  Ends : {n : ℕ} {s : S} {v : V} → P s → step s ≡ Stops v → cost s ≤ n → B s v
      → Comes S V step cost P B Q n s
