-- How stretches of a run compose.
use Rattle.std.proofs.Common.{◌≡◌, ℕ, ◌+◌, ◌≤◌, ◌⊎◌, inl, inr, sym, ◌∙◌, subst, arith}
use Rattle.sx_image.specs.Reach.{Stepped, Goes, Stops, Comes, Here, Next, Ends}

module _ (S V : Type 0) (step : S → Stepped S V) (cost : S → ℕ) (P : S → Type 0) (B : S → V → Type 0) where
  -- one stretch and then another, where an end of the first stays an end
  pub and_then : (Q R : S → Type 0) (n m j : ℕ) (s : S) → n + m ≤ j → Comes S V step cost P B Q n s → ((t : S) → Q t → Comes S V step cost P B R m t) → Comes S V step cost P B R j s
  and_then Q R n m j s le (Here q) f = more R m j s (omega arith) (f s q)
    where
      more : (R : S → Type 0) (m j : ℕ) (s : S) → m ≤ j → Comes S V step cost P B R m s → Comes S V step cost P B R j s
      more R m j s le (Here q) = Here q
      more R m j s le (Next p e c r) = Next p e (omega arith) r
      more R m j s le (Ends p e c b) = Ends p e (omega arith) b
  and_then Q R n m j s le (Next {k = k} {t = t} p e c r) f = Next {k = k + m} p e (omega arith) (and_then Q R k m (k + m) t (omega arith) r f)
  and_then Q R n m j s le (Ends p e c b) f = Ends p e (omega arith) b

-- weaker facts, and a greater bound
pub weaken : (S V : Type 0) (step : S → Stepped S V) (cost : S → ℕ) (P P2 : S → Type 0) (B B2 : S → V → Type 0) (Q Q2 : S → Type 0) (n m : ℕ) (s : S) → n ≤ m → ((t : S) → P t → P2 t)
    → ((t : S) (v : V) → B t v → B2 t v) → ((t : S) → Q t → Q2 t) → Comes S V step cost P B Q n s → Comes S V step cost P2 B2 Q2 m s
weaken S V step cost P P2 B B2 Q Q2 n m s le f g h (Here q) = Here (h s q)
weaken S V step cost P P2 B B2 Q Q2 n m s le f g h (Next {k = k} {t = t} p e c r) = Next {k = k} (f s p) e (omega arith) (weaken S V step cost P P2 B B2 Q Q2 k k t (omega arith) f g h r)
weaken S V step cost P P2 B B2 Q Q2 n m s le f g h (Ends {v = v} p e c b) = Ends (f s p) e (omega arith) (g s v b)

-- what a run says of the next step, for a caller that takes the steps one by one
pub one_step : (S V : Type 0) (step : S → Stepped S V) (cost : S → ℕ) (P : S → Type 0) (B : S → V → Type 0) (Q : S → Type 0) (n : ℕ) (s t : S) → step s ≡ Goes t → Comes S V step cost P B Q n s
    → Q s ⊎ ((k : ℕ) × (cost s + k ≤ n) × P s × Comes S V step cost P B Q k t)
one_step S V step cost P B Q n s t e (Here q) = inl q
one_step S V step cost P B Q n s t e (Next {k = k} {t = u} p f c r) =
    let same : u ≡ t = cc in
    inr (k, c, p, subst (λ u. Comes S V step cost P B Q k u) same r)
one_step S V step cost P B Q n s t e (Ends {v = v} p f c b) = absurd (differ v t (sym f ∙ e))
  where
    differ : (v : V) (t : S) → ◌≡◌ {A = Stepped S V} (Stops v) (Goes t) → ⊥
    differ v t h = cc
