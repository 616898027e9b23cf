-- What holds of each entry that a stage makes.
use Rattle.std.proofs.Common.{◌≡◌, ℕ, zero, suc, ◌<◌, List, [], ◌∷◌, ◌++◌, length, get_or, Result, Ok, Err, refl, subst, arith}
use Rattle.std.specs.List.{All}
use Rattle.sx_entries.specs.Fault.{◌>>=◌}
use Rattle.sx_entries.specs.Stage.{made_after}
use Rattle.sx_entries.specs.declared.fault.DeployFault.{DeployFault}

abbrev pub Each : {A : Type 0} → (A → Type 0) → List A → Type 0
Each P [] = Unit {0}
Each P (x ∷ xs) = P x × Each P xs

pub each-snoc : {A : Type 0} (P : A → Type 0) (xs : List A) (x : A) → Each P xs → P x → Each P (xs ++ x ∷ [])
each-snoc P [] x h p = (p, tt)
each-snoc P (y ∷ ys) x h p = (h.0, each-snoc P ys x h.1 p)

pub each-at : {A : Type 0} (P : A → Type 0) (xs : List A) (i : ℕ) (d : A) → Each P xs → i < length xs → P (get_or xs i d)
each-at P [] i d h k = absurd (omega arith)
each-at P (x ∷ xs) zero d h k = h.0
each-at P (x ∷ xs) (suc i) d h k = each-at P xs i d h.1 (omega arith)

pub all-each : {A : Type 0} (P : A → Type 0) (xs : List A) → Each P xs → All P xs
all-each P xs h i d k = each-at P xs i d h k

-- one stage and then the next: both gave a value
pub bind-Ok : {A B : Type 0} (r : Result A DeployFault) (f : A → Result B DeployFault) (y : B) → (r >>= f) ≡ Ok y → (x : A) × (r ≡ Ok x) × (f x ≡ Ok y)
bind-Ok (Ok x) f y h = (x, refl, h)
bind-Ok (Err e) f y h = absurd (cc)

-- what each turn keeps, on entries of which something holds, holds of what is made
module _ {A B : Type 0} (Q : A → Type 0) (P : List B → Type 0) (make : List B → A → Result B DeployFault)
    (keeps : (done : List B) (row : A) (b : B) → Q row → P done → make done row ≡ Ok b → P (done ++ b ∷ [])) where
  pub made-each : (done : List B) (rows : List A) (out : List B) → Each Q rows → P done → made_after make done rows ≡ Ok out → P out
  made-each done [] out q p h = let same : done ≡ out = cc in subst P same p
  made-each done (row ∷ rows) out q p h =
      let made = bind-Ok (make done row) (λ b. made_after make (done ++ b ∷ []) rows) out h in
      made-each (done ++ made.0 ∷ []) rows out q.1 (keeps done row made.0 q.0 p made.1) made.2
