-- Lines and stages on entries that are seen as others.
use Rattle.std.proofs.Common.{◌≡◌, ℕ, if◌then◌else◌, Bool, true, false, List, [], ◌∷◌, ◌++◌, length, map, Some, option_map, Result, Ok, Err, refl, ap}
use Rattle.std.proofs.lemmas.List.{map-append, length-map}
use Rattle.sx_entries.specs.Fault.{fault, nth, ◌>>=◌}
use Rattle.sx_entries.specs.Stage.{made_after}
use Rattle.sx_entries.specs.Lines.{entries, first_bad}
use Rattle.sx_entries.specs.declared.fault.Sort.{Sort}
use Rattle.sx_entries.specs.declared.fault.DeployFault.{DeployFault}

module _ {A B : Type 0} (v : A → B) where
  pub first_bad-map : (bad : List B → B → Bool) (earlier xs : List A) → first_bad (λ e x. bad (map v e) (v x)) earlier xs ≡ first_bad bad (map v earlier) (map v xs)
  first_bad-map bad earlier [] = refl
  first_bad-map bad earlier (x ∷ xs) =
      elim (bad (map v earlier) (v x)) as (λ t. (if t then Some (length earlier) else first_bad (λ e x. bad (map v e) (v x)) (earlier ++ x ∷ []) xs)
      ≡ (if t then Some (length (map v earlier)) else first_bad bad (map v earlier ++ v x ∷ []) (map v xs))) [
        | true ↦ rw (length-map earlier v) refl
        | false ↦ rw (first_bad-map bad (earlier ++ x ∷ []) xs, map-append v earlier (x ∷ [])) refl
      ]

  pub entries-map : (rule : ℕ) (sort : Sort) (bad : List B → B → Bool) (xs : List A) → entries rule sort (λ e x. bad (map v e) (v x)) xs ≡ entries rule sort bad (map v xs)
  entries-map rule sort bad xs = ap (option_map (λ n. fault rule (nth sort n))) (first_bad-map bad [] xs)

  pub made_after-map : {C : Type 0} (make : List C → B → Result C DeployFault) (done : List C) (xs : List A) → made_after (λ d x. make d (v x)) done xs ≡ made_after make done (map v xs)
  made_after-map make done [] = refl
  made_after-map make done (x ∷ xs) =
      elim (make done (v x)) as (λ r. (r >>= (λ b. made_after (λ d x. make d (v x)) (done ++ b ∷ []) xs)) ≡ (r >>= (λ b. made_after make (done ++ b ∷ []) (map v xs)))) [
        | Ok b ↦ made_after-map make (done ++ b ∷ []) xs
        | Err f ↦ refl
      ]
