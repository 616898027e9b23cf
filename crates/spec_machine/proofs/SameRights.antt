-- Two tables that let code reach the same bytes let it reach the same ranges.
use Rattle.std.proofs.Common.{◌≡◌, ℕ, zero, suc, ◌+◌, Bool, true, false, ◌&&◌, List, [], ◌∷◌, refl, ap₂}
use Rattle.sx_rules.specs.declared.access.Access.{Access}
use Rattle.sx_rules.specs.declared.section.Section.{Section}
use Rattle.sx_rules.specs.Access.{may}
use Rattle.spec_machine.specs.Memory.{even}
use Rattle.spec_machine.specs.Run.{may_at, may_each, may_range}

module _ (xs ys : List Section) (own : ℕ) (same : (access : Access) (at : ℕ) → may ys own access at ≡ may xs own access at) where
  pub same_at : (wide : Bool) (access : Access) (at : ℕ) → may_at wide ys own access at ≡ may_at wide xs own access at
  same_at true access at = ap₂ (λ b c. b && c) (same access (even at)) (same access (even at + 1))
  same_at false access at = same access at

  pub same_range : (access : Access) (at n : ℕ) → may_range ys own access at n ≡ may_range xs own access at n
  same_range access at zero = refl
  same_range access at (suc n) = ap₂ (λ b c. b && c) (same access (at + n)) (same_range access at n)

  pub same_each : (access : Access) (at : ℕ) (bs : List ℕ) → may_each ys own access at bs ≡ may_each xs own access at bs
  same_each access at [] = refl
  same_each access at (b ∷ bs) = ap₂ (λ b c. b && c) (same access at) (same_each access (at + 1) bs)
