-- What an invocation comes to is one thing.
use Rattle.std.proofs.Common.{◌≡◌, ℕ}
use Rattle.sx_rules.specs.declared.access.Violation.{Violation}
use Rattle.spec_invocation.specs.Progress.{Progress, Returns, Violates}

pub returns_same : (a b : ℕ) (x y : Progress) → Returns a x ≡ Returns b y → x ≡ y
returns_same a b x y h = cc

pub violates_returns : (v : Violation) (x : Progress) (b : ℕ) (y : Progress) → Violates v x ≡ Returns b y → ⊥
violates_returns v x b y h = cc
