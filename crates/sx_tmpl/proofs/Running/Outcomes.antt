-- Outcomes that are equal have equal parts.
use Rattle.std.proofs.Common.{◌≡◌, ℕ, List}
use Rattle.std.specs.Prelude.{Result, Ok, Err}
use Rattle.sx_rules.specs.declared.access.Violation.{Violation}
use Rattle.sx_image.specs.Reach.{Goes, Stops}
use Rattle.sx_ir.specs.Conf.{Conf, Halt}
use Rattle.sx_ir.specs.Meaning.{OperationResult}

pub ok_err : (m : List ℕ) (x : Violation) → ◌≡◌ {A = Result (List ℕ) Violation} (Ok m) (Err x) → ⊥
ok_err m x e = cc

pub ok_same : (m n : List ℕ) → ◌≡◌ {A = Result (List ℕ) Violation} (Ok m) (Ok n) → m ≡ n
ok_same m n e = cc

pub err_same : (x y : Violation) → ◌≡◌ {A = Result (List ℕ) Violation} (Err x) (Err y) → x ≡ y
err_same x y e = cc

pub goes_same : (a b : Conf) → ◌≡◌ {A = OperationResult} (Goes a) (Goes b) → a ≡ b
goes_same a b e = cc

pub goes_stops : (a : Conf) (h : Halt) → ◌≡◌ {A = OperationResult} (Goes a) (Stops h) → ⊥
goes_stops a h e = cc

pub stops_same : (g h : Halt) → ◌≡◌ {A = OperationResult} (Stops g) (Stops h) → g ≡ h
stops_same g h e = cc
