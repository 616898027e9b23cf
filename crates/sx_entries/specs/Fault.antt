-- Faults, and stages one after the other.
use Rattle.std.specs.Prelude.{ℕ, min, Option, Some, None, Result, Ok, Err}
use Rattle.sx_entries.specs.declared.fault.Sort.{Sort}
use Rattle.sx_entries.specs.declared.fault.Place.{Place}
use Rattle.sx_entries.specs.declared.fault.Place.TheVariants.{Entry}
use Rattle.sx_entries.specs.declared.fault.DeployFault.{DeployFault}

-- a rule that is broken, and where
abbrev pub fault : ℕ → Place → DeployFault
fault rule place = record { rule = rule; place = place }

-- a number above the greatest is given as the greatest
abbrev pub cut : ℕ → ℕ
cut n = min n 4294967295

-- the n-th entry of a sort
abbrev pub nth : Sort → ℕ → Place
nth sort n = Entry sort (cut n)

-- one stage and then the next, which is asked where the first gives no fault
infixl 10 ◌>>=◌
abbrev pub ◌>>=◌ : {A B E : Type 0} → Result A E → (A → Result B E) → Result B E
Ok x >>= f = f x
Err e >>= f = Err e

-- nothing, where there is no fault
abbrev pub passes : Option DeployFault → Result (Unit {0}) DeployFault
passes None = Ok tt
passes (Some f) = Err f
