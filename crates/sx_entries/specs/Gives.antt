-- That an answer is the defined one unless memory ran out.
use Rattle.std.specs.Prelude.{◌≡◌, Result, Ok, Err}
use Rattle.sx_entries.specs.declared.fault.DeployFault.{DeployFault}
use Rattle.sx_entries.specs.declared.fault.DeployError.{DeployError}
use Rattle.sx_entries.specs.declared.fault.DeployError.TheVariants.{Fault, OutOfMemory}

-- the answer, seen as plain data, is the defined one, unless memory ran out
abbrev pub Gives : {T V : Type 0} → (T → V) → Result T DeployError → Result V DeployFault → Type 0
Gives view (Ok x) meant = meant ≡ Ok (view x)
Gives view (Err OutOfMemory) meant = Unit {0}
Gives view (Err (Fault f)) meant = meant ≡ Err f

-- the answer isn't that memory ran out
abbrev pub TakesNoMemory : {T : Type 0} → Result T DeployError → Type 0
TakesNoMemory (Ok x) = Unit {0}
TakesNoMemory (Err OutOfMemory) = ⊥
TakesNoMemory (Err (Fault f)) = Unit {0}

-- the answer is one of those that are allowed, unless memory ran out
abbrev pub GivesOne : {T V : Type 0} → (T → V) → Result T DeployError
    → (Result V DeployFault → Type 0) → Type 0
GivesOne view (Ok x) AreMeant = AreMeant (Ok (view x))
GivesOne view (Err OutOfMemory) AreMeant = Unit {0}
GivesOne view (Err (Fault f)) AreMeant = AreMeant (Err f)
