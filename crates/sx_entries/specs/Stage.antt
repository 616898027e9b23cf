-- A stage: entries become entries of another type, in order, each after those before it.
use Rattle.std.specs.Prelude.{ℕ, List, [], ◌∷◌, ◌++◌, Option, Some, None, Result, Ok, Err}
use Rattle.sx_entries.specs.Fault.{fault, nth, ◌>>=◌}
use Rattle.sx_entries.specs.declared.fault.Sort.{Sort}
use Rattle.sx_entries.specs.declared.fault.DeployFault.{DeployFault}

-- the value, or a fault of that entry
abbrev pub in_entry : {B : Type 0} → ℕ → Sort → ℕ → Option B → Result B DeployFault
in_entry rule sort n None = Err (fault rule (nth sort n))
in_entry rule sort n (Some b) = Ok b

-- what the entries become, after those that are done: the first fault ends it
abbrev pub made_after : {A B : Type 0} → (List B → A → Result B DeployFault) → List B → List A
    → Result (List B) DeployFault
made_after make done [] = Ok done
made_after make done (x ∷ xs) = make done x >>= (λ b. made_after make (done ++ b ∷ []) xs)
