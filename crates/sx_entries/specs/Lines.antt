-- The lines of the table of rules: each is a test of entries, and its fault's place.
use Rattle.std.specs.Prelude.{ℕ, Bool, if◌then◌else◌, List, [], ◌∷◌, ◌++◌, length, Option, Some}
use Rattle.std.specs.Prelude.{None, option_map}
use Rattle.sx_entries.specs.Fault.{fault, nth}
use Rattle.sx_entries.specs.declared.fault.Sort.{Sort}
use Rattle.sx_entries.specs.declared.fault.Place.TheVariants.{Kind}
use Rattle.sx_entries.specs.declared.fault.DeployFault.{DeployFault}

-- the place of the first entry that is bad after those before it
abbrev pub first_bad : {A : Type 0} → (List A → A → Bool) → List A → List A → Option ℕ
first_bad bad earlier [] = None
first_bad bad earlier (x ∷ xs) =
    if bad earlier x then Some (length earlier) else first_bad bad (earlier ++ x ∷ []) xs

-- a line that is tried on each entry
abbrev pub entries : {A : Type 0} → ℕ → Sort → (List A → A → Bool) → List A → Option DeployFault
entries rule sort bad xs = option_map (λ n. fault rule (nth sort n)) (first_bad bad [] xs)

-- a line that is tried once
abbrev pub whole : ℕ → Sort → Bool → Option DeployFault
whole rule sort bad = if bad then Some (fault rule (Kind sort)) else None

-- the first fault of the lines
abbrev pub first_of : List (Option DeployFault) → Option DeployFault
first_of [] = None
first_of (None ∷ more) = first_of more
first_of (Some f ∷ more) = Some f
