-- A truth value as a number.
use Rattle.std.specs.Prelude.{ℕ, Bool, if◌then◌else◌}

-- true as 1, false as 0
abbrev pub truth : Bool → ℕ
truth b = if b then 1 else 0
