-- Intervals in others, and boxes in boxes.
use Rattle.std.specs.Prelude.{ℕ, ◌+◌, ◌&&◌, nat_le, nat_lt, max, Bool, true, false, if◌then◌else◌}
use Rattle.std.specs.Prelude.{List, [], ◌∷◌}
pub use Rattle.sx_span.specs.declared.intervals.Interval.{Interval}

-- the first lies in the second
abbrev pub within : Interval → Interval → Bool
within i j = nat_le j.low i.low && nat_le i.high j.high

-- the intervals, in order, have each number from one to another
abbrev pub spans : ℕ → ℕ → List Interval → Bool
spans low high [] = nat_lt high low
spans low high (i ∷ is) =
    if nat_le i.low low then spans (max low (i.high + 1)) high is else spans low high is

-- the intervals, in order, have each number of another
abbrev pub fills : List Interval → Interval → Bool
fills is i = spans i.low i.high is

-- each of the first lies in that of the second
abbrev pub box_within : List Interval → List Interval → Bool
box_within [] [] = true
box_within (i ∷ is) (j ∷ js) = within i j && box_within is js
box_within _ _ = false

-- each number lies in its interval
abbrev pub box_has : List Interval → List ℕ → Bool
box_has [] [] = true
box_has (i ∷ is) (v ∷ vs) = (nat_le i.low v && nat_le v i.high) && box_has is vs
box_has _ _ = false
