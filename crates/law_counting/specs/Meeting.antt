-- A random table seldom has one of some values, or one value twice.
use Rattle.std.specs.Prelude.{ℕ, ◌+◌, ◌*◌, ◌^◌, ◌≤◌, ◌||◌, Bool, false, List, [], ◌∷◌, length}
use Rattle.law_counting.specs.Counting.{count}
use Rattle.law_counting.specs.Processes.{is_in}

-- an entry of the table is one of these values, or that of an earlier entry
abbrev pub meets : List ℕ → List ℕ → Bool
meets values [] = false
meets values (v ∷ vs) = is_in v values || meets (v ∷ values) vs

-- Of all tables of n entries the part that meets so many values is at most
-- (number of values + n) · n / width.
abbrev pub FewMeet : Type 0
FewMeet = (n width : ℕ) (values : List ℕ)
    → count n width (λ t. meets values t) * width ≤ (length values + n) * n * width ^ n
