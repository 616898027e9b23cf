-- How long a line may be that is passed over.
use Rattle.std.specs.Prelude.{ℕ}

-- the most bytes that a line has that is passed
abbrev pub longest_passed : ℕ
longest_passed = 131072
