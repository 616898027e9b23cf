-- Words of two bytes.
use Rattle.std.specs.Prelude.{ℕ, ◌+◌, ◌-◌, ◌%◌, Bool, ◌&&◌}

-- both bytes of the word at an address, whose bit 0 doesn't count, pass the test
abbrev pub both_bytes : (ℕ → Bool) → ℕ → Bool
both_bytes test at = test (at - at % 2) && test (at - at % 2 + 1)
