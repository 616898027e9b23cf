-- A word of memory.
use Rattle.std.specs.Prelude.{ℕ, ◌+◌, ◌-◌, ◌*◌, ◌%◌, List, slice_index}

-- a word access ignores bit 0 of its address
abbrev pub even : ℕ → ℕ
even at = at - at % 2

-- the word at an address, the low byte first
abbrev pub word : List ℕ → ℕ → ℕ
word mem at = slice_index mem (even at) + 256 * slice_index mem (even at + 1)
