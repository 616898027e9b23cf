-- An entry of a table of words.
use Rattle.std.specs.Prelude.{ℕ, List}
use Rattle.std.specs.Borrow.{Bor}

-- an entry as code has it: a word, and what it stands for
abbrev pub entry_of : {T : Type 0} → Bor (List ℕ) × T → List ℕ × T
entry_of entry = (entry.0.now, entry.1)
