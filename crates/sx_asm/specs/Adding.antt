-- What the functions that read parts of a text add to its entries. Nobody has to believe this file.
use Rattle.std.specs.Prelude.{◌≡◌, ℕ, List, ◌++◌, Option, Some, None, option_map, Result, Ok, Err}
use Rattle.sx_asm.specs.declared.written.Item.{Item}
use Rattle.sx_asm.specs.declared.written.Entry.{Entry}
use Rattle.sx_asm.specs.declared.error.AsmError.{AsmError}
use Rattle.sx_asm.specs.declared.error.AsmError.TheVariants.{Fault, OutOfMemory}
use Rattle.sx_asm.specs.Reading.{placed_entries, not_written, ◌>>=◌}

-- entries, and after them what is meant
abbrev pub grown : List Entry → ℕ → Option (List Item) → Option (List Entry)
grown before n meant = option_map (λ items. before ++ placed_entries n items) meant

-- the answer of a function that adds what is meant to entries
abbrev pub AddsEntries : Option (List Item) → ℕ → List Entry → List Entry
    → Result (Unit {0}) AsmError → Type 0
AddsEntries meant n before after (Ok u) = grown before n meant ≡ Some after
AddsEntries meant n before after (Err (Fault rule line)) =
    (meant ≡ None) × (Fault rule line ≡ not_written n)
AddsEntries meant n before after (Err OutOfMemory) = Unit {0}

-- entries before those that are meant
abbrev pub continued : List Entry → Result (List Entry) AsmError → Result (List Entry) AsmError
continued before meant = meant >>= (λ entries. Ok (before ++ entries))
