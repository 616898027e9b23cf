-- What an entry determines.
use Rattle.std.specs.Prelude.{◌≡◌, ◌≤◌, length}
use Rattle.sx_ledger.specs.Made.{Made}
use Rattle.sx_ledger.specs.Entries.{entry_of, made_of}

-- an entry determines its header and its body, of at most 32 bytes each
abbrev pub EntryTellsMade : Type 0
EntryTellsMade = (m : Made) → length m.header ≤ 32 → length m.body ≤ 32 → made_of (entry_of m) ≡ m
