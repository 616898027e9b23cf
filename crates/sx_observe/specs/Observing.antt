-- What a call adds of the items that are due, and the ledger as the program keeps it: a set of
-- entries, which holds exactly what was made.
use Rattle.std.specs.Prelude.{◌≡◌, ◌↔◌, ◌≤◌, true, List, ◌++◌, length}
use Rattle.std.specs.List.{Contains}
use Rattle.sx_trace.specs.declared.items.Item.{Item}
use Rattle.sx_ledger.specs.declared.entry.Entry.{Entry}
use Rattle.sx_ledger.specs.Entries.{entry_of}
use Rattle.sx_ledger.specs.Made.{Made}
use Rattle.spec_run.specs.Ledger.{is_made}
use Rattle.spec_run.specs.Observation.{Observed}

-- a header and a body that the machine can wrap
abbrev pub IsShort : Made → Type 0
IsShort m = (length m.header ≤ 32) × (length m.body ≤ 32)

-- the set holds what was made, and no more
abbrev pub Records : List Entry → List Made → Type 0
Records entries ledger =
    (m : Made) → IsShort m → Contains entries (entry_of m) ↔ (is_made ledger m ≡ true)

-- the items are a prefix of those that are due
abbrev pub IsFront : List Item → List Item → Type 0
IsFront items due = (rest : List Item) × (items ++ rest ≡ due)

-- the items that were there before stay, and a prefix of those that are due was added
abbrev pub AddsFront : List Item → List Item → List Item → Type 0
AddsFront before after due =
    (front : List Item) × (after ≡ before ++ front) × IsFront front due

-- the items and the ledger are those that are due, whatever was made before
abbrev pub Observes : List Entry → List Entry → List Item → List Item → (List Made → Observed)
    → Type 0
Observes old new before after due = (ledger : List Made) → Records old ledger
    → (after ≡ before ++ (due ledger).items) × Records new (due ledger).ledger

-- memory ran out before all items that are due were added; those that were there before stay
abbrev pub ObservesFront : List Entry → List Item → List Item → (List Made → Observed) → Type 0
ObservesFront old before after due =
    (ledger : List Made) → Records old ledger → AddsFront before after (due ledger).items
