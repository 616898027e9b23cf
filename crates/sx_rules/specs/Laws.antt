-- What keeps the sections of a table placed, and what follows where they are.
use Rattle.std.specs.Prelude.{◌≡◌, ◌≢◌, ℕ, true, [], List, Some, None}
use Rattle.sx_rules.specs.declared.section.Layout.{Layout}
use Rattle.sx_rules.specs.declared.section.Section.{Section}
use Rattle.sx_rules.specs.Access.{Sections, Lives, section_of, in_public, holder}
use Rattle.sx_rules.specs.Admission.{refusal, admitted, removed}
use Rattle.sx_rules.specs.Placed.{Beside, Placed}

-- the sections of a new table are placed
abbrev pub StartsPlaced : Type 0
StartsPlaced = Placed (record { live = []; next = 1 })

-- admitting a section keeps them placed
abbrev pub AdmitKeepsPlaced : Type 0
AdmitKeepsPlaced = (t : Sections) (layout : Layout) (provider : ℕ) (key places : List ℕ) →
    Placed t → refusal t layout places ≡ None → Placed (admitted t layout provider key)

-- removing one keeps them placed
abbrev pub RemoveKeepsPlaced : Type 0
RemoveKeepsPlaced = (t : Sections) (id : ℕ) → Placed t → Placed (removed t id)

-- a removed section is gone
abbrev pub RemoveRemoves : Type 0
RemoveRemoves = (t : Sections) (id : ℕ) → Placed t → section_of (removed t id).live id ≡ None

-- two live sections of different ids don't meet
abbrev pub PlacedBeside : Type 0
PlacedBeside = (t : Sections) (s u : Section) → Placed t → Lives t.live s → Lives t.live u
    → s.id ≢ u.id → Beside s u

-- a live section is found by its id, and holds the bytes of its public part
abbrev pub PlacedFound : Type 0
PlacedFound =
    (t : Sections) (s : Section) → Placed t → Lives t.live s → section_of t.live s.id ≡ Some s

-- a byte of a live section's public part belongs to that section alone
abbrev pub PlacedHolds : Type 0
PlacedHolds = (t : Sections) (s : Section) (at : ℕ) → Placed t → Lives t.live s
    → in_public s at ≡ true → holder t.live at ≡ s.id
