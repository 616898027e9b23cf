-- What the code of `emit` computes with; nobody has to believe it. An operation's words are below
-- 65,536, and a table has the addresses of a text.
use Rattle.std.specs.Prelude.{◌≡◌, ℕ, ◌+◌, ◌*◌, ◌<◌, ◌≤◌, Bool, true, false, List, length}
use Rattle.std.specs.Prelude.{[], ◌∷◌, replicate, slice_index, slice_index_or, slice_set}
use Rattle.sx_rules.specs.declared.section.Layout.{Layout}
use Rattle.sx_mean.specs.Offsets as offsets
use Rattle.sx_mean.specs.Working.{saved_at}
use Rattle.sx_ir.specs.declared.ir.Ir.{Ir}
use Rattle.sx_ir.specs.declared.ir.Ir.TheVariants as ir
use Rattle.sx_ir.specs.declared.ir.Code.{Code}
use Rattle.sx_ir.specs.Sizes.{exit_bytes, has_routine, packet_bytes, routines, slot_bytes}
use Rattle.sx_tmpl.specs.declared.table.Table.{Table}
use Rattle.sx_tmpl.specs.Scratch as scratch
use Rattle.sx_tmpl.specs.Text.{part_place, places_of}

-- key, header with cipher and tag, and body end below 65,536
abbrev pub AreSealed : (base k h hn b bn : ℕ) → Type 0
AreSealed base k h hn b bn =
    (base + k < 65536) × (base + (h + hn + bn) < 65536) × (base + b < 65536)

-- the addresses and places of an operation are within their bounds, so that its template is made of
-- words
abbrev pub OperationFits : Layout → Code → Ir → Type 0
OperationFits l code (ir.Push n) = Unit {0}
OperationFits l code (ir.Load o) = l.priv_from + o < 65536
OperationFits l code (ir.Store o) = l.priv_from + o < 65536
OperationFits l code (ir.LoadAt o n) = l.priv_from + o < 65536
OperationFits l code (ir.StoreAt o n) = l.priv_from + o < 65536
OperationFits l code (ir.Op f) = Unit {0}
OperationFits l code (ir.Jump q) = q < length code.ops.items
OperationFits l code (ir.JumpZero q) = q < length code.ops.items
OperationFits l code (ir.JumpEqual o n q) =
    (l.priv_from + o < 65536) × (q < length code.ops.items)
OperationFits l code (ir.Packet k) = Unit {0}
OperationFits l code ir.Drop = Unit {0}
OperationFits l code ir.Emit = Unit {0}
OperationFits l code ir.Stop = l.priv_from + scratch.return_at < 65536
OperationFits l code (ir.Saved r) = (12 ≤ r) × (r ≤ 15) × (l.priv_from + saved_at r < 65536)
OperationFits l code ir.Inside = l.priv_from + scratch.caller_at < 65536
OperationFits l code (ir.Meets r n) =
    (12 ≤ r) × (r ≤ 15) × (2 ≤ n) × (l.priv_from + saved_at r < 65536)
OperationFits l code (ir.CopyIn n o) =
    (l.priv_from + scratch.in_window_at < 65536) × (l.priv_from + o < 65536)
OperationFits l code (ir.CopyOut n o) =
    (l.priv_from + scratch.out_window_at < 65536) × (l.priv_from + o < 65536)
OperationFits l code (ir.Seal k h hn b bn) = AreSealed l.priv_from k h hn b bn
OperationFits l code (ir.Open k h hn b bn) = AreSealed l.priv_from k h hn b bn
OperationFits l code (ir.SetEnd k) = l.priv_from + offsets.end_at k < 65536
OperationFits l code ir.Sense = Unit {0}
OperationFits l code (ir.Handler h) = (h < length code.parts.items)
    × (part_place code.parts.items h < length code.ops.items)
    × (l.priv_from + scratch.return_at < 65536)
OperationFits l code ir.Leave = Unit {0}

-- an operation whose words name no place and no routine
abbrev pub is_plain : Ir → Bool
is_plain (ir.Jump q) = false
is_plain (ir.JumpZero q) = false
is_plain (ir.JumpEqual o n q) = false
is_plain (ir.Packet k) = false
is_plain (ir.SetEnd k) = false
is_plain (ir.Handler h) = false
is_plain ir.Leave = false
is_plain i = true

-- the end that an operation makes a packet of is noted
abbrev pub with_note : Ir → List Bool → List Bool
with_note (ir.Packet k) noted = slice_set noted k true
with_note i noted = noted

-- so are those of all operations
abbrev pub with_notes : List Ir → List Bool → List Bool
with_notes [] noted = noted
with_notes (i ∷ ops) noted = with_notes ops (with_note i noted)

-- no end is noted
unfoldable pub none_noted : ℕ → List Bool
none_noted n = replicate n false

-- for each end that a byte names, whether it has a packet routine
pub record AreNoted (ops : List Ir) (noted : List Bool) : Type 0 where
  pub count : length noted ≡ 256
  pub each : (k : ℕ) → k < 256 → slice_index_or noted k false ≡ has_routine ops k

-- for each of the first n ends, how many of those before it have a packet routine
pub record AreCounts (ops : List Ir) (n : ℕ) (counts : List ℕ) : Type 0 where
  pub count : length counts ≡ n
  pub each : (k : ℕ) → k < n → slice_index counts k ≡ routines ops k

-- the table has the addresses of this code's text in a section of this layout
pub record IsTable (l : Layout) (code : Code) (t : Table) : Type 0 where
  pub places : t.places.items ≡ places_of l code
  pub count : length t.places.items ≡ length code.ops.items + 1
  pub noted : AreNoted code.ops.items t.noted.items
  pub counts : AreCounts code.ops.items 256 t.routines.items
  pub below : slice_index t.places.items (length code.ops.items) + (exit_bytes + slot_bytes)
      + packet_bytes * routines code.ops.items 256 < 65536
