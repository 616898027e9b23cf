-- Sound code: what templates ask of the code that they are made for.
use Rattle.std.specs.Prelude.{ℕ, ◌+◌, ◌-◌, ◌*◌, ◌%◌, ◌==◌, nat_lt, nat_le, Bool, true, ◌&&◌, ◌||◌}
use Rattle.std.specs.Prelude.{List, length}
use Rattle.std.specs.List.{list_all}
use Rattle.sx_rules.specs.declared.section.Layout.{Layout}
use Rattle.sx_mean.specs.Offsets.{end_at, slot_size}
use Rattle.sx_mean.specs.Working.{scratch_at, stack_to}
use Rattle.spec_invocation.specs.Pieces.{tag_size}
use Rattle.spec_invocation.specs.Protocol.{key_size}
use Rattle.sx_ir.specs.declared.ir.Ir.{Ir}
use Rattle.sx_ir.specs.declared.ir.Ir.TheVariants as ir
use Rattle.sx_ir.specs.Meaning.{is_saved}
use Rattle.sx_ir.specs.Sizes.{bytes}

-- n bytes at an offset lie in a private section of this size, past its first word, and before what
-- only templates use or after the stack's place
abbrev pub is_free : ℕ → ℕ → ℕ → Bool
is_free size o n =
    nat_le (o + n) size && (nat_le 2 o && (nat_le (o + n) scratch_at || nat_le stack_to o))

-- they may be written: they lie beside the caller's saved registers, too
abbrev pub may_change : ℕ → ℕ → ℕ → Bool
may_change size o n = is_free size o n && (nat_le (o + n) 6 || nat_le 14 o)

-- words are at even offsets
abbrev pub is_even : ℕ → Bool
is_even o = o % 2 == 0

-- the slot of the k-th end lies in the private section
abbrev pub has_slot : ℕ → ℕ → Bool
has_slot size k = nat_le (end_at k + slot_size) size

-- the key offset 0 is that of the module's own key and names no bytes
abbrev pub is_key : ℕ → ℕ → Bool
is_key size k = k == 0 || is_free size k key_size

-- Header and body have at most 32 bytes each. After the header are the cipher and the tag.
abbrev pub are_sealed : ℕ → ℕ → ℕ → ℕ → ℕ → ℕ → Bool
are_sealed size k h hn b bn =
    is_key size k && (is_free size h (hn + bn + tag_size)
    && (is_free size b bn && (nat_le hn 32 && nat_le bn 32)))

-- an operation of code with this many operations and parts, in a private section of this size
abbrev pub is_sound_op : ℕ → ℕ → ℕ → Ir → Bool
is_sound_op ops parts size (ir.Push n) = true
is_sound_op ops parts size (ir.Load o) = is_even o && is_free size o 2
is_sound_op ops parts size (ir.Store o) = is_even o && may_change size o 2
is_sound_op ops parts size (ir.LoadAt o n) = is_even o && is_free size o (2 * n)
is_sound_op ops parts size (ir.StoreAt o n) = is_even o && may_change size o (2 * n)
is_sound_op ops parts size (ir.Op f) = true
is_sound_op ops parts size (ir.Jump p) = nat_lt p ops
is_sound_op ops parts size (ir.JumpZero p) = nat_lt p ops
is_sound_op ops parts size (ir.JumpEqual o n p) = is_even o && (is_free size o 2 && nat_lt p ops)
is_sound_op ops parts size (ir.Packet k) = has_slot size k
is_sound_op ops parts size ir.Drop = true
is_sound_op ops parts size ir.Emit = true
is_sound_op ops parts size ir.Stop = true
is_sound_op ops parts size (ir.Saved r) = is_saved r
is_sound_op ops parts size ir.Inside = true
is_sound_op ops parts size (ir.Meets r n) = is_saved r && nat_le 2 n
is_sound_op ops parts size (ir.CopyIn n o) = nat_le 1 n && may_change size o n
is_sound_op ops parts size (ir.CopyOut n o) = nat_le 1 n && is_free size o n
is_sound_op ops parts size (ir.Seal k h hn b bn) =
    are_sealed size k h hn b bn && may_change size (h + hn) (bn + tag_size)
is_sound_op ops parts size (ir.Open k h hn b bn) =
    are_sealed size k h hn b bn && may_change size b bn
is_sound_op ops parts size (ir.SetEnd k) = has_slot size k
is_sound_op ops parts size ir.Sense = true
is_sound_op ops parts size (ir.Handler h) = nat_lt h parts
is_sound_op ops parts size ir.Leave = true

-- a part begins at an operation and ends there, or after the last
abbrev pub is_sound_part : ℕ → ℕ × ℕ → Bool
is_sound_part ops part = nat_lt part.0 ops && nat_le part.1 ops

-- how many bytes the public section has
abbrev pub public_size : Layout → ℕ
public_size l = l.pub_to - l.pub_from

-- how many bytes the private section has
abbrev pub private_size : Layout → ℕ
private_size l = l.priv_to - l.priv_from

-- The code has fewer than 65,536 operations; places, offsets and registers are there, and offsets
-- free; and the text has room in the public section.
abbrev pub is_sound : List Ir → List (ℕ × ℕ) → Layout → Bool
is_sound ops parts l =
    nat_lt (length ops) 65536
    && (list_all (is_sound_op (length ops) (length parts) (private_size l)) ops
    && (list_all (is_sound_part (length ops)) parts && nat_le (bytes ops) (public_size l)))
