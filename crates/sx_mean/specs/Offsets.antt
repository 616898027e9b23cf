-- Where things lie in the private section of a compiled module: offsets in bytes from its start
-- (own).
--     0        the word of the module's device, where it declares one; no data
--     2        the event's value
--     4        the count of pieces made
--     6        the caller's R12 to R15
--     14       free
--     16       the copied packet of 40 bytes
--     56       the plain body of a copied packet, 16 bytes
--     72       sixteen locals
--     104      what only templates use
--     152      the stack, which grows down from 512
--     512      a slot of 24 bytes for each end, and after the slots the cells
use Rattle.std.specs.Prelude.{ℕ, ◌+◌, ◌*◌}

-- the slots of the ends
abbrev pub slots_at : ℕ
slots_at = 512

-- how many bytes a slot has
abbrev pub slot_size : ℕ
slot_size = 24

-- the slot of the k-th end: the connection field, the number, whether it is open (0 or not), two
-- free bytes and the key
abbrev pub end_at : ℕ → ℕ
end_at k = slots_at + slot_size * k

-- the number in the slot of the k-th end
abbrev pub end_number_at : ℕ → ℕ
end_number_at k = end_at k + 2

-- whether the k-th end is open
abbrev pub end_open_at : ℕ → ℕ
end_open_at k = end_at k + 4

-- the key in the slot of the k-th end
abbrev pub end_key_at : ℕ → ℕ
end_key_at k = end_at k + 8

-- the i-th cell, after the slots of this many ends
abbrev pub cell_at : ℕ → ℕ → ℕ
cell_at ends i = end_at ends + 2 * i
