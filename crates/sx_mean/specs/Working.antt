-- Where what a module works with lies in its private section: offsets in bytes from its start (own).
use Rattle.std.specs.Prelude.{ℕ, ◌+◌, ◌-◌, ◌*◌}

-- the event's value
abbrev pub event_at : ℕ
event_at = 2

-- the count of pieces made
abbrev pub pieces_at : ℕ
pieces_at = 4

-- the caller's R12 to R15
abbrev pub saved_at : ℕ → ℕ
saved_at r = 2 * r - 18

-- the copied packet, 40 bytes, and after an ask its cipher and tag
abbrev pub packet_at : ℕ
packet_at = 16

-- the plain body of a copied set-key packet, which is a key
abbrev pub plain_at : ℕ
plain_at = 56

-- sixteen locals
abbrev pub locals_at : ℕ
locals_at = 72

-- the i-th local
abbrev pub local_at : ℕ → ℕ
local_at i = locals_at + 2 * i

-- what only templates use, such as the packet that is being made: up to the stack
abbrev pub scratch_at : ℕ
scratch_at = 104

-- The end of the stack's place, from which the stack grows down. It holds at most 160 words; below
-- them is room for the return addresses of routines.
abbrev pub stack_to : ℕ
stack_to = 512

-- how many words the stack holds
abbrev pub stack_words : ℕ
stack_words = 160
