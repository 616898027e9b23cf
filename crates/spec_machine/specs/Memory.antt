-- Bytes and words of a memory.
use Rattle.std.specs.Prelude.{ℕ, zero, suc, ◌+◌, ◌/◌, ◌%◌, Bool, if◌then◌else◌, List, [], ◌∷◌, ◌++◌}
use Rattle.std.specs.Prelude.{slice_index, slice_set}
pub use Rattle.sx_isa.specs.Memory.{even, word}

-- the memory with a word written, the low byte first; an odd address counts as the even one below
abbrev pub put_word : List ℕ → ℕ → ℕ → List ℕ
put_word mem at v = slice_set (slice_set mem (even at) (v % 256)) (even at + 1) (v / 256)

-- the word or, in byte form, the byte
abbrev pub read_at : Bool → List ℕ → ℕ → ℕ
read_at wide mem at = if wide then word mem at else slice_index mem at

-- the memory with a word or a byte written
abbrev pub write_at : Bool → List ℕ → ℕ → ℕ → List ℕ
write_at wide mem at v = if wide then put_word mem at v else slice_set mem at (v % 256)

-- n bytes from an address on
unfoldable pub bytes_from : List ℕ → ℕ → ℕ → List ℕ
bytes_from mem at zero = []
bytes_from mem at (suc n) = bytes_from mem at n ++ slice_index mem (at + n) ∷ []

-- bytes written from an address on
abbrev pub put_bytes : List ℕ → ℕ → List ℕ → List ℕ
put_bytes mem at [] = mem
put_bytes mem at (b ∷ bs) = put_bytes (slice_set mem at (b % 256)) (at + 1) bs

-- n bytes from an address on made zero
unfoldable pub zeroed : List ℕ → ℕ → ℕ → List ℕ
zeroed mem at zero = mem
zeroed mem at (suc n) = slice_set (zeroed mem at n) (at + n) 0
