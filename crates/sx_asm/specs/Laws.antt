-- What is shown is assembled to the same bytes.
use Rattle.std.specs.Prelude.{◌≡◌, ◌↔◌, true, ℕ, ◌<◌, List, [], ◌∷◌, take, ◌+◌, ◌*◌, ◌%◌, ◌≤◌}
use Rattle.std.specs.Prelude.{length, Ok}
use Rattle.sx_isa.specs.declared.instruction.Instr.{Instr}
use Rattle.sx_isa.specs.declared.instruction.Operand.{Operand}
use Rattle.sx_isa.specs.Instructions.{IsSource, IsDestination, IsInstruction}
use Rattle.sx_asm.specs.Forms.{HasWord}
use Rattle.sx_isa.specs.Spelling.{spelling}
use Rattle.sx_asm.specs.Meaning.{bytes_of}
use Rattle.sx_asm.specs.Assembled.{is_source, is_destination, assembled}
use Rattle.sx_asm.specs.Shown.{shown, listed}
use Rattle.sx_asm.specs.Listing.{listing}

-- the tests of operands are what an instruction can read and write
abbrev pub Operands : Type 0
Operands = (o : Operand) → HasWord o
    → ((is_source o ≡ true) ↔ IsSource o) × ((is_destination o ≡ true) ↔ IsDestination o)

-- the text of an instruction, assembled at its address, gives its bytes
abbrev pub Reassembles : Type 0
Reassembles =
    (i : Instr) (at : ℕ) → IsInstruction i → at % 2 ≡ 0 → at + 2 * length (spelling i) ≤ 65536
    → assembled at (shown i at) ≡ Ok (bytes_of (spelling i))

-- each number is a byte
abbrev pub EachByte : List ℕ → Type 0
EachByte [] = Unit {0}
EachByte (b ∷ bs) = (b < 256) × EachByte bs

-- the line of the first instruction of some bytes, assembled at their address, gives the bytes that
-- it stands for
abbrev pub RelistsLine : Type 0
RelistsLine = (bytes : List ℕ) (at : ℕ) → EachByte bytes → 2 ≤ length bytes → at % 2 ≡ 0
    → at + length bytes ≤ 65536 → assembled at (listed at bytes).0
    ≡ Ok (take (listed at bytes).1 bytes)

-- the listing of bytes, assembled at their address, gives them
abbrev pub RelistsListing : Type 0
RelistsListing =
    (bytes : List ℕ) (at : ℕ) → EachByte bytes → length bytes % 2 ≡ 0 → length bytes ≤ 8192
    → at % 2 ≡ 0 → at + length bytes ≤ 65536
    → assembled at (listing (length bytes) at bytes) ≡ Ok bytes
