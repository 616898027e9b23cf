-- The text of an instruction.
use Rattle.std.specs.Prelude.{◌-◌, nat_le, slice_index, ℕ, ◌+◌, ◌*◌, ◌/◌, ◌%◌, nat_lt}
use Rattle.std.specs.Prelude.{if◌then◌else◌, ℤ, pos, negsuc, List, [], ◌∷◌, ◌++◌, codes, length}
use Rattle.std.specs.Prelude.{Option, Some, None}
use Rattle.sx_isa.specs.declared.instruction.Operand.{Operand}
use Rattle.sx_isa.specs.declared.instruction.Operand.TheVariants.{Reg, Indexed, Indirect, Increment}
use Rattle.sx_isa.specs.declared.instruction.Operand.TheVariants.{Symbolic, Absolute, Immediate}
use Rattle.sx_isa.specs.declared.instruction.Operand.TheVariants.{Const}
use Rattle.sx_isa.specs.declared.instruction.Instr.{Instr}
use Rattle.sx_isa.specs.declared.instruction.Instr.TheVariants.{Two, One, Reti, Jump, Sancus}
use Rattle.sx_isa.specs.Spelling.{is_constant, place_of}
use Rattle.sx_isa.specs.Reading.{instruction_at}
use Rattle.sx_asm.specs.Words.{op2_name, op1_name, sized, jump_name, sancus_name, register_name}
use Rattle.sx_asm.specs.Meaning.{further}

-- a lower-case hexadecimal digit
abbrev pub hex_digit : ℕ → ℕ
hex_digit d = if nat_lt d 10 then 48 + d else 87 + d

-- a digit's place: 1, 16, 256 or 4,096
abbrev pub digit : ℕ → ℕ → ℕ
digit n place = hex_digit (n / place % 16)

-- a number of 16 bits in hexadecimal, without leading zeros
abbrev pub hex_digits : ℕ → List ℕ
hex_digits n =
    if nat_lt n 16 then digit n 1 ∷ [] else
    if nat_lt n 256 then digit n 16 ∷ digit n 1 ∷ [] else
    if nat_lt n 4096 then digit n 256 ∷ digit n 16 ∷ digit n 1 ∷ [] else
    digit n 4096 ∷ digit n 256 ∷ digit n 16 ∷ digit n 1 ∷ []

-- a number as `0x` and hexadecimal digits
abbrev pub hex : ℕ → List ℕ
hex n = codes "0x" ++ hex_digits n

-- an operand whose extension word is at this address, if it has one; `##` where `#` would be a
-- constant
abbrev pub operand_text : ℕ → Operand → List ℕ
operand_text at (Reg r) = register_name r
operand_text at (Indexed r x) = hex x ++ codes "(" ++ register_name r ++ codes ")"
operand_text at (Indirect r) = codes "@" ++ register_name r
operand_text at (Increment r) = codes "@" ++ register_name r ++ codes "+"
operand_text at (Symbolic x) = hex (further at x)
operand_text at (Absolute x) = codes "&" ++ hex x
operand_text at (Immediate x) = (if is_constant x then codes "##" else codes "#") ++ hex x
operand_text at (Const c) = codes "#" ++ hex c

-- this many words further, modulo 65,536
abbrev pub target : ℕ → ℤ → ℕ
target next (pos n) = further next (2 * n)
target next (negsuc n) = further next (65536 - 2 * (n + 1))

-- how many bytes the source's extension word has
abbrev pub source_size : Operand → ℕ
source_size src = 2 * length (place_of src).words

-- the text of an instruction at an address
abbrev pub shown : Instr → ℕ → List ℕ
shown (Two op byte src dst) at =
    sized (op2_name op) byte ++ codes " " ++ operand_text (further at 2) src ++ codes ", "
    ++ operand_text (further at (2 + source_size src)) dst
shown (One op byte arg) at =
    sized (op1_name op) byte ++ codes " " ++ operand_text (further at 2) arg
shown Reti at = codes "reti"
shown (Jump cond offset) at = jump_name cond ++ codes " " ++ hex (target (further at 2) offset)
shown (Sancus code) at = sancus_name code

-- the directive that writes a word
abbrev pub word_text : ℕ → List ℕ
word_text w = codes ".word " ++ hex w

-- the word at a place of bytes, the low byte first; 0 where they don't hold it whole
abbrev pub word_from : List ℕ → ℕ → ℕ
word_from bytes k =
    if nat_le (k + 2) (length bytes) then slice_index bytes k + 256 * slice_index bytes (k + 1) else
    0

-- a text and a length in bytes
abbrev pub ListedLine : Type 0
ListedLine = List ℕ × ℕ

-- an instruction that the bytes hold whole, or their first word
abbrev pub line_of : ℕ → List ℕ → Option (Instr × ℕ) → ListedLine
line_of at bytes None = (word_text (word_from bytes 0), 2)
line_of at bytes (Some f) =
    if nat_le (2 * f.1) (length bytes) then (shown f.0 at, 2 * f.1) else
    (word_text (word_from bytes 0), 2)

-- the line of the instruction at the start of bytes
unfoldable pub listed : ℕ → List ℕ → ListedLine
listed at bytes =
    line_of at bytes (instruction_at (word_from bytes 0) (word_from bytes 2) (word_from bytes 4))
