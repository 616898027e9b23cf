-- The addresses, words and instructions of what is written.
use Rattle.std.specs.Prelude.{ℕ, ◌+◌, ◌-◌, ◌*◌, ◌/◌, ◌%◌, Bool, true, ◌||◌, not, nat_lt}
use Rattle.std.specs.Prelude.{if◌then◌else◌, ℤ, pos, negsuc, List, [], ◌∷◌, ◌++◌, bytes_eq}
use Rattle.sx_isa.specs.declared.instruction.Operand.{Operand}
use Rattle.sx_isa.specs.declared.instruction.Operand.TheVariants as operand
use Rattle.sx_isa.specs.declared.instruction.Op1.{Op1}
use Rattle.sx_isa.specs.declared.instruction.Op2.{Op2}
use Rattle.sx_isa.specs.declared.instruction.Instr.{Instr}
use Rattle.sx_isa.specs.declared.instruction.Instr.TheVariants as instr
use Rattle.sx_isa.specs.Spelling.{is_constant, spelling}
use Rattle.sx_asm.specs.declared.written.Value.{Value}
use Rattle.sx_asm.specs.declared.written.Value.TheVariants.{Number, Name}
use Rattle.sx_asm.specs.declared.written.Written.{Written}
use Rattle.sx_asm.specs.declared.written.Written.TheVariants.{Reg, Indexed, Indirect, Increment}
use Rattle.sx_asm.specs.declared.written.Written.TheVariants.{Hash, Immediate, Absolute, Symbolic}
use Rattle.sx_asm.specs.declared.written.Item.{Item}
use Rattle.sx_asm.specs.declared.written.Item.TheVariants.{Label, Word, Two, One, Jump, Reti}
use Rattle.sx_asm.specs.declared.written.Item.TheVariants.{Sancus}
use Rattle.sx_asm.specs.declared.written.Entry.{Entry}
use Rattle.sx_asm.specs.declared.written.Label.{Label as Placed}

-- a number that is a constant needs no extension word
abbrev pub hash_words : Value → ℕ
hash_words (Number n) = if is_constant n then 0 else 1
hash_words (Name s) = 1

-- how many extension words an operand has
abbrev pub extension : Written → ℕ
extension (Reg r) = 0
extension (Indexed v r) = 1
extension (Indirect r) = 0
extension (Increment r) = 0
extension (Hash v) = hash_words v
extension (Immediate v) = 1
extension (Absolute v) = 1
extension (Symbolic v) = 1

-- how many bytes an item has
abbrev pub size : Item → ℕ
size (Label s) = 0
size (Word v) = 2
size (Two op byte src dst) = 2 + 2 * extension src + 2 * extension dst
size (One op byte arg) = 2 + 2 * extension arg
size (Jump cond target) = 2
size Reti = 2
size (Sancus code) = 2

-- addresses are modulo 65,536
abbrev pub further : ℕ → ℕ → ℕ
further at n = (at + n) % 65536

-- from one address up to another
abbrev pub distance : ℕ → ℕ → ℕ
distance at to = (to + (65536 - at)) % 65536

-- a label at its address, before other labels
abbrev pub labels_at : Item → ℕ → List Placed → List Placed
labels_at (Label s) at more = record { name = s; address = at } ∷ more
labels_at _ at more = more

-- the labels of entries placed from an address on
abbrev pub labels_of : ℕ → List Entry → List Placed
labels_of at [] = []
labels_of at (e ∷ es) = labels_at e.item at (labels_of (further at (size e.item)) es)

-- whether a label has this name
abbrev pub is_label : List Placed → List ℕ → Bool
is_label [] name = not true
is_label (label ∷ more) name = bytes_eq label.name name || is_label more name

-- the address of the first label with this name
abbrev pub address_of : List Placed → List ℕ → ℕ
address_of [] name = 0
address_of (label ∷ more) name =
    if bytes_eq label.name name then label.address else address_of more name

-- the number that a value stands for: a name is its label's address
abbrev pub number : List Placed → Value → ℕ
number labels (Number n) = n
number labels (Name s) = address_of labels s

-- the operand `#X`: a constant without an extension word where there is one; a name always has a
-- word
abbrev pub hash_operand : List Placed → Value → Operand
hash_operand labels (Number n) = if is_constant n then operand.Const n else operand.Immediate n
hash_operand labels (Name s) = operand.Immediate (address_of labels s)

-- the operand whose extension word is at this address, if it has one
abbrev pub operand_at : List Placed → ℕ → Written → Operand
operand_at labels at (Reg r) = operand.Reg r
operand_at labels at (Indexed v r) = operand.Indexed r (number labels v)
operand_at labels at (Indirect r) = operand.Indirect r
operand_at labels at (Increment r) = operand.Increment r
operand_at labels at (Hash v) = hash_operand labels v
operand_at labels at (Immediate v) = operand.Immediate (number labels v)
operand_at labels at (Absolute v) = operand.Absolute (number labels v)
operand_at labels at (Symbolic v) = operand.Symbolic (distance at (number labels v))

-- a distance in bytes as a number of words in two's complement
abbrev pub offset : ℕ → ℤ
offset d = if nat_lt d 32768 then pos (d / 2) else negsuc ((65535 - d) / 2)

-- the instruction with two operands at an address; an operand's address is that of its extension
-- word
abbrev pub two_at : List Placed → ℕ → Op2 → Bool → Written → Written → Instr
two_at labels at op byte src dst =
    instr.Two op byte (operand_at labels (further at 2) src)
    (operand_at labels (further at (2 + 2 * extension src)) dst)

-- the instruction with one operand at an address
abbrev pub one_at : List Placed → ℕ → Op1 → Bool → Written → Instr
one_at labels at op byte arg = instr.One op byte (operand_at labels (further at 2) arg)

-- the jump at an address, whose offset counts words from the next instruction
abbrev pub jump_at : List Placed → ℕ → ℕ → Value → Instr
jump_at labels at cond target =
    instr.Jump cond (offset (distance (further at 2) (number labels target)))

-- the words of an item at an address
abbrev pub words_at : List Placed → ℕ → Item → List ℕ
words_at labels at (Label s) = []
words_at labels at (Word v) = number labels v ∷ []
words_at labels at (Two op byte src dst) = spelling (two_at labels at op byte src dst)
words_at labels at (One op byte arg) = spelling (one_at labels at op byte arg)
words_at labels at (Jump cond target) = spelling (jump_at labels at cond target)
words_at labels at Reti = spelling instr.Reti
words_at labels at (Sancus code) = spelling (instr.Sancus code)

-- words as bytes, the low byte first
abbrev pub bytes_of : List ℕ → List ℕ
bytes_of [] = []
bytes_of (w ∷ ws) = w % 256 ∷ w / 256 % 256 ∷ bytes_of ws

-- the bytes of entries placed from an address on
abbrev pub code_of : List Placed → ℕ → List Entry → List ℕ
code_of labels at [] = []
code_of labels at (e ∷ es) =
    bytes_of (words_at labels at e.item) ++ code_of labels (further at (size e.item)) es
