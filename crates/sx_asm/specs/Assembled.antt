-- The code of a text, or the first rule that it breaks and the first line that breaks it.
use Rattle.std.specs.Prelude.{ℕ, ◌+◌, ◌-◌, ◌%◌, ◌==◌, min, Bool, true, false, ◌&&◌, ◌||◌, not}
use Rattle.std.specs.Prelude.{nat_le, nat_lt, if◌then◌else◌, List, [], ◌∷◌, take, Result, Ok, Err}
use Rattle.sx_isa.specs.declared.instruction.Operand.{Operand}
use Rattle.sx_isa.specs.declared.instruction.Operand.TheVariants as operand
use Rattle.sx_isa.specs.Legal.{is_allowed}
use Rattle.sx_isa.specs.Spelling.{is_constant}
use Rattle.sx_asm.specs.declared.written.Value.{Value}
use Rattle.sx_asm.specs.declared.written.Value.TheVariants.{Number, Name}
use Rattle.sx_asm.specs.declared.written.Written.{Written}
use Rattle.sx_asm.specs.declared.written.Written.TheVariants.{Reg, Indexed, Indirect, Increment}
use Rattle.sx_asm.specs.declared.written.Written.TheVariants.{Hash, Immediate, Absolute, Symbolic}
use Rattle.sx_asm.specs.declared.written.Item.{Item}
use Rattle.sx_asm.specs.declared.written.Item.TheVariants.{Label, Word, Two, One, Jump, Reti}
use Rattle.sx_asm.specs.declared.written.Item.TheVariants.{Sancus}
use Rattle.sx_asm.specs.declared.written.Entry.{Entry}
use Rattle.sx_asm.specs.declared.written.Label.{Label as Placed}
use Rattle.sx_asm.specs.declared.error.AsmError.{AsmError}
use Rattle.sx_asm.specs.declared.error.AsmError.TheVariants.{Fault}
use Rattle.sx_asm.specs.Reading.{◌>>=◌, read}
use Rattle.sx_asm.specs.Meaning.{size, further, distance, number, is_label, operand_at, labels_of}
use Rattle.sx_asm.specs.Meaning.{code_of}

-- Rule 2: operands.

-- a register that can be the base of an index or of an increment: not PC, SR or R3, whose modes
-- have other meanings
abbrev pub is_general : ℕ → Bool
is_general r = nat_lt r 16 && not (r == 0) && not (r == 2) && not (r == 3)

-- what an instruction can read; the test of `IsSource`
abbrev pub is_source : Operand → Bool
is_source (operand.Reg r) = nat_lt r 16 && not (r == 3)
is_source (operand.Indexed r x) = is_general r
is_source (operand.Symbolic x) = true
is_source (operand.Absolute x) = true
is_source (operand.Indirect r) = nat_lt r 16 && not (r == 2) && not (r == 3)
is_source (operand.Increment r) = is_general r
is_source (operand.Immediate x) = true
is_source (operand.Const c) = is_constant c

-- what an instruction with two operands can write; the test of `IsDestination`
abbrev pub is_destination : Operand → Bool
is_destination (operand.Reg r) = nat_lt r 16
is_destination (operand.Indexed r x) = is_general r
is_destination (operand.Symbolic x) = true
is_destination (operand.Absolute x) = true
is_destination _ = false

-- the operands are those of an instruction, whatever addresses the labels have
abbrev pub has_form : Item → Bool
has_form (Two op byte src dst) =
    is_source (operand_at [] 0 src) && is_destination (operand_at [] 0 dst)
has_form (One op byte arg) =
    is_source (operand_at [] 0 arg) && is_allowed op byte (operand_at [] 0 arg)
has_form (Jump cond target) = nat_lt cond 8
has_form (Sancus code) = nat_lt code 8 && not (code == 3)
has_form _ = true

-- rule 2: each instruction has a form that the processor has; else the first line that breaks it
abbrev pub formed : List Entry → Result (Unit {0}) AsmError
formed [] = Ok tt
formed (e ∷ es) = if has_form e.item then formed es else Err (Fault 2 e.line)

-- Rule 3: names.

-- a number, or the name of a label that is in the text
abbrev pub is_known : List Placed → Value → Bool
is_known labels (Number n) = true
is_known labels (Name s) = is_label labels s

-- each label that an operand names is in the text
abbrev pub operand_known : List Placed → Written → Bool
operand_known labels (Reg r) = true
operand_known labels (Indexed v r) = is_known labels v
operand_known labels (Indirect r) = true
operand_known labels (Increment r) = true
operand_known labels (Hash v) = is_known labels v
operand_known labels (Immediate v) = is_known labels v
operand_known labels (Absolute v) = is_known labels v
operand_known labels (Symbolic v) = is_known labels v

-- a label is the first of its name, where this many are before it; other names have a label
abbrev pub names_known : List Placed → ℕ → Item → Bool
names_known labels before (Label s) = not (is_label (take before labels) s)
names_known labels before (Word v) = is_known labels v
names_known labels before (Two op byte src dst) =
    operand_known labels src && operand_known labels dst
names_known labels before (One op byte arg) = operand_known labels arg
names_known labels before (Jump cond target) = is_known labels target
names_known labels before Reti = true
names_known labels before (Sancus code) = true

-- how many labels an item is
abbrev pub label_count : Item → ℕ
label_count (Label s) = 1
label_count _ = 0

-- rule 3: each name is that of a label, and no label occurs twice; else the first line that breaks
-- it
abbrev pub named : List Placed → ℕ → List Entry → Result (Unit {0}) AsmError
named labels before [] = Ok tt
named labels before (e ∷ es) =
    if names_known labels before e.item then named labels (before + label_count e.item) es
    else Err (Fault 3 e.line)

-- Rule 4: jumps.

-- an even target, -512 to 511 words from the word after the jump
abbrev pub in_reach : ℕ → ℕ → Bool
in_reach next target =
    target % 2 == 0 && (nat_le (distance next target) 1022 || nat_le 64512 (distance next target))

-- a jump's target is within its reach
abbrev pub reaches : List Placed → ℕ → Item → Bool
reaches labels at (Jump cond target) = in_reach (further at 2) (number labels target)
reaches labels at _ = true

-- rule 4: each jump reaches its target; else the first line that breaks it
abbrev pub reached : List Placed → ℕ → List Entry → Result (Unit {0}) AsmError
reached labels at [] = Ok tt
reached labels at (e ∷ es) =
    if reaches labels at e.item then reached labels (further at (size e.item)) es
    else Err (Fault 4 e.line)

-- Rule 5: the place of the code.

-- this many bytes may still come
abbrev pub fitted : ℕ → List Entry → Result (Unit {0}) AsmError
fitted room [] = Ok tt
fitted room (e ∷ es) =
    if nat_le (size e.item) room then fitted (room - size e.item) es else Err (Fault 5 e.line)

-- an even address, and at most 8,192 bytes, none above 65,535
abbrev pub stands : ℕ → List Entry → Result (Unit {0}) AsmError
stands at es = if at % 2 == 0 then fitted (min 8192 (65536 - at)) es else Err (Fault 5 1)

-- The rules in their order, each over the whole text, and then the code.

-- the rules 2 to 5 in their order, and then the code
abbrev pub code_with : List Placed → ℕ → List Entry → Result (List ℕ) AsmError
code_with labels at es = do
  a ← formed es
  b ← named labels 0 es
  c ← reached labels at es
  d ← stands at es
  Ok (code_of labels at es)

-- the code of a text's items from an address on, or the first rule that they break
abbrev pub code_or_fault : ℕ → List Entry → Result (List ℕ) AsmError
code_or_fault at es = code_with (labels_of at es) at es

-- the code of a text from an address on, or the first rule that it breaks and the first line that
-- breaks it
unfoldable pub assembled : ℕ → List ℕ → Result (List ℕ) AsmError
assembled at text = read text >>= code_or_fault at
