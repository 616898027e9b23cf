-- Instructions that have a shortcut, by their form.
--     instruction_of, words_of      the instruction of a form with extension words of 0, and how many
--         words it has
--     single_of, double_of, triple_of      the instructions of the forms on words with no extension
--         word, with one and with two
--     byte_single_of, byte_double_of      those of the forms on bytes with no extension word and with
--         one
--     is_general      its register is no one of PC, SP, SR and R3
--     is_fit      the register that a form writes is general
--     byte_single_is_fit, byte_double_is_fit      the same of the forms on bytes with no extension
--         word and with one
--     IsForm      a form is that of an instruction of so many words
--     IsByteDouble      a form on bytes with one extension word is that of an instruction
use Rattle.std.specs.Prelude.{◌≡◌, ℕ, Bool, true, false, ◌&&◌, nat_le, nat_lt}
use Rattle.sx_isa.specs.declared.instruction.Instr.{Instr}
use Rattle.sx_isa.specs.declared.instruction.Instr.TheVariants as instr
use Rattle.sx_isa.specs.declared.instruction.Operand.TheVariants as operand
use Rattle.sx_isa.specs.declared.instruction.Op2.TheVariants.{Add, Sub, Cmp}
use Rattle.sx_executor.specs.declared.shortcut.Form.{Form}
use Rattle.sx_executor.specs.declared.shortcut.Form.TheVariants.{JumpNotEqual, JumpEqual}
use Rattle.sx_executor.specs.declared.shortcut.Form.TheVariants.{JumpNoCarry, JumpCarry}
use Rattle.sx_executor.specs.declared.shortcut.Form.TheVariants.{JumpNegative, JumpGreater}
use Rattle.sx_executor.specs.declared.shortcut.Form.TheVariants.{JumpLess, JumpAlways}
use Rattle.sx_executor.specs.declared.shortcut.Form.TheVariants.{Registers, Constant}
use Rattle.sx_executor.specs.declared.shortcut.Form.TheVariants.{AddConstant, SubtractConstant}
use Rattle.sx_executor.specs.declared.shortcut.Form.TheVariants.{CompareConstant}
use Rattle.sx_executor.specs.declared.shortcut.Form.TheVariants.{OntoIndexed, OntoSymbolic}
use Rattle.sx_executor.specs.declared.shortcut.Form.TheVariants.{OntoAbsolute}
use Rattle.sx_executor.specs.declared.shortcut.Form.TheVariants.{AddAbsolute, AddIndexed}
use Rattle.sx_executor.specs.declared.shortcut.Form.TheVariants.{ConstantOntoSpecial}
use Rattle.sx_executor.specs.declared.shortcut.Form.TheVariants.{ByteConstant, ByteOntoIndexed}
use Rattle.sx_executor.specs.declared.shortcut.Form.TheVariants.{ByteOntoAbsolute}
use Rattle.sx_executor.specs.declared.shortcut.Form.TheVariants as form
use Rattle.sx_executor.specs.declared.shortcut.Single.{Single}
use Rattle.sx_executor.specs.declared.shortcut.Single.TheVariants as single
use Rattle.sx_executor.specs.declared.shortcut.Double.{Double}
use Rattle.sx_executor.specs.declared.shortcut.Double.TheVariants as double
use Rattle.sx_executor.specs.declared.shortcut.Triple.{Triple}
use Rattle.sx_executor.specs.declared.shortcut.Triple.TheVariants as triple
use Rattle.sx_executor.specs.declared.shortcut.ByteSingle.{ByteSingle}
use Rattle.sx_executor.specs.declared.shortcut.ByteSingle.TheVariants as byte_single
use Rattle.sx_executor.specs.declared.shortcut.ByteDouble.{ByteDouble}
use Rattle.sx_executor.specs.declared.shortcut.ByteDouble.TheVariants as byte_double

-- the instruction of a form on words with no extension word
abbrev pub single_of : Single → Instr
single_of (single.OntoSpecial op src dst) =
    instr.Two op false (operand.Reg src) (operand.Reg dst)
single_of (single.FromIncrement op src dst) =
    instr.Two op false (operand.Increment src) (operand.Reg dst)
single_of (single.FromIndirect op src dst) =
    instr.Two op false (operand.Indirect src) (operand.Reg dst)
single_of (single.OnRegister op arg) = instr.One op false (operand.Reg arg)
single_of (single.OnConstant op value) = instr.One op false (operand.Const value)

-- the instruction of a form with one extension word, which is 0, on words if it doesn't say bytes
abbrev pub double_of : Double → Instr
double_of (double.FromImmediate op dst) =
    instr.Two op false (operand.Immediate 0) (operand.Reg dst)
double_of (double.FromAbsolute op dst) = instr.Two op false (operand.Absolute 0) (operand.Reg dst)
double_of (double.FromIndexed op base dst) =
    instr.Two op false (operand.Indexed base 0) (operand.Reg dst)
double_of (double.RegisterOntoAbsolute op src) =
    instr.Two op false (operand.Reg src) (operand.Absolute 0)
double_of (double.RegisterOntoIndexed op src base) =
    instr.Two op false (operand.Reg src) (operand.Indexed base 0)
double_of (double.IncrementOntoAbsolute op src) =
    instr.Two op false (operand.Increment src) (operand.Absolute 0)
double_of (double.IncrementOntoIndexed op src base) =
    instr.Two op false (operand.Increment src) (operand.Indexed base 0)
double_of (double.BytesOntoIndexed op src base) =
    instr.Two op true (operand.Increment src) (operand.Indexed base 0)
double_of (double.OnImmediate op) = instr.One op false (operand.Immediate 0)
double_of (double.OnAbsolute op) = instr.One op false (operand.Absolute 0)
double_of (double.OnIndexed op base) = instr.One op false (operand.Indexed base 0)

-- the instruction of a form with two extension words, which are 0
abbrev pub triple_of : Triple → Instr
triple_of (triple.ImmediateOntoAbsolute op) =
    instr.Two op false (operand.Immediate 0) (operand.Absolute 0)
triple_of (triple.ImmediateOntoIndexed op base) =
    instr.Two op false (operand.Immediate 0) (operand.Indexed base 0)
triple_of (triple.AbsoluteOntoAbsolute op) =
    instr.Two op false (operand.Absolute 0) (operand.Absolute 0)
triple_of (triple.AbsoluteOntoIndexed op base) =
    instr.Two op false (operand.Absolute 0) (operand.Indexed base 0)
triple_of (triple.IndexedOntoAbsolute op base) =
    instr.Two op false (operand.Indexed base 0) (operand.Absolute 0)
triple_of (triple.IndexedOntoIndexed op from base) =
    instr.Two op false (operand.Indexed from 0) (operand.Indexed base 0)

-- the instruction of a form on bytes with no extension word
abbrev pub byte_single_of : ByteSingle → Instr
byte_single_of (byte_single.Registers op src dst) =
    instr.Two op true (operand.Reg src) (operand.Reg dst)
byte_single_of (byte_single.FromIncrement op src dst) =
    instr.Two op true (operand.Increment src) (operand.Reg dst)
byte_single_of (byte_single.FromIndirect op src dst) =
    instr.Two op true (operand.Indirect src) (operand.Reg dst)
byte_single_of (byte_single.OnRegister op arg) = instr.One op true (operand.Reg arg)

-- the instruction of a form on bytes with one extension word, which is 0
abbrev pub byte_double_of : ByteDouble → Instr
byte_double_of (byte_double.FromImmediate op dst) =
    instr.Two op true (operand.Immediate 0) (operand.Reg dst)
byte_double_of (byte_double.FromAbsolute op dst) =
    instr.Two op true (operand.Absolute 0) (operand.Reg dst)
byte_double_of (byte_double.FromIndexed op base dst) =
    instr.Two op true (operand.Indexed base 0) (operand.Reg dst)
byte_double_of (byte_double.OntoAbsolute op src) =
    instr.Two op true (operand.Reg src) (operand.Absolute 0)
byte_double_of (byte_double.OntoIndexed op src base) =
    instr.Two op true (operand.Reg src) (operand.Indexed base 0)

-- the instruction of a form, with extension words of 0
abbrev pub instruction_of : Form → Instr
instruction_of (JumpNotEqual offset) = instr.Jump 0 offset
instruction_of (JumpEqual offset) = instr.Jump 1 offset
instruction_of (JumpNoCarry offset) = instr.Jump 2 offset
instruction_of (JumpCarry offset) = instr.Jump 3 offset
instruction_of (JumpNegative offset) = instr.Jump 4 offset
instruction_of (JumpGreater offset) = instr.Jump 5 offset
instruction_of (JumpLess offset) = instr.Jump 6 offset
instruction_of (JumpAlways offset) = instr.Jump 7 offset
instruction_of (Registers op src dst) = instr.Two op false (operand.Reg src) (operand.Reg dst)
instruction_of (AddConstant value dst) = instr.Two Add false (operand.Const value) (operand.Reg dst)
instruction_of (SubtractConstant value dst) =
    instr.Two Sub false (operand.Const value) (operand.Reg dst)
instruction_of (CompareConstant value dst) =
    instr.Two Cmp false (operand.Const value) (operand.Reg dst)
instruction_of (Constant op value dst) = instr.Two op false (operand.Const value) (operand.Reg dst)
instruction_of (OntoIndexed op value base) =
    instr.Two op false (operand.Const value) (operand.Indexed base 0)
instruction_of (OntoSymbolic op value) =
    instr.Two op false (operand.Const value) (operand.Symbolic 0)
instruction_of (OntoAbsolute op value) =
    instr.Two op false (operand.Const value) (operand.Absolute 0)
instruction_of (AddAbsolute dst) = instr.Two Add false (operand.Absolute 0) (operand.Reg dst)
instruction_of (AddIndexed base dst) =
    instr.Two Add false (operand.Indexed base 0) (operand.Reg dst)
instruction_of (form.Single f) = single_of f
instruction_of (form.Double f) = double_of f
instruction_of (form.Triple f) = triple_of f
instruction_of (ConstantOntoSpecial op value dst) =
    instr.Two op false (operand.Const value) (operand.Reg dst)
instruction_of (ByteConstant op value dst) =
    instr.Two op true (operand.Const value) (operand.Reg dst)
instruction_of (ByteOntoIndexed op value base) =
    instr.Two op true (operand.Const value) (operand.Indexed base 0)
instruction_of (ByteOntoAbsolute op value) =
    instr.Two op true (operand.Const value) (operand.Absolute 0)
instruction_of (form.ByteSingle f) = byte_single_of f
instruction_of (form.ByteDouble f) = byte_double_of f

-- how many words it has
abbrev pub words_of : Form → ℕ
words_of (JumpNotEqual offset) = 1
words_of (JumpEqual offset) = 1
words_of (JumpNoCarry offset) = 1
words_of (JumpCarry offset) = 1
words_of (JumpNegative offset) = 1
words_of (JumpGreater offset) = 1
words_of (JumpLess offset) = 1
words_of (JumpAlways offset) = 1
words_of (Registers op src dst) = 1
words_of (AddConstant value dst) = 1
words_of (SubtractConstant value dst) = 1
words_of (CompareConstant value dst) = 1
words_of (Constant op value dst) = 1
words_of (OntoIndexed op value base) = 2
words_of (OntoSymbolic op value) = 2
words_of (OntoAbsolute op value) = 2
words_of (AddAbsolute dst) = 2
words_of (AddIndexed base dst) = 2
words_of (form.Single f) = 1
words_of (form.Double f) = 2
words_of (form.Triple f) = 3
words_of (ConstantOntoSpecial op value dst) = 1
words_of (ByteConstant op value dst) = 1
words_of (ByteOntoIndexed op value base) = 2
words_of (ByteOntoAbsolute op value) = 2
words_of (form.ByteSingle f) = 1
words_of (form.ByteDouble f) = 2

-- a register that keeps all of what is written to it
abbrev pub is_general : ℕ → Bool
is_general r = nat_le 4 r && nat_lt r 16

-- a register that an operation on bytes writes is a general one
abbrev pub byte_single_is_fit : ByteSingle → Bool
byte_single_is_fit (byte_single.Registers op src dst) = is_general dst
byte_single_is_fit (byte_single.FromIncrement op src dst) = is_general dst
byte_single_is_fit (byte_single.FromIndirect op src dst) = is_general dst
byte_single_is_fit (byte_single.OnRegister op arg) = true

-- the same of an operation with one extension word
abbrev pub byte_double_is_fit : ByteDouble → Bool
byte_double_is_fit (byte_double.FromImmediate op dst) = is_general dst
byte_double_is_fit (byte_double.FromAbsolute op dst) = is_general dst
byte_double_is_fit (byte_double.FromIndexed op base dst) = is_general dst
byte_double_is_fit (byte_double.OntoAbsolute op src) = true
byte_double_is_fit (byte_double.OntoIndexed op src base) = true

-- a register that is written is a general one
abbrev pub is_fit : Form → Bool
is_fit (JumpNotEqual offset) = true
is_fit (JumpEqual offset) = true
is_fit (JumpNoCarry offset) = true
is_fit (JumpCarry offset) = true
is_fit (JumpNegative offset) = true
is_fit (JumpGreater offset) = true
is_fit (JumpLess offset) = true
is_fit (JumpAlways offset) = true
is_fit (Registers op src dst) = is_general dst
is_fit (AddConstant value dst) = is_general dst
is_fit (SubtractConstant value dst) = is_general dst
is_fit (CompareConstant value dst) = is_general dst
is_fit (Constant op value dst) = is_general dst
is_fit (OntoIndexed op value base) = true
is_fit (OntoSymbolic op value) = true
is_fit (OntoAbsolute op value) = true
is_fit (AddAbsolute dst) = is_general dst
is_fit (AddIndexed base dst) = is_general dst
is_fit (form.Single f) = true
is_fit (form.Double f) = true
is_fit (form.Triple f) = true
is_fit (ConstantOntoSpecial op value dst) = true
is_fit (ByteConstant op value dst) = is_general dst
is_fit (ByteOntoIndexed op value base) = true
is_fit (ByteOntoAbsolute op value) = true
is_fit (form.ByteSingle f) = byte_single_is_fit f
is_fit (form.ByteDouble f) = byte_double_is_fit f

-- a form is that of an instruction with extension words of 0, which has so many words
abbrev pub IsForm : Form → Instr → ℕ → Type 0
IsForm form instruction words =
    (instruction_of form ≡ instruction) × (words_of form ≡ words) × (is_fit form ≡ true)

-- a form on bytes with one extension word is that of an instruction with extension words of 0
abbrev pub IsByteDouble : ByteDouble → Instr → Type 0
IsByteDouble form instruction =
    (byte_double_of form ≡ instruction) × (byte_double_is_fit form ≡ true)
