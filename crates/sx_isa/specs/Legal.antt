-- What is allowed of an operation on one operand: on bytes, and on an operand that is no place.
use Rattle.std.specs.Prelude.{Bool, true, false, ◌&&◌, ◌||◌, not}
use Rattle.sx_isa.specs.declared.instruction.Operand.{Operand}
use Rattle.sx_isa.specs.declared.instruction.Operand.TheVariants.{Immediate, Const}
use Rattle.sx_isa.specs.declared.instruction.Op1.{Op1}
use Rattle.sx_isa.specs.declared.instruction.Op1.TheVariants.{Swpb, Sxt, Push, Call}

-- whether the operation can be on bytes
abbrev pub has_byte_form : Op1 → Bool
has_byte_form Swpb = false
has_byte_form Sxt = false
has_byte_form Call = false
has_byte_form _ = true

-- whether the result goes where the operand is
abbrev pub writes_back : Op1 → Bool
writes_back Push = false
writes_back Call = false
writes_back _ = true

-- a constant or an immediate is a number and no place
abbrev pub is_value : Operand → Bool
is_value (Immediate x) = true
is_value (Const c) = true
is_value _ = false

-- whether an operation on one operand has this form, at this operand
abbrev pub is_allowed : Op1 → Bool → Operand → Bool
is_allowed op byte arg = (has_byte_form op || not byte) && not (writes_back op && is_value arg)
