-- What tokens say: values, operands and statements.
use Rattle.std.specs.Prelude.{ℕ, Bool, true, false, if◌then◌else◌, List, [], ◌∷◌, Option, Some}
use Rattle.std.specs.Prelude.{None, option_map, option_and_then}
use Rattle.sx_isa.specs.declared.instruction.Op2.{Op2}
use Rattle.sx_asm.specs.declared.written.Token.{Token}
use Rattle.sx_asm.specs.declared.written.Token.TheVariants as token
use Rattle.sx_asm.specs.declared.written.Value.{Value}
use Rattle.sx_asm.specs.declared.written.Value.TheVariants.{Number, Name}
use Rattle.sx_asm.specs.declared.written.Written.{Written}
use Rattle.sx_asm.specs.declared.written.Written.TheVariants.{Reg, Indexed, Indirect, Increment}
use Rattle.sx_asm.specs.declared.written.Written.TheVariants.{Hash, Immediate, Absolute, Symbolic}
use Rattle.sx_asm.specs.declared.written.Item.{Item}
use Rattle.sx_asm.specs.declared.written.Item.TheVariants.{Label, Word, Two, One, Jump, Reti}
use Rattle.sx_asm.specs.declared.written.Item.TheVariants.{Sancus}

-- value = NUMBER | NAME
abbrev pub value : Token → Option Value
value (token.Number n) = Some (Number n)
value (token.Name s) = Some (Name s)
value _ = None

-- what a token says, where it is alone
abbrev pub alone : {A : Type 0} → Option A → List Token → Option A
alone said [] = said
alone said (t ∷ ts) = None

-- the value that the tokens write, if they are one token
abbrev pub value_of : List Token → Option Value
value_of [] = None
value_of (t ∷ ts) = alone (value t) ts

-- "(" REG ")"
abbrev pub in_brackets : List Token → Option ℕ
in_brackets (token.Open ∷ token.Reg r ∷ token.Close ∷ []) = Some r
in_brackets _ = None

-- REG [ "+" ], after "@"
abbrev pub indirect : List Token → Option Written
indirect (token.Reg r ∷ []) = Some (Indirect r)
indirect (token.Reg r ∷ token.Plus ∷ []) = Some (Increment r)
indirect _ = None

-- value [ "(" REG ")" ]
abbrev pub memory : List Token → Value → Option Written
memory [] v = Some (Symbolic v)
memory (t ∷ ts) v = option_map (Indexed v) (in_brackets (t ∷ ts))

-- operand = REG | value "(" REG ")" | "@" REG [ "+" ] | "#" value | "##" value | "&" value | value
abbrev pub operand_from : Token → List Token → Option Written
operand_from (token.Reg r) ts = alone (Some (Reg r)) ts
operand_from token.At ts = indirect ts
operand_from token.Hash ts = option_map Hash (value_of ts)
operand_from token.HashHash ts = option_map Immediate (value_of ts)
operand_from token.Ampersand ts = option_map Absolute (value_of ts)
operand_from t ts = option_and_then (memory ts) (value t)

-- the operand that the tokens write
abbrev pub operand_of : List Token → Option Written
operand_of [] = None
operand_of (t ∷ ts) = operand_from t ts

-- the token `,`
abbrev pub is_comma : Token → Bool
is_comma token.Comma = true
is_comma _ = false

-- the token `;`
abbrev pub is_semicolon : Token → Bool
is_semicolon token.Semicolon = true
is_semicolon _ = false

-- the token `:`
abbrev pub is_colon : Token → Bool
is_colon token.Colon = true
is_colon _ = false

-- the tokens before and after the first comma
abbrev pub parted : List Token → Option (List Token × List Token)
parted [] = None
parted (t ∷ ts) = if is_comma t then Some ([], ts) else option_map (λ p. (t ∷ p.0, p.1)) (parted ts)

-- an item of two operands, where both are written
abbrev pub both : Option Written → Option Written → (Written → Written → Item) → Option Item
both (Some a) (Some b) make = Some (make a b)
both None b make = None
both (Some a) None make = None

-- operand "," operand
abbrev pub two_of : Op2 → Bool → Option (List Token × List Token) → Option Item
two_of op byte None = None
two_of op byte (Some p) = both (operand_of p.0) (operand_of p.1) (Two op byte)

-- OP2 operand "," operand | OP1 operand | JUMP value | PLAIN
abbrev pub instruction_from : Token → List Token → Option Item
instruction_from (token.Two op byte) ts = two_of op byte (parted ts)
instruction_from (token.One op byte) ts = option_map (One op byte) (operand_of ts)
instruction_from (token.Jump cond) ts = option_map (Jump cond) (value_of ts)
instruction_from token.Reti ts = alone (Some Reti) ts
instruction_from (token.Sancus code) ts = alone (Some (Sancus code)) ts
instruction_from _ ts = None

-- an item before others
abbrev pub first : Option Item → Option (List Item) → Option (List Item)
first (Some i) (Some is) = Some (i ∷ is)
first None is = None
first (Some i) None = None

-- value { "," value }
abbrev pub data_of : List Token → Option (List Item)
data_of [] = None
data_of (t ∷ []) = first (option_map Word (value t)) (Some [])
data_of (t ∷ c ∷ ts) = if is_comma c then first (option_map Word (value t)) (data_of ts) else None

-- stmt = ".word" value { "," value } | ..
abbrev pub statement_from : Token → List Token → Option (List Item)
statement_from token.Word ts = data_of ts
statement_from t ts = first (instruction_from t ts) (Some [])

-- the items of a statement: none, or an instruction, or what a directive gives
abbrev pub statement_of : List Token → Option (List Item)
statement_of [] = Some []
statement_of (t ∷ ts) = statement_from t ts

-- a label's ":" and what follows it
abbrev pub labelled : List ℕ → List Token → Option (List Item)
labelled name [] = None
labelled name (t ∷ ts) = if is_colon t then first (Some (Label name)) (statement_of ts) else None

-- line = [ NAME ":" ] [ stmt ]
abbrev pub piece_from : Token → List Token → Option (List Item)
piece_from (token.Name s) ts = labelled s ts
piece_from t ts = statement_from t ts

-- the items of a line or of a piece between semicolons: a label, if there is one, and then a
-- statement
abbrev pub piece_of : List Token → Option (List Item)
piece_of [] = Some []
piece_of (t ∷ ts) = piece_from t ts
