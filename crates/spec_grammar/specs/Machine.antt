-- A second form of the grammar, to compute with: what a prefix of a text still requires, as a
-- stack, and how a token changes it. Nothing here has to be believed: the laws of this crate tie it
-- to the grammar.
use Rattle.std.specs.Prelude.{ℕ, ◌+◌, List, [], ◌∷◌, ◌++◌, Bool, true, false, Option, Some, None}
use Rattle.std.specs.Prelude.{if◌then◌else◌}
use Rattle.sx_lang.specs.Tree.{Expression, Constant, Variable, Indexed, Applied, Combined}
use Rattle.sx_lang.specs.Tree.{Statement, Defines, Assigns, Stores, Chooses, Repeats, Sends, Emits}
use Rattle.sx_lang.specs.Tree.{Block, Done, Then, ModuleTree}
use Rattle.sx_lang.specs.declared.tree.UnOp.{UnOp}
use Rattle.sx_lang.specs.declared.tree.BinOp.{BinOp}
use Rattle.sx_lang.specs.declared.tree.Decl.{Decl}
use Rattle.sx_lang.specs.declared.tree.DeviceKind.{DeviceKind}
use Rattle.sx_lex.specs.declared.tokens.Kind.{Kind}
use Rattle.sx_lex.specs.declared.tokens.Kind.TheVariants.{Number, Name, Sensor, Actuator, Input}
use Rattle.sx_lex.specs.declared.tokens.Kind.TheVariants.{Output, Var, Array, On, Sample, Let, If}
use Rattle.sx_lex.specs.declared.tokens.Kind.TheVariants.{Else, Repeat, Send, Emit, Semicolon}
use Rattle.sx_lex.specs.declared.tokens.Kind.TheVariants.{Equals, Open, Close, OpenSquare}
use Rattle.sx_lex.specs.declared.tokens.Kind.TheVariants.{CloseSquare, OpenBrace, CloseBrace, Minus}
use Rattle.sx_lex.specs.declared.tokens.Kind.TheVariants.{Tilde, Bang}
use Rattle.sx_lex.specs.declared.tokens.Placed.{Placed}
use Rattle.spec_grammar.specs.Tokens.{Token, token, fits, factor_operator, addend_operator}
use Rattle.spec_grammar.specs.Tokens.{comparison_operator}

-- the signs that the grammar requires
pub data Sign : Type 0 where
  An_open : Sign
  A_close : Sign
  An_open_square : Sign
  A_close_square : Sign
  A_semicolon : Sign
  An_equals : Sign

-- what is done to the values once a part was read
pub data Reduction : Type 0 where
  Do_index : List ℕ → Reduction
  Do_combine : BinOp → Reduction
  Do_define : List ℕ → Reduction
  Do_assign : List ℕ → Reduction
  Do_store : List ℕ → Reduction
  Do_choose : Reduction
  Do_repeat : ℕ → Reduction
  Do_send : List ℕ → Reduction
  Do_emit : Reduction
  Do_declare : Decl → Reduction
  Do_handle : Option (List ℕ) → List ℕ → Reduction

-- what a required name comes after
pub data After : Type 0 where
  After_let : After
  After_send : After
  After_input : After
  After_output : After
  After_var : After
  After_array : After
  After_on : After
  After_open : Option (List ℕ) → After  -- a handler's parameter, with its input

-- what a required number is for
pub data Purpose : Type 0 where
  For_repeat : Purpose
  For_initial : List ℕ → Purpose
  For_length : List ℕ → Purpose

-- what is still to be read, or to be done with what was read
pub data Symbol : Type 0 where
  Want : Sign → Symbol
  Say : Reduction → Symbol
  Unary_of : UnOp → Symbol
  Operand : Symbol
  Factors : ℕ → Symbol
  Addends : ℕ → Symbol
  Comparison : Symbol
  Index_of : List ℕ → Symbol
  An_expression : Symbol
  A_block : Symbol
  Statements : Symbol
  Otherwise : Symbol
  A_name : After → Symbol
  A_number : Purpose → Symbol
  Target_of : List ℕ → Symbol
  Argument_of : List ℕ → Symbol
  Initial_of : List ℕ → Symbol
  Declarations : Symbol
  Handlers : Symbol

-- what was read so far: a tree that is being made
pub data Value : Type 0 where
  Of_expression : Expression → Value
  Of_block : Block → Value
  Of_module : ModuleTree → Value

-- what is still to be read, the next first, and what was read, the last first
abbrev pub MachineState : Type 0
MachineState = List Symbol × List Value

-- a token is this sign
abbrev pub is_sign : Sign → Kind → Bool
is_sign An_open Open = true
is_sign A_close Close = true
is_sign An_open_square OpenSquare = true
is_sign A_close_square CloseSquare = true
is_sign A_semicolon Semicolon = true
is_sign An_equals Equals = true
is_sign _ _ = false

-- a closing bracket that is still to be read stands for one more that is open
abbrev pub opened_by : Sign → ℕ → ℕ
opened_by An_open n = n
opened_by A_close n = n + 1
opened_by An_open_square n = n
opened_by A_close_square n = n + 1
opened_by A_semicolon n = n
opened_by An_equals n = n

-- how many brackets and unary operators are open
abbrev pub opens : List Symbol → ℕ
opens [] = 0
opens (Want f ∷ st) = opened_by f (opens st)
opens (Unary_of op ∷ st) = opens st + 1
opens (Statements ∷ st) = opens st + 1
opens (_ ∷ st) = opens st

-- a block with one more statement at its end
abbrev pub snoc : Block → Statement → Block
snoc Done s = Then s Done
snoc (Then t b) s = Then t (snoc b s)

-- a change of the expression that was read last
abbrev pub on_expression : List Value → (Expression → List Value → List Value) → List Value
on_expression (Of_expression e ∷ vs) f = f e vs
on_expression vs f = vs

-- a change of the block that was read last
abbrev pub on_block : List Value → (Block → List Value → List Value) → List Value
on_block (Of_block b ∷ vs) f = f b vs
on_block vs f = vs

-- a change of the module
abbrev pub on_module : List Value → (ModuleTree → List Value → List Value) → List Value
on_module (Of_module m ∷ vs) f = f m vs
on_module vs f = vs

-- a statement after those of its block
abbrev pub append : Statement → List Value → List Value
append s vs = on_block vs (λ b vs. Of_block (snoc b s) ∷ vs)

-- what an act does with the trees that were read
abbrev pub reduce : Reduction → List Value → List Value
reduce (Do_index x) vs = on_expression vs (λ e vs. Of_expression (Indexed x e) ∷ vs)
reduce (Do_combine op) vs =
    on_expression vs (λ r vs. on_expression vs (λ l vs. Of_expression (Combined op l r) ∷ vs))
reduce (Do_define x) vs = on_expression vs (λ e vs. append (Defines x e) vs)
reduce (Do_assign x) vs = on_expression vs (λ e vs. append (Assigns x e) vs)
reduce (Do_store x) vs =
    on_expression vs (λ e vs. on_expression vs (λ i vs. append (Stores x i e) vs))
reduce Do_choose vs =
    on_block vs (λ y vs. on_block vs (λ x vs. on_expression vs (λ e vs. append (Chooses e x y) vs)))
reduce (Do_repeat n) vs = on_block vs (λ x vs. append (Repeats n x) vs)
reduce (Do_send x) vs = on_expression vs (λ e vs. append (Sends x e) vs)
reduce Do_emit vs = on_expression vs (λ e vs. append (Emits e) vs)
reduce (Do_declare d) vs =
    on_module vs (λ m vs. Of_module (record m { decls = m.decls ++ d ∷ [] }) ∷ vs)
reduce (Do_handle i v) vs = on_block vs (λ b vs.
    on_module vs (λ m vs. Of_module (record m {
      handlers =
          m.handlers ++ record { input = i; param = v; body = b } ∷ [];
    }) ∷ vs))

-- a unary operator on the expression that was read last
abbrev pub apply : UnOp → List Value → List Value
apply op vs = on_expression vs (λ e vs. Of_expression (Applied op e) ∷ vs)

-- one way where there is a value, another where there is none
abbrev pub choose : {A C : Type 0} → Option A → C → (A → C) → C
choose None other f = other
choose (Some a) other f = f a

-- a state, where the test holds
abbrev pub when : Bool → List Symbol → List Value → Option MachineState
when true st vs = Some (st, vs)
when false st vs = None

-- the name that a token is
abbrev pub name_of : Kind → Option (List ℕ)
name_of (Name x) = Some x
name_of _ = None

-- the number that a token is
abbrev pub number_of : Kind → Option ℕ
number_of (Number n) = Some n
number_of _ = None

-- what comes after a name, by what the name is for
abbrev pub follow : After → List ℕ → List Symbol → List Symbol
follow After_let x st = Want An_equals ∷ An_expression ∷ Want A_semicolon ∷ Say (Do_define x) ∷ st
follow After_send x st = Argument_of x ∷ st
follow After_input x st = Want A_semicolon ∷ Say (Do_declare (Decl.Input x)) ∷ st
follow After_output x st = Want A_semicolon ∷ Say (Do_declare (Decl.Output x)) ∷ st
follow After_var x st = Initial_of x ∷ st
follow After_array x st = Want An_open_square ∷ A_number (For_length x) ∷ st
follow After_on x st = Want An_open ∷ A_name (After_open (Some x)) ∷ st
follow (After_open i) x st = Want A_close ∷ A_block ∷ Say (Do_handle i x) ∷ st

-- what comes after a number, by what the number is for
abbrev pub follow_number : Purpose → ℕ → List Symbol → List Symbol
follow_number For_repeat n st = A_block ∷ Say (Do_repeat n) ∷ st
follow_number (For_initial x) n st = Want A_semicolon ∷ Say (Do_declare (Decl.Var x n)) ∷ st
follow_number (For_length x) n st =
    Want A_close_square ∷ Want A_semicolon ∷ Say (Do_declare (Decl.Array x n)) ∷ st

-- the first token of an operand
abbrev pub operand : (ℕ → Bool) → List Symbol → List Value → Kind → Option MachineState
operand room st vs (Number n) = Some (st, Of_expression (Constant n) ∷ vs)
operand room st vs (Name x) = Some (Index_of x ∷ st, vs)
operand room st vs Open = when (room (opens st)) (An_expression ∷ Want A_close ∷ st) vs
operand room st vs Minus = when (room (opens st)) (Operand ∷ Unary_of UnOp.Neg ∷ st) vs
operand room st vs Tilde = when (room (opens st)) (Operand ∷ Unary_of UnOp.Inv ∷ st) vs
operand room st vs Bang = when (room (opens st)) (Operand ∷ Unary_of UnOp.Not ∷ st) vs
operand room st vs _ = None

-- the first token of a statement, or the brace after the last
abbrev pub statement : List Symbol → List Value → Kind → Option MachineState
statement st vs CloseBrace = Some (st, vs)
statement st vs Let = Some (A_name After_let ∷ Statements ∷ st, vs)
statement st vs (Name x) = Some (Target_of x ∷ Statements ∷ st, vs)
statement st vs If =
    Some (An_expression ∷ A_block ∷ Otherwise ∷ Say Do_choose ∷ Statements ∷ st, vs)
statement st vs Repeat = Some (A_number For_repeat ∷ Statements ∷ st, vs)
statement st vs Send = Some (A_name After_send ∷ Statements ∷ st, vs)
statement st vs Emit = Some (An_expression ∷ Want A_semicolon ∷ Say Do_emit ∷ Statements ∷ st, vs)
statement st vs _ = None

-- what follows the name that is assigned to
abbrev pub target : (ℕ → Bool) → List ℕ → List Symbol → List Value → Kind → Option MachineState
target room x st vs Equals = Some (An_expression ∷ Want A_semicolon ∷ Say (Do_assign x) ∷ st, vs)
target room x st vs OpenSquare = when (room (opens st))
    (An_expression ∷ Want A_close_square ∷ Want An_equals ∷ An_expression ∷ Want A_semicolon
    ∷ Say (Do_store x) ∷ st) vs
target room x st vs _ = None

-- what follows the name of an output
abbrev pub argument : (ℕ → Bool) → List ℕ → List Symbol → List Value → Kind → Option MachineState
argument room x st vs Open = when (room (opens st))
    (An_expression ∷ Want A_close ∷ Want A_semicolon ∷ Say (Do_send x) ∷ st) vs
argument room x st vs _ = None

-- what follows the name of a variable
abbrev pub initial : List ℕ → List Symbol → List Value → Kind → Option MachineState
initial x st vs Semicolon = Some (st, reduce (Do_declare (Decl.Var x 0)) vs)
initial x st vs Equals = Some (A_number (For_initial x) ∷ st, vs)
initial x st vs _ = None

-- a token where a handler may begin
abbrev pub handlers : List Symbol → List Value → Kind → Option MachineState
handlers st vs On = Some (A_name After_on ∷ Handlers ∷ st, vs)
handlers st vs Sample = Some (Want An_open ∷ A_name (After_open None) ∷ Handlers ∷ st, vs)
handlers st vs _ = None

-- a token where a declaration may begin
abbrev pub declarations : List Symbol → List Value → Kind → Option MachineState
declarations st vs Sensor = Some (
  Want A_semicolon
      ∷ Say (Do_declare (Decl.Device DeviceKind.Sensor)) ∷ Declarations ∷ st,
  vs,
)
declarations st vs Actuator = Some (
  Want A_semicolon
      ∷ Say (Do_declare (Decl.Device DeviceKind.Actuator)) ∷ Declarations ∷ st,
  vs,
)
declarations st vs Input = Some (A_name After_input ∷ Declarations ∷ st, vs)
declarations st vs Output = Some (A_name After_output ∷ Declarations ∷ st, vs)
declarations st vs Var = Some (A_name After_var ∷ Declarations ∷ st, vs)
declarations st vs Array = Some (A_name After_array ∷ Declarations ∷ st, vs)
declarations st vs k = handlers st vs k

-- a token where a block begins, if one more bracket may be open
abbrev pub open_block : (ℕ → Bool) → List Symbol → List Value → Kind → Option MachineState
open_block room st vs OpenBrace = when (room (opens st)) (Statements ∷ st) (Of_block Done ∷ vs)
open_block room st vs _ = None

-- an opening square bracket
abbrev pub is_square : Kind → Bool
is_square OpenSquare = true
is_square _ = false

-- the word `else`
abbrev pub is_else : Kind → Bool
is_else Else = true
is_else _ = false

-- what is required once a token was read, if it may be here: a part that may be left out is
-- passed over by a token that isn't its own
abbrev pub step : (ℕ → Bool) → List Symbol → List Value → Kind → Option MachineState
step room [] vs k = None
step room (Want f ∷ st) vs k = when (is_sign f k) st vs
step room (Say a ∷ st) vs k = step room st (reduce a vs) k
step room (Unary_of op ∷ st) vs k = step room st (apply op vs) k
step room (Operand ∷ st) vs k = operand room st vs k
step room (Factors n ∷ st) vs k = choose (factor_operator k) (step room st vs k)
    (λ op. when (room n) (Operand ∷ Say (Do_combine op) ∷ Factors (n + 1) ∷ st) vs)
step room (Addends n ∷ st) vs k = choose (addend_operator k) (step room st vs k)
    (λ op. when (room n) (Operand ∷ Factors 0 ∷ Say (Do_combine op) ∷ Addends (n + 1) ∷ st) vs)
step room (Comparison ∷ st) vs k = choose (comparison_operator k) (step room st vs k)
    (λ op. Some (Operand ∷ Factors 0 ∷ Addends 0 ∷ Say (Do_combine op) ∷ st, vs))
step room (Index_of x ∷ st) vs k = if is_square k then
    when (room (opens st)) (An_expression ∷ Want A_close_square ∷ Say (Do_index x) ∷ st) vs else
    step room st (Of_expression (Variable x) ∷ vs) k
step room (An_expression ∷ st) vs k = operand room (Factors 0 ∷ Addends 0 ∷ Comparison ∷ st) vs k
step room (A_block ∷ st) vs k = open_block room st vs k
step room (Statements ∷ st) vs k = statement st vs k
step room (Otherwise ∷ st) vs k =
    if is_else k then Some (A_block ∷ st, vs) else step room st (Of_block Done ∷ vs) k
step room (A_name w ∷ st) vs k = choose (name_of k) None (λ x. Some (follow w x st, vs))
step room (A_number w ∷ st) vs k = choose (number_of k) None (λ n. Some (follow_number w n st, vs))
step room (Target_of x ∷ st) vs k = target room x st vs k
step room (Argument_of x ∷ st) vs k = argument room x st vs k
step room (Initial_of x ∷ st) vs k = initial x st vs k
step room (Declarations ∷ st) vs k = declarations st vs k
step room (Handlers ∷ st) vs k = handlers st vs k

-- A text's end: what may be left out is left out, and nothing else may be required.
abbrev pub finish : List Symbol → List Value → Option (List Value)
finish [] vs = Some vs
finish (Say a ∷ st) vs = finish st (reduce a vs)
finish (Unary_of op ∷ st) vs = finish st (apply op vs)
finish (Factors n ∷ st) vs = finish st vs
finish (Addends n ∷ st) vs = finish st vs
finish (Comparison ∷ st) vs = finish st vs
finish (Index_of x ∷ st) vs = finish st (Of_expression (Variable x) ∷ vs)
finish (Otherwise ∷ st) vs = finish st (Of_block Done ∷ vs)
finish (Declarations ∷ st) vs = finish st vs
finish (Handlers ∷ st) vs = finish st vs
finish (_ ∷ st) vs = None

-- how the reading of tokens ends
pub data ReadOutcome : Type 0 where
  Read : List Value → ReadOutcome
  Refused : Option Placed → ReadOutcome  -- the first token that can't follow, or the end

-- the outcome at the end of the tokens
abbrev pub ended : Option (List Value) → ReadOutcome
ended (Some vs) = Read vs
ended None = Refused None

-- what the machine makes of a text
abbrev pub read : List Symbol → List Value → List Placed → ReadOutcome
read st vs [] = ended (finish st vs)
read st vs (t ∷ ts) =
    choose (step (fits true) st vs t.kind) (Refused (Some t)) (λ s. read s.0 s.1 ts)

-- the same of tokens to which others may be added, to tell whether a text can be continued
abbrev pub reads : List Symbol → List Value → List Token → Option (List Value)
reads st vs [] = finish st vs
reads st vs (token k c ∷ ts) = choose (step (fits c) st vs k) None (λ s. reads s.0 s.1 ts)

-- what is to be read of a module
abbrev pub begun : List Symbol
begun = Declarations ∷ []

-- the module in which nothing was read
abbrev pub nothing : List Value
nothing = Of_module (record { decls = []; handlers = [] }) ∷ []
