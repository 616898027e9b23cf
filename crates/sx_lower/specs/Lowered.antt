-- The stack code of a module's handlers. Nobody has to believe it: what the code does is said in
-- Lowering.
use Rattle.std.specs.Prelude.{◌≡◌, ℕ, ◌≤◌, ◌+◌, Bool, true, false, if◌then◌else◌, nat_lt, List, []}
use Rattle.std.specs.Prelude.{◌∷◌, ◌++◌, length}
use Rattle.sx_lang.specs.declared.tree.Decl.{Decl}
use Rattle.sx_lang.specs.declared.tree.UnOp.{UnOp}
use Rattle.sx_lang.specs.declared.tree.UnOp.TheVariants.{Neg, Inv, Not}
use Rattle.sx_lang.specs.declared.tree.BinOp.{BinOp}
use Rattle.sx_lang.specs.declared.tree.BinOp.TheVariants.{Add, Sub, Or, Xor, Mul, And, Eq, Ne, Lt}
use Rattle.sx_lang.specs.declared.tree.BinOp.TheVariants.{Le, Gt, Ge}
use Rattle.sx_lang.specs.Tree.{Expression, Constant, Variable, Indexed, Applied, Combined}
use Rattle.sx_lang.specs.Tree.{Statement, Defines, Assigns, Stores, Chooses, Repeats, Sends, Emits}
use Rattle.sx_lang.specs.Tree.{Block, Done, Then, HandlerTree, ModuleTree}
use Rattle.sx_check.specs.Names.{defined, block_lets}
use Rattle.sx_mean.specs.declared.events.End.{End}
use Rattle.sx_mean.specs.Places.{place, array_length, output_number}
use Rattle.sx_ir.specs.declared.ir.Ir.{Ir}
use Rattle.sx_ir.specs.declared.ir.Ir.TheVariants as ir
use Rattle.sx_ir.specs.declared.ir.IrOp.{IrOp}
use Rattle.sx_ir.specs.declared.ir.IrOp.TheVariants as op
use Rattle.sx_mean.specs.Offsets.{cell_at}
use Rattle.sx_mean.specs.Working.{event_at, local_at}
use Rattle.sx_mean.specs.Ends.{is_sending}
use Rattle.sx_mean.specs.Scope.{index_of}
use Rattle.sx_mean.specs.Variables.{first_value}

-- where a loop looks at the turns that it has still to do: the event's value is no longer needed
abbrev pub turns_at : ℕ
turns_at = event_at

-- a local is in its slot; a cell is stored less its first value
abbrev pub variable_code : List Decl → ℕ → List (List ℕ) → List ℕ → List Ir
variable_code ds n names x =
    if nat_lt (index_of names x) (length names)
    then ir.Load (local_at (index_of names x)) ∷ []
    else ir.Load (cell_at n (place ds x)) ∷ ir.Push (first_value ds x) ∷ ir.Op op.Add ∷ []

-- the code that stores the top word in a local, or else in a variable's cell
abbrev pub assign_code : List Decl → ℕ → List (List ℕ) → List ℕ → List Ir
assign_code ds n names x =
    if nat_lt (index_of names x) (length names)
    then ir.Store (local_at (index_of names x)) ∷ []
    else ir.Push (first_value ds x) ∷ ir.Op op.Sub ∷ ir.Store (cell_at n (place ds x)) ∷ []

-- the operation of a unary operator
abbrev pub unary_op : UnOp → IrOp
unary_op Neg = op.Neg
unary_op Inv = op.Inv
unary_op Not = op.Not

-- the right operand comes first
abbrev pub is_turned : BinOp → Bool
is_turned Add = false
is_turned Sub = false
is_turned Or = false
is_turned Xor = false
is_turned Mul = false
is_turned And = false
is_turned Eq = false
is_turned Ne = false
is_turned Lt = false
is_turned Le = true
is_turned Gt = true
is_turned Ge = false

-- the operations of an operator, after those of its operands
abbrev pub operator_code : BinOp → List Ir
operator_code Add = ir.Op op.Add ∷ []
operator_code Sub = ir.Op op.Sub ∷ []
operator_code Or = ir.Op op.Or ∷ []
operator_code Xor = ir.Op op.Xor ∷ []
operator_code Mul = ir.Op op.Mul ∷ []
operator_code And = ir.Op op.And ∷ []
operator_code Eq = ir.Op op.Eq ∷ []
operator_code Ne = ir.Op op.Eq ∷ ir.Op op.Not ∷ []
operator_code Lt = ir.Op op.Lt ∷ []
operator_code Le = ir.Op op.Lt ∷ ir.Op op.Not ∷ []
operator_code Gt = ir.Op op.Lt ∷ []
operator_code Ge = ir.Op op.Lt ∷ ir.Op op.Not ∷ []

-- the code of an operator and its operands, which are exchanged for some comparisons
abbrev pub combined_code : BinOp → List Ir → List Ir → List Ir
combined_code o a b =
    if is_turned o then b ++ (a ++ operator_code o) else a ++ (b ++ operator_code o)

-- an expression's code pushes its value, where there are this many ends and these locals are in
-- scope
abbrev pub expression_code : List Decl → ℕ → List (List ℕ) → Expression → List Ir
expression_code ds n names (Constant v) = ir.Push v ∷ []
expression_code ds n names (Variable x) = variable_code ds n names x
expression_code ds n names (Indexed x e) =
    expression_code ds n names e ++ ir.LoadAt (cell_at n (place ds x)) (array_length ds x) ∷ []
expression_code ds n names (Applied o e) = expression_code ds n names e ++ ir.Op (unary_op o) ∷ []
expression_code ds n names (Combined o a b) =
    combined_code o (expression_code ds n names a) (expression_code ds n names b)

-- the code of a definition, a write to an array's element and a send

-- the code of a `let`
abbrev pub define_code : List Decl → ℕ → List (List ℕ) → Expression → List Ir
define_code ds n names e = expression_code ds n names e ++ ir.Store (local_at (length names)) ∷ []

-- the code of an assignment to an element
abbrev pub element_code : List Decl → ℕ → List (List ℕ) → List ℕ → Expression → Expression → List Ir
element_code ds n names x i e =
    expression_code ds n names i ++ (expression_code ds n names e
    ++ ir.StoreAt (cell_at n (place ds x)) (array_length ds x) ∷ [])

-- one packet for each sending end of the output, the ends counted from k
abbrev pub packets_code : ℕ → List End → ℕ → List Ir
packets_code k [] output = []
packets_code k (e ∷ es) output = if is_sending output e.side e.port then
    ir.Packet k ∷ packets_code (k + 1) es output else packets_code (k + 1) es output

-- the code of a `send`
abbrev pub send_code : List Decl → List End → List (List ℕ) → List ℕ → Expression → List Ir
send_code ds ends names x e = expression_code ds (length ends) names e
    ++ (packets_code 0 ends (output_number ds x) ++ ir.Drop ∷ [])

-- the code of a choice, whose first block is at this place
abbrev pub choice_code : ℕ → List Ir → List Ir → List Ir → List Ir
choice_code p test a b =
    test ++ (ir.JumpZero (p + length a + 1) ∷ (a ++ (ir.Jump (p + length a + 1 + length b) ∷ b)))

-- the code of a loop at this place. The turns still to do are the word on the stack below the
-- block.
abbrev pub loop_code : ℕ → ℕ → List Ir → List Ir
loop_code p n a =
    ir.Push n ∷ ir.Store turns_at ∷ ir.Load turns_at ∷ ir.Load turns_at
    ∷ ir.JumpZero (p + 5 + length a + 3)
    ∷ (a ++ (ir.Push 1 ∷ ir.Op op.Sub ∷ ir.Jump (p + 1) ∷ ir.Drop ∷ []))

-- the code of statements and blocks at a place, with the locals in scope
abbrev mutual
  pub statement_code : List Decl → List End → ℕ → List (List ℕ) → Statement → List Ir
  statement_code ds ends p names (Defines x e) = define_code ds (length ends) names e
  statement_code ds ends p names (Assigns x e) =
      expression_code ds (length ends) names e ++ assign_code ds (length ends) names x
  statement_code ds ends p names (Stores x i e) = element_code ds (length ends) names x i e
  statement_code ds ends p names (Chooses e a b) =
      let test = expression_code ds (length ends) names e in
      let first = block_code ds ends (p + length test + 1) names a in
      choice_code (p + length test + 1) test first
      (block_code ds ends (p + length test + 1 + length first + 1) names b)
  statement_code ds ends p names (Repeats n a) = loop_code p n (block_code ds ends (p + 5) names a)
  statement_code ds ends p names (Sends x e) = send_code ds ends names x e
  statement_code ds ends p names (Emits e) =
      expression_code ds (length ends) names e ++ ir.Emit ∷ []

  pub block_code : List Decl → List End → ℕ → List (List ℕ) → Block → List Ir
  block_code ds ends p names Done = []
  block_code ds ends p names (Then s b) =
      let first = statement_code ds ends p names s in
      first ++ block_code ds ends (p + length first) (names ++ defined s) b

-- a handler's part begins with the event's value in its first local
abbrev pub handler_code : List Decl → List End → ℕ → HandlerTree → List Ir
handler_code ds ends p h = ir.Load event_at ∷ ir.Store (local_at 0)
    ∷ (block_code ds ends (p + 2) (h.param ∷ []) h.body ++ ir.Stop ∷ [])

-- the code of the handlers, one after the other from a place on
abbrev pub handlers_code : List Decl → List End → ℕ → List HandlerTree → List Ir
handlers_code ds ends p [] = []
handlers_code ds ends p (h ∷ hs) =
    let first = handler_code ds ends p h in
    first ++ handlers_code ds ends (p + length first) hs

-- the first place of each handler's part, and the place after its last
abbrev pub handlers_parts : List Decl → List End → ℕ → List HandlerTree → List (ℕ × ℕ)
handlers_parts ds ends p [] = []
handlers_parts ds ends p (h ∷ hs) =
    let behind = p + length (handler_code ds ends p h) in
    (p, behind) ∷ handlers_parts ds ends behind hs

-- each handler has at most 16 locals
abbrev pub AreFew : List HandlerTree → Type 0
AreFew [] = Unit {0}
AreFew (h ∷ hs) = (1 + length (block_lets h.body) ≤ 16) × AreFew hs

-- the code and the places of the parts of a module
pub record IsLowered (m : ModuleTree) (ends : List End) (code : List Ir)
    (places : List (ℕ × ℕ)) : Type 0 where
  pub ops : code ≡ handlers_code m.decls ends 0 m.handlers
  pub parts : places ≡ handlers_parts m.decls ends 0 m.handlers
