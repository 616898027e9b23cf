-- What expressions and statements mean, by cases on the source.
use Rattle.std.specs.Prelude.{ℕ, zero, suc, ◌+◌, ◌*◌, ◌-◌, ◌%◌, List, [], ◌∷◌, ◌++◌, Option}
use Rattle.std.specs.Prelude.{Some, None, ◌==◌, nat_lt, nat_le, if◌then◌else◌, length, take}
use Rattle.std.specs.Prelude.{slice_index, slice_set, unwrap_or, bit_and, bit_or, bit_xor}
use Rattle.std.specs.List.{position_or_len}
use Rattle.sx_lang.specs.declared.tree.Decl.{Decl}
use Rattle.sx_lang.specs.declared.tree.UnOp.{UnOp}
use Rattle.sx_lang.specs.declared.tree.UnOp.TheVariants.{Neg, Inv, Not}
use Rattle.sx_lang.specs.declared.tree.BinOp.{BinOp}
use Rattle.sx_lang.specs.declared.tree.BinOp.TheVariants.{Add, Sub, Or, Xor, Mul, And, Eq, Ne, Lt}
use Rattle.sx_lang.specs.declared.tree.BinOp.TheVariants.{Le, Gt, Ge}
use Rattle.sx_lang.specs.Tree.{Expression, Constant, Variable, Indexed, Applied, Combined}
use Rattle.sx_lang.specs.Tree.{Statement, Defines, Assigns, Stores, Chooses, Repeats, Sends, Emits}
use Rattle.sx_lang.specs.Tree.{Block, Done, Then}
use Rattle.sx_check.specs.Names.{same}
use Rattle.sx_mean.specs.declared.events.Act.{Act}
use Rattle.sx_mean.specs.declared.events.Act.TheVariants.{Send, Emit}
use Rattle.sx_mean.specs.declared.moments.Local.{Local}
use Rattle.sx_mean.specs.Places.{place, array_length, output_number}
use Rattle.lemmas.specs.Truth.{truth}

-- where a handler is: the locals in the order of their lets, the cells, and the acts so far
pub record HandlerState : Type 0 where
  pub locals : List Local
  pub cells : List ℕ
  pub acts : List Act

-- a unary operator on a word
abbrev pub apply : UnOp → ℕ → ℕ
apply Neg a = (65536 - a) % 65536
apply Inv a = 65535 - a
apply Not a = truth (a == 0)

-- words modulo 65,536; comparisons are unsigned
abbrev pub combine : BinOp → ℕ → ℕ → ℕ
combine Add a b = (a + b) % 65536
combine Sub a b = (a + (65536 - b)) % 65536
combine Or a b = bit_or a b
combine Xor a b = bit_xor a b
combine Mul a b = (a * b) % 65536
combine And a b = bit_and a b
combine Eq a b = truth (a == b)
combine Ne a b = truth (nat_lt a b) + truth (nat_lt b a)
combine Lt a b = truth (nat_lt a b)
combine Le a b = truth (nat_le a b)
combine Gt a b = truth (nat_lt b a)
combine Ge a b = truth (nat_le b a)

-- the value of a local, if there is one of this name
abbrev pub look_up : List Local → List ℕ → Option ℕ
look_up [] x = None
look_up (l ∷ ls) x = if same x l.name then Some l.value else look_up ls x

-- the value of a name: a local's, or else that of a variable's cell
abbrev pub word : List Decl → HandlerState → List ℕ → ℕ
word ds st x = unwrap_or (look_up st.locals x) (slice_index st.cells (place ds x))

-- the value of an array's element; past the array's end it is 0
abbrev pub element : List Decl → HandlerState → List ℕ → ℕ → ℕ
element ds st x i =
    if nat_lt i (array_length ds x) then slice_index st.cells (place ds x + i) else 0

-- the value of an expression
abbrev pub value : List Decl → HandlerState → Expression → ℕ
value ds st (Constant n) = n
value ds st (Variable x) = word ds st x
value ds st (Indexed x e) = element ds st x (value ds st e)
value ds st (Applied op e) = apply op (value ds st e)
value ds st (Combined op a b) = combine op (value ds st a) (value ds st b)

-- the place of a local among the locals, or their number where there is none
abbrev pub local_place : List Local → List ℕ → ℕ
local_place ls x = position_or_len (λ l. same x l.name) ls

-- a local with its value
abbrev pub new_local : List ℕ → ℕ → Local
new_local x v = record { name = x; value = v }

-- the state with one more local
abbrev pub define : List ℕ → ℕ → HandlerState → HandlerState
define x v st = record st { locals = st.locals ++ new_local x v ∷ [] }

-- the state with a new value of a local, or else of a variable
abbrev pub assign : List Decl → List ℕ → ℕ → HandlerState → HandlerState
assign ds x v st =
    if nat_lt (local_place st.locals x) (length st.locals)
    then record st { locals = slice_set st.locals (local_place st.locals x) (new_local x v) }
    else record st { cells = slice_set st.cells (place ds x) v }

-- the state with a new value of an element; past the array's end nothing changes
abbrev pub assign_element : List Decl → List ℕ → ℕ → ℕ → HandlerState → HandlerState
assign_element ds x i v st = if nat_lt i (array_length ds x) then
    record st { cells = slice_set st.cells (place ds x + i) v } else st

-- the state with one more act
abbrev pub act : Act → HandlerState → HandlerState
act a st = record st { acts = st.acts ++ a ∷ [] }

-- the state without the locals of a block that ended
abbrev pub forget : ℕ → HandlerState → HandlerState
forget n st = record st { locals = take n st.locals }

-- a change made this many times
abbrev pub times : ℕ → (HandlerState → HandlerState) → HandlerState → HandlerState
times zero f st = st
times (suc n) f st = times n f (f st)

-- the state after a statement and after a block
abbrev mutual
  pub after_statement : List Decl → Statement → HandlerState → HandlerState
  after_statement ds (Defines x e) st = define x (value ds st e) st
  after_statement ds (Assigns x e) st = assign ds x (value ds st e) st
  after_statement ds (Stores x i e) st = assign_element ds x (value ds st i) (value ds st e) st
  after_statement ds (Chooses e a b) st = if value ds st e == 0 then
      forget (length st.locals) (after_block ds b st) else
      forget (length st.locals) (after_block ds a st)
  after_statement ds (Repeats n a) st =
      times n (λ st. forget (length st.locals) (after_block ds a st)) st
  after_statement ds (Sends x e) st = act (Send (output_number ds x) (value ds st e)) st
  after_statement ds (Emits e) st = act (Emit (value ds st e)) st

  pub after_block : List Decl → Block → HandlerState → HandlerState
  after_block ds Done st = st
  after_block ds (Then s b) st = after_block ds b (after_statement ds s st)

-- the state after a block whose locals are gone
abbrev pub in_block : List Decl → Block → HandlerState → HandlerState
in_block ds b st = forget (length st.locals) (after_block ds b st)
