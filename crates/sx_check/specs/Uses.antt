-- Where a handler uses a name, as what, and which locals can be seen there.
use Rattle.std.specs.Prelude.{ℕ, Bool, false, ◌||◌, ◌&&◌, not, List, [], ◌∷◌, ◌++◌, Option, Some}
use Rattle.std.specs.Prelude.{None}
use Rattle.std.specs.List.{list_any}
use Rattle.sx_lang.specs.declared.tree.Decl.{Decl}
use Rattle.sx_lang.specs.declared.tree.Decl.TheVariants.{Input, Output, Var, Array}
use Rattle.sx_lang.specs.Tree.{Expression, Constant, Variable, Indexed, Applied, Combined}
use Rattle.sx_lang.specs.Tree.{Statement, Defines, Assigns, Stores, Chooses, Repeats, Sends, Emits}
use Rattle.sx_lang.specs.Tree.{Block, Done, Then, HandlerTree}
use Rattle.sx_check.specs.declared.declared.Role.{Role}
use Rattle.sx_check.specs.declared.declared.Role.TheVariants.{Word, Element, Sending, Handling}
use Rattle.sx_check.specs.Names.{same, is_declared, defined}

-- a name, what it is used as, and the locals that can be seen there
pub data Use : Type 0 where
  used : Role → List ℕ → List (List ℕ) → Use

-- the names that an expression uses, each with its role and the locals that are seen there
abbrev pub expression_uses : List (List ℕ) → Expression → List Use
expression_uses seen (Constant n) = []
expression_uses seen (Variable x) = used Word x seen ∷ []
expression_uses seen (Indexed x e) = used Element x seen ∷ expression_uses seen e
expression_uses seen (Applied op e) = expression_uses seen e
expression_uses seen (Combined op a b) = expression_uses seen a ++ expression_uses seen b

-- a local can be seen after its `let`, up to the end of its block
abbrev mutual
  pub statement_uses : List (List ℕ) → Statement → List Use
  statement_uses seen (Defines x e) = expression_uses seen e
  statement_uses seen (Assigns x e) = used Word x seen ∷ expression_uses seen e
  statement_uses seen (Stores x i e) =
      used Element x seen ∷ (expression_uses seen i ++ expression_uses seen e)
  statement_uses seen (Chooses e a b) =
      expression_uses seen e ++ (block_uses seen a ++ block_uses seen b)
  statement_uses seen (Repeats n a) = block_uses seen a
  statement_uses seen (Sends x e) = used Sending x seen ∷ expression_uses seen e
  statement_uses seen (Emits e) = expression_uses seen e

  pub block_uses : List (List ℕ) → Block → List Use
  block_uses seen Done = []
  block_uses seen (Then s b) = statement_uses seen s ++ block_uses (seen ++ defined s) b

-- the use of an input's name by its handler
abbrev pub input_uses : Option (List ℕ) → List Use
input_uses None = []
input_uses (Some x) = used Handling x [] ∷ []

-- the uses of a handler: its input's name, and those of its body, which sees the parameter
abbrev pub handler_uses : HandlerTree → List Use
handler_uses h = input_uses h.input ++ block_uses (h.param ∷ []) h.body

-- the uses of all handlers in order
abbrev pub handlers_uses : List HandlerTree → List Use
handlers_uses [] = []
handlers_uses (h ∷ hs) = handler_uses h ++ handlers_uses hs

-- the declaration is of this name, and the name can be used so
abbrev pub declares_as : Role → List ℕ → Decl → Bool
declares_as Word x (Var y n) = same x y
declares_as Element x (Array y n) = same x y
declares_as Sending x (Output y) = same x y
declares_as Handling x (Input y) = same x y
declares_as role x d = false

-- a name is among the locals that are seen
abbrev pub is_seen : List (List ℕ) → List ℕ → Bool
is_seen seen x = list_any (same x) seen

-- a local can be used as a word alone
abbrev pub is_local : Role → List ℕ → List (List ℕ) → Bool
is_local Word x seen = is_seen seen x
is_local _ x seen = false

-- the name is neither declared nor a local in sight
abbrev pub is_unknown : List Decl → Use → Bool
is_unknown ds (used role x seen) = not (is_declared ds x || is_seen seen x)

-- the name is known, and not as what it is used
abbrev pub is_misused : List Decl → Use → Bool
is_misused ds (used role x seen) = (is_declared ds x || is_seen seen x)
    && not (list_any (declares_as role x) ds || is_local role x seen)
