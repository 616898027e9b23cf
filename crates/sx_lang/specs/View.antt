-- What contracts see of a tree in memory.
use Rattle.std.specs.Prelude.{List, [], ◌∷◌, map}
use Rattle.sx_lang.specs.declared.tree.Expr.{Expr, Number, Read, At', Unary', Binary'}
use Rattle.sx_lang.specs.declared.tree.Stmt.{Stmt, Let, Assign, Element, If', Repeat', Send, Emit}
use Rattle.sx_lang.specs.declared.tree.Stmt.{Row_of-Stmt, end_of-Stmt, more_of-Stmt}
use Rattle.sx_lang.specs.declared.tree.Handler.{Handler}
use Rattle.sx_lang.specs.declared.tree.Module.{Module}
use Rattle.sx_lang.specs.Tree.{Expression, Constant, Variable, Indexed, Applied, Combined}
use Rattle.sx_lang.specs.Tree.{Statement, Defines, Assigns, Stores, Chooses, Repeats, Sends, Emits}
use Rattle.sx_lang.specs.Tree.{Block, Done, Then, HandlerTree, ModuleTree}

-- the code's expression as plain data
abbrev pub expression_of : Expr → Expression
expression_of (Number n) = Constant n
expression_of (Read x) = Variable x
expression_of (At' x p e) = Indexed x (expression_of e)
expression_of (Unary' op p e) = Applied op (expression_of e)
expression_of (Binary' op p a q b) = Combined op (expression_of a) (expression_of b)

-- the code's statements as plain data
abbrev mutual
  pub statement_of : Stmt → Statement
  statement_of (Let x e) = Defines x (expression_of e)
  statement_of (Assign x e) = Assigns x (expression_of e)
  statement_of (Element x i e) = Stores x (expression_of i) (expression_of e)
  statement_of (If' e p a q b) = Chooses (expression_of e) (block_of_row a) (block_of_row b)
  statement_of (Repeat' n p a) = Repeats n (block_of_row a)
  statement_of (Send x e) = Sends x (expression_of e)
  statement_of (Emit e) = Emits (expression_of e)

  pub block_of_row : {shape : _} → Row_of-Stmt shape → Block
  block_of_row end_of-Stmt = Done
  block_of_row (more_of-Stmt s rest) = Then (statement_of s) (block_of_row rest)

-- the code's block as plain data
abbrev pub block_of : List Stmt → Block
block_of [] = Done
block_of (s ∷ rest) = Then (statement_of s) (block_of rest)

-- the code's handler as plain data
abbrev pub handler_of : Handler → HandlerTree
handler_of h = record { input = h.input; param = h.param; body = block_of h.body.items }

-- the code's module as plain data
abbrev pub module_of : Module → ModuleTree
module_of m = record { decls = m.decls.items; handlers = map handler_of m.handlers.items }
