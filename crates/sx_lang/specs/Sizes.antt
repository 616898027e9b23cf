-- The sizes of a module: the language's own formulas, by cases on the source.
use Rattle.std.specs.Prelude.{ℕ, ◌+◌, ◌*◌, List, [], ◌∷◌, max}
use Rattle.sx_lang.specs.declared.tree.BinOp.{BinOp}
use Rattle.sx_lang.specs.declared.tree.BinOp.TheVariants.{Mul}
use Rattle.sx_lang.specs.declared.tree.Decl.{Decl}
use Rattle.sx_lang.specs.declared.tree.Decl.TheVariants.{Var, Array}
use Rattle.sx_lang.specs.Tree.{Expression, Constant, Variable, Indexed, Applied, Combined}
use Rattle.sx_lang.specs.Tree.{Statement, Defines, Assigns, Stores, Chooses, Repeats, Sends, Emits}
use Rattle.sx_lang.specs.Tree.{Block, Done, Then, HandlerTree, ModuleTree}

-- Nodes: the variables, arrays, handlers, statements and expressions, each subexpression counted.

-- one node for each number, name and operator of an expression
abbrev pub expression_nodes : Expression → ℕ
expression_nodes (Constant n) = 1
expression_nodes (Variable x) = 1
expression_nodes (Indexed x e) = 1 + expression_nodes e
expression_nodes (Applied op e) = 1 + expression_nodes e
expression_nodes (Combined op a b) = 1 + expression_nodes a + expression_nodes b

-- one node for each statement, with those of its expressions and blocks
abbrev mutual
  pub statement_nodes : Statement → ℕ
  statement_nodes (Defines x e) = 1 + expression_nodes e
  statement_nodes (Assigns x e) = 1 + expression_nodes e
  statement_nodes (Stores x i e) = 1 + expression_nodes i + expression_nodes e
  statement_nodes (Chooses e a b) = 1 + expression_nodes e + block_nodes a + block_nodes b
  statement_nodes (Repeats n a) = 1 + block_nodes a
  statement_nodes (Sends x e) = 1 + expression_nodes e
  statement_nodes (Emits e) = 1 + expression_nodes e

  pub block_nodes : Block → ℕ
  block_nodes Done = 0
  block_nodes (Then s b) = statement_nodes s + block_nodes b

-- one node for each variable and each array
abbrev pub declaration_nodes : Decl → ℕ
declaration_nodes (Var x n) = 1
declaration_nodes (Array x n) = 1
declaration_nodes _ = 0

-- the nodes of all declarations
abbrev pub declarations_nodes : List Decl → ℕ
declarations_nodes [] = 0
declarations_nodes (d ∷ ds) = declaration_nodes d + declarations_nodes ds

-- one node for each handler, with those of its body
abbrev pub handlers_nodes : List HandlerTree → ℕ
handlers_nodes [] = 0
handlers_nodes (h ∷ hs) = 1 + block_nodes h.body + handlers_nodes hs

-- the nodes of a module
abbrev pub module_nodes : ModuleTree → ℕ
module_nodes m = declarations_nodes m.decls + handlers_nodes m.handlers

-- Cells: one for each variable and each element of an array.

-- a variable has one cell, an array one for each element
abbrev pub declaration_cells : Decl → ℕ
declaration_cells (Var x n) = 1
declaration_cells (Array x n) = n
declaration_cells _ = 0

-- the cells of all declarations
abbrev pub declared_cells : List Decl → ℕ
declared_cells [] = 0
declared_cells (d ∷ ds) = declaration_cells d + declared_cells ds

-- Weight and data size: the bytes of a compiled module's two sections, where it has this many ends
-- of connections.

-- how many bytes the public section of a module with this many ends of connections has
abbrev pub module_weight : ModuleTree → ℕ → ℕ
module_weight m ends = 2048 + 192 * ends + 64 * module_nodes m

-- how many bytes the private section of a module with this many ends of connections has
abbrev pub module_data_size : ModuleTree → ℕ → ℕ
module_data_size m ends = 512 + 24 * ends + 2 * declared_cells m.decls

-- Cost: a bound on the instructions of an event.

-- the cost of an operator, without those of its operands
abbrev pub operator_cost : BinOp → ℕ
operator_cost Mul = 512
operator_cost _ = 32

-- the cost of an expression
abbrev pub expression_cost : Expression → ℕ
expression_cost (Constant n) = 32
expression_cost (Variable x) = 32
expression_cost (Indexed x e) = 64 + expression_cost e
expression_cost (Applied op e) = 32 + expression_cost e
expression_cost (Combined op a b) = operator_cost op + expression_cost a + expression_cost b

-- the cost of a statement and of a block
abbrev mutual
  pub statement_cost : Statement → ℕ
  statement_cost (Defines x e) = 64 + expression_cost e
  statement_cost (Assigns x e) = 64 + expression_cost e
  statement_cost (Stores x i e) = 96 + expression_cost i + expression_cost e
  statement_cost (Chooses e a b) = 64 + expression_cost e + max (block_cost a) (block_cost b)
  statement_cost (Repeats n a) = 64 + n * (64 + block_cost a)
  statement_cost (Sends x e) = 8192 + expression_cost e
  statement_cost (Emits e) = 64 + expression_cost e

  pub block_cost : Block → ℕ
  block_cost Done = 0
  block_cost (Then s b) = statement_cost s + block_cost b

-- the cost of a handler
abbrev pub handler_cost : HandlerTree → ℕ
handler_cost h = 64 + block_cost h.body

-- the greatest of the handlers', 0 where there is none
abbrev pub handlers_cost : List HandlerTree → ℕ
handlers_cost [] = 0
handlers_cost (h ∷ hs) = max (handler_cost h) (handlers_cost hs)

-- the cost of a module: that of its most costly handler
abbrev pub module_cost : ModuleTree → ℕ
module_cost m = handlers_cost m.handlers
