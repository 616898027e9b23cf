-- Which modules can be printed.
use Rattle.std.specs.Prelude.{ℕ, ◌+◌, Bool, true, false, ◌&&◌, List, [], ◌∷◌, Option, Some, None}
use Rattle.std.specs.Prelude.{nat_le, max}
use Rattle.sx_lang.specs.declared.tree.Decl.{Decl}
use Rattle.sx_lang.specs.declared.tree.Decl.TheVariants.{Device, Input, Output, Var, Array}
use Rattle.sx_lang.specs.Tree.{Expression, Constant, Variable, Indexed, Applied, Combined}
use Rattle.sx_lang.specs.Tree.{Statement, Defines, Assigns, Stores, Chooses, Repeats, Sends, Emits}
use Rattle.sx_lang.specs.Tree.{Block, Done, Then, HandlerTree, ModuleTree}
use Rattle.sx_lex.specs.declared.tokens.Kind.{Kind}
use Rattle.sx_lex.specs.Words.{is_name, found_in, keywords}

-- Names: each has the form of a name and is none of the language's own words.

-- there is no token
abbrev pub is_absent : Option Kind → Bool
is_absent None = true
is_absent (Some k) = false

-- a text that has the form of a name and is no word of the language
abbrev pub is_plain : List ℕ → Bool
is_plain x = is_name x && is_absent (found_in keywords x)

-- each name in an expression is plain
abbrev pub expression_plain : Expression → Bool
expression_plain (Constant n) = true
expression_plain (Variable x) = is_plain x
expression_plain (Indexed x e) = is_plain x && expression_plain e
expression_plain (Applied op e) = expression_plain e
expression_plain (Combined op a b) = expression_plain a && expression_plain b

-- each name in statements is plain
abbrev mutual
  pub statement_plain : Statement → Bool
  statement_plain (Defines x e) = is_plain x && expression_plain e
  statement_plain (Assigns x e) = is_plain x && expression_plain e
  statement_plain (Stores x i e) = is_plain x && (expression_plain i && expression_plain e)
  statement_plain (Chooses e a b) = expression_plain e && (block_plain a && block_plain b)
  statement_plain (Repeats n a) = block_plain a
  statement_plain (Sends x e) = is_plain x && expression_plain e
  statement_plain (Emits e) = expression_plain e

  pub block_plain : Block → Bool
  block_plain Done = true
  block_plain (Then s b) = statement_plain s && block_plain b

-- the declared name is plain
abbrev pub declaration_plain : Decl → Bool
declaration_plain (Device kind) = true
declaration_plain (Input x) = is_plain x
declaration_plain (Output x) = is_plain x
declaration_plain (Var x n) = is_plain x
declaration_plain (Array x n) = is_plain x

-- each declared name is plain
abbrev pub declarations_plain : List Decl → Bool
declarations_plain [] = true
declarations_plain (d ∷ ds) = declaration_plain d && declarations_plain ds

-- the input's name is plain
abbrev pub input_plain : Option (List ℕ) → Bool
input_plain None = true
input_plain (Some x) = is_plain x

-- each name in a handler is plain
abbrev pub handler_plain : HandlerTree → Bool
handler_plain h = input_plain h.input && (is_plain h.param && block_plain h.body)

-- each name in the handlers is plain
abbrev pub handlers_plain : List HandlerTree → Bool
handlers_plain [] = true
handlers_plain (h ∷ hs) = handler_plain h && handlers_plain hs

-- each name in a module is plain
abbrev pub module_plain : ModuleTree → Bool
module_plain m = declarations_plain m.decls && handlers_plain m.handlers

-- How many of `(`, `[`, `{` and unary operators are open at a time in the printed text, at most. A
-- declaration has one at most, and so has the head of a handler.

-- how many brackets and unary operators are open at a time in an expression, at most
abbrev pub expression_open : Expression → ℕ
expression_open (Constant n) = 0
expression_open (Variable x) = 0
expression_open (Indexed x e) = 1 + expression_open e
expression_open (Applied op e) = 1 + expression_open e
expression_open (Combined op a b) = 1 + max (expression_open a) (expression_open b)

-- how many brackets and unary operators are open at a time in a statement, at most
abbrev mutual
  pub statement_open : Statement → ℕ
  statement_open (Defines x e) = expression_open e
  statement_open (Assigns x e) = expression_open e
  statement_open (Stores x i e) = max (1 + expression_open i) (expression_open e)
  statement_open (Chooses e a b) = max (expression_open e) (1 + max (block_open a) (block_open b))
  statement_open (Repeats n a) = 1 + block_open a
  statement_open (Sends x e) = 1 + expression_open e
  statement_open (Emits e) = expression_open e

  -- inside the braces
  pub block_open : Block → ℕ
  block_open Done = 0
  block_open (Then s b) = max (statement_open s) (block_open b)

-- how many brackets and unary operators are open at a time in the handlers, at most
abbrev pub handlers_open : List HandlerTree → ℕ
handlers_open [] = 0
handlers_open (h ∷ hs) = max (1 + block_open h.body) (handlers_open hs)

-- how many brackets and unary operators are open at a time in a module, at most
abbrev pub module_open : ModuleTree → ℕ
module_open m = handlers_open m.handlers

-- a module that can be printed: its names are plain, and no more than 48 brackets and operators are
-- open at a time
abbrev pub is_printable : ModuleTree → Bool
is_printable m = nat_le (module_open m) 48 && module_plain m
