-- Trees whose numbers are 16-bit words, as those of every tree in memory are.
use Rattle.std.specs.Prelude.{ℕ, ◌<◌, List, [], ◌∷◌}
use Rattle.sx_lang.specs.declared.tree.Decl.{Decl}
use Rattle.sx_lang.specs.declared.tree.Decl.TheVariants.{Device, Input, Output, Var, Array}
use Rattle.sx_lang.specs.Tree.{Expression, Constant, Variable, Indexed, Applied, Combined}
use Rattle.sx_lang.specs.Tree.{Statement, Defines, Assigns, Stores, Chooses, Repeats, Sends, Emits}
use Rattle.sx_lang.specs.Tree.{Block, Done, Then, HandlerTree, ModuleTree}

-- a number of 16 bits
abbrev pub IsWord : ℕ → Type 0
IsWord n = n < 65536

-- the numbers in an expression
abbrev pub AreWords : Expression → Type 0
AreWords (Constant n) = IsWord n
AreWords (Variable x) = Unit {0}
AreWords (Indexed x e) = AreWords e
AreWords (Applied op e) = AreWords e
AreWords (Combined op a b) = AreWords a × AreWords b

-- the numbers in a statement, and the times that it repeats a block
abbrev mutual
  pub HasWords : Statement → Type 0
  HasWords (Defines x e) = AreWords e
  HasWords (Assigns x e) = AreWords e
  HasWords (Stores x i e) = AreWords i × AreWords e
  HasWords (Chooses e a b) = AreWords e × BlockHasWords a × BlockHasWords b
  HasWords (Repeats n a) = IsWord n × BlockHasWords a
  HasWords (Sends x e) = AreWords e
  HasWords (Emits e) = AreWords e

  pub BlockHasWords : Block → Type 0
  BlockHasWords Done = Unit {0}
  BlockHasWords (Then s b) = HasWords s × BlockHasWords b

-- each number in the handlers is a word
abbrev pub HandlersHaveWords : List HandlerTree → Type 0
HandlersHaveWords [] = Unit {0}
HandlersHaveWords (h ∷ hs) = BlockHasWords h.body × HandlersHaveWords hs

-- a variable's first value, and an array's length
abbrev pub DeclHasWords : Decl → Type 0
DeclHasWords (Device kind) = Unit {0}
DeclHasWords (Input x) = Unit {0}
DeclHasWords (Output x) = Unit {0}
DeclHasWords (Var x n) = IsWord n
DeclHasWords (Array x n) = IsWord n

-- each number in the declarations is a word
abbrev pub DeclsHaveWords : List Decl → Type 0
DeclsHaveWords [] = Unit {0}
DeclsHaveWords (d ∷ ds) = DeclHasWords d × DeclsHaveWords ds

-- each number in the module is a word
pub record TreeHasWords (m : ModuleTree) : Type 0 where
  pub decls : DeclsHaveWords m.decls
  pub handlers : HandlersHaveWords m.handlers
