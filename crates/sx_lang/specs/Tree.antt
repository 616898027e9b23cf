-- The syntax tree as plain data: the types of src/tree.rt without where they lie in memory. A name
-- is the list of its bytes.
use Rattle.std.specs.Prelude.{ℕ, List, Option}
pub use Rattle.sx_lang.specs.declared.tree.UnOp.{UnOp}
pub use Rattle.sx_lang.specs.declared.tree.BinOp.{BinOp}
pub use Rattle.sx_lang.specs.declared.tree.Decl.{Decl}

-- an expression: a number, a variable or local, an element of an array, or an operator with its
-- operands
pub data Expression : Type 0 where
  Constant : ℕ → Expression
  Variable : List ℕ → Expression
  Indexed : List ℕ → Expression → Expression
  Applied : UnOp → Expression → Expression
  Combined : BinOp → Expression → Expression → Expression

mutual
  pub data Statement : Type 0 where
    Defines : List ℕ → Expression → Statement
    Assigns : List ℕ → Expression → Statement
    Stores : List ℕ → Expression → Expression → Statement
    Chooses : Expression → Block → Block → Statement
    Repeats : ℕ → Block → Statement
    Sends : List ℕ → Expression → Statement
    Emits : Expression → Statement

  pub data Block : Type 0 where
    Done : Block
    Then : Statement → Block → Block

-- a handler: the input that it is for, or none for samples; its parameter; its body
pub record HandlerTree : Type 0 where
  pub input : Option (List ℕ)
  pub param : List ℕ
  pub body : Block

-- a module: its declarations and its handlers, in order
pub record ModuleTree : Type 0 where
  pub decls : List Decl
  pub handlers : List HandlerTree
