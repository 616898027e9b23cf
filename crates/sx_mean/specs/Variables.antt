-- The cell of a variable or an element, and its first value. Nobody has to believe these: they are
-- forms for code that is made from a module, which finds a name that is no local by its first
-- declaration.
use Rattle.std.specs.Prelude.{◌≡◌, ℕ, ◌+◌, ◌<◌, false, if◌then◌else◌, List, [], ◌∷◌, ◌++◌, length}
use Rattle.std.specs.Prelude.{get_or, nat_lt}
use Rattle.sx_lang.specs.declared.tree.Decl.{Decl}
use Rattle.sx_lang.specs.declared.tree.Decl.TheVariants.{Var}
use Rattle.sx_lang.specs.Sizes.{declared_cells}
use Rattle.sx_lang.specs.Tree.{Expression, Constant, Variable, Indexed, Applied, Combined}
use Rattle.sx_lang.specs.Tree.{Statement, Defines, Assigns, Stores, Chooses, Repeats, Sends, Emits}
use Rattle.sx_lang.specs.Tree.{Block, Done, Then}
use Rattle.sx_lang.specs.Words.{IsWord}
use Rattle.sx_check.specs.Names.{declares, defined}
use Rattle.sx_mean.specs.Places.{place, initial_cells}
use Rattle.sx_mean.specs.Scope.{index_of}

-- the value that a declaration's first cell begins with
abbrev pub own_value : Decl → ℕ
own_value (Var y v) = v
own_value _ = 0

-- the first value of the variable of this name
abbrev pub first_value : List Decl → List ℕ → ℕ
first_value [] x = 0
first_value (d ∷ ds) x = if declares x d then own_value d else first_value ds x

-- a variable's cell is one of the cells, and begins with the variable's first value
pub record IsVariable (ds : List Decl) (x : List ℕ) : Type 0 where
  pub there : place ds x < declared_cells ds
  pub first : first_value ds x ≡ get_or (initial_cells ds) (place ds x) 0

-- an element of an array is one of the cells, and begins with 0
pub record IsElement (ds : List Decl) (x : List ℕ) (i : ℕ) : Type 0 where
  pub there : place ds x + i < declared_cells ds
  pub zero : get_or (initial_cells ds) (place ds x + i) 0 ≡ 0

-- a name that is no local in scope is a variable
abbrev pub IsKnown : List Decl → List (List ℕ) → List ℕ → Type 0
IsKnown ds names x = nat_lt (index_of names x) (length names) ≡ false → IsVariable ds x

-- numbers are words, and words are known

-- each number is a word, and each name that is read is a local or a variable
abbrev pub FineExpression : List Decl → List (List ℕ) → Expression → Type 0
FineExpression ds names (Constant v) = IsWord v
FineExpression ds names (Variable x) = IsKnown ds names x
FineExpression ds names (Indexed x e) = FineExpression ds names e
FineExpression ds names (Applied op e) = FineExpression ds names e
FineExpression ds names (Combined op a b) = FineExpression ds names a × FineExpression ds names b

-- where E is what an `emit` needs
abbrev mutual
  pub FineStatement : List Decl → Type 0 → List (List ℕ) → Statement → Type 0
  FineStatement ds E names (Defines x e) = FineExpression ds names e
  FineStatement ds E names (Assigns x e) = IsKnown ds names x × FineExpression ds names e
  FineStatement ds E names (Stores x i e) = FineExpression ds names i × FineExpression ds names e
  FineStatement ds E names (Chooses e a b) =
      FineExpression ds names e × FineBlock ds E names a × FineBlock ds E names b
  FineStatement ds E names (Repeats n a) = IsWord n × FineBlock ds E names a
  FineStatement ds E names (Sends x e) = FineExpression ds names e
  FineStatement ds E names (Emits e) = FineExpression ds names e × E

  pub FineBlock : List Decl → Type 0 → List (List ℕ) → Block → Type 0
  FineBlock ds E names Done = Unit {0}
  FineBlock ds E names (Then s b) =
      FineStatement ds E names s × FineBlock ds E (names ++ defined s) b
