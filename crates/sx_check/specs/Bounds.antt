-- How high, how deep and how long a handler's code is.
use Rattle.std.specs.Prelude.{ℕ, ◌+◌, ◌*◌, Bool, true, false, ◌||◌, not, List, [], ◌∷◌, ◌++◌, max}
use Rattle.std.specs.Prelude.{nat_le}
use Rattle.sx_lang.specs.declared.tree.Decl.{Decl}
use Rattle.sx_lang.specs.declared.tree.Decl.TheVariants.{Input, Output, Array}
use Rattle.sx_lang.specs.Tree.{Expression, Constant, Variable, Indexed, Applied, Combined}
use Rattle.sx_lang.specs.Tree.{Statement, Defines, Assigns, Stores, Chooses, Repeats, Sends, Emits}
use Rattle.sx_lang.specs.Tree.{Block, Done, Then}

-- a number or a name has height 1
abbrev pub height : Expression → ℕ
height (Constant n) = 1
height (Variable x) = 1
height (Indexed x e) = 1 + height e
height (Applied op e) = 1 + height e
height (Combined op a b) = 1 + max (height a) (height b)

-- the height of the highest expression in it, 0 where there is none
abbrev mutual
  pub statement_height : Statement → ℕ
  statement_height (Defines x e) = height e
  statement_height (Assigns x e) = height e
  statement_height (Stores x i e) = max (height i) (height e)
  statement_height (Chooses e a b) = max (height e) (max (block_height a) (block_height b))
  statement_height (Repeats n a) = block_height a
  statement_height (Sends x e) = height e
  statement_height (Emits e) = height e

  pub block_height : Block → ℕ
  block_height Done = 0
  block_height (Then s b) = max (statement_height s) (block_height b)

-- the most blocks that are in one another, the block itself among them
abbrev mutual
  pub statement_depth : Statement → ℕ
  statement_depth (Chooses e a b) = max (1 + inner_depth a) (1 + inner_depth b)
  statement_depth (Repeats n a) = 1 + inner_depth a
  statement_depth _ = 0

  -- the depth of the blocks in a block
  pub inner_depth : Block → ℕ
  inner_depth Done = 0
  inner_depth (Then s b) = max (statement_depth s) (inner_depth b)

-- the counts of its `repeat`s
abbrev mutual
  pub statement_counts : Statement → List ℕ
  statement_counts (Chooses e a b) = block_counts a ++ block_counts b
  statement_counts (Repeats n a) = n ∷ block_counts a
  statement_counts _ = []

  pub block_counts : Block → List ℕ
  block_counts Done = []
  block_counts (Then s b) = statement_counts s ++ block_counts b

-- a count of a `repeat` that is not 1 to 256
abbrev pub is_miscounted : ℕ → Bool
is_miscounted n = not (nat_le 1 n) || not (nat_le n 256)

-- how often it can send, where each send counts as its output does: the greater branch of an `if`,
-- and a `repeat`'s block this many times
abbrev mutual
  pub statement_sends_by : (List ℕ → ℕ) → Statement → ℕ
  statement_sends_by count (Chooses e a b) = max (block_sends_by count a) (block_sends_by count b)
  statement_sends_by count (Repeats n a) = n * block_sends_by count a
  statement_sends_by count (Sends x e) = count x
  statement_sends_by count _ = 0

  pub block_sends_by : (List ℕ → ℕ) → Block → ℕ
  block_sends_by count Done = 0
  block_sends_by count (Then s b) = statement_sends_by count s + block_sends_by count b

abbrev pub block_sends : Block → ℕ
block_sends b = block_sends_by (λ x. 1) b

-- an `emit` is in it
abbrev mutual
  pub statement_emits : Statement → Bool
  statement_emits (Chooses e a b) = block_emits a || block_emits b
  statement_emits (Repeats n a) = block_emits a
  statement_emits (Emits e) = true
  statement_emits _ = false

  pub block_emits : Block → Bool
  block_emits Done = false
  block_emits (Then s b) = statement_emits s || block_emits b

-- a declaration of an input
abbrev pub is_input : Decl → Bool
is_input (Input x) = true
is_input _ = false

-- a declaration of an output
abbrev pub is_output : Decl → Bool
is_output (Output x) = true
is_output _ = false

-- an array's length isn't 1 to 1,024
abbrev pub is_misfit : Decl → Bool
is_misfit (Array x n) = not (nat_le 1 n) || not (nat_le n 1024)
is_misfit _ = false
