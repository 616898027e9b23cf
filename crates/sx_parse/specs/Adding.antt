-- What reading a statement of a block does to the machine of the grammar.
use Rattle.std.specs.Prelude.{◌≡◌, ℕ, List, ◌∷◌, Option, Result, MatchResult}
use Rattle.sx_lang.specs.Tree.{Statement, Block}
use Rattle.sx_lex.specs.declared.tokens.Placed.{Placed}
use Rattle.spec_grammar.specs.Machine.{Symbol, Value, opens, read, Refused, Of_block, Statements}
use Rattle.spec_grammar.specs.Machine.{snoc}
use Rattle.sx_parse.specs.declared.stop.Stop.{Stop}
use Rattle.sx_parse.specs.declared.stop.Stop.TheVariants.{Fault, Memory}

-- With this many brackets open, the block's among them, what is required in the block is read
-- before rest and is this statement.
pub record AddsStatement (want : List Symbol → List Symbol) (depth : ℕ) (ts : List Placed)
    (s : Statement) (rest : List Placed) : Type 0 where
  pub adds : (st : List Symbol) (vs : List Value) (front : Block) → opens (Statements ∷ st) ≡ depth
      → read (want (Statements ∷ st)) (Of_block front ∷ vs) ts
      ≡ read (Statements ∷ st) (Of_block (snoc front s) ∷ vs) rest

-- the grammar refuses the tokens at this one, where this is required in a block
pub record Fails (want : List Symbol → List Symbol) (depth : ℕ) (ts : List Placed)
    (t : Option Placed) : Type 0 where
  pub fails : (st : List Symbol) (vs : List Value) → opens (Statements ∷ st) ≡ depth
      → read (want (Statements ∷ st)) vs ts ≡ Refused t

-- a call stops where the grammar does, or since memory ran out
abbrev pub FailsAs : (List Symbol → List Symbol) → ℕ → List Placed → Stop → Type 0
FailsAs want depth ts (Fault t) = Fails want depth ts t
FailsAs want depth ts Memory = Unit {0}

-- what was read is a statement in front of the rest, or reading stops as it must
abbrev pub AddsOr : {A : Type 0} → Result A Stop → (List Symbol → List Symbol) → ℕ → List Placed
    → (A → Statement) → (A → List Placed) → Type 0
AddsOr result want depth ts statement rest =
    MatchResult result (λ found. AddsStatement want depth ts (statement found) (rest found))
    (λ e. FailsAs want depth ts e)

-- the brace that ends the block
pub record Closes (ts rest : List Placed) : Type 0 where
  pub closes : (st : List Symbol) (vs : List Value) → read (Statements ∷ st) vs ts ≡ read st vs rest
