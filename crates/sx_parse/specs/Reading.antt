-- What reading a part of a text does to the machine of the grammar, whatever is required after it.
use Rattle.std.specs.Prelude.{◌≡◌, ℕ, List, ◌∷◌, Option, Result, MatchResult}
use Rattle.sx_lex.specs.declared.tokens.Placed.{Placed}
use Rattle.spec_grammar.specs.Machine.{Symbol, Value, opens, read, Refused, Want, After, A_name}
use Rattle.spec_grammar.specs.Machine.{follow, Purpose, A_number, follow_number, An_open, A_close}
use Rattle.spec_grammar.specs.Machine.{An_open_square, A_close_square, A_semicolon, An_equals}
use Rattle.spec_grammar.specs.Machine as machine
use Rattle.sx_parse.specs.declared.sign.Sign.{Sign}
use Rattle.sx_parse.specs.declared.sign.Sign.TheVariants.{Open, Close, OpenSquare, CloseSquare}
use Rattle.sx_parse.specs.declared.sign.Sign.TheVariants.{Semicolon, Equals}
use Rattle.sx_parse.specs.declared.stop.Stop.{Stop}
use Rattle.sx_parse.specs.declared.stop.Stop.TheVariants.{Fault, Memory}

-- With this many brackets open, what is required is read before rest and is worth v; then `to` is
-- required.
pub record ReadsValue (want : List Symbol → List Symbol) (depth : ℕ) (ts : List Placed) (v : Value)
    (to : List Symbol → List Symbol) (rest : List Placed) : Type 0 where
  pub reads : (st : List Symbol) (vs : List Value) → opens st ≡ depth
      → read (want st) vs ts ≡ read (to st) (v ∷ vs) rest

-- the grammar refuses the tokens at this one, where this is required
pub record Stops (want : List Symbol → List Symbol) (depth : ℕ) (ts : List Placed)
    (t : Option Placed) : Type 0 where
  pub stops : (st : List Symbol) (vs : List Value) → opens st ≡ depth
      → read (want st) vs ts ≡ Refused t

-- a call stops where the grammar does, or since memory ran out
abbrev pub StopsAs : (List Symbol → List Symbol) → ℕ → List Placed → Stop → Type 0
StopsAs want depth ts (Fault t) = Stops want depth ts t
StopsAs want depth ts Memory = Unit {0}

-- nothing is required before the rest
abbrev pub done : List Symbol → List Symbol
done st = st

-- what was read is what is wanted, worth a value in front of the rest, or reading stops as it must
abbrev pub ReadsOr : {A : Type 0} → Result A Stop → (List Symbol → List Symbol) → ℕ → List Placed
    → (A → Value) → (A → List Placed) → Type 0
ReadsOr result want depth ts value rest =
    MatchResult result (λ found. ReadsValue want depth ts (value found) done (rest found))
    (λ e. StopsAs want depth ts e)

-- the code's sign as the grammar has it
abbrev pub sign_of : Sign → machine.Sign
sign_of Open = An_open
sign_of Close = A_close
sign_of OpenSquare = An_open_square
sign_of CloseSquare = A_close_square
sign_of Semicolon = A_semicolon
sign_of Equals = An_equals

-- the sign comes before rest
pub record TakesSign (f : machine.Sign) (ts rest : List Placed) : Type 0 where
  pub takes : (st : List Symbol) (vs : List Value) → read (Want f ∷ st) vs ts ≡ read st vs rest

-- the grammar refuses the tokens at this one, where the sign is required
pub record Misses (f : machine.Sign) (ts : List Placed) (t : Option Placed) : Type 0 where
  pub misses : (st : List Symbol) (vs : List Value) → read (Want f ∷ st) vs ts ≡ Refused t

-- the sign isn't here; this call takes no memory
abbrev pub Lacks : machine.Sign → List Placed → Stop → Type 0
Lacks f ts (Fault t) = Misses f ts t
Lacks f ts Memory = ⊥

-- a name is before rest
pub record Named (ts : List Placed) (x : List ℕ) (rest : List Placed) : Type 0 where
  pub named : (w : After) (st : List Symbol) (vs : List Value)
      → read (A_name w ∷ st) vs ts ≡ read (follow w x st) vs rest

-- the grammar refuses the tokens at this one, where a name is required
pub record NoName (ts : List Placed) (t : Option Placed) : Type 0 where
  pub no_name : (w : After) (st : List Symbol) (vs : List Value)
      → read (A_name w ∷ st) vs ts ≡ Refused t

-- there is no name here; this call takes no memory
abbrev pub NameLacks : List Placed → Stop → Type 0
NameLacks ts (Fault t) = NoName ts t
NameLacks ts Memory = ⊥

-- a number is before rest
pub record Numbered (ts : List Placed) (n : ℕ) (rest : List Placed) : Type 0 where
  pub numbered : (w : Purpose) (st : List Symbol) (vs : List Value)
      → read (A_number w ∷ st) vs ts ≡ read (follow_number w n st) vs rest

-- the grammar refuses the tokens at this one, where a number is required
pub record NoNumber (ts : List Placed) (t : Option Placed) : Type 0 where
  pub no_number : (w : Purpose) (st : List Symbol) (vs : List Value)
      → read (A_number w ∷ st) vs ts ≡ Refused t

-- there is no number here; this call takes no memory
abbrev pub NumberLacks : List Placed → Stop → Type 0
NumberLacks ts (Fault t) = NoNumber ts t
NumberLacks ts Memory = ⊥
