-- What `parse` answers.
use Rattle.std.specs.Prelude.{◌≡◌, ℕ, List, Option, Result, MatchResult}
use Rattle.sx_lang.specs.declared.tree.Module.{Module}
use Rattle.sx_lex.specs.declared.tokens.Place.{Place}
use Rattle.sx_lex.specs.declared.tokens.Placed.{Placed}
use Rattle.sx_lex.specs.Lexed.{Lexed, start}
use Rattle.spec_grammar.specs.Machine.{Refused}
use Rattle.spec_grammar.specs.Grammar.{IsFaultAt}
use Rattle.spec_grammar.specs.Text.{IsFirstFault, place_of}
use Rattle.sx_parse.specs.Declaring.{ReachesModule, AnswersText}
use Rattle.sx_parse.specs.declared.error.ParseError.{ParseError}
use Rattle.sx_parse.specs.declared.error.ParseError.TheVariants.{Fault, OutOfMemory}
use Rattle.sx_parse.specs.declared.error.ParseFault.{ParseFault}

-- the place of a fault
abbrev pub at : ParseFault → Place
at f = record { line = f.line; column = f.column }

-- a fault is the first of its text; memory may run out on every text
abbrev pub IsError : List ℕ → ParseError → Type 0
IsError text (Fault f) = IsFirstFault text (at f)
IsError text OutOfMemory = Unit {0}

-- the first fault of the tokens, which end here, is at this place
pub record IsFirstFaultIn (tokens : List Placed) (end at : Place) : Type 0 where
  pub fault : Option Placed
  pub here : IsFaultAt tokens fault
  pub place : at ≡ place_of end fault

-- a fault is the first of its tokens; memory may run out on all tokens
abbrev pub IsErrorIn : List Placed → Place → ParseError → Type 0
IsErrorIn tokens end (Fault f) = IsFirstFaultIn tokens end (at f)
IsErrorIn tokens end OutOfMemory = Unit {0}

-- The same of the grammar's machine.

-- the tokens have their first fault at this place
pub record StoppedIn (tokens : List Placed) (end : Place) (f : ParseFault) : Type 0 where
  pub token : Option Placed
  pub answers : AnswersText tokens (Refused token)
  pub line : f.line ≡ (place_of end token).line
  pub column : f.column ≡ (place_of end token).column

-- a call's error is the tokens' first fault, or that memory ran out
abbrev pub TokensStopAt : List Placed → Place → ParseError → Type 0
TokensStopAt tokens end (Fault f) = StoppedIn tokens end f
TokensStopAt tokens end OutOfMemory = Unit {0}

-- a call's answer is what the tokens are
abbrev pub TokensTold : List Placed → Place → Result Module ParseError → Type 0
TokensTold tokens end r =
    MatchResult r (λ m. ReachesModule tokens m) (λ e. TokensStopAt tokens end e)

-- the text is this module, by its tokens
pub record Read (text : List ℕ) (m : Module) : Type 0 where
  pub tokens : List Placed
  pub end : Place
  pub lexed : Lexed start text tokens end
  pub reaches : ReachesModule tokens m

-- the text has its first fault at this place, by its tokens
pub record Stopped (text : List ℕ) (f : ParseFault) : Type 0 where
  pub tokens : List Placed
  pub end : Place
  pub lexed : Lexed start text tokens end
  pub stopped : StoppedIn tokens end f

-- a call's error is the text's first fault, or that memory ran out
abbrev pub ParseStopsAt : List ℕ → ParseError → Type 0
ParseStopsAt text (Fault f) = Stopped text f
ParseStopsAt text OutOfMemory = Unit {0}

-- a call's answer is what the text is
abbrev pub ParseTold : List ℕ → Result Module ParseError → Type 0
ParseTold text r = MatchResult r (λ m. Read text m) (λ e. ParseStopsAt text e)
