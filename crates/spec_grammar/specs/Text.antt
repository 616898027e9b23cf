-- The grammar of a text's bytes.
use Rattle.std.specs.Prelude.{◌≡◌, ℕ, List, Option, Some, None}
use Rattle.sx_lang.specs.Tree.{ModuleTree}
use Rattle.sx_lex.specs.declared.tokens.Place.{Place}
use Rattle.sx_lex.specs.declared.tokens.Placed.{Placed}
use Rattle.sx_lex.specs.Lexed.{Lexed, start}
use Rattle.spec_grammar.specs.Tokens.{given_tokens}
use Rattle.spec_grammar.specs.Grammar.{IsModule, IsFaultAt}

-- the text's tokens are this module's
pub record Spells (text : List ℕ) (m : ModuleTree) : Type 0 where
  pub tokens : List Placed
  pub end : Place
  pub lexed : Lexed start text tokens end
  pub stands : IsModule (given_tokens tokens) m

-- the place of a token, or of the end
abbrev pub place_of : Place → Option Placed → Place
place_of end (Some t) = t.place
place_of end None = end

-- the text's first fault is at this place
pub record IsFirstFault (text : List ℕ) (at : Place) : Type 0 where
  pub tokens : List Placed
  pub end : Place
  pub lexed : Lexed start text tokens end
  pub fault : Option Placed
  pub here : IsFaultAt tokens fault
  pub place : at ≡ place_of end fault
