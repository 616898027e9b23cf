-- Tokens are those of one module or have a first fault, and so has a text.
use Rattle.std.specs.Prelude.{◌≡◌, List, ◌⊎◌, Option, ℕ}
use Rattle.sx_lang.specs.Tree.{ModuleTree}
use Rattle.sx_lex.specs.declared.tokens.Placed.{Placed}
use Rattle.spec_grammar.specs.Tokens.{Token, given_tokens}
use Rattle.spec_grammar.specs.Grammar.{IsModule, IsFaultAt}
use Rattle.sx_lang.specs.Words.{TreeHasWords}
use Rattle.sx_lex.specs.declared.tokens.Place.{Place}
use Rattle.spec_grammar.specs.Text.{Spells, IsFirstFault}

-- no tokens are two modules'
abbrev pub OneModule : Type 0
OneModule = (ts : List Token) (m n : ModuleTree) → IsModule ts m → IsModule ts n → m ≡ n

-- every text's tokens are a module's or have a first fault
abbrev pub Decided : Type 0
Decided = (ts : List Placed) → ((m : ModuleTree) × IsModule (given_tokens ts) m)
    ⊎ ((p : Option Placed) × IsFaultAt ts p)

-- a text spells at most one module
abbrev pub OneModuleOfText : Type 0
OneModuleOfText = (text : List ℕ) (m n : ModuleTree) → Spells text m → Spells text n → m ≡ n

-- a text has at most one first fault
abbrev pub OneFault : Type 0
OneFault = (text : List ℕ) (a b : Place) → IsFirstFault text a → IsFirstFault text b → a ≡ b

-- a text that spells a module has none
abbrev pub NoFault : Type 0
NoFault = (text : List ℕ) (m : ModuleTree) (at : Place) → Spells text m → ¬ IsFirstFault text at

-- each text spells a module or has a first fault
abbrev pub ModuleOrFault : Type 0
ModuleOrFault =
    (text : List ℕ) → ((m : ModuleTree) × Spells text m) ⊎ ((at : Place) × IsFirstFault text at)

-- the numbers of the module that a text spells are words
abbrev pub SpelledWords : Type 0
SpelledWords = (text : List ℕ) (m : ModuleTree) → Spells text m → TreeHasWords m
