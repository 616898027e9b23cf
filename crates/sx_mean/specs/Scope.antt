-- The locals in scope: a local is found by the index of its name, and statements keep the scope
-- that the check sees.
use Rattle.std.specs.Prelude.{◌≡◌, ℕ, List, [], ◌∷◌, ◌++◌, option_map, slice_get}
use Rattle.std.specs.List.{position_or_len}
use Rattle.sx_lang.specs.declared.tree.Decl.{Decl}
use Rattle.sx_lang.specs.Tree.{Block, Statement}
use Rattle.sx_check.specs.Names.{defined, same}
use Rattle.sx_check.specs.Scopes.{definitions}
use Rattle.sx_mean.specs.declared.moments.Local.{Local}
use Rattle.sx_mean.specs.Meaning.{HandlerState, after_block, after_statement, in_block, local_place}
use Rattle.sx_mean.specs.Meaning.{look_up}

-- the names of the locals in scope, in the order of their lets
abbrev pub names_of : List Local → List (List ℕ)
names_of [] = []
names_of (l ∷ ls) = l.name ∷ names_of ls

-- the index of a name among them, their number where it isn't there
abbrev pub index_of : List (List ℕ) → List ℕ → ℕ
index_of names x = position_or_len (same x) names

-- a local of this name is the one at the name's index
pub record IsIndexed (ls : List Local) (x : List ℕ) : Type 0 where
  pub place : local_place ls x ≡ index_of (names_of ls) x
  pub value : look_up ls x ≡ option_map (λ l. l.value) (slice_get ls (index_of (names_of ls) x))

-- the place of a local is found by its name, in every list of locals
abbrev pub LocalsIndexed : Type 0
LocalsIndexed = (ls : List Local) (x : List ℕ) → IsIndexed ls x

-- a statement adds the names that it defines itself, and a block ends with the names that it began
-- with
pub record KeepsScope (ds : List Decl) (st : HandlerState) : Type 0 where
  pub statement : (s : Statement) → names_of (after_statement ds s st).locals
      ≡ names_of st.locals ++ defined s
  pub within_block : (b : Block) → names_of (after_block ds b st).locals
      ≡ names_of st.locals ++ definitions b
  pub block : (b : Block) → names_of (in_block ds b st).locals ≡ names_of st.locals

-- statements and blocks keep the locals that were there before
abbrev pub ScopesKept : Type 0
ScopesKept = (ds : List Decl) (st : HandlerState) → KeepsScope ds st
