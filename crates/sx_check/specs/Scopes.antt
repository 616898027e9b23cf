-- What the code's scopes stand for.
use Rattle.std.specs.Prelude.{ℕ, Bool, List, [], ◌∷◌, ◌++◌}
use Rattle.sx_lang.specs.declared.tree.Decl.{Decl}
use Rattle.sx_lang.specs.Tree.{Block, Done, Then}
use Rattle.sx_lang.specs.View.{block_of}
use Rattle.sx_check.specs.declared.scopes.Scope.{Scope, Module, Handler, Block'}
use Rattle.sx_check.specs.declared.uses.Flaw.{Flaw}
use Rattle.sx_check.specs.declared.uses.Flaw.TheVariants.{Unknown, Misused}
use Rattle.sx_check.specs.Names.{defined}
use Rattle.sx_check.specs.Uses.{Use, is_unknown, is_misused}

-- the names that a block's own statements define
abbrev pub definitions : Block → List (List ℕ)
definitions Done = []
definitions (Then s b) = defined s ++ definitions b

-- the names of the locals that a place can see, outer ones first
abbrev pub seen_in : Scope → List (List ℕ)
seen_in Module = []
seen_in (Handler x) = x.now ∷ []
seen_in (Block' p outer earlier) = seen_in outer ++ definitions (block_of earlier.now)

-- whether a use has this flaw
unfoldable pub is_flawed : Flaw → List Decl → Use → Bool
is_flawed Unknown ds u = is_unknown ds u
is_flawed Misused ds u = is_misused ds u
