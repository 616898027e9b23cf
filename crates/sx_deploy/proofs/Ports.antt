-- The search for a port among a module's declarations.
use Rattle.std.proofs.Common.{◌≡◌, ℕ, ◌+◌, Bool, List, length}
use Rattle.std.specs.List.{position_or_len}
use Rattle.std.specs.Str.{bytes_eq}
use Rattle.sx_lang.specs.declared.tree.Decl.{Decl}
use Rattle.sx_deploy.specs.Ties.{port_names}

abbrev pub is_called : List ℕ → List ℕ → Bool
is_called name x = bytes_eq x name

-- this many ports were passed, and none of them has the name
pub record Passed (output : Bool) (decls : List Decl) (name : List ℕ) (before : ℕ) (rest : List Decl) : Type 0 where
  pub place : before + position_or_len (is_called name) (port_names output rest) ≡ position_or_len (is_called name) (port_names output decls)
  pub count : before + length (port_names output rest) ≡ length (port_names output decls)
