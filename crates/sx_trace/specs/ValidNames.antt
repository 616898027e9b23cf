-- When lists of names are valid.
use Rattle.std.specs.Prelude.{ℕ, Bool, true, ◌&&◌, ◌==◌, not, nat_le, List, [], ◌∷◌, length}
use Rattle.std.specs.List.{list_all, list_any}
use Rattle.std.specs.Str.{bytes_eq}
use Rattle.sx_lang.specs.Form.{is_name}
use Rattle.sx_trace.specs.Names.{NameLists, deployer}

-- the name is in the list
abbrev pub has_name : List (List ℕ) → List ℕ → Bool
has_name names text = list_any (λ name. bytes_eq name text) names

-- no name occurs twice
abbrev pub no_repeat : List (List ℕ) → Bool
no_repeat [] = true
no_repeat (x ∷ xs) = not (has_name xs x) && no_repeat xs

-- this many names at most, each in form, and none twice
abbrev pub are_names : ℕ → List (List ℕ) → Bool
are_names most names = nat_le (length names) most && (list_all is_name names && no_repeat names)

-- names that a deployment may have: each list is in form, repeats none and is short, and no module
-- is named `deployer`
unfoldable pub are_valid : NameLists → Bool
are_valid n =
    (are_names 16 n.nodes && are_names 32 n.devices)
    && ((are_names 32 n.modules && are_names 64 n.links)
    && (not (has_name n.modules deployer) && length n.sensors == length n.devices))
