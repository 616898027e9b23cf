-- The names of declarations and of handlers' inputs as lists.
use Rattle.std.specs.Prelude.{ℕ, Bool, List, [], ◌∷◌, Option, Some, None, nat_lt, count_by}
use Rattle.std.specs.List.{list_any}
use Rattle.sx_lang.specs.declared.tree.Decl.{Decl}
use Rattle.sx_lang.specs.declared.tree.Decl.TheVariants.{Input, Output, Var, Array}
use Rattle.sx_lang.specs.Tree.{HandlerTree}
use Rattle.sx_check.specs.declared.declared.Role.{Role}
use Rattle.sx_check.specs.declared.declared.Role.TheVariants.{Word, Element, Sending, Handling}
use Rattle.sx_check.specs.Names.{same}

-- the declaration's name, if it can be used so; its name in any case where no use is given
abbrev pub name_as : Option Role → Decl → Option (List ℕ)
name_as None (Input x) = Some x
name_as None (Output x) = Some x
name_as None (Var x n) = Some x
name_as None (Array x n) = Some x
name_as (Some Word) (Var x n) = Some x
name_as (Some Element) (Array x n) = Some x
name_as (Some Sending) (Output x) = Some x
name_as (Some Handling) (Input x) = Some x
name_as role d = None

-- a name before others, where there is one
abbrev pub before : Option (List ℕ) → List (List ℕ) → List (List ℕ)
before None xs = xs
before (Some x) xs = x ∷ xs

-- the names of those that have one
module _ {A : Type 0} where
  abbrev pub names_by : (A → Option (List ℕ)) → List A → List (List ℕ)
  names_by name [] = []
  names_by name (a ∷ rest) = before (name a) (names_by name rest)

-- the names of the declarations that can be used so
abbrev pub names_as : Option Role → List Decl → List (List ℕ)
names_as role ds = names_by (name_as role) ds

-- the names of the inputs that are handled
abbrev pub inputs_of : List HandlerTree → List (List ℕ)
inputs_of hs = names_by (λ h. h.input) hs

-- a name is in the list twice
abbrev pub is_in_twice : List (List ℕ) → Bool
is_in_twice names = list_any (λ x. nat_lt 1 (count_by (same x) names)) names
