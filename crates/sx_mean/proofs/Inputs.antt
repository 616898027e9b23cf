-- How many inputs a module has.
use Rattle.std.proofs.Common.{◌≡◌, ℕ, List, [], ◌∷◌, length, count_by, refl, arith}
use Rattle.sx_lang.specs.declared.tree.Decl.{Decl}
use Rattle.sx_lang.specs.declared.tree.Decl.TheVariants.{Device, Input, Output, Var, Array}
use Rattle.sx_check.specs.Bounds.{is_input}
use Rattle.sx_check.proofs.Distinct.{count_by-cons}
use Rattle.sx_mean.specs.React.{input_names}

pub length-names : (ds : List Decl) → length (input_names ds) ≡ count_by is_input ds
length-names [] = refl
length-names (Device kind ∷ ds) = let n = length-names ds in omega (arith, n, count_by-cons is_input (Device kind) ds)
length-names (Input x ∷ ds) = let n = length-names ds in omega (arith, n, count_by-cons is_input (Input x) ds)
length-names (Output x ∷ ds) = let n = length-names ds in omega (arith, n, count_by-cons is_input (Output x) ds)
length-names (Var x n ∷ ds) = let more = length-names ds in omega (arith, more, count_by-cons is_input (Var x n) ds)
length-names (Array x n ∷ ds) = let more = length-names ds in omega (arith, more, count_by-cons is_input (Array x n) ds)
