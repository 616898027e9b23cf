-- A module that keeps the rules has at most 255 inputs.
use Rattle.std.proofs.Common.{◌≡◌, ℕ, ◌-◌, ◌<◌, ◌≤◌, false, List, [], ◌∷◌, length, None, refl, arith}
use Rattle.std.specs.Prelude.{◌==◌}
use Rattle.sx_lang.specs.Tree.{ModuleTree}
use Rattle.sx_check.specs.Rules.{first_broken}
use Rattle.sx_check.proofs.Accepted.{accepted}
use Rattle.sx_mean.specs.React.{input_names, nth}
use Rattle.sx_mean.proofs.Inputs.{length-names}

above : (n : ℕ) → 0 < n → (n == 0) ≡ false
above n h = grind arith

beyond : (xs : List (List ℕ)) (n : ℕ) → length xs ≤ n → nth xs n ≡ None
beyond [] n h = refl
beyond (x ∷ xs) n h = rw (above n (omega (arith, h))) (beyond xs (n - 1) (omega (arith, h)))

pub no_input : (m : ModuleTree) (n : ℕ) → first_broken m ≡ None → 255 < n → nth (input_names m.decls) n ≡ None
no_input m n keeps above =
    let a = accepted m keeps in
    beyond (input_names m.decls) n (omega (arith, above, length-names m.decls, a.inputs))
