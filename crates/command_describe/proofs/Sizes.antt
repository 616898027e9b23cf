-- The sizes of a module that keeps the rules aren't cut.
use Rattle.std.proofs.Common.{◌≡◌, ℕ, ◌≤◌, None, min, arith}
use Rattle.sx_lang.specs.Sizes.{module_cost, module_nodes, module_weight}
use Rattle.sx_lang.specs.Tree.{ModuleTree}
use Rattle.sx_check.specs.Rules.{first_broken}
use Rattle.sx_check.proofs.Accepted.{accepted}

pub whole_weight : (m : ModuleTree) (ends : ℕ) → first_broken m ≡ None → ends ≤ 16 → min (module_weight m ends) 4294967295 ≡ module_weight m ends
whole_weight m ends keeps few = let nodes : module_nodes m ≤ 512 = (accepted m keeps).nodes in omega arith

pub whole_cost : (m : ModuleTree) → first_broken m ≡ None → min (module_cost m) 262145 ≡ module_cost m
whole_cost m keeps = let cost : module_cost m ≤ 262144 = (accepted m keeps).cost in omega arith
