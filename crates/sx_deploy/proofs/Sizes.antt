-- The sizes of a module that keeps the rules are small.
use Rattle.std.proofs.Common.{◌≡◌, ℕ, ◌≤◌, Bool, true, false, None, count_by, min, arith}
use Rattle.sx_lang.specs.Sizes.{declared_cells, module_nodes, module_weight, module_data_size}
use Rattle.sx_lang.specs.Tree.{ModuleTree}
use Rattle.sx_check.specs.Rules.{first_broken}
use Rattle.sx_check.proofs.Accepted.{accepted}
use Rattle.sx_mean.specs.Validity.{is_port}

pub small_weight : (m : ModuleTree) (ends : ℕ) → first_broken m ≡ None → ends ≤ 255 → module_weight m ends ≤ 131072
small_weight m ends h e = let few : module_nodes m ≤ 512 = (accepted m h).nodes in omega arith

pub small_data_size : (m : ModuleTree) (ends : ℕ) → first_broken m ≡ None → ends ≤ 255 → module_data_size m ends ≤ 131072
small_data_size m ends h e = let few : declared_cells m.decls ≤ 1024 = (accepted m h).cells in omega arith

pub uncut : (n : ℕ) → n ≤ 131072 → min n 4294967295 ≡ n
uncut n h = omega arith

pub few_ports : (m : ModuleTree) (output : Bool) → first_broken m ≡ None → count_by (is_port output) m.decls ≤ 255
few_ports m true h = (accepted m h).outputs
few_ports m false h = (accepted m h).inputs
