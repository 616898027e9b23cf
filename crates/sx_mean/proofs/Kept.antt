-- A checked module has so few cells and outputs that their numbers fit.
use Rattle.std.proofs.Common.{◌≡◌, None}
use Rattle.sx_lang.specs.Tree.{ModuleTree}
use Rattle.sx_check.specs.Rules.{first_broken}
use Rattle.sx_check.proofs.Accepted.{accepted}
use Rattle.sx_mean.specs.Sized.{AreSizedDecls}

pub sized : (m : ModuleTree) → first_broken m ≡ None → AreSizedDecls m.decls
sized m h = let a = accepted m h in record { few_cells = a.cells; few_outputs = a.outputs }
