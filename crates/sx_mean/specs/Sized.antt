-- Declarations whose numbers fit.
use Rattle.std.specs.Prelude.{◌≤◌, List, count_by}
use Rattle.sx_lang.specs.declared.tree.Decl.{Decl}
use Rattle.sx_lang.specs.Sizes.{declared_cells}
use Rattle.sx_check.specs.Bounds.{is_output}

-- so few cells and outputs that their numbers fit, as the rules ask
pub record AreSizedDecls (ds : List Decl) : Type 0 where
  pub few_cells : declared_cells ds ≤ 1024
  pub few_outputs : count_by is_output ds ≤ 255
