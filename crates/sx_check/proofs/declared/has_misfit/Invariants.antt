use Rattle.std.proofs.Common.{◌≡◌, drop}
use Rattle.std.specs.List.{list_any}
use Rattle.sx_check.specs.Bounds.{is_misfit}
use Rattle.sx_check.proofs.declared.has_misfit.Given as goal

abbrev pub invariant-loop-d : goal.invariant-loop-d
invariant-loop-d l = list_any is_misfit (drop l.d-index l.decls) ≡ list_any is_misfit l.decls
