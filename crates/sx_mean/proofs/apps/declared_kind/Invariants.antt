use Rattle.std.proofs.Common.{◌≡◌, drop}
use Rattle.sx_mean.specs.Application.{declared_kind}
use Rattle.sx_mean.proofs.apps.declared_kind.Given as goal

abbrev pub invariant-loop-d : goal.invariant-loop-d
invariant-loop-d l = declared_kind (drop l.d-index l.decls) ≡ declared_kind l.decls
