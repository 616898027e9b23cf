use Rattle.std.proofs.Common.{◌≡◌, drop}
use Rattle.sx_mean.specs.Application.{is_at}
use Rattle.sx_mean.proofs.apps.is_at.Given as goal

abbrev pub invariant-loop-d : goal.invariant-loop-d
invariant-loop-d l = is_at (drop l.d-index l.devices) l.left l.node l.kind ≡ is_at l.devices l.device l.node l.kind
