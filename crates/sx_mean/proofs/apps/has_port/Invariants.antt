use Rattle.std.proofs.Common.{◌≡◌, drop, map}
use Rattle.sx_mean.specs.Validity.{is_port, has_port}
use Rattle.sx_mean.specs.View.{part_as}
use Rattle.sx_mean.proofs.apps.has_port.Given as goal

abbrev pub invariant-loop-q : goal.invariant-loop-q
invariant-loop-q l = has_port (is_port l.output) (map part_as (drop l.q-index l.parts)) l.left l.port ≡ has_port (is_port l.output) (map part_as l.parts) l.part l.port
