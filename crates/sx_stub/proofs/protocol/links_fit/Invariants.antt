use Rattle.std.proofs.Common.{◌<◌, drop}
use Rattle.std.specs.Prelude.{All}
use Rattle.sx_stub.proofs.protocol.links_fit.Given as goal

abbrev pub invariant-loop-e : goal.invariant-loop-e
invariant-loop-e l = All (λ e. e.link < 256) (drop l.e-index l.ends) → All (λ e. e.link < 256) l.ends
