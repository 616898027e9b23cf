use Rattle.std.proofs.Common.{◌≡◌, ℕ, ◌+◌, drop}
use Rattle.sx_mean.specs.Application.{links_from}
use Rattle.sx_mean.specs.EndLaws.{senders}
use Rattle.test_compiler.proofs.modules.links_of.Given as goal

abbrev pub invariant-loop-e : goal.invariant-loop-e
invariant-loop-e l = (o : ℕ) → links_from l.links.items 0 o + senders (drop l.e-index l.ends) o ≡ senders l.ends o
