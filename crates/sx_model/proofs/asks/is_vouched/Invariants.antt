use Rattle.std.proofs.Common.{◌≡◌, drop}
use Rattle.sx_model.specs.Step.{is_vouched}
use Rattle.sx_model.proofs.asks.is_vouched.Given as goal

-- it isn't among those so far
abbrev pub invariant-loop-v : goal.invariant-loop-v
invariant-loop-v l = is_vouched l.challenge l.boot (drop l.v-index l.vouched) ≡ is_vouched l.challenge l.boot l.vouched
