use Rattle.std.proofs.Common.{◌≡◌, drop}
use Rattle.sx_model.specs.Renewal.{is_spent}
use Rattle.sx_model.proofs.renewal.is_spent.Given as goal

-- no connection so far has the last epoch
abbrev pub invariant-loop-at : goal.invariant-loop-at
invariant-loop-at l = is_spent l.m (drop l.at l.links) (drop l.at l.epochs) ≡ is_spent l.m l.links l.epochs
