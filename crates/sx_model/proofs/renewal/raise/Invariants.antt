use Rattle.std.proofs.Common.{◌≡◌, ◌++◌, take, drop, false}
use Rattle.sx_model.specs.Renewal.{is_spent, raised_epochs}
use Rattle.sx_model.proofs.renewal.raise.Given as goal

-- the epochs so far are raised, and none of the others is the last
abbrev pub invariant-loop-at : goal.invariant-loop-at
invariant-loop-at l = record {
  done : take l.at l.epochs ++ raised_epochs l.m (drop l.at l.links) (drop l.at l.epochs) ≡ raised_epochs l.m l.links l.initial.epochs;
  open_ones : is_spent l.m (drop l.at l.links) (drop l.at l.epochs) ≡ false;
}
