use Rattle.std.proofs.Common.{◌≡◌, ◌++◌, length, take, drop}
use Rattle.sx_deployer.specs.Keeping.{raised_from}
use Rattle.sx_deployer.proofs.renewal.raised.Given as goal

abbrev pub invariant-loop-link : goal.invariant-loop-link
invariant-loop-link l = record {
  whole : length l.next ≡ 64;
  raised : take l.link l.next ++ raised_from l.link l.ends (drop l.link l.epochs) ≡ raised_from 0 l.ends l.epochs;
}
