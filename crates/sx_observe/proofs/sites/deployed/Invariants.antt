use Rattle.std.proofs.Common.{◌≡◌, drop}
use Rattle.std.specs.List.{position_from}
use Rattle.spec_run.specs.Setting.{deployed, is_at_site}
use Rattle.sx_observe.proofs.sites.deployed.Given as goal

abbrev pub invariant-loop-m : goal.invariant-loop-m
invariant-loop-m g l = position_from (is_at_site l.n l.node.mem l.x) l.m (drop l.m l.sites) ≡ deployed l.sites l.n l.node.mem l.x
