use Rattle.std.proofs.Common.{◌≡◌}
use Rattle.sx_drive.specs.Honest.{made_by}
use Rattle.sx_drive.specs.Driving.{GoesOn}
use Rattle.sx_drive.proofs.Remains.{Remains}
use Rattle.sx_drive.proofs.Loops.{collects_at, takes_from}
use Rattle.sx_drive.proofs.honest.Honest.collect.Given as goal

abbrev pub invariant-loop-place : goal.invariant-loop-place
invariant-loop-place g l = record {
  remains : Remains g.T.Tag.mac l.deployment (collects_at l.node) (takes_from l.node (made_by l.fn.self.shown) l.place) l.fn.self l.self l.fn.said.items l.said.items;
  goes : GoesOn g.T.Tag.mac l.deployment l.self;
  ran_out : l.self.ran_out ≡ l.fn.self.ran_out;
}
