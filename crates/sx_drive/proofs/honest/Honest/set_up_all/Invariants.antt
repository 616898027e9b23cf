use Rattle.std.proofs.Common.{◌≡◌, length}
use Rattle.sx_drive.specs.Honest.{setup}
use Rattle.sx_drive.specs.Driving.{GoesOn}
use Rattle.sx_drive.proofs.Remains.{Remains}
use Rattle.sx_drive.proofs.Loops.{set_up_rest}
use Rattle.sx_drive.proofs.honest.Honest.set_up_all.Given as goal

abbrev pub invariant-loop-m : goal.invariant-loop-m
invariant-loop-m g l = record {
  remains : Remains g.T.Tag.mac l.deployment setup (set_up_rest (length l.deployment.app.parts.items) l.m) l.fn.self l.self l.fn.said.items l.said.items;
  goes : GoesOn g.T.Tag.mac l.deployment l.self;
  ran_out : l.self.ran_out ≡ l.fn.self.ran_out;
}
