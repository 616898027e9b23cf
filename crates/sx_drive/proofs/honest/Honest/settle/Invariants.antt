use Rattle.std.proofs.Common.{◌≡◌}
use Rattle.sx_drive.specs.Driving.{GoesOn}
use Rattle.sx_drive.proofs.Remains.{Remains}
use Rattle.sx_drive.proofs.Loops.{settle_all, settle_rest}
use Rattle.sx_drive.proofs.honest.Honest.settle.Given as goal

abbrev pub invariant-loop-turn : goal.invariant-loop-turn
invariant-loop-turn g l = record {
  remains : Remains g.T.Tag.mac l.deployment settle_all (settle_rest l._turn) l.fn.self l.self l.fn.said.items l.said.items;
  goes : GoesOn g.T.Tag.mac l.deployment l.self;
  ran_out : l.self.ran_out ≡ l.fn.self.ran_out;
}
