use Rattle.std.proofs.Common.{◌≡◌}
use Rattle.sx_drive.specs.Honest.{answers}
use Rattle.sx_drive.specs.Driving.{GoesOn, callee_of}
use Rattle.sx_drive.proofs.Remains.{Remains}
use Rattle.sx_drive.proofs.Loops.{each_all, each_from}
use Rattle.sx_drive.proofs.honest.Honest.answer_each.Given as goal

abbrev pub invariant-loop-packet : goal.invariant-loop-packet
invariant-loop-packet g l = record {
  remains : Remains g.T.Tag.mac l.deployment (each_all (λ set. answers set (callee_of l.callee)) l.packets)
      (each_from (λ set. answers set (callee_of l.callee)) l.packet-index l.packets) l.fn.self l.self l.fn.said.items l.said.items;
  goes : GoesOn g.T.Tag.mac l.deployment l.self;
  ran_out : l.self.ran_out ≡ l.fn.self.ran_out;
}
