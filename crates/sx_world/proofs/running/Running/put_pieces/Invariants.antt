use Rattle.std.proofs.Common.{◌≡◌, ◌+◌, ◌/◌, length}
use Rattle.std.specs.Int.{div_ceil}
use Rattle.spec_run.specs.Setting.{Setting}
use Rattle.sx_world.specs.Held.{boots_of}
use Rattle.spec_run.specs.Run.{put_pieces}
use Rattle.sx_world.proofs.doing.Composed.{Remains}
use Rattle.sx_world.proofs.doing.Loaded.{pieces_from}
use Rattle.sx_world.proofs.running.Running.put_pieces.Given as goal

abbrev pub invariant-loop-i : goal.invariant-loop-i
invariant-loop-i g l = record {
  remains : (set : Setting) → Remains set (put_pieces l.n ((length l.bytes + 1023) / 1024) l.at l.bytes) (pieces_from l.n l.at l.bytes (div_ceil (length l.bytes) 1024) l.i)
      l.fn.self l.self l.fn.items.items l.items.items;
  boots : boots_of l.self.nodes ≡ boots_of l.fn.self.nodes;
  steps : l.self.steps ≡ l.fn.self.steps;
}
