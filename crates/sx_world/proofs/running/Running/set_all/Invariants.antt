use Rattle.std.proofs.Common.{◌≡◌, drop}
use Rattle.spec_run.specs.Setting.{Setting}
use Rattle.sx_world.specs.Held.{boots_of}
use Rattle.spec_run.specs.Run.{set_all}
use Rattle.sx_world.specs.Loading.{AreSettable}
use Rattle.sx_world.proofs.doing.Composed.{Remains}
use Rattle.sx_world.proofs.running.Running.set_all.Given as goal

abbrev pub invariant-loop-register : goal.invariant-loop-register
invariant-loop-register g l = record {
  remains : (set : Setting) → Remains set (set_all l.n l.registers) (set_all l.n (drop l.register-index l.registers)) l.fn.self l.self l.fn.items.items l.items.items;
  settable : AreSettable (drop l.register-index l.registers);
  boots : boots_of l.self.nodes ≡ boots_of l.fn.self.nodes;
  steps : l.self.steps ≡ l.fn.self.steps;
}
