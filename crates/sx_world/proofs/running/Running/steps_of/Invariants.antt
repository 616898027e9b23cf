use Rattle.std.proofs.Common.{◌≡◌, ◌+◌, ◌==◌, ◌&&◌, ◌<◌, ◌≤◌, length, Some}
use Rattle.std.specs.Prelude.{slice_get}
use Rattle.std.specs.Option.{option_to_list}
use Rattle.spec_machine.specs.State.{State}
use Rattle.sx_observe.specs.InMemory.{setting_in}
use Rattle.sx_world.proofs.passing.Going.{Going}
use Rattle.sx_world.proofs.running.Running.steps_of.Given as goal

abbrev pub invariant-stretches : goal.invariant-stretches
invariant-stretches g l = record {
  going : Going (setting_in g.T.Tag.mac l.setting) (λ s. l.idle && (s.cur == 0)) (option_to_list l.end) l.n l.count l.left l.fn.self l.self l.fn.items.items l.items.items;
  within : l.n < length l.self.nodes;
  boot : (s : State) → slice_get l.self.nodes l.n ≡ Some s → s.boot < 4294967295;
  steps : l.self.steps + l.left ≤ 18446744073709551615;
}

abbrev pub decreases-stretches : goal.decreases-stretches
decreases-stretches g l = l.left
