use Rattle.std.proofs.Common.{[], ◌∷◌, ◌==◌, subst}
use Rattle.sx_trace.specs.declared.items.Item.TheVariants.{Budget}
use Rattle.sx_world.specs.Held.{DoesAct}
use Rattle.sx_observe.specs.InMemory.{setting_in}
use Rattle.spec_run.specs.Run.{steps_of}
use Rattle.sx_world.proofs.running.Running.finish.Goals as goal

pub returns : goal.returns
returns g c =
    let set = setting_in g.T.Tag.mac c.args.setting.now in
    subst (λ k. DoesAct set c.steps_of.result c.args.self.now c.steps_of.new.self c.args.items.now.items c.steps_of.new.items.items (steps_of set (λ s. s.cur == 0) (Budget c.args.n ∷ []) c.args.n k))
    c.finish_steps.ensures
    c.steps_of.ensures
