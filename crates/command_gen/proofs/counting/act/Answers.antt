use Rattle.std.proofs.Common.{◌∙◌, ◌++◌, List, ap}
use Rattle.sx_trace.specs.declared.items.Item.{Item}
use Rattle.sx_sched.specs.Seen.{line_of}
use Rattle.sx_world.specs.InMemory.{world_setting}
use Rattle.command_world.specs.Turning.{after_next}
use Rattle.command_gen.proofs.counting.act.Goals as goal

pub returns-in-Ok-clause-acts : goal.returns-in-Ok-clause-acts
returns-in-Ok-clause-acts g c = λ w shows.
    let next = after_next (world_setting g.T.Tag.mac c.args.deployment.now c.args.world.now) w (line_of c.args.line.now) in
    let acted = c.in-Ok.ensures.acted w shows in
    (acted.0, acted.1 ∙ ap (λ (front : List Item). front ++ next.items) c.clear.ensures.items)
