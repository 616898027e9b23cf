use Rattle.std.proofs.Common.{List, true, ap, ◌∙◌}
use Rattle.sx_trace.specs.declared.items.Item.{Item}
use Rattle.sx_drive.specs.Driving.{Kept, left}
use Rattle.sx_drive.proofs.honest.Honest.leave_out.Goals as goal

pub returns : goal.returns
returns g c =
    let kept : List Item → Kept = λ xs. record { world = c.self.inside.world; waiting = c.self.inside.waiting.items; shown = xs; long = true; ran_out = c.self.inside.ran_out } in
    ap kept c.clear.ensures.items ∙ ap left c.self.view_is
