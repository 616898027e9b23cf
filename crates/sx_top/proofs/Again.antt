-- The lines that are written, given to `run`, give the same items.
use Rattle.std.proofs.Common.{◌∙◌, List, ◌++◌, sym, ap}
use Rattle.command_promise.specs.declared.status.Status.TheVariants.{Done}
use Rattle.command_promise.specs.Told.{behind}
use Rattle.sx_trace.specs.declared.items.Item.{Item}
use Rattle.spec_run.specs.State.{switched_on}
use Rattle.spec_run.specs.Accepted.{setting_of}
use Rattle.command_text.specs.Output.{trace_line, end_line}
use Rattle.command_world.specs.Images.{images_text}
use Rattle.command_world.specs.Schedule.{Schedule}
use Rattle.command_world.specs.Items.{items_text}
use Rattle.command_run.specs.Output.{run_from, schedule_output}
use Rattle.sx_top.specs.Laws.{LinesRunAgain}

pub lines_run_again : LinesRunAgain
unfolding run_from
lines_run_again mac deployment texts w d deploys readings =
    let set = setting_of mac d texts in
    let head = images_text d.names.modules texts ++ trace_line in
    ap (λ (x : Schedule). behind head (schedule_output d.names set (switched_on set) x)) (w.replays d deploys readings).replays
    ∙ ap (λ (items : List Item). behind head (record { text = items_text d.names items ++ end_line; status = Done })) (sym (w.ran d deploys readings).items)
