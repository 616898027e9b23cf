use Rattle.std.proofs.Common.{sym, ap, ◌∙◌}
use Rattle.std.specs.Prelude.{slice_get}
use Rattle.sx_observe.specs.Computed.{is_held}
use Rattle.sx_observe.proofs.HeldEnds.{held_at}
use Rattle.sx_observe.proofs.recording.has_end.Goals as goal

pub returns : goal.returns
returns c =
    c.is_held.ensures ∙ ap (λ ls. is_held c.args.m c.args.side (slice_get ls c.args.link)) c.deref.ensures.value
    ∙ sym (held_at c.args.side c.args.link c.args.m c.args.app.now.links.items)
