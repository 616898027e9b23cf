use Rattle.std.proofs.Common.{◌∷◌, ◌++◌, List, map, ap, ◌∙◌}
use Rattle.sx_trace.specs.declared.items.Item.{Item}
use Rattle.sx_sched.specs.Seen.{line_of}
use Rattle.sx_drive.specs.Honest.{SaidItem, SaidLine}
use Rattle.sx_drive.specs.Driving.{Kept, all_said}
use Rattle.sx_drive.proofs.Performed.{pushed}
use Rattle.sx_drive.proofs.honest.Honest.tell.Goals as goal

pub returns-clause-said : goal.returns-clause-said
returns-clause-said g c =
    pushed (record { line = c.args.line; items = c.replace-items.result }) c.args.said.now.items c.push.new.self.items c.in_ok-push.ensures.items
    ∙ ap (λ (items : List Item). all_said c.args.said.now.items ++ SaidLine (line_of c.args.line) ∷ map SaidItem items)
    (ap (λ v. v.items) c.replace-items.ensures.value ∙ ap (λ (k : Kept). k.shown) c.self.view_is)
