use Rattle.std.proofs.Common.{◌≡◌, ℕ, List, ◌++◌, ap, ◌∙◌}
use Rattle.sx_trace.specs.declared.items.Item.{Item}
use Rattle.sx_drive.specs.Honest.{packets_of}
use Rattle.sx_drive.specs.Driving.{Kept, queued}
use Rattle.sx_drive.proofs.Parts.{ok_more}
use Rattle.sx_drive.proofs.honest.Honest.queue.Goals as goal

pub returns-clause-ok : goal.returns-clause-ok
returns-clause-ok g c =
    let kept : List ℕ → Kept = λ ks. record { world = c.self.inside.world; waiting = ks; shown = c.self.inside.shown.items; long = c.self.inside.long; ran_out = c.self.inside.ran_out } in
    ok_more {P = c.add_waiting.new.waiting.items ≡ c.self.inside.waiting.items ++ packets_of c.deref.result.now} c.add_waiting.result
    (λ e. ap kept (e ∙ ap (λ (items : List Item). c.self.inside.waiting.items ++ packets_of items) c.deref.ensures.value) ∙ ap queued c.self.view_is)
    c.add_waiting.ensures
