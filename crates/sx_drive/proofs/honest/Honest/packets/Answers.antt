use Rattle.std.proofs.Common.{◌≡◌, List, IfOk, subst, ap, ◌∙◌}
use Rattle.sx_trace.specs.declared.items.Item.{Item}
use Rattle.sx_drive.specs.Honest.{packets_of}
use Rattle.sx_drive.specs.Driving.{Kept}
use Rattle.sx_drive.proofs.honest.Honest.packets.Goals as goal

pub returns : goal.returns
returns g c = subst (λ (items : List Item). IfOk c.packets_of.result (λ ks. ks.items ≡ packets_of items)) (c.deref.ensures.value ∙ ap (λ (k : Kept). k.shown) c.self.view_is) c.packets_of.ensures
