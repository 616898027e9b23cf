use Rattle.std.proofs.Common.{ap, ◌∙◌}
use Rattle.sx_drive.specs.Honest.{made_by}
use Rattle.sx_drive.specs.Driving.{Kept}
use Rattle.sx_drive.proofs.honest.Honest.made.Goals as goal

pub returns-clause-made : goal.returns-clause-made
returns-clause-made g c = c.made_by.ensures.made ∙ ap made_by (c.deref.ensures.value ∙ ap (λ (k : Kept). k.shown) c.self.view_is)
