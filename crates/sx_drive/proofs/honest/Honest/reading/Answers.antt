use Rattle.std.proofs.Common.{sym, ap, ◌∙◌}
use Rattle.sx_drive.specs.Driving.{Kept}
use Rattle.sx_drive.specs.Driving.{reading}
use Rattle.sx_drive.proofs.Parts.{says_nothing}
use Rattle.sx_drive.proofs.honest.Honest.reading.Goals as goal

pub read-requires-clause-going : goal.read-requires-clause-going
read-requires-clause-going g c = c.requires.going (sym (ap (λ (k : Kept). k.ran_out) c.self.view_is) ∙ c.if-self.false)

pub returns-then-self-clause-does : goal.returns-then-self-clause-does
returns-then-self-clause-does g c = says_nothing g.T.Tag.mac c.args.deployment.now c.args.self.now c.args.said.now.items (reading c.args.device c.args.value)
