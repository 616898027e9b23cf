use Rattle.std.proofs.Common.{sym, ap, ◌∙◌}
use Rattle.sx_drive.specs.Driving.{Kept}
use Rattle.sx_drive.specs.Honest.{setup}
use Rattle.sx_drive.proofs.Parts.{says_nothing}
use Rattle.sx_drive.proofs.honest.Honest.setup.Goals as goal

pub set_up_all-requires : goal.set_up_all-requires
set_up_all-requires g c = record { going = c.requires.going (sym (ap (λ (k : Kept). k.ran_out) c.self.view_is) ∙ c.if-self.false) }

pub returns-then-self-clause-does : goal.returns-then-self-clause-does
returns-then-self-clause-does g c = says_nothing g.T.Tag.mac c.args.deployment.now c.args.self.now c.args.said.now.items setup
