use Rattle.sx_drive.proofs.honest.Honest.call.Goals as goal

pub returns-clause-does : goal.returns-clause-does
returns-clause-does g c = c.say.ensures.does
