use Rattle.sx_drive.specs.Honest.{Callee, asks, opens}
use Rattle.sx_drive.specs.Driving.{callee_of}
use Rattle.sx_drive.proofs.Parts.{then_does, first_err}
use Rattle.sx_drive.proofs.honest.Honest.set_up.Goals as goal

pub returns-in_err-ask-clause-does : goal.returns-in_err-ask-clause-does
returns-in_err-ask-clause-does g c =
    let x : Callee = callee_of c.args.callee in
    first_err g.T.Tag.mac c.args.deployment.now c.from_residual.result c.args.self.now c.ask.new.self c.args.said.now.items c.ask.new.said.items
    (λ set. asks set x) (λ set. opens set x) c.from_residual.ensures.0 c.in_err-ask.ensures.does

pub returns-clause-does : goal.returns-clause-does
returns-clause-does g c =
    let x : Callee = callee_of c.args.callee in
    then_does g.T.Tag.mac c.args.deployment.now c.open.result c.args.self.now c.ask.new.self c.open.new.self c.args.said.now.items c.ask.new.said.items c.open.new.said.items
    (λ set. asks set x) (λ set. opens set x) c.in_ok-ask.ensures.does c.open.ensures.does
