use Rattle.sx_sched.specs.Lines.{Ask, Load}
use Rattle.sx_drive.specs.Honest.{Callee, then_, each, packets_of, says, hands}
use Rattle.sx_drive.specs.Driving.{callee_of}
use Rattle.sx_drive.proofs.Parts.{then_does, first_err}
use Rattle.sx_drive.proofs.honest.Honest.ask.Goals as goal

pub returns-in_err-say-clause-does : goal.returns-in_err-say-clause-does
returns-in_err-say-clause-does g c =
    let x : Callee = callee_of c.args.callee in
    first_err g.T.Tag.mac c.args.deployment.now c.from_residual.result c.args.self.now c.say.new.self c.args.said.now.items c.say.new.said.items
    (λ set. says set (Load x.part)) (λ set h1. then_ (says set (Ask x.part) h1) (λ h2. each (hands set 1 x) (packets_of h2.shown) h2)) c.from_residual.ensures.0 c.in_err-say.ensures.does

pub returns-clause-does : goal.returns-clause-does
returns-clause-does g c =
    let x : Callee = callee_of c.args.callee in
    then_does g.T.Tag.mac c.args.deployment.now c.challenge.result c.args.self.now c.say.new.self c.challenge.new.self c.args.said.now.items c.say.new.said.items c.challenge.new.said.items
    (λ set. says set (Load x.part)) (λ set h1. then_ (says set (Ask x.part) h1) (λ h2. each (hands set 1 x) (packets_of h2.shown) h2)) c.in_ok-say.ensures.does c.challenge.ensures.does
