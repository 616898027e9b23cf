use Rattle.sx_sched.specs.Lines.{Give}
use Rattle.sx_drive.specs.Honest.{Callee, IN_WINDOW, says, calls}
use Rattle.sx_drive.specs.Driving.{callee_of}
use Rattle.sx_drive.proofs.Parts.{then_does, first_err}
use Rattle.sx_drive.proofs.honest.Honest.hand.Goals as goal

pub returns-in_err-say-clause-does : goal.returns-in_err-say-clause-does
returns-in_err-say-clause-does g c =
    let x : Callee = callee_of c.args.callee in
    first_err g.T.Tag.mac c.args.deployment.now c.from_residual.result c.args.self.now c.say.new.self c.args.said.now.items c.say.new.said.items
    (λ set. says set (Give c.args.packet x.node IN_WINDOW)) (λ set. calls set c.args.entry x) c.from_residual.ensures.0 c.in_err-say.ensures.does

pub returns-clause-does : goal.returns-clause-does
returns-clause-does g c =
    let x : Callee = callee_of c.args.callee in
    then_does g.T.Tag.mac c.args.deployment.now c.call.result c.args.self.now c.say.new.self c.call.new.self c.args.said.now.items c.say.new.said.items c.call.new.said.items
    (λ set. says set (Give c.args.packet x.node IN_WINDOW)) (λ set. calls set c.args.entry x) c.in_ok-say.ensures.does c.call.ensures.does
