use Rattle.sx_sched.specs.Lines.{Take}
use Rattle.sx_drive.specs.Honest.{Callee, OUT_WINDOW, then_, each, packets_of, says, answers, hands}
use Rattle.sx_drive.specs.Driving.{callee_of}
use Rattle.sx_drive.proofs.Parts.{then_does, first_err}
use Rattle.sx_drive.proofs.honest.Honest.open.Goals as goal

pub returns-in_err-say-clause-does : goal.returns-in_err-say-clause-does
returns-in_err-say-clause-does g c =
    let x : Callee = callee_of c.args.callee in
    first_err g.T.Tag.mac c.args.deployment.now c.from_residual.result c.args.self.now c.say.new.self c.args.said.now.items c.say.new.said.items
    (λ set. says set (Take x.node OUT_WINDOW 16)) (λ set h1. then_ (each (answers set x) (packets_of h1.shown) h1)
    (λ h2. each (hands set 0 x) (packets_of h2.shown) h2)) c.from_residual.ensures.0 c.in_err-say.ensures.does

pub returns-in_err-answer_shown-clause-does : goal.returns-in_err-answer_shown-clause-does
returns-in_err-answer_shown-clause-does g c =
    let x : Callee = callee_of c.args.callee in
    then_does g.T.Tag.mac c.args.deployment.now c.from_residual-in_err-answer_shown.result c.args.self.now c.say.new.self c.answer_shown.new.self
    c.args.said.now.items c.say.new.said.items c.answer_shown.new.said.items
    (λ set. says set (Take x.node OUT_WINDOW 16)) (λ set h1. then_ (each (answers set x) (packets_of h1.shown) h1) (λ h2. each (hands set 0 x) (packets_of h2.shown) h2)) c.in_ok-say.ensures.does
    (first_err g.T.Tag.mac c.args.deployment.now c.from_residual-in_err-answer_shown.result c.say.new.self c.answer_shown.new.self c.say.new.said.items c.answer_shown.new.said.items
    (λ set h. each (answers set x) (packets_of h.shown) h) (λ set h. each (hands set 0 x) (packets_of h.shown) h) c.from_residual-in_err-answer_shown.ensures.0 c.in_err-answer_shown.ensures.does)

pub returns-clause-does : goal.returns-clause-does
returns-clause-does g c =
    let x : Callee = callee_of c.args.callee in
    then_does g.T.Tag.mac c.args.deployment.now c.hand_shown.result c.args.self.now c.say.new.self c.hand_shown.new.self c.args.said.now.items c.say.new.said.items c.hand_shown.new.said.items
    (λ set. says set (Take x.node OUT_WINDOW 16)) (λ set h1. then_ (each (answers set x) (packets_of h1.shown) h1) (λ h2. each (hands set 0 x) (packets_of h2.shown) h2)) c.in_ok-say.ensures.does
    (then_does g.T.Tag.mac c.args.deployment.now c.hand_shown.result c.say.new.self c.answer_shown.new.self c.hand_shown.new.self c.say.new.said.items
    c.answer_shown.new.said.items c.hand_shown.new.said.items
    (λ set h. each (answers set x) (packets_of h.shown) h) (λ set h. each (hands set 0 x) (packets_of h.shown) h) c.in_ok-answer_shown.ensures.does c.hand_shown.ensures.does)
