use Rattle.sx_sched.specs.Lines.{Sense}
use Rattle.sx_drive.specs.Honest.{MOST_LINES, then_, if_there, driver_of, says, samples, settles}
use Rattle.sx_drive.proofs.Parts.{then_does, first_err}
use Rattle.sx_drive.proofs.honest.Honest.read.Goals as goal

pub returns-in_err-say-clause-does : goal.returns-in_err-say-clause-does
returns-in_err-say-clause-does g c =
    first_err g.T.Tag.mac c.args.deployment.now c.from_residual.result c.args.self.now c.say.new.self c.args.said.now.items c.say.new.said.items
    (λ set. says set (Sense c.args.device c.args.value)) (λ set h1. then_ (if_there (samples set) (driver_of set.app c.args.device) h1)
    (settles set MOST_LINES)) c.from_residual.ensures.0 c.in_err-say.ensures.does

pub returns-in_err-sample-clause-does : goal.returns-in_err-sample-clause-does
returns-in_err-sample-clause-does g c =
    then_does g.T.Tag.mac c.args.deployment.now c.from_residual-in_err-sample.result c.args.self.now c.say.new.self c.sample.new.self c.args.said.now.items c.say.new.said.items c.sample.new.said.items
    (λ set. says set (Sense c.args.device c.args.value)) (λ set h1. then_ (if_there (samples set) (driver_of set.app c.args.device) h1) (settles set MOST_LINES)) c.in_ok-say.ensures.does
    (first_err g.T.Tag.mac c.args.deployment.now c.from_residual-in_err-sample.result c.say.new.self c.sample.new.self c.say.new.said.items c.sample.new.said.items
    (λ set h. if_there (samples set) (driver_of set.app c.args.device) h) (λ set. settles set MOST_LINES) c.from_residual-in_err-sample.ensures.0 c.in_err-sample.ensures.does)

pub returns-clause-does : goal.returns-clause-does
returns-clause-does g c =
    then_does g.T.Tag.mac c.args.deployment.now c.settle.result c.args.self.now c.say.new.self c.settle.new.self c.args.said.now.items c.say.new.said.items c.settle.new.said.items
    (λ set. says set (Sense c.args.device c.args.value)) (λ set h1. then_ (if_there (samples set) (driver_of set.app c.args.device) h1) (settles set MOST_LINES)) c.in_ok-say.ensures.does
    (then_does g.T.Tag.mac c.args.deployment.now c.settle.result c.say.new.self c.sample.new.self c.settle.new.self c.say.new.said.items c.sample.new.said.items c.settle.new.said.items
    (λ set h. if_there (samples set) (driver_of set.app c.args.device) h) (λ set. settles set MOST_LINES) c.in_ok-sample.ensures.does c.settle.ensures.does)
