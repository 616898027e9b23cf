use Rattle.std.proofs.Common.{◌+◌, ◌*◌}
use Rattle.sx_sched.specs.Lines.{Take}
use Rattle.sx_drive.specs.Honest.{OUT_WINDOW, says, queues}
use Rattle.sx_drive.proofs.Parts.{then_does, first_err, queue_does, queue_goes}
use Rattle.sx_drive.proofs.honest.Honest.take_one.Goals as goal

pub returns-in_err-say-clause-does : goal.returns-in_err-say-clause-does
returns-in_err-say-clause-does g c =
    first_err g.T.Tag.mac c.args.deployment.now c.from_residual.result c.args.self.now c.say.new.self c.args.said.now.items c.say.new.said.items
    (λ set. says set (Take c.args.node (OUT_WINDOW + 24 * c.args.place) 24)) (λ set. queues) c.from_residual.ensures.0 c.in_err-say.ensures.does

pub returns-clause-does : goal.returns-clause-does
returns-clause-does g c =
    then_does g.T.Tag.mac c.args.deployment.now c.queue.result c.args.self.now c.say.new.self c.queue.new.self c.args.said.now.items c.say.new.said.items c.say.new.said.items
    (λ set. says set (Take c.args.node (OUT_WINDOW + 24 * c.args.place) 24)) (λ set. queues) c.in_ok-say.ensures.does
    (queue_does g.T.Tag.mac c.args.deployment.now c.queue.result c.say.new.self c.queue.new.self c.say.new.said.items c.queue.ensures.ok c.queue.ensures.world)

pub returns-clause-goes_on : goal.returns-clause-goes_on
returns-clause-goes_on g c = queue_goes g.T.Tag.mac c.args.deployment.now c.queue.result c.say.new.self c.queue.new.self c.in_ok-say.ensures.goes_on c.queue.ensures.ok
