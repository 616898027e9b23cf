use Rattle.std.proofs.Common.{Some, None}
use Rattle.std.specs.Prelude.{slice_get, option_and_then}
use Rattle.sx_drive.specs.Honest.{Callee, receiver_of, receives, hands, collects}
use Rattle.sx_drive.proofs.Parts.{found_does, none_did, receiver_there}
use Rattle.sx_drive.specs.Driving.{callee_of}
use Rattle.sx_drive.proofs.Parts.{then_does, first_err}
use Rattle.sx_drive.proofs.honest.Honest.deliver.Goals as goal

pub returns-in_err-hand-in-Some-clause-does : goal.returns-in_err-hand-in-Some-clause-does
returns-in_err-hand-in-Some-clause-does g c =
    let x : Callee = callee_of c.in-Some.callee in
    found_does g.T.Tag.mac c.args.deployment.now c.from_residual.result c.args.self.now c.hand.new.self c.args.said.now.items c.hand.new.said.items
    (λ set h. option_and_then (receiver_of set.app) (slice_get h.world.packets c.args.packet)) x (λ set. receives set c.args.packet)
    (receiver_there g.T.Tag.mac c.args.deployment.now c.args.self.now c.args.packet (Some x) c.in-Some.ensures.found)
    (first_err g.T.Tag.mac c.args.deployment.now c.from_residual.result c.args.self.now c.hand.new.self c.args.said.now.items c.hand.new.said.items
    (λ set. hands set 2 x c.args.packet) (λ set. collects set x.node) c.from_residual.ensures.0 c.in_err-hand-in-Some.ensures.does)

pub returns-in_ok-hand-in-Some-clause-does : goal.returns-in_ok-hand-in-Some-clause-does
returns-in_ok-hand-in-Some-clause-does g c =
    let x : Callee = callee_of c.in-Some.callee in
    found_does g.T.Tag.mac c.args.deployment.now c.collect.result c.args.self.now c.collect.new.self c.args.said.now.items c.collect.new.said.items
    (λ set h. option_and_then (receiver_of set.app) (slice_get h.world.packets c.args.packet)) x (λ set. receives set c.args.packet)
    (receiver_there g.T.Tag.mac c.args.deployment.now c.args.self.now c.args.packet (Some x) c.in-Some.ensures.found)
    (then_does g.T.Tag.mac c.args.deployment.now c.collect.result c.args.self.now c.hand.new.self c.collect.new.self c.args.said.now.items c.hand.new.said.items c.collect.new.said.items
    (λ set. hands set 2 x c.args.packet) (λ set. collects set x.node) c.in_ok-hand-in-Some.ensures.does c.collect.ensures.does)

pub returns-in-None-clause-does : goal.returns-in-None-clause-does
returns-in-None-clause-does g c =
    none_did g.T.Tag.mac c.args.deployment.now c.args.self.now c.args.said.now.items
    (λ set h. option_and_then (receiver_of set.app) (slice_get h.world.packets c.args.packet)) (λ set. receives set c.args.packet)
    (receiver_there g.T.Tag.mac c.args.deployment.now c.args.self.now c.args.packet None c.in-None.ensures.found)
