use Rattle.std.proofs.Common.{Some, None}
use Rattle.sx_drive.specs.Honest.{Callee, driver_of, samples, calls, collects}
use Rattle.sx_drive.proofs.Parts.{found_does, none_did, found_there}
use Rattle.sx_drive.specs.Driving.{callee_of}
use Rattle.sx_drive.proofs.Parts.{then_does, first_err}
use Rattle.sx_drive.proofs.honest.Honest.sample.Goals as goal

pub returns-in_err-call-in-Some-clause-does : goal.returns-in_err-call-in-Some-clause-does
returns-in_err-call-in-Some-clause-does g c =
    let x : Callee = callee_of c.in-Some.callee in
    found_does g.T.Tag.mac c.args.deployment.now c.from_residual.result c.args.self.now c.call.new.self c.args.said.now.items c.call.new.said.items (λ set h. driver_of set.app c.args.device) x samples
    (found_there g.T.Tag.mac c.args.deployment.now c.args.self.now (λ app. driver_of app c.args.device) (Some x) c.in-Some.ensures.found)
    (first_err g.T.Tag.mac c.args.deployment.now c.from_residual.result c.args.self.now c.call.new.self c.args.said.now.items c.call.new.said.items
    (λ set. calls set 3 x) (λ set. collects set x.node) c.from_residual.ensures.0 c.in_err-call-in-Some.ensures.does)

pub returns-in_ok-call-in-Some-clause-does : goal.returns-in_ok-call-in-Some-clause-does
returns-in_ok-call-in-Some-clause-does g c =
    let x : Callee = callee_of c.in-Some.callee in
    found_does g.T.Tag.mac c.args.deployment.now c.collect.result c.args.self.now c.collect.new.self c.args.said.now.items c.collect.new.said.items (λ set h. driver_of set.app c.args.device) x samples
    (found_there g.T.Tag.mac c.args.deployment.now c.args.self.now (λ app. driver_of app c.args.device) (Some x) c.in-Some.ensures.found)
    (then_does g.T.Tag.mac c.args.deployment.now c.collect.result c.args.self.now c.call.new.self c.collect.new.self c.args.said.now.items c.call.new.said.items c.collect.new.said.items
    (λ set. calls set 3 x) (λ set. collects set x.node) c.in_ok-call-in-Some.ensures.does c.collect.ensures.does)

pub returns-in-None-clause-does : goal.returns-in-None-clause-does
returns-in-None-clause-does g c =
    none_did g.T.Tag.mac c.args.deployment.now c.args.self.now c.args.said.now.items (λ set h. driver_of set.app c.args.device) samples
    (found_there g.T.Tag.mac c.args.deployment.now c.args.self.now (λ app. driver_of app c.args.device) None c.in-None.ensures.found)
