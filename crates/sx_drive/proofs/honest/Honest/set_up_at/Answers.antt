use Rattle.std.proofs.Common.{Some, None}
use Rattle.sx_drive.specs.Honest.{Callee, callee_at, sets_up}
use Rattle.sx_drive.proofs.Parts.{found_does, none_did, found_there}
use Rattle.sx_drive.specs.Driving.{callee_of}
use Rattle.sx_drive.proofs.honest.Honest.set_up_at.Goals as goal

pub returns-in-Some-clause-does : goal.returns-in-Some-clause-does
returns-in-Some-clause-does g c =
    let x : Callee = callee_of c.in-Some.callee in
    found_does g.T.Tag.mac c.args.deployment.now c.set_up.result c.args.self.now c.set_up.new.self c.args.said.now.items c.set_up.new.said.items (λ set h. callee_at set.app c.args.m) x sets_up
    (found_there g.T.Tag.mac c.args.deployment.now c.args.self.now (λ app. callee_at app c.args.m) (Some x) c.in-Some.ensures.found) c.set_up.ensures.does

pub returns-in-None-clause-does : goal.returns-in-None-clause-does
returns-in-None-clause-does g c =
    none_did g.T.Tag.mac c.args.deployment.now c.args.self.now c.args.said.now.items (λ set h. callee_at set.app c.args.m) sets_up
    (found_there g.T.Tag.mac c.args.deployment.now c.args.self.now (λ app. callee_at app c.args.m) None c.in-None.ensures.found)
