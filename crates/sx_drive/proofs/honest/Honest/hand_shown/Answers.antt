use Rattle.std.proofs.Common.{◌∙◌}
use Rattle.sx_drive.specs.Honest.{Callee, each, packets_of, hands}
use Rattle.sx_drive.specs.Driving.{callee_of}
use Rattle.sx_drive.proofs.Remains.{Part, does_err}
use Rattle.sx_drive.proofs.Parts.{shown_does, says_nothing}
use Rattle.sx_drive.proofs.honest.Honest.hand_shown.Goals as goal

pub returns-in_err-packets-clause-does : goal.returns-in_err-packets-clause-does
returns-in_err-packets-clause-does g c =
    let x : Callee = callee_of c.args.callee in
    let whole : Part = λ set h. each (hands set c.args.entry x) (packets_of h.shown) h in
    does_err g.T.Tag.mac c.args.deployment.now c.from_residual.result c.args.self.now c.args.self.now c.args.said.now.items c.args.said.now.items whole
    c.from_residual.ensures.0 (says_nothing g.T.Tag.mac c.args.deployment.now c.args.self.now c.args.said.now.items whole)

pub returns-clause-does : goal.returns-clause-does
returns-clause-does g c =
    let x : Callee = callee_of c.args.callee in
    shown_does g.T.Tag.mac c.args.deployment.now c.hand_each.result c.args.self.now c.hand_each.new.self c.args.said.now.items c.hand_each.new.said.items
    (λ set. hands set c.args.entry x) c.deref.result.now
    (c.deref.ensures.value ∙ c.in_ok-packets.ensures) c.hand_each.ensures.does
