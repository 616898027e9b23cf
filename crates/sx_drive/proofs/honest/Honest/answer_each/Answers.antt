use Rattle.std.proofs.Common.{refl, arith, ◌∙◌}
use Rattle.sx_drive.specs.Honest.{Callee, answers}
use Rattle.sx_drive.specs.Driving.{callee_of}
use Rattle.sx_drive.proofs.Remains.{remains_start, does_err}
use Rattle.sx_drive.proofs.Loops.{each_all, each_on, each_wanted, each_done}
use Rattle.sx_drive.proofs.honest.Honest.answer_each.Goals as goal

pub returns-in_err-say-clause-does : goal.returns-in_err-say-clause-does
returns-in_err-say-clause-does g c =
    let x : Callee = callee_of c.args.callee in
    does_err g.T.Tag.mac c.args.deployment.now c.from_residual.result c.args.self.now c.say.new.self c.args.said.now.items c.say.new.said.items
    (each_all (λ set. answers set x) c.args.packets.now) c.from_residual.ensures.0
    (each_wanted g.T.Tag.mac c.args.deployment.now (λ set. answers set x) c.args.packets.now c.loop-packet.packet-index 0 c.args.self.now c.loop-packet.self c.say.new.self
    c.args.said.now.items c.loop-packet.said.items c.say.new.said.items
    (omega (arith, c.loop-packet-test.true, c.loop-packet.auto.packet-index-end)) c.loop-packet.invariant.remains c.in_err-say.ensures.does)

pub loop-packet-preserved : goal.loop-packet-preserved
loop-packet-preserved g c =
    let x : Callee = callee_of c.args.callee in
    record {
      remains =
          each_on g.T.Tag.mac c.args.deployment.now (λ set. answers set x) c.args.packets.now c.loop-packet.packet-index 0 c.args.self.now c.loop-packet.self
          c.say.new.self c.args.said.now.items c.loop-packet.said.items c.say.new.said.items
          (omega (arith, c.loop-packet-test.true, c.loop-packet.auto.packet-index-end)) c.loop-packet.invariant.remains c.in_ok-say.ensures.does;
      goes = c.in_ok-say.ensures.goes_on;
      ran_out = c.in_ok-say.ensures.ran_out ∙ c.loop-packet.invariant.ran_out;
    }

pub returns-clause-does : goal.returns-clause-does
returns-clause-does g c =
    let x : Callee = callee_of c.args.callee in
    each_done g.T.Tag.mac c.args.deployment.now (λ set. answers set x) c.args.packets.now c.loop-packet.packet-index c.args.self.now c.loop-packet.self c.args.said.now.items c.loop-packet.said.items
    (omega (arith, c.loop-packet-test.false, c.loop-packet.auto.packet-index-end)) c.loop-packet.invariant.remains

pub loop-packet-init : goal.loop-packet-init
loop-packet-init g c =
    let x : Callee = callee_of c.args.callee in
    record {
      remains = remains_start g.T.Tag.mac c.args.deployment.now (each_all (λ set. answers set x) c.args.packets.now) c.args.self.now c.args.said.now.items;
      goes = c.requires.going;
      ran_out = refl;
    }
