use Rattle.std.proofs.Common.{length, refl, ◌∙◌}
use Rattle.sx_drive.specs.Honest.{setup}
use Rattle.sx_drive.proofs.Remains.{does_err}
use Rattle.sx_drive.proofs.Loops.{set_up_first, set_up_on, set_up_wanted, set_up_done, lower, upper}
use Rattle.sx_drive.proofs.honest.Honest.set_up_all.Goals as goal

pub returns-in_err-set_up_at-clause-does : goal.returns-in_err-set_up_at-clause-does
returns-in_err-set_up_at-clause-does g c =
    does_err g.T.Tag.mac c.args.deployment.now c.from_residual.result c.args.self.now c.set_up_at.new.self c.args.said.now.items c.set_up_at.new.said.items setup c.from_residual.ensures.0
    (set_up_wanted g.T.Tag.mac c.args.deployment.now (length c.args.deployment.now.app.parts.items) c.loop-m.m c.args.self.now c.loop-m.self c.set_up_at.new.self
    c.args.said.now.items c.loop-m.said.items c.set_up_at.new.said.items
    (lower c.loop-m.m c.modules-m-end.result (length c.args.deployment.now.app.parts.items) c.loop-m-test.true c.modules-m-end.ensures) c.loop-m.invariant.remains c.in_err-set_up_at.ensures.does)

pub loop-m-preserved : goal.loop-m-preserved
loop-m-preserved g c =
    record {
      remains =
          set_up_on g.T.Tag.mac c.args.deployment.now (length c.args.deployment.now.app.parts.items) c.loop-m.m c.args.self.now c.loop-m.self
          c.set_up_at.new.self c.args.said.now.items c.loop-m.said.items c.set_up_at.new.said.items
          (lower c.loop-m.m c.modules-m-end.result (length c.args.deployment.now.app.parts.items) c.loop-m-test.true c.modules-m-end.ensures) c.loop-m.invariant.remains c.in_ok-set_up_at.ensures.does;
      goes = c.in_ok-set_up_at.ensures.goes_on;
      ran_out = c.in_ok-set_up_at.ensures.ran_out ∙ c.loop-m.invariant.ran_out;
    }

pub returns-clause-does : goal.returns-clause-does
returns-clause-does g c =
    set_up_done g.T.Tag.mac c.args.deployment.now (length c.args.deployment.now.app.parts.items) c.loop-m.m c.args.self.now
    c.loop-m.self c.args.said.now.items c.loop-m.said.items (upper c.loop-m.m c.modules-m-end.result
    (length c.args.deployment.now.app.parts.items) c.loop-m-test.false c.modules-m-end.ensures) c.loop-m.invariant.remains

pub loop-m-init : goal.loop-m-init
loop-m-init g c = record { remains = set_up_first g.T.Tag.mac c.args.deployment.now c.args.self.now c.args.said.now.items; goes = c.requires.going; ran_out = refl }
