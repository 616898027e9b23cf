use Rattle.std.proofs.Common.{refl, ◌∙◌}
use Rattle.sx_drive.specs.Honest.{made_by}
use Rattle.sx_drive.proofs.Remains.{does_err}
use Rattle.sx_drive.proofs.Loops.{collects_at, takes_first, takes_on, takes_wanted, takes_done, lower, upper}
use Rattle.sx_drive.proofs.honest.Honest.collect.Goals as goal

pub returns-in_err-take_one-clause-does : goal.returns-in_err-take_one-clause-does
returns-in_err-take_one-clause-does g c =
    does_err g.T.Tag.mac c.args.deployment.now c.from_residual.result c.args.self.now c.take_one.new.self c.args.said.now.items c.take_one.new.said.items
    (collects_at c.args.node) c.from_residual.ensures.0
    (takes_wanted g.T.Tag.mac c.args.deployment.now c.args.node (made_by c.args.self.now.shown) c.loop-place.place c.args.self.now c.loop-place.self c.take_one.new.self
    c.args.said.now.items c.loop-place.said.items c.take_one.new.said.items
    (lower c.loop-place.place c.made-place-end.result (made_by c.args.self.now.shown) c.loop-place-test.true c.made-place-end.ensures.made)
    c.loop-place.invariant.remains c.in_err-take_one.ensures.does)

pub loop-place-preserved : goal.loop-place-preserved
loop-place-preserved g c =
    record {
      remains =
          takes_on g.T.Tag.mac c.args.deployment.now c.args.node (made_by c.args.self.now.shown) c.loop-place.place c.args.self.now c.loop-place.self
          c.take_one.new.self c.args.said.now.items c.loop-place.said.items c.take_one.new.said.items
          (lower c.loop-place.place c.made-place-end.result (made_by c.args.self.now.shown) c.loop-place-test.true c.made-place-end.ensures.made)
          c.loop-place.invariant.remains c.in_ok-take_one.ensures.does;
      goes = c.in_ok-take_one.ensures.goes_on;
      ran_out = c.in_ok-take_one.ensures.ran_out ∙ c.loop-place.invariant.ran_out;
    }

pub returns-clause-does : goal.returns-clause-does
returns-clause-does g c =
    takes_done g.T.Tag.mac c.args.deployment.now c.args.node (made_by c.args.self.now.shown) c.loop-place.place c.args.self.now c.loop-place.self c.args.said.now.items c.loop-place.said.items
    (upper c.loop-place.place c.made-place-end.result (made_by c.args.self.now.shown) c.loop-place-test.false c.made-place-end.ensures.made) c.loop-place.invariant.remains

pub loop-place-init : goal.loop-place-init
loop-place-init g c = record { remains = takes_first g.T.Tag.mac c.args.deployment.now c.args.node c.args.self.now c.args.said.now.items; goes = c.requires.going; ran_out = refl }
