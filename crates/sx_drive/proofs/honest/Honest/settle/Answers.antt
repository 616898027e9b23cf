use Rattle.std.proofs.Common.{refl, ap, ◌∙◌}
use Rattle.sx_drive.specs.Driving.{Kept}
use Rattle.std.specs.Prelude.{drop}
use Rattle.sx_drive.proofs.Remains.{does_err}
use Rattle.sx_drive.proofs.Loops.{settle_all, settle_first, settle_on, settle_wanted, settle_none, settle_done, goes_popped, below_most, above_most}
use Rattle.sx_drive.proofs.honest.Honest.settle.Goals as goal

pub deliver-requires : goal.deliver-requires
deliver-requires g c = record {
  going =
      goes_popped g.T.Tag.mac c.args.deployment.now c.loop-turn.self c.next_waiting.new.self (drop 1 c.loop-turn.self.waiting) c.in-Some.ensures.rest c.loop-turn.invariant.goes;
}

pub returns-in_err-deliver-in-Some-clause-does : goal.returns-in_err-deliver-in-Some-clause-does
returns-in_err-deliver-in-Some-clause-does g c =
    does_err g.T.Tag.mac c.args.deployment.now c.from_residual.result c.args.self.now c.deliver.new.self c.args.said.now.items c.deliver.new.said.items settle_all c.from_residual.ensures.0
    (settle_wanted g.T.Tag.mac c.args.deployment.now c.loop-turn._turn c.in-Some.packet c.args.self.now c.loop-turn.self c.next_waiting.new.self c.deliver.new.self
    c.args.said.now.items c.loop-turn.said.items c.deliver.new.said.items
    (below_most c.loop-turn._turn c.loop-turn-test.true) c.in-Some.ensures.packets c.in-Some.ensures.rest c.loop-turn.invariant.remains c.in_err-deliver-in-Some.ensures.does)

pub loop-turn-preserved : goal.loop-turn-preserved
loop-turn-preserved g c =
    record {
      remains =
          settle_on g.T.Tag.mac c.args.deployment.now c.loop-turn._turn c.in-Some.packet c.args.self.now c.loop-turn.self c.next_waiting.new.self
          c.deliver.new.self c.args.said.now.items c.loop-turn.said.items c.deliver.new.said.items
          (below_most c.loop-turn._turn c.loop-turn-test.true) c.in-Some.ensures.packets c.in-Some.ensures.rest c.loop-turn.invariant.remains c.in_ok-deliver-in-Some.ensures.does;
      goes = c.in_ok-deliver-in-Some.ensures.goes_on;
      ran_out = c.in_ok-deliver-in-Some.ensures.ran_out ∙ ap (λ (k : Kept). k.ran_out) c.in-Some.ensures.rest ∙ c.loop-turn.invariant.ran_out;
    }

pub returns-in-None-clause-does : goal.returns-in-None-clause-does
returns-in-None-clause-does g c =
    settle_none g.T.Tag.mac c.args.deployment.now c.loop-turn._turn c.args.self.now c.loop-turn.self c.next_waiting.new.self c.args.said.now.items
    c.loop-turn.said.items c.in-None.ensures.packets c.in-None.ensures.rest c.loop-turn.invariant.remains

pub returns-in-None-clause-goes_on : goal.returns-in-None-clause-goes_on
returns-in-None-clause-goes_on g c =
    goes_popped g.T.Tag.mac c.args.deployment.now c.loop-turn.self c.next_waiting.new.self (drop 1 c.loop-turn.self.waiting) c.in-None.ensures.rest c.loop-turn.invariant.goes

pub returns-in-None-clause-ran_out : goal.returns-in-None-clause-ran_out
returns-in-None-clause-ran_out g c = ap (λ (k : Kept). k.ran_out) c.in-None.ensures.rest ∙ c.loop-turn.invariant.ran_out

pub returns-clause-does : goal.returns-clause-does
returns-clause-does g c =
    settle_done g.T.Tag.mac c.args.deployment.now c.loop-turn._turn c.args.self.now c.loop-turn.self c.args.said.now.items c.loop-turn.said.items
    (above_most c.loop-turn._turn c.loop-turn-test.false) c.loop-turn.invariant.remains

pub loop-turn-init : goal.loop-turn-init
loop-turn-init g c = record { remains = settle_first g.T.Tag.mac c.args.deployment.now c.args.self.now c.args.said.now.items; goes = c.requires.going; ran_out = refl }
