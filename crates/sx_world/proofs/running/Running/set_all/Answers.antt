use Rattle.std.proofs.Common.{◌+◌, drop, arith, ◌∙◌}
use Rattle.spec_run.specs.Run.{Register, set_on, set_all}
use Rattle.sx_world.proofs.doing.Composed.{remains_on, remains_wanted, remains_none}
use Rattle.sx_world.proofs.granting.Given.{does_err}
use Rattle.sx_world.proofs.doing.Loaded.{next_register, no_register, settable}
use Rattle.sx_world.proofs.running.Running.set_all.Goals as goal

pub returns-in_err-set_on-clause-does : goal.returns-in_err-set_on-clause-does
returns-in_err-set_on-clause-does g c = λ set.
    let all = c.args.registers.now in
    let i = c.loop-register.register-index in
    let r : Register = record { number = c.register.inside.number; value = c.register.inside.value } in
    does_err set c.from_residual.result c.args.self.now c.set_on.new.self c.args.items.now.items c.set_on.new.items.items (set_all c.args.n all) c.from_residual.ensures.0
    (remains_wanted set (set_all c.args.n all) (set_all c.args.n (drop i all)) (set_on c.args.n r.number r.value) (set_all c.args.n (drop (i + 1) all))
    c.args.self.now c.loop-register.self c.args.items.now.items c.loop-register.items.items c.set_on.new.items.items (c.loop-register.invariant.remains set)
    (next_register c.args.n all i r c.register-item.result (omega (arith, c.loop-register-test.true, c.loop-register.auto.register-index-end)) (c.register.view_is ∙ c.register-item.is))
    (c.in_err-set_on.ensures.does set))

pub loop-register-preserved : goal.loop-register-preserved
loop-register-preserved g c =
    let all = c.args.registers.now in
    let i = c.loop-register.register-index in
    let r : Register = record { number = c.register.inside.number; value = c.register.inside.value } in
    record {
      remains = λ set.
          remains_on set (set_all c.args.n all) (set_all c.args.n (drop i all)) (set_on c.args.n r.number r.value) (set_all c.args.n (drop (i + 1) all))
          c.args.self.now c.loop-register.self c.set_on.new.self c.args.items.now.items c.loop-register.items.items c.set_on.new.items.items (c.loop-register.invariant.remains set)
          (next_register c.args.n all i r c.register-item.result (omega (arith, c.loop-register-test.true, c.loop-register.auto.register-index-end)) (c.register.view_is ∙ c.register-item.is))
          (c.in_ok-set_on.ensures.does set);
      settable =
          (settable all i r c.register-item.result (omega (arith, c.loop-register-test.true, c.loop-register.auto.register-index-end)) (c.register.view_is ∙ c.register-item.is)
          c.loop-register.invariant.settable).2;
      boots = c.in_ok-set_on.ensures.boots ∙ c.loop-register.invariant.boots;
      steps = c.in_ok-set_on.ensures.steps ∙ c.loop-register.invariant.steps;
    }

pub returns-clause-does : goal.returns-clause-does
returns-clause-does g c = λ set.
    let all = c.args.registers.now in
    let i = c.loop-register.register-index in
    remains_none set (set_all c.args.n all) (set_all c.args.n (drop i all)) c.args.self.now c.loop-register.self c.args.items.now.items c.loop-register.items.items
    (c.loop-register.invariant.remains set) (no_register c.args.n all i (omega (arith, c.loop-register-test.false, c.loop-register.auto.register-index-end)))
