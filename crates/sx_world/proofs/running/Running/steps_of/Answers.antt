use Rattle.std.proofs.Common.{◌+◌, ◌-◌, ◌==◌, ◌&&◌, refl, arith}
use Rattle.std.specs.Option.{option_to_list}
use Rattle.sx_deploy.specs.SeenDeployment.{deployed_as}
use Rattle.sx_observe.specs.InMemory.{setting_in}
use Rattle.sx_world.specs.Passing.{after_steps, stepped}
use Rattle.spec_run.specs.Run.{steps_of}
use Rattle.sx_world.proofs.doing.Composed.{does_both}
use Rattle.sx_world.proofs.granting.Given.{does_err}
use Rattle.sx_world.proofs.passing.Going.{going_front, going_end, going_none, going_done, went_on}
use Rattle.sx_world.proofs.passing.Passed.{passage, passed_going, passed_front, passed_on, passed_over, passed_small, passed_within, passed_steps, shown_within, all_passed, stepped_there, one_less}
use Rattle.sx_world.proofs.running.Running.steps_of.Goals as goal

pub show-requires : goal.show-requires
show-requires g c =
    let p = passage g.T.Tag.mac c.args.idle c.args.n c.pass-quiet.result.count c.stretches.left c.stretches.self c.pass-quiet.new.self c.pass-quiet.result.last c.in-Some.seen
    c.stretches.invariant.within c.pass-quiet.ensures.quiet c.pass-quiet.ensures.last c.pass-quiet.ensures.left c.in-Some.is in
    passed_within g.T.Tag.mac c.args.idle c.args.n c.pass-quiet.result.count c.stretches.left c.stretches.self c.pass-quiet.new.self c.in-Some.seen p c.stretches.invariant.within

pub returns-in_err-show : goal.returns-in_err-show
returns-in_err-show g c =
    let set = setting_in g.T.Tag.mac c.args.setting.now in
    let p = passage g.T.Tag.mac c.args.idle c.args.n c.pass-quiet.result.count c.stretches.left c.stretches.self c.pass-quiet.new.self c.pass-quiet.result.last c.in-Some.seen
    c.stretches.invariant.within c.pass-quiet.ensures.quiet c.pass-quiet.ensures.last c.pass-quiet.ensures.left c.in-Some.is in
    let going = passed_going g.T.Tag.mac (deployed_as c.args.setting.now.deployment.now) c.args.setting.now.sites.now c.args.idle
    (option_to_list c.args.end) c.args.n c.args.count c.stretches.left c.pass-quiet.result.count
    c.args.self.now c.stretches.self c.pass-quiet.new.self
    c.args.items.now.items c.stretches.items.items c.in-Some.seen p c.stretches.invariant.going in
    does_err set c.from_residual.result c.args.self.now c.show.new.self c.args.items.now.items c.show.new.items.items
    (steps_of set (λ s. c.args.idle && (s.cur == 0)) (option_to_list c.args.end) c.args.n c.args.count) c.from_residual.ensures.0
    (going_front set (λ s. c.args.idle && (s.cur == 0)) (option_to_list c.args.end) c.args.n c.args.count
    (c.stretches.left - c.pass-quiet.result.count) (c.stretches.left - (c.pass-quiet.result.count + 1)) c.args.self.now
    (stepped g.T.Tag.mac c.args.n c.pass-quiet.result.count p.node c.stretches.self)
    c.args.items.now.items c.stretches.items.items c.show.new.items.items
    (after_steps g.T.Tag.mac c.pass-quiet.result.count p.node) going (one_less c.stretches.left c.pass-quiet.result.count p.few)
    (stepped_there g.T.Tag.mac c.args.n c.pass-quiet.result.count p.node c.stretches.self p.here)
    (passed_front g.T.Tag.mac (deployed_as c.args.setting.now.deployment.now) c.args.setting.now.sites.now c.stretches.self
    c.pass-quiet.new.self c.stretches.items.items c.show.new.items.items c.args.idle c.args.n
    c.pass-quiet.result.count c.stretches.left c.in-Some.seen p
    c.in_err-show.ensures.front))

pub ends-requires : goal.ends-requires
ends-requires g c =
    let p = passage g.T.Tag.mac c.args.idle c.args.n c.pass-quiet.result.count c.stretches.left c.stretches.self c.pass-quiet.new.self c.pass-quiet.result.last c.in-Some.seen
    c.stretches.invariant.within c.pass-quiet.ensures.quiet c.pass-quiet.ensures.last c.pass-quiet.ensures.left c.in-Some.is in
    let within = shown_within c.args.n c.pass-quiet.new.self c.show.new.self c.in_ok-show.ensures.kept
    (passed_within g.T.Tag.mac c.args.idle c.args.n c.pass-quiet.result.count c.stretches.left c.stretches.self c.pass-quiet.new.self c.in-Some.seen p c.stretches.invariant.within) in
    within

pub returns-then-ends : goal.returns-then-ends
returns-then-ends g c =
    let p = passage g.T.Tag.mac c.args.idle c.args.n c.pass-quiet.result.count c.stretches.left c.stretches.self c.pass-quiet.new.self c.pass-quiet.result.last c.in-Some.seen
    c.stretches.invariant.within c.pass-quiet.ensures.quiet c.pass-quiet.ensures.last c.pass-quiet.ensures.left c.in-Some.is in
    passed_over g.T.Tag.mac (deployed_as c.args.setting.now.deployment.now) c.args.setting.now.sites.now c.args.idle (option_to_list c.args.end) c.args.n c.args.count c.stretches.left
    c.pass-quiet.result.count c.args.self.now c.stretches.self c.pass-quiet.new.self c.show.new.self c.args.items.now.items c.stretches.items.items c.show.new.items.items c.in-Some.seen
    c.ends.result p c.in_ok-show.ensures.kept c.in_ok-show.ensures.done c.in_ok-show.ensures.recognized c.ends.ensures c.stretches.invariant.going c.if-ends.true

pub overflow_add-left : goal.overflow_add-left
overflow_add-left g c =
    let p = passage g.T.Tag.mac c.args.idle c.args.n c.pass-quiet.result.count c.stretches.left c.stretches.self c.pass-quiet.new.self c.pass-quiet.result.last c.in-Some.seen
    c.stretches.invariant.within c.pass-quiet.ensures.quiet c.pass-quiet.ensures.last c.pass-quiet.ensures.left c.in-Some.is in
    let few = p.few in
    let fits = c.stretches.auto.left-fits in
    omega arith

pub overflow_sub-left : goal.overflow_sub-left
overflow_sub-left g c =
    let p = passage g.T.Tag.mac c.args.idle c.args.n c.pass-quiet.result.count c.stretches.left c.stretches.self c.pass-quiet.new.self c.pass-quiet.result.last c.in-Some.seen
    c.stretches.invariant.within c.pass-quiet.ensures.quiet c.pass-quiet.ensures.last c.pass-quiet.ensures.left c.in-Some.is in
    let few = p.few in
    omega arith

pub stretches-smaller : goal.stretches-smaller
stretches-smaller g c =
    let p = passage g.T.Tag.mac c.args.idle c.args.n c.pass-quiet.result.count c.stretches.left c.stretches.self c.pass-quiet.new.self c.pass-quiet.result.last c.in-Some.seen
    c.stretches.invariant.within c.pass-quiet.ensures.quiet c.pass-quiet.ensures.last c.pass-quiet.ensures.left c.in-Some.is in
    let few = p.few in
    omega arith

pub stretches-preserved : goal.stretches-preserved
stretches-preserved g c =
    let p = passage g.T.Tag.mac c.args.idle c.args.n c.pass-quiet.result.count c.stretches.left c.stretches.self c.pass-quiet.new.self c.pass-quiet.result.last c.in-Some.seen
    c.stretches.invariant.within c.pass-quiet.ensures.quiet c.pass-quiet.ensures.last c.pass-quiet.ensures.left c.in-Some.is in
    record {
      going = passed_on g.T.Tag.mac (deployed_as c.args.setting.now.deployment.now) c.args.setting.now.sites.now c.args.idle (option_to_list c.args.end) c.args.n c.args.count c.stretches.left
          c.pass-quiet.result.count c.args.self.now c.stretches.self c.pass-quiet.new.self c.show.new.self c.args.items.now.items c.stretches.items.items c.show.new.items.items c.in-Some.seen
          c.ends.result p c.in_ok-show.ensures.kept c.in_ok-show.ensures.done c.in_ok-show.ensures.recognized c.ends.ensures c.stretches.invariant.going c.if-ends.false;
      within = shown_within c.args.n c.pass-quiet.new.self c.show.new.self c.in_ok-show.ensures.kept
          (passed_within g.T.Tag.mac c.args.idle c.args.n c.pass-quiet.result.count c.stretches.left c.stretches.self c.pass-quiet.new.self c.in-Some.seen p c.stretches.invariant.within);
      boot = passed_small g.T.Tag.mac c.args.idle c.args.n c.pass-quiet.result.count c.stretches.left
          c.stretches.self c.pass-quiet.new.self c.show.new.self c.in-Some.seen c.ends.result p c.in_ok-show.ensures.kept c.ends.ensures
          c.if-ends.false (c.stretches.invariant.boot p.node p.here);
      steps = passed_steps 18446744073709551615 g.T.Tag.mac c.args.idle c.args.n c.pass-quiet.result.count
          c.stretches.left c.stretches.self c.pass-quiet.new.self c.show.new.self c.in-Some.seen p
          c.in_ok-show.ensures.kept c.stretches.invariant.steps;
    }

pub returns-in-Some-end : goal.returns-in-Some-end
returns-in-Some-end g c =
    let set = setting_in g.T.Tag.mac c.args.setting.now in
    let going = all_passed g.T.Tag.mac (deployed_as c.args.setting.now.deployment.now) c.args.setting.now.sites.now c.args.idle
    (option_to_list c.args.end) c.args.n c.args.count c.stretches.left c.pass-quiet.result.count
    c.args.self.now c.stretches.self c.pass-quiet.new.self
    c.args.items.now.items c.stretches.items.items c.pass-quiet.result.last c.stretches.invariant.going
    c.stretches.invariant.within c.pass-quiet.ensures.quiet c.pass-quiet.ensures.last c.pass-quiet.ensures.left c.in_default.not-Some in
    does_both set c.push_item.result c.args.self.now c.pass-quiet.new.self c.args.items.now.items c.push_item.new.items.items
    (steps_of set (λ s. c.args.idle && (s.cur == 0)) (option_to_list c.args.end) c.args.n c.args.count)
    (going_end set (λ s. c.args.idle && (s.cur == 0)) (option_to_list c.args.end) c.args.n c.args.count 0
    c.args.self.now c.pass-quiet.new.self c.args.items.now.items c.stretches.items.items c.push_item.new.items.items
    c.push_item.result going refl (went_on c.push_item.result c.stretches.items.items c.push_item.new.items.items c.args.end c.in-Some-end.item c.in-Some-end.is c.push_item.ensures.ok))
    (going_none set (λ s. c.args.idle && (s.cur == 0)) (option_to_list c.args.end) c.args.n c.args.count 0
    c.args.self.now c.pass-quiet.new.self c.args.items.now.items c.stretches.items.items c.push_item.new.items.items
    c.push_item.result going c.push_item.ensures.err)

pub returns-in-None : goal.returns-in-None
returns-in-None g c =
    let set = setting_in g.T.Tag.mac c.args.setting.now in
    let going = all_passed g.T.Tag.mac (deployed_as c.args.setting.now.deployment.now) c.args.setting.now.sites.now c.args.idle
    (option_to_list c.args.end) c.args.n c.args.count c.stretches.left c.pass-quiet.result.count
    c.args.self.now c.stretches.self c.pass-quiet.new.self
    c.args.items.now.items c.stretches.items.items c.pass-quiet.result.last c.stretches.invariant.going
    c.stretches.invariant.within c.pass-quiet.ensures.quiet c.pass-quiet.ensures.last c.pass-quiet.ensures.left c.in_default.not-Some in
    going_done set (λ s. c.args.idle && (s.cur == 0)) c.args.end c.args.n c.args.count 0 c.args.self.now c.pass-quiet.new.self c.args.items.now.items c.stretches.items.items
    going refl c.in-None.is
