use Rattle.std.proofs.Common.{rules, ◌≡◌, ◌∙◌, ◌+◌, ◌<◌, ℕ, List, drop, take, arith, ap, refl, subst, sym, Result, Err}
use Rattle.sx_deploy.specs.SeenDeployment.{deployed_as}
use Rattle.spec_run.specs.Accepted.{setting}
use Rattle.spec_run.specs.Law.{IsSoundSetting}
use Rattle.spec_run.specs.Setting.{Site}
use Rattle.sx_world.specs.Standing.{Stands}
use Rattle.sx_bulk.specs.Bulk as bulk
use Rattle.command_gen.specs.declared.counts.Counts.{Counts}
use Rattle.sx_trace.specs.declared.items.Item.{Item}
use Rattle.command_gen.specs.Counts.{counts}
use Rattle.command_gen.specs.Counting.{plus, ActsFrom, EndsAs, LineStopsAt}
use Rattle.command_gen.specs.declared.counting.Stopped.{Stopped}
use Rattle.command_gen.proofs.Tallies.{Tallied, front_is, tally_begins, tally_goes_on, tally_ends, tally_stops}
use Rattle.command_gen.proofs.counting.run_workload.Goals as goal

pub loop-i-init : goal.loop-i-init
loop-i-init g c =
    let d = deployed_as c.args.deployment.now in
    let set = setting g.T.Tag.mac d c.args.world.now.sites in
    let P : Counts → Type 0 = λ x. Tallied c.args.samples d.names set c.args.world.now 0 x in record {
      counted = c.requires.new;
      sites = refl;
      tallied = subst P (sym c.new-counts.ensures) (tally_begins c.args.samples d.names set c.args.world.now c.requires.stands);
    }

pub turn-requires-clause-images : goal.turn-requires-clause-images
turn-requires-clause-images g c =
    let P : List Site → Type 0 = λ sites. IsSoundSetting (setting g.T.Tag.mac (deployed_as c.args.deployment.now) sites) in
    subst P (sym c.loop-i.invariant.sites) c.requires.images

pub turn-requires-clause-going : goal.turn-requires-clause-going
turn-requires-clause-going g c = λ goes.
    let s = c.loop-i.invariant.tallied in
    let P : List Site → Type 0 = λ sites. Stands (setting g.T.Tag.mac (deployed_as c.args.deployment.now) sites) c.loop-i.world s.world in
    (s.world, subst P (sym c.loop-i.invariant.sites) s.stands)

pub loop-i-preserved : goal.loop-i-preserved
loop-i-preserved g c =
    let d = deployed_as c.args.deployment.now in
    let set = setting g.T.Tag.mac d c.args.world.now.sites in
    let n = c.args.samples in
    let i = c.loop-i.i in
    let s = c.loop-i.invariant.tallied in
    let text = take c.line-written.result c.line-written.new.into in
    let items = c.turn.new.items.items in
    let h : i < bulk.lines n = omega (arith, c.lines-count.ensures) in
    let said : text ≡ bulk.line i = front_is c.line-written.result c.line-written.new.into (bulk.line i)
    (drop c.line-written.result c.loop-i.into) c.line-written.ensures.bytes c.line-written.ensures.count in
    let P : List Site → Type 0 = λ sites. ActsFrom d.names (setting g.T.Tag.mac d sites) c.loop-i.world c.turn.new.world (i + 1) text items in
    let Q : List ℕ → Type 0 = λ t. ActsFrom d.names set c.loop-i.world c.turn.new.world (i + 1) t items in
    let acts = subst Q said (subst P c.loop-i.invariant.sites c.in_ok-turn.ensures.acts) in
    let e : c.add.new.self ≡ plus c.loop-i.counts (counts items) = c.add.ensures ∙ ap (λ (its : List Item). plus c.loop-i.counts (counts its)) c.deref.ensures.value in
    let R : Counts → Type 0 = λ x. Tallied n d.names set c.turn.new.world (i + 1) x in record {
      counted = c.in_ok-turn.ensures.counts;
      sites = c.turn.ensures.sites ∙ c.loop-i.invariant.sites;
      tallied = subst R (sym e) (tally_goes_on n d.names set c.loop-i.world c.turn.new.world i c.loop-i.counts items s h (acts s.world s.stands) (omega (arith, c.turn.new.items.ok)));
    }

pub returns : goal.returns
returns g c =
    let d = deployed_as c.args.deployment.now in
    let set = setting g.T.Tag.mac d c.args.world.now.sites in
    tally_ends c.args.samples d.names set c.loop-i.world c.loop-i.i c.loop-i.counts c.loop-i.invariant.tallied (omega (arith, c.lines-count.ensures))

pub returns-in_err-turn : goal.returns-in_err-turn
returns-in_err-turn g c =
    let d = deployed_as c.args.deployment.now in
    let set = setting g.T.Tag.mac d c.args.world.now.sites in
    let i = c.loop-i.i in
    let text = take c.line-written.result c.line-written.new.into in
    let h : i < bulk.lines c.args.samples = omega (arith, c.lines-count.ensures) in
    let said : text ≡ bulk.line i = front_is c.line-written.result c.line-written.new.into (bulk.line i)
    (drop c.line-written.result c.loop-i.into) c.line-written.ensures.bytes c.line-written.ensures.count in
    let stopped = c.in_err-turn.field-0.0 in
    let Q : List ℕ → Type 0 = λ t. LineStopsAt d.names (i + 1) t stopped in
    let R : Result Counts Stopped → Type 0 = λ r. EndsAs c.args.samples d.names set c.turn.new.world.running.steps r in
    let same : Err stopped ≡ c.from_residual.result = search rules in
    subst R same
    (tally_stops c.args.samples d.names set c.loop-i.world i c.loop-i.counts c.turn.new.world.running.steps stopped c.loop-i.invariant.tallied h (subst Q said c.in_err-turn.ensures.stops))
