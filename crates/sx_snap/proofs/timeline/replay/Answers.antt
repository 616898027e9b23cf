use Rattle.std.proofs.Common.{List, length, map, take, sym, subst, arith}
use Rattle.std.proofs.lemmas.List.{length-map}
use Rattle.sx_deploy.specs.SeenDeployment.{deployed_as}
use Rattle.sx_sched.specs.Lines.{Line}
use Rattle.sx_sched.specs.Seen.{line_of}
use Rattle.spec_run.specs.Accepted.{setting}
use Rattle.spec_run.specs.Law.{IsSoundSetting}
use Rattle.spec_run.specs.Setting.{Site}
use Rattle.spec_run.specs.State.{World}
use Rattle.sx_world.specs.Whole.{next}
use Rattle.sx_world.specs.Standing.{Stands}
use Rattle.sx_snap.specs.Timeline.{world_at}
use Rattle.sx_snap.specs.Checkpoints.{StandsAfter}
use Rattle.sx_snap.proofs.Stretches.{line_read, line_there, one_more, take_next, taken_long}
use Rattle.sx_snap.proofs.timeline.replay.Goals as goal

pub act-requires-clause-images : goal.act-requires-clause-images
act-requires-clause-images g c =
    let P : List Site → Type 0 = λ sites. IsSoundSetting (setting g.T.Tag.mac (deployed_as c.args.plan.now) sites) in
    subst P (sym c.loop-i.invariant.sites) c.requires.images

pub act-requires-clause-going : goal.act-requires-clause-going
act-requires-clause-going g c = λ goes.
    let d = deployed_as c.args.plan.now in
    let w = world_at (setting g.T.Tag.mac d c.args.world.now.sites) (map line_of c.args.lines.now) c.loop-i.i in
    let P : List Site → Type 0 = λ sites. Stands (setting g.T.Tag.mac d sites) c.loop-i.world w in
    (w, subst P (sym c.loop-i.invariant.sites) c.loop-i.invariant.stands)

pub act-requires-clause-few : goal.act-requires-clause-few
act-requires-clause-few g c =
    let all = length-map c.args.lines.now line_of in
    let long = taken_long (map line_of c.args.lines.now) c.loop-i.i (omega arith) in
    omega (arith, c.loop-i.invariant.count, long)

pub act-requires-clause-form : goal.act-requires-clause-form
act-requires-clause-form g c =
    line_read (deployed_as c.args.plan.now).names c.args.lines.now c.loop-i.i c.index-lines-i.result c.requires.form (omega arith) c.index-lines-i.is

pub loop-i-preserved : goal.loop-i-preserved
loop-i-preserved g c =
    let d = deployed_as c.args.plan.now in
    let set = setting g.T.Tag.mac d c.args.world.now.sites in
    let lines = map line_of c.args.lines.now in
    let i = c.loop-i.i in
    let line = c.index-lines-i.result in
    let s = c.loop-i.invariant in
    let left = c.act.new.self in
    let P : List Site → Type 0 = λ sites. (w : World) → Stands (setting g.T.Tag.mac d sites) c.loop-i.world w
    → Stands (setting g.T.Tag.mac d sites) left (next (setting g.T.Tag.mac d sites) w (line_of line)).world in
    let acts = subst P s.sites (λ w here. (c.in_ok-act.ensures.acted w here).0) in
    let Q : List Line → Type 0 = λ before. StandsAfter set before left in
    subst Q (sym (take_next lines i (line_of line) (line_there c.args.lines.now i line (omega arith) c.index-lines-i.is)))
    (one_more set (take i lines) (line_of line) c.loop-i.world left s acts c.act.ensures.sites c.in_ok-act.ensures.counts c.in_ok-act.ensures.goes_on)
