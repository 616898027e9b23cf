use Rattle.std.proofs.Common.{◌≡◌, ◌+◌, ◌*◌, ◌≤◌, ◌∙◌, ℕ, List, length, take, ap, arith, subst, sym}
use Rattle.std.proofs.lemmas.List.{length-map}
use Rattle.std.proofs.Math.Seq.{take-length}
use Rattle.sx_deploy.specs.SeenDeployment.{deployed_as}
use Rattle.sx_sched.specs.Lines.{Line}
use Rattle.sx_sched.specs.Seen.{line_of}
use Rattle.spec_run.specs.Accepted.{setting}
use Rattle.spec_run.specs.Law.{IsSoundSetting}
use Rattle.spec_run.specs.Setting.{Site}
use Rattle.spec_run.specs.State.{World}
use Rattle.sx_world.specs.Whole.{next}
use Rattle.sx_world.specs.Standing.{Stands}
use Rattle.sx_snap.specs.Kept.{Kept}
use Rattle.sx_snap.specs.Checkpoints.{StandsAfter}
use Rattle.sx_snap.proofs.Stretches.{one_more}
use Rattle.sx_snap.proofs.timeline.Timeline.next_checkpoint.Goals as goal

pub act-requires-clause-sound : goal.act-requires-clause-sound
act-requires-clause-sound g c = c.requires.timeline.sound

pub act-requires-clause-images : goal.act-requires-clause-images
act-requires-clause-images g c =
    let P : List Site → Type 0 = λ sites. IsSoundSetting (setting g.T.Tag.mac (deployed_as c.args.plan.now) sites) in
    subst P (sym c.in_ok-world.ensures.sites) c.requires.timeline.images

pub returns : goal.returns
returns g c =
    let mac = g.T.Tag.mac in
    let d = deployed_as c.args.plan.now in
    let t = c.args.self.now in
    let set = setting mac d t.sites in
    let line = line_of c.args.line.now in
    let world = c.in_ok-world.world in
    let left = c.act.new.self in
    let times : length c.self.inside.checkpoints.items * c.self.inside.every ≡ length t.checkpoints * t.every =
    ap (λ (k : Kept). length k.checkpoints * k.every) c.self.view_is in
    let long : length c.self.inside.lines.items ≡ length t.lines =
    sym (length-map c.self.inside.lines.items line_of) ∙ ap (λ (k : Kept). length k.lines) c.self.view_is in
    let above : length t.checkpoints * t.every ≤ length t.lines + 1 = grind (arith, times, long, c.if-len-self.false) in
    let next_one = c.requires.timeline.next in
    let Q : List Line → Type 0 = λ ls. StandsAfter set ls world in
    let here : StandsAfter set t.lines world = subst Q (ap (λ (n : ℕ). take n t.lines) c.count-long.ensures ∙ take-length t.lines) c.in_ok-world.ensures in
    let P : List Site → Type 0 = λ sites. (w : World) → Stands (setting mac d sites) world w → Stands (setting mac d sites) left (next (setting mac d sites) w line).world in
    let acts = subst P here.sites (λ w stands. (c.in_ok-act.ensures.acted w stands).0) in
    (omega (arith, above, next_one), one_more set t.lines line world left here acts c.act.ensures.sites c.in_ok-act.ensures.counts c.in_ok-act.ensures.goes_on)
