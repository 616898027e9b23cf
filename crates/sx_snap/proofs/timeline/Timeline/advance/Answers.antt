use Rattle.std.proofs.Common.{◌∙◌, List, map, ap, sym, subst}
use Rattle.sx_deploy.specs.SeenDeployment.{deployed_as}
use Rattle.sx_sched.specs.Seen.{line_of}
use Rattle.sx_sched.specs.declared.lines.Line.{Line as Read}
use Rattle.spec_run.specs.Accepted.{setting}
use Rattle.spec_run.specs.Law.{IsSoundSetting}
use Rattle.spec_run.specs.Setting.{Site}
use Rattle.sx_snap.specs.Kept.{Kept}
use Rattle.sx_snap.proofs.Stretches.{same_run}
use Rattle.sx_snap.proofs.timeline.Timeline.advance.Goals as goal

pub replay-requires-clause-sound : goal.replay-requires-clause-sound
replay-requires-clause-sound g c = c.requires.timeline.sound

pub replay-requires-clause-images : goal.replay-requires-clause-images
replay-requires-clause-images g c =
    let P : List Site → Type 0 = λ sites. IsSoundSetting (setting g.T.Tag.mac (deployed_as c.args.plan.now) sites) in
    subst P (sym c.requires.stands.sites) c.requires.timeline.images

pub replay-requires-clause-stands : goal.replay-requires-clause-stands
replay-requires-clause-stands g c =
    let t = c.args.self.now in
    same_run g.T.Tag.mac (deployed_as c.args.plan.now) t.sites c.args.world.now.sites t.lines (map line_of c.deref.result.now) c.args.from c.args.world.now c.requires.stands
    (sym c.requires.stands.sites) (sym (ap (λ (ls : List Read). map line_of ls) c.deref.ensures.value ∙ ap (λ (k : Kept). k.lines) c.self.view_is))
