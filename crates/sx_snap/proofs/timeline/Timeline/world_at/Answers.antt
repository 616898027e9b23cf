use Rattle.std.proofs.Common.{◌∙◌, ◌/◌, ◌*◌, List, map, ap, sym, subst}
use Rattle.sx_deploy.specs.SeenDeployment.{deployed_as}
use Rattle.sx_sched.specs.Seen.{line_of}
use Rattle.sx_sched.specs.declared.lines.Line.{Line as Read}
use Rattle.spec_run.specs.Accepted.{setting}
use Rattle.spec_run.specs.Law.{IsSoundSetting}
use Rattle.spec_run.specs.Setting.{Site}
use Rattle.sx_snap.specs.Kept.{Kept}
use Rattle.sx_snap.proofs.Stretches.{from_checkpoint, same_run}
use Rattle.sx_snap.proofs.timeline.Timeline.world_at.Goals as goal

pub replay-requires-clause-sound : goal.replay-requires-clause-sound
replay-requires-clause-sound g c = c.requires.timeline.sound

pub replay-requires-clause-images : goal.replay-requires-clause-images
replay-requires-clause-images g c =
    let d = deployed_as c.args.plan.now in
    let t = c.args.self.now in
    let here = from_checkpoint g.T.Tag.mac d t c.self.inside.checkpoints.items c.self.inside.every c.args.at c.index-checkpoint.result.now c.in_ok-world.world
    (ap (λ (k : Kept). k.checkpoints) c.self.view_is) (ap (λ (k : Kept). k.every) c.self.view_is) c.requires.timeline c.requires.within c.index-checkpoint.ensures c.in_ok-world.ensures in
    let P : List Site → Type 0 = λ sites. IsSoundSetting (setting g.T.Tag.mac d sites) in
    subst P (sym here.sites) c.requires.timeline.images

pub replay-requires-clause-stands : goal.replay-requires-clause-stands
replay-requires-clause-stands g c =
    let d = deployed_as c.args.plan.now in
    let t = c.args.self.now in
    let here = from_checkpoint g.T.Tag.mac d t c.self.inside.checkpoints.items c.self.inside.every c.args.at c.index-checkpoint.result.now c.in_ok-world.world
    (ap (λ (k : Kept). k.checkpoints) c.self.view_is) (ap (λ (k : Kept). k.every) c.self.view_is) c.requires.timeline c.requires.within c.index-checkpoint.ensures c.in_ok-world.ensures in
    same_run g.T.Tag.mac d t.sites c.in_ok-world.world.sites t.lines (map line_of c.deref.result.now) (c.args.at / c.self.inside.every * c.self.inside.every) c.in_ok-world.world here
    (sym here.sites) (sym (ap (λ (ls : List Read). map line_of ls) c.deref.ensures.value ∙ ap (λ (k : Kept). k.lines) c.self.view_is))

pub returns : goal.returns
returns g c =
    let d = deployed_as c.args.plan.now in
    let t = c.args.self.now in
    let here = from_checkpoint g.T.Tag.mac d t c.self.inside.checkpoints.items c.self.inside.every c.args.at c.index-checkpoint.result.now c.in_ok-world.world
    (ap (λ (k : Kept). k.checkpoints) c.self.view_is) (ap (λ (k : Kept). k.every) c.self.view_is) c.requires.timeline c.requires.within c.index-checkpoint.ensures c.in_ok-world.ensures in
    same_run g.T.Tag.mac d c.in_ok-world.world.sites t.sites (map line_of c.deref.result.now) t.lines c.args.at c.replay.new.world c.in_ok-replay.ensures
    here.sites (ap (λ (ls : List Read). map line_of ls) c.deref.ensures.value ∙ ap (λ (k : Kept). k.lines) c.self.view_is)
