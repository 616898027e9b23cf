use Rattle.std.proofs.Common.{◌∙◌, ◌++◌, ◌∷◌, [], List, map, ap, subst, sym}
use Rattle.sx_sched.specs.Lines.{Line}
use Rattle.sx_sched.specs.Seen.{line_of}
use Rattle.sx_sched.specs.declared.lines.Line.{Line as Read}
use Rattle.sx_snap.specs.Kept.{first_sites}
use Rattle.sx_snap.specs.Checkpoints.{IsTimeline}
use Rattle.sx_deploy.specs.SeenDeployment.{deployed_as}
use Rattle.sx_image.specs.InMemory.{texts_of}
use Rattle.spec_run.proofs.accepted.Settled.{settled}
use Rattle.sx_world.specs.Held.{Held}
use Rattle.sx_snap.proofs.Longer.{first_timeline}
use Rattle.sx_snap.proofs.timeline.Timeline.new.Goals as goal

pub returns-clause-timeline : goal.returns-clause-timeline
returns-clause-timeline g c =
    let d = deployed_as c.args.plan.now in
    let texts = texts_of c.args.images.now in
    let R : List Line → Type 0 = λ ls. IsTimeline g.T.Tag.mac d (record {
      sites = first_sites c.push.new.self.items;
      lines = ls;
      every = c.args.every;
      checkpoints = c.push.new.self.items;
    }) in
    subst R (sym (ap (λ (ls : List Read). map line_of ls) c.new-2.ensures.items))
    (first_timeline g.T.Tag.mac d texts c.in_ok-world.world c.push.new.self.items c.args.every c.requires.sound
    (settled g.T.Tag.mac d texts c.requires.sound c.requires.images g.met.T.Tag.is_tag) c.requires.some
    (c.in_ok-push.ensures.items ∙ ap (λ (xs : List Held). xs ++ c.in_ok-world.world ∷ []) c.new-checkpoints.ensures.items) c.in_ok-world.ensures.sites
    c.in_ok-world.ensures.memory c.in_ok-world.ensures.performed c.in_ok-world.ensures.stands)
