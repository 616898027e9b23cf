use Rattle.std.proofs.Common.{◌∙◌, ◌++◌, ◌∷◌, [], List, map, ap, subst, sym, Option, Some}
use Rattle.std.proofs.lemmas.List.{map-append}
use Rattle.sx_deploy.specs.SeenDeployment.{deployed_as}
use Rattle.sx_sched.specs.Lines.{Line}
use Rattle.sx_sched.specs.Seen.{line_of}
use Rattle.sx_sched.specs.declared.lines.Line.{Line as Read}
use Rattle.sx_world.specs.Held.{Held}
use Rattle.sx_snap.specs.Kept.{Kept, first_sites}
use Rattle.sx_snap.specs.Checkpoints.{IsTimeline, NextCheckpoint}
use Rattle.sx_snap.proofs.Longer.{either_way, pushed, pushed_both}
use Rattle.sx_snap.proofs.timeline.Timeline.push.Goals as goal

pub returns-in-Some-clause-timeline : goal.returns-in-Some-clause-timeline
returns-in-Some-clause-timeline g c =
    let mac = g.T.Tag.mac in
    let d = deployed_as c.args.plan.now in
    let t = c.args.self.now in
    let line = line_of c.args.line in
    let P : Option Held → Type 0 = λ o. NextCheckpoint mac d t line o in
    let next = subst P c.in-Some.is c.in_ok-world.ensures in
    either_way mac d c.push_both.result t c.push_both.new.self _ c.push_both.ensures.ok c.push_both.ensures.err c.requires.timeline
    (pushed_both mac d t line c.in-Some.world c.requires.timeline c.requires.form c.requires.few next.0 next.1)

pub returns-in_ok-push-in-None-clause-timeline : goal.returns-in_ok-push-in-None-clause-timeline
returns-in_ok-push-in-None-clause-timeline g c =
    let mac = g.T.Tag.mac in
    let d = deployed_as c.args.plan.now in
    let t = c.args.self.now in
    let line = line_of c.args.line in
    let longer : Kept → Kept = λ k. record { sites = k.sites; lines = k.lines ++ line ∷ []; every = k.every; checkpoints = k.checkpoints } in
    let P : Option Held → Type 0 = λ o. NextCheckpoint mac d t line o in
    let room = subst P c.in-None.is c.in_ok-world.ensures in
    let one = ap (λ (ls : List Read). map line_of ls) c.in_ok-push-in-None.ensures.items ∙ map-append line_of c.self.inside.lines.items (c.args.line ∷ []) in
    let all : IsTimeline mac d (longer t) = pushed mac d t line c.requires.timeline c.requires.form c.requires.few room in
    let Q : Kept → Type 0 = λ k. IsTimeline mac d k in
    let R : List Line → Type 0 = λ ls. IsTimeline mac d (record {
      sites = first_sites c.self.inside.checkpoints.items;
      lines = ls;
      every = c.self.inside.every;
      checkpoints = c.self.inside.checkpoints.items;
    }) in
    subst R (sym one) (subst Q (sym (ap longer c.self.view_is)) all)
