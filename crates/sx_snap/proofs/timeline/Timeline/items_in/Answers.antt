use Rattle.std.proofs.Common.{◌≡◌, ◌∙◌, ◌-◌, ◌<◌, List, length, ap, refl, sym, subst, arith}
use Rattle.std.proofs.lemmas.List.{length-map}
use Rattle.std.specs.Prelude.{slice_get}
use Rattle.sx_deploy.specs.SeenDeployment.{deployed_as}
use Rattle.sx_sched.specs.Lines.{Line}
use Rattle.sx_sched.specs.Seen.{line_of}
use Rattle.spec_run.specs.Accepted.{setting}
use Rattle.spec_run.specs.AcceptedLaw.{AreLines}
use Rattle.spec_run.specs.Law.{IsSoundSetting}
use Rattle.spec_run.specs.Setting.{Site}
use Rattle.sx_snap.specs.Kept.{Kept}
use Rattle.sx_snap.proofs.Stretches.{items_found, line_read, line_there}
use Rattle.sx_snap.proofs.timeline.Timeline.items_in.Goals as goal

pub act-requires-clause-sound : goal.act-requires-clause-sound
act-requires-clause-sound g c = c.requires.timeline.sound

pub act-requires-clause-images : goal.act-requires-clause-images
act-requires-clause-images g c =
    let P : List Site → Type 0 = λ sites. IsSoundSetting (setting g.T.Tag.mac (deployed_as c.args.plan.now) sites) in
    subst P (sym c.requires.stands.sites) c.requires.timeline.images

pub act-requires-clause-form : goal.act-requires-clause-form
act-requires-clause-form g c =
    let names = (deployed_as c.args.plan.now).names in
    let P : List Line → Type 0 = λ ls. AreLines names ls in
    let long : length c.self.inside.lines.items ≡ length c.args.self.now.lines =
    sym (length-map c.self.inside.lines.items line_of) ∙ ap (λ (k : Kept). length k.lines) c.self.view_is in
    let lt : c.args.at - 1 < length c.self.inside.lines.items = omega (arith, long, c.requires.within, c.requires.some) in
    line_read names c.self.inside.lines.items (c.args.at - 1) c.index-line.result.now
    (subst P (sym (ap (λ (k : Kept). k.lines) c.self.view_is)) c.requires.timeline.formed) lt c.index-line.ensures

pub returns : goal.returns
returns g c =
    let t = c.args.self.now in
    let long : length c.self.inside.lines.items ≡ length t.lines =
    sym (length-map c.self.inside.lines.items line_of) ∙ ap (λ (k : Kept). length k.lines) c.self.view_is in
    let lt : c.args.at - 1 < length c.self.inside.lines.items = omega (arith, long, c.requires.within, c.requires.some) in
    items_found g.T.Tag.mac (deployed_as c.args.plan.now) t.sites t.lines c.args.at (c.args.at - 1) c.args.world (line_of c.index-line.result.now)
    c.new-items.result.items c.act.new.items.items refl c.requires.stands
    (ap (λ (ls : List Line). slice_get ls (c.args.at - 1)) (sym (ap (λ (k : Kept). k.lines) c.self.view_is))
    ∙ line_there c.self.inside.lines.items (c.args.at - 1) c.index-line.result.now lt c.index-line.ensures)
    c.new-items.ensures.items (λ w stands. (c.in_ok-act.ensures.acted w stands).1)
