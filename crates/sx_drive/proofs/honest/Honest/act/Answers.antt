use Rattle.std.proofs.Common.{◌∙◌, List, [], OnOk, OnErr, ap, sym, subst}
use Rattle.sx_trace.specs.declared.items.Item.{Item}
use Rattle.sx_sched.specs.Seen.{line_of}
use Rattle.spec_run.specs.Law.{IsSoundSetting}
use Rattle.sx_world.specs.Standing.{IsGoing}
use Rattle.sx_world.specs.Continued.{Acts, ActsInPart}
use Rattle.sx_world.specs.InMemory.{world_setting}
use Rattle.sx_drive.specs.Driving.{Kept}
use Rattle.sx_drive.proofs.Performed.{goes_sound, goes_going}
use Rattle.sx_drive.proofs.honest.Honest.act.Goals as goal

pub act-requires-clause-sound : goal.act-requires-clause-sound
act-requires-clause-sound g c = c.requires.going.deployed

pub act-requires-clause-images : goal.act-requires-clause-images
act-requires-clause-images g c = subst (λ (k : Kept). IsSoundSetting (world_setting g.T.Tag.mac c.args.deployment.now k.world)) (sym c.self.view_is)
    (goes_sound g.T.Tag.mac c.args.deployment.now c.args.self.now c.requires.going)

pub act-requires-clause-going : goal.act-requires-clause-going
act-requires-clause-going g c = subst (λ (k : Kept). IsGoing (world_setting g.T.Tag.mac c.args.deployment.now k.world) k.world) (sym c.self.view_is)
    (goes_going g.T.Tag.mac c.args.deployment.now c.args.self.now c.requires.going)

pub returns-clause-acted : goal.returns-clause-acted
returns-clause-acted g c =
    subst (λ (k : Kept). OnOk c.act.result (Acts (world_setting g.T.Tag.mac c.args.deployment.now k.world) (line_of c.args.line.now) k.world c.act.new.self [] c.act.new.items.items)) c.self.view_is
    (subst (λ (xs : List Item). OnOk c.act.result (Acts (world_setting g.T.Tag.mac c.args.deployment.now c.self.inside.world)
    (line_of c.args.line.now) c.self.inside.world c.act.new.self xs c.act.new.items.items))
    c.clear.ensures.items c.act.ensures.acted)

pub returns-clause-front : goal.returns-clause-front
returns-clause-front g c =
    subst (λ (k : Kept). OnErr c.act.result (ActsInPart (world_setting g.T.Tag.mac c.args.deployment.now k.world) (line_of c.args.line.now) k.world [] c.act.new.items.items)) c.self.view_is
    (subst (λ (xs : List Item). OnErr c.act.result (ActsInPart (world_setting g.T.Tag.mac c.args.deployment.now c.self.inside.world)
    (line_of c.args.line.now) c.self.inside.world xs c.act.new.items.items))
    c.clear.ensures.items c.act.ensures.front)

pub returns-clause-made : goal.returns-clause-made
returns-clause-made g c = λ well. c.act.ensures.made (ap (λ (k : Kept). k.world.ran_out) c.self.view_is ∙ well)
