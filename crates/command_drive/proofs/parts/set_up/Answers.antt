use Rattle.std.proofs.Common.{subst, sym, List}
use Rattle.sx_drive.specs.declared.said.Said.{Said as Told}
use Rattle.sx_drive.specs.Driving.{GoesOn, all_said}
use Rattle.sx_drive.specs.Honest.{setup}
use Rattle.command_drive.specs.Parts.{AreNamed, SaysAll, TellsSaid}
use Rattle.command_drive.proofs.Named.{does_named, setup_named}
use Rattle.command_drive.proofs.Playing.{does_lossless, does_say, done_follows, on_done}
use Rattle.command_drive.proofs.parts.set_up.Goals as goal

pub setup-drove-requires : goal.setup-drove-requires
setup-drove-requires g c = record { going = λ _. c.requires.going }

pub tell-requires-clause-named : goal.tell-requires-clause-named
tell-requires-clause-named g c =
    let mac = g.T.Tag.mac in
    let d = c.args.deployment.now in
    let going = c.requires.going in
    let P : List Told → Type 0 = λ xs. AreNamed d.names (all_said xs) in
    subst P (sym c.deref.ensures.value)
    (does_named mac d c.setup-drove.result c.args.honest.now c.setup-drove.new.self c.args.said.now.items c.setup-drove.new.said.items setup c.setup-drove.ensures.does going
    c.requires.none (setup_named mac d c.args.honest.now going.set going.honest c.requires.going.deployed going.follows))

pub returns-clause-plays : goal.returns-clause-plays
returns-clause-plays g c = λ set h f.
    let mac = g.T.Tag.mac in
    let d = c.args.deployment.now in
    let e = c.setup-drove.ensures in
    let P : List Told → Type 0 = λ xs. SaysAll (all_said xs) c.setup-drove.result (setup set h) in (
      c.tell.ensures.tells (setup set h)
          (subst P (sym c.deref.ensures.value)
          (does_say mac d c.setup-drove.result c.args.honest.now c.setup-drove.new.self c.args.said.now.items c.setup-drove.new.said.items setup e.does e.drove c.requires.none set h f)),
      λ on.
          done_follows mac d c.setup-drove.result c.args.honest.now c.setup-drove.new.self c.args.said.now.items c.setup-drove.new.said.items setup e.does e.drove
          (c.tell.ensures.on on) set h f,
    )

pub returns-clause-goes_on : goal.returns-clause-goes_on
returns-clause-goes_on g c = λ on. on_done (GoesOn g.T.Tag.mac c.args.deployment.now c.setup-drove.new.self) c.setup-drove.result c.setup-drove.ensures.goes_on (c.tell.ensures.on on)

pub returns-clause-memory : goal.returns-clause-memory
returns-clause-memory g c = λ on. on_done _ c.setup-drove.result c.setup-drove.ensures.memory (c.tell.ensures.on on)

pub returns-clause-made : goal.returns-clause-made
returns-clause-made g c =
    let d = c.args.deployment.now in
    let P : List Told → Type 0 = λ xs. TellsSaid g.K.Sink.tells (g.K.Sink.at c.args.output.now) (g.K.Sink.at c.tell.new.output) d.names (all_said xs) c.tell.result in
    subst P c.deref.ensures.value c.tell.ensures.made

pub returns-clause-lossless : goal.returns-clause-lossless
returns-clause-lossless g c =
    does_lossless g.T.Tag.mac c.args.deployment.now c.setup-drove.result c.args.honest.now c.setup-drove.new.self c.args.said.now.items c.setup-drove.new.said.items setup
    c.setup-drove.ensures.does c.requires.going c.requires.none
