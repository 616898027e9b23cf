use Rattle.std.proofs.Common.{subst, sym, List}
use Rattle.sx_drive.specs.declared.said.Said.{Said as Told}
use Rattle.sx_drive.specs.Driving.{GoesOn, all_said}
use Rattle.sx_drive.specs.Driving.{reading}
use Rattle.command_drive.specs.Parts.{AreNamed, SaysAll, TellsSaid}
use Rattle.command_drive.proofs.Named.{does_named, reading_named}
use Rattle.command_drive.proofs.Playing.{does_lossless, does_say, done_follows, on_done}
use Rattle.command_drive.proofs.parts.read.Goals as goal

pub tell-requires-clause-named : goal.tell-requires-clause-named
tell-requires-clause-named g c =
    let mac = g.T.Tag.mac in
    let d = c.args.deployment.now in
    let going = c.requires.going in
    let P : List Told → Type 0 = λ xs. AreNamed d.names (all_said xs) in
    subst P (sym c.deref.ensures.value)
    (does_named mac d c.reading-drove.result c.args.honest.now c.reading-drove.new.self c.args.said.now.items c.reading-drove.new.said.items
    (reading c.args.device c.args.value) c.reading-drove.ensures.does going
    c.requires.none (reading_named mac d c.args.honest.now going.set going.honest c.args.device c.args.value c.requires.going.deployed c.requires.driven c.requires.value going.follows))

pub returns-clause-plays : goal.returns-clause-plays
returns-clause-plays g c = λ set h f.
    let mac = g.T.Tag.mac in
    let d = c.args.deployment.now in
    let e = c.reading-drove.ensures in
    let P : List Told → Type 0 = λ xs. SaysAll (all_said xs) c.reading-drove.result (reading c.args.device c.args.value set h) in (
      c.tell.ensures.tells (reading c.args.device c.args.value set h)
          (subst P (sym c.deref.ensures.value)
          (does_say mac d c.reading-drove.result c.args.honest.now c.reading-drove.new.self c.args.said.now.items c.reading-drove.new.said.items
          (reading c.args.device c.args.value) e.does e.drove c.requires.none set h f)),
      λ on.
          done_follows mac d c.reading-drove.result c.args.honest.now c.reading-drove.new.self c.args.said.now.items c.reading-drove.new.said.items (reading c.args.device c.args.value) e.does e.drove
          (c.tell.ensures.on on) set h f,
    )

pub returns-clause-goes_on : goal.returns-clause-goes_on
returns-clause-goes_on g c = λ on. on_done (GoesOn g.T.Tag.mac c.args.deployment.now c.reading-drove.new.self) c.reading-drove.result c.reading-drove.ensures.goes_on (c.tell.ensures.on on)

pub returns-clause-memory : goal.returns-clause-memory
returns-clause-memory g c = λ on. on_done _ c.reading-drove.result c.reading-drove.ensures.memory (c.tell.ensures.on on)

pub returns-clause-made : goal.returns-clause-made
returns-clause-made g c =
    let d = c.args.deployment.now in
    let P : List Told → Type 0 = λ xs. TellsSaid g.K.Sink.tells (g.K.Sink.at c.args.output.now) (g.K.Sink.at c.tell.new.output) d.names (all_said xs) c.tell.result in
    subst P c.deref.ensures.value c.tell.ensures.made

pub returns-clause-lossless : goal.returns-clause-lossless
returns-clause-lossless g c =
    does_lossless g.T.Tag.mac c.args.deployment.now c.reading-drove.result c.args.honest.now c.reading-drove.new.self c.args.said.now.items c.reading-drove.new.said.items (reading c.args.device c.args.value)
    c.reading-drove.ensures.does c.requires.going c.requires.none
