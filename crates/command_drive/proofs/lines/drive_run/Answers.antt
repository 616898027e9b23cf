use Rattle.std.proofs.Common.{List, [], inl, refl}
use Rattle.sx_io.specs.Reading.{Answer}
use Rattle.command_promise.specs.Told.{Output}
use Rattle.command_promise.specs.declared.turned.Turned.TheVariants.{On}
use Rattle.command_promise.proofs.Laws.{begun-put, does-same, ends-same, told-stop}
use Rattle.sx_deploy.specs.SeenDeployment.{deployed_as}
use Rattle.sx_drive.specs.Honest.{Honest, setup, start}
use Rattle.command_head.proofs.Given.{given_none}
use Rattle.command_drive.specs.Output.{drive_readings}
use Rattle.command_drive.specs.Parts.{drive_from, part_output}
use Rattle.command_drive.proofs.Named.{are_there, same_app}
use Rattle.command_drive.proofs.Written.{drive_set_up}
use Rattle.command_drive.proofs.lines.drive_run.Goals as goal

pub returns-in-Stop-clause-rest : goal.returns-in-Stop-clause-rest
returns-in-Stop-clause-rest g c = λ set f limit m0 defined aside noted b.
    let d = deployed_as c.args.deployment.now in
    let there = are_there d set c.requires.going.deployed (same_app g.T.Tag.mac c.args.deployment.now c.args.honest.now set (start set) f) in
    told-stop b
    (λ more.
    ends-same _ _ _ _ _ _ (drive_set_up d set more there) ((c.in-Stop.ensures.plays set (start set) f).0 (λ k more. drive_from d set k 1 more) more))

pub returns-clause-rest : goal.returns-clause-rest
returns-clause-rest g c = λ set f limit m0 defined aside noted b.
    let d = deployed_as c.args.deployment.now in
    let there = are_there d set c.requires.going.deployed (same_app g.T.Tag.mac c.args.deployment.now c.args.honest.now set (start set) f) in
    let a = setup set (start set) in
    let left : Honest → List Answer → Output = λ k more. drive_from d set k 1 more in
    let p = c.in-On.ensures.plays set (start set) f in
    let stands = p.1 refl in
    c.read_lines.ensures.rest set a.honest stands.0 stands.1 limit m0 defined aside noted
    (begun-put (drive_readings d set) (drive_from d set a.honest 1) b
    (does-same _ _ _ (drive_readings d set) (part_output d.names a left) (drive_from d set a.honest 1) On (λ more. drive_set_up d set more there) (p.0 left)))

pub returns-in-Stop-clause-wanted : goal.returns-in-Stop-clause-wanted
returns-in-Stop-clause-wanted g c = λ six. ([], given_none _ _ _ _, inl refl)

pub returns-clause-wanted : goal.returns-clause-wanted
returns-clause-wanted g c = c.read_lines.ensures.wanted
