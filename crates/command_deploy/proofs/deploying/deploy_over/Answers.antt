use Rattle.std.proofs.Common.{ℕ, List, subst}
use Rattle.command_promise.specs.Told.{command_at}
use Rattle.command_deploy.specs.Afterwards.{DeploysOrRanOut}
use Rattle.command_deploy.proofs.AfterHead.{does_read, told_headless, told_behind}
use Rattle.command_deploy.proofs.deploying.deploy_over.Goals as goal

pub returns-in-Ok : goal.returns-in-Ok
returns-in-Ok g c =
    let mac = g.T.Tag.mac in
    let own = g.C.Deploys.behind mac in
    let k0 = g.K.Sink.at c.args.output.now in
    let read = g.S.Source.at c.read_head.new.source in
    let left = command_at (g.S.Source.at c.deploy_read.new.input) (g.K.Sink.at c.deploy_read.new.output) in
    let P : List ℕ → Type 0 = λ text. DeploysOrRanOut mac own g.C.Deploys.may g.S.Source.tells g.K.Sink.tells c.read_head.new.lines (command_at read k0) left c.deploy_read.result text in
    let does = c.deploy_read.ensures in
    told_behind {s1 = read} {k0 = k0} {now = c.read_head.new.lines} {m2 = left} {status = c.deploy_read.result} mac own g.C.Deploys.may c.in-Ok.text.items c.in-Ok.ensures
    (subst P c.deref.ensures.value
    (does_read {tells = g.S.Source.tells} {to_tell = g.K.Sink.tells} {now = c.read_head.new.lines} {s0 = read} {s1 = g.S.Source.at c.deploy_read.new.input} {k0 = k0}
    {k1 = g.K.Sink.at c.deploy_read.new.output} {status = c.deploy_read.result} mac own g.C.Deploys.may c.deref.result.now c.read_deployment.result c.read_deployment.ensures.read does.deploys does.refused does.unread))

pub returns-in-Err : goal.returns-in-Err
returns-in-Err g c =
    told_headless {k0 = g.K.Sink.at c.args.output.now} {k1 = g.K.Sink.at c.refuse_head.new.output} {status = c.refuse_head.result} g.T.Tag.mac (g.C.Deploys.behind g.T.Tag.mac) g.C.Deploys.may c.read_head.new.lines
    c.in-Err.fault c.in-Err.ensures c.refuse_head.ensures
