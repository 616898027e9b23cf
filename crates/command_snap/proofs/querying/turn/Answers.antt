use Rattle.std.proofs.Common.{◌≡◌, ◌∙◌, ◌+◌, ℕ, length, ap, sym, Ok}
use Rattle.command_promise.proofs.Laws.{does-same}
use Rattle.sx_deploy.specs.SeenDeployment.{deployed_as}
use Rattle.spec_run.specs.Accepted.{setting}
use Rattle.command_snap.specs.Input.{judged_query}
use Rattle.command_snap.specs.Output.{answers_from}
use Rattle.command_snap.proofs.Written.{query_line}
use Rattle.command_snap.proofs.querying.turn.Goals as goal

pub returns-in-Ok-prepare-clause-does : goal.returns-in-Ok-prepare-clause-does
returns-in-Ok-prepare-clause-does g c =
    let d = deployed_as c.args.deployment.now in
    let set = setting g.T.Tag.mac d c.args.timeline.now.sites in
    let lines = c.args.timeline.now.lines in
    let n = c.args.number in
    let said = c.args.said.now in
    let judged : judged_query d.names (length lines) n said ≡ Ok c.in-Ok.query =
    ap (λ (k : ℕ). judged_query d.names k n said) (sym c.count.ensures) ∙ sym c.in-Ok.ensures.query in
    does-same _ _ _ _ _ _ _ (λ more. query_line d.names set lines n said (Ok c.in-Ok.query) more judged) (c.tell.ensures (answers_from d.names set lines (n + 1)))
