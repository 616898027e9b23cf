use Rattle.std.proofs.Common.{subst, Result, Ok}
use Rattle.command_promise.specs.Told.{command_at}
use Rattle.command_promise.specs.Parts.{Rest}
use Rattle.sx_mean.specs.View.{app_as}
use Rattle.sx_watch.specs.declared.reading.PropertyFault.{PropertyFault}
use Rattle.sx_watch.specs.Watched.{PropertyTree}
use Rattle.sx_watch.specs.Watching.{property_as}
use Rattle.sx_watch.proofs.Meanings.{one_property}
use Rattle.command_explain.specs.Trace.{image_lines}
use Rattle.command_watch.specs.Parts.{watch_judged}
use Rattle.command_watch.proofs.Heads.{told_refused}
use Rattle.command_watch.proofs.watch.watch_text.Goals as goal

pub returns-in-Ok-clause-rest : goal.returns-in-Ok-clause-rest
returns-in-Ok-clause-rest g c = λ means is.
    let names = c.args.deployment.now.names in
    let app = app_as c.args.deployment.now.app in
    let text = c.args.text.now in
    let P : Result PropertyTree PropertyFault → Type 0 = λ r. Rest g.S.Source.tells g.K.Sink.tells image_lines c.args.lines.now (command_at (g.S.Source.at c.args.input.now) (g.K.Sink.at c.args.output.now))
    (command_at (g.S.Source.at c.watch_images.new.input) (g.K.Sink.at c.watch_images.new.output)) c.watch_images.result (watch_judged (means.trace.item names) r) in
    subst P (one_property names app text (Ok (property_as c.in-Ok.property)) (means.property names app text) c.in-Ok.ensures (is.property names app text)) (c.watch_images.ensures.rest means.trace is.trace)

pub returns-in-Err-clause-rest : goal.returns-in-Err-clause-rest
returns-in-Err-clause-rest g c = λ means is.
    let names = c.args.deployment.now.names in
    let app = app_as c.args.deployment.now.app in
    let text = c.args.text.now in
    told_refused names app text (means.trace.item names) c.in-Err.error c.in-Err.ensures c.refuse_text.ensures (means.property names app text) (is.property names app text)
