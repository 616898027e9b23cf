use Rattle.std.proofs.Common.{◌∙◌}
use Rattle.sx_mean.specs.View.{app_as}
use Rattle.sx_watch.proofs.Meanings.{refused_as}
use Rattle.sx_watch.proofs.reading.meant.Goals as goal

pub returns : goal.returns
returns c =
    refused_as c.args.names.now (app_as c.args.app.now) c.args.tokens.now c.deref.result.now c.args.end c.in-Err.error c.no_module.result
    (c.deref.ensures.value ∙ c.in_ok-module.ensures.tokens) c.in-Err.ensures.fault c.no_module.ensures
