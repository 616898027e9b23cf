use Rattle.sx_mean.specs.View.{app_as}
use Rattle.sx_watch.proofs.Meanings.{meant_of}
use Rattle.sx_watch.proofs.reading.read_property.Goals as goal

pub returns : goal.returns
returns c =
    meant_of c.args.names.now (app_as c.args.app.now) c.args.text.now c.in_ok-tokens.tokens.list.items c.deref.result.now c.in_ok-tokens.tokens.end c.meant.result
    c.deref.ensures.value c.in_ok-tokens.ensures c.meant.ensures
