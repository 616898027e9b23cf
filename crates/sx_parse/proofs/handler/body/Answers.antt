use Rattle.std.proofs.Common.{refl}
use Rattle.sx_parse.proofs.Handlers.{reads}
use Rattle.sx_parse.proofs.handler.body.Goals as goal

pub returns-clause-handles : goal.returns-clause-handles
returns-clause-handles c =
    reads _ _ _ c.in_ok-rest.rest.now c.in_ok-param.rest.now c.in_ok-rest-2.rest.now _ _ c.args.all.now.items _ _ c.in_ok-rest.ensures.takes
    c.in_ok-param.ensures.named c.in_ok-rest-2.ensures.takes c.in_ok-body.ensures.reads c.in_ok-push.ensures.items refl
