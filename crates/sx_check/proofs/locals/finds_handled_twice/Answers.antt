use Rattle.std.proofs.Common.{rules, ◌≡◌, ◌∙◌, ◌||◌, None, nat_lt, count_by, map, sym}
use Rattle.sx_lang.specs.View.{handler_of}
use Rattle.sx_check.specs.Names.{same_input}
use Rattle.sx_check.specs.Listed.{inputs_of, is_in_twice}
use Rattle.sx_check.proofs.Named.{handled_is}
use Rattle.sx_check.proofs.locals.finds_handled_twice.Goals as goal

pub returns : goal.returns
returns c =
    let hs = map handler_of c.args.handlers.now in
    let either : c.if-handlers_of-gt1.result ≡ (nat_lt 1 (count_by (λ g. same_input None g.input) hs) || is_in_twice (inputs_of hs)) = search rules in
    either ∙ sym (handled_is hs)
