use Rattle.std.proofs.Common.{rules, ◌≡◌, ◌∙◌, ◌||◌, sym}
use Rattle.std.specs.List.{list_any}
use Rattle.sx_lang.specs.View.{handler_of}
use Rattle.sx_check.specs.Names.{is_declared, locals}
use Rattle.sx_check.specs.Listed.{is_in_twice}
use Rattle.sx_check.proofs.Named.{taken_is}
use Rattle.sx_check.proofs.locals.finds_taken.Goals as goal

pub returns : goal.returns
returns c =
    let ds = c.args.decls.now in
    let h = handler_of c.args.h.now in
    let either : c.if-are_declared.result ≡ (list_any (is_declared ds) (locals h) || is_in_twice (locals h)) = search rules in
    either ∙ sym (taken_is ds h)
