use Rattle.std.proofs.Common.{sym, subst, map}
use Rattle.sx_lang.specs.View.{handler_of, module_of}
use Rattle.spec_grammar.specs.Text.{Spells}
use Rattle.sx_print.specs.Pieces.{declarations_pieces, handlers_pieces}
use Rattle.sx_print.specs.Written.{Wrote}
use Rattle.sx_print.proofs.Spells.{module_utf8, module_spelled}
use Rattle.sx_print.proofs.printing.print.Goals as goal

pub text-requires : goal.text-requires
text-requires c = module_utf8 c.new-out.result.items c.put_declarations.new.out.items c.put_handlers.new.out.items (module_of c.args.m.now) c.requires c.new-out.ensures.items
    (subst (λ ds. Wrote c.new-out.result.items (declarations_pieces ds) c.put_declarations.new.out.items) c.deref.ensures.value c.in_ok-put_declarations.ensures)
    (subst (λ hs. Wrote c.put_declarations.new.out.items (handlers_pieces (map handler_of hs)) c.put_handlers.new.out.items) c.deref-2.ensures.value c.in_ok-put_handlers.ensures)

pub returns-clause-spells : goal.returns-clause-spells
returns-clause-spells c = subst (λ bs. Spells bs (module_of c.args.m.now)) (sym c.text.ensures)
    (module_spelled c.new-out.result.items c.put_declarations.new.out.items c.put_handlers.new.out.items (module_of c.args.m.now) c.requires c.new-out.ensures.items
    (subst (λ ds. Wrote c.new-out.result.items (declarations_pieces ds) c.put_declarations.new.out.items) c.deref.ensures.value c.in_ok-put_declarations.ensures)
    (subst (λ hs. Wrote c.put_declarations.new.out.items (handlers_pieces (map handler_of hs)) c.put_handlers.new.out.items) c.deref-2.ensures.value c.in_ok-put_handlers.ensures))
