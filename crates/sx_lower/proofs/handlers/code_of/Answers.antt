use Rattle.std.proofs.Common.{◌<◌, length, map, sym, ap, ◌∙◌, subst}
use Rattle.sx_lang.specs.View.{handler_of}
use Rattle.sx_check.specs.Source.{source_tree}
use Rattle.sx_mean.specs.Sized.{AreSizedDecls}
use Rattle.sx_mean.proofs.Kept.{sized}
use Rattle.sx_lower.specs.Lowered.{handlers_code, AreFew}
use Rattle.sx_lower.proofs.Accepted.{few, short}
use Rattle.sx_lower.proofs.handlers.code_of.Goals as goal

pub put_handlers-requires-clause-sized : goal.put_handlers-requires-clause-sized
put_handlers-requires-clause-sized c =
    let decls = c.deref.ensures.value ∙ ap (λ t. t.decls.items) c.module-tree.ensures.tree in
    subst AreSizedDecls (sym decls) (sized (source_tree c.args.m.now) c.module-tree.ensures.keeps)

pub put_handlers-requires-clause-locals : goal.put_handlers-requires-clause-locals
put_handlers-requires-clause-locals c =
    let handlers = c.deref-2.ensures.value ∙ ap (λ t. t.handlers.items) c.module-tree.ensures.tree in
    subst (λ hs. AreFew (map handler_of hs)) (sym handlers) (few (source_tree c.args.m.now) c.module-tree.ensures.keeps)

pub put_handlers-requires-clause-short : goal.put_handlers-requires-clause-short
put_handlers-requires-clause-short c =
    let decls = c.deref.ensures.value ∙ ap (λ t. t.decls.items) c.module-tree.ensures.tree in
    let handlers = c.deref-2.ensures.value ∙ ap (λ t. t.handlers.items) c.module-tree.ensures.tree in
    subst (λ ds. length (handlers_code ds c.args.ends.now 0 (map handler_of c.deref-2.result.now)) < 65536) (sym decls)
    (subst (λ hs. length (handlers_code (source_tree c.args.m.now).decls c.args.ends.now 0 (map handler_of hs)) < 65536) (sym handlers)
    (short (source_tree c.args.m.now) c.args.ends.now c.module-tree.ensures.keeps c.requires.few))
