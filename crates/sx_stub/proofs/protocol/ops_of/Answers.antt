use Rattle.std.proofs.Common.{◌≤◌, length, sym, subst, arith}
use Rattle.std.proofs.lemmas.List.{length-map}
use Rattle.sx_lang.specs.declared.tree.Module.{Module}
use Rattle.sx_lang.specs.View.{handler_of}
use Rattle.sx_check.specs.Source.{source, source_tree}
use Rattle.sx_stub.proofs.Few.{few_handlers}
use Rattle.sx_stub.proofs.protocol.ops_of.Goals as goal

pub put_stub-requires-clause-few : goal.put_stub-requires-clause-few
put_stub-requires-clause-few c =
    let m = c.args.m.now in
    let few = few_handlers (source_tree m) c.module.ensures.keeps in
    subst (λ (t : Module). length t.handlers.items ≤ 256) (sym c.module.ensures.tree) (omega (arith, few, length-map (source m).handlers.items handler_of))
