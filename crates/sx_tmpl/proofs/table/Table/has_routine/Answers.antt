use Rattle.std.proofs.Common.{List, Bool, sym, subst}
use Rattle.sx_ir.specs.declared.ir.Ir.{Ir}
use Rattle.sx_tmpl.specs.Fits.{AreNoted}
use Rattle.sx_tmpl.proofs.table.Table.has_routine.Goals as goal

pub has_routine-requires-clause-noted : goal.has_routine-requires-clause-noted
has_routine-requires-clause-noted c =
    subst (λ (ops : List Ir). AreNoted ops c.deref-2.result.now) (sym c.deref.ensures.value)
    (subst (λ (noted : List Bool). AreNoted c.args.code.now.ops.items noted) (sym c.deref-2.ensures.value) c.requires.table.noted)
