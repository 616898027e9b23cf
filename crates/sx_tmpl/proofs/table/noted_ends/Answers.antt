use Rattle.std.proofs.Common.{◌≡◌, List, [], drop, sym, ◌∙◌, ap, arith}
use Rattle.std.proofs.lemmas.List.{drop_all}
use Rattle.sx_ir.specs.declared.ir.Ir.{Ir}
use Rattle.sx_tmpl.specs.Fits.{with_notes}
use Rattle.sx_tmpl.proofs.Texts.Noted.{are_noted}
use Rattle.sx_tmpl.proofs.table.noted_ends.Goals as goal

pub returns : goal.returns
returns c =
    let over : drop c.loop-op.op-index c.args.ops.now ≡ [] = drop_all c.loop-op.op-index c.args.ops.now (omega (arith, c.loop-op-test.false, c.loop-op.auto.op-index-end)) in
    are_noted c.args.ops.now c.loop-op.noted.items (ap (λ (r : List Ir). with_notes r c.loop-op.noted.items) (sym over) ∙ c.loop-op.invariant.1)
