use Rattle.std.proofs.Common.{◌∙◌, ap, sym, subst, ◌+◌, Bool, List}
use Rattle.sx_ir.specs.declared.ir.Ir.{Ir}
use Rattle.sx_tmpl.specs.Fits.{AreCounts, AreNoted}
use Rattle.sx_tmpl.specs.Text.{places_from}
use Rattle.sx_tmpl.proofs.Texts.TextTurns.{table_is}
use Rattle.sx_tmpl.proofs.table.Table.new.Goals as goal

pub routine_counts-requires : goal.routine_counts-requires
routine_counts-requires c =
    subst (λ (ops : List Ir). AreNoted ops c.deref-4.result.now) (c.deref-2.ensures.value ∙ sym c.deref-3.ensures.value)
    (subst (λ (noted : List Bool). AreNoted c.deref-2.result.now noted) (sym c.deref-4.ensures.value) c.in_ok-noted.ensures)

pub returns : goal.returns
returns c =
    let noted = c.in_ok-noted.noted in
    table_is c.args.layout.now c.args.code.now (record { places = c.in_ok-places.places; noted = noted; routines = c.in_ok-routines.routines })
    (c.in_ok-places.ensures ∙ ap (places_from (c.args.layout.now.pub_from + 24)) c.deref.ensures.value)
    (subst (λ (ops : List Ir). AreNoted ops noted.items) c.deref-2.ensures.value c.in_ok-noted.ensures)
    (subst (λ (ops : List Ir). AreCounts ops 256 c.in_ok-routines.routines.items) c.deref-3.ensures.value c.in_ok-routines.ensures) c.requires
