use Rattle.std.proofs.Common.{rules, ◌≡◌, ℕ, ◌+◌, ◌<◌, Bool, false, [], ◌&&◌, length, slice_index_or, slice_set}
use Rattle.std.proofs.Common.{sym, ap, ◌∙◌, inl, inr, arith}
use Rattle.std.proofs.lemmas.Bool.{cases_eq}
use Rattle.std.proofs.lemmas.List.{get_or-set_same, get_or-set_other}
use Rattle.sx_executor.specs.Occupancy.{is_bare, is_vacant}
use Rattle.sx_executor.proofs.Vacant.{from_bare}
use Rattle.sx_executor.proofs.marks.mark_open.Goals as goal
use Rattle.sx_executor.proofs.marks.mark_open.Goals.{then-here, else-here}

pub loop-page-preserved : goal.loop-page-preserved
loop-page-preserved c =
    let i = c.loop-page.page in
    let marks = c.loop-page.marks in
    let live = c.args.table.now.live in
    let inside : i < length marks = search rules in
    let small : i < 256 = search rules in
    let next : c.is_open-next.result ≡ is_bare live [] (i + 1) = c.is_open-next.ensures ∙ ap (λ (k : ℕ). is_bare live [] k) (omega (arith, small)) in
    let both = from_bare live [] i c.loop-page.here c.is_open-next.result c.loop-page.invariant.1 next in
    let kept : c.if-here.kept ≡ is_vacant live [] i = elim c.if-here.branch [
      | then-here w ↦ w.kept-is ∙ sym (ap (λ (b : Bool). b && c.is_open-next.result) w.if-here.true) ∙ both
      | else-here w ↦ w.kept-is ∙ w.if-here.false ∙ sym (ap (λ (b : Bool). b && c.is_open-next.result) w.if-here.false) ∙ both
    ] in (
      λ page h. elim (cases_eq page i) [
        | inl same ↦ ap (λ (k : ℕ). slice_index_or (slice_set marks i c.if-here.kept) k false) same
            ∙ get_or-set_same marks i c.if-here.kept false inside ∙ kept ∙ ap (λ (k : ℕ). is_vacant live [] k) (sym same)
        | inr other ↦ get_or-set_other marks i page c.if-here.kept false other ∙ c.loop-page.invariant.0 page (omega (arith, h, other))
      ],
      next,
    )
