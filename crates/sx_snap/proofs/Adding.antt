-- The items of a run are those of its lines.
use Rattle.std.proofs.Common.{◌≡◌, ◌∙◌, ℕ, zero, suc, ◌+◌, ◌-◌, ◌<◌, List, [], ◌∷◌, ◌++◌, length, take, refl, sym, ap, arith, append_assoc, Option, Some}
use Rattle.std.specs.Prelude.{slice_get}
use Rattle.std.proofs.lemmas.List.{append-nil}
use Rattle.sx_trace.specs.declared.items.Item.{Item}
use Rattle.sx_sched.specs.Lines.{Line}
use Rattle.spec_run.specs.Setting.{Setting}
use Rattle.spec_run.specs.State.{World, switched_on}
use Rattle.spec_run.specs.Run.{run, after_line, line_counted}
use Rattle.sx_world.specs.Whole.{next, whole_run}
use Rattle.sx_snap.specs.Laws.{ItemsAdd}
use Rattle.sx_snap.specs.Timeline.{items_at, items_in, world_at}
use Rattle.sx_snap.proofs.Stretches.{take_next}

run_items : (set : Setting) (lines : List Line) (line : Line) (w : World) → (run set w (lines ++ line ∷ [])).items ≡ (run set w lines).items ++ (next set (run set w lines).world line).items
run_items set [] line w = append-nil (next set w line).items
run_items set (x ∷ lines) line w =
    let here = after_line set (line_counted w) x in
    ap (λ more. here.items ++ more) (run_items set lines line here.world)
    ∙ sym (append_assoc here.items (run set here.world lines).items (next set (run set here.world lines).world line).items)

-- the line at an index
found : (lines : List Line) (k : ℕ) → k < length lines → (line : Line) × (slice_get lines k ≡ Some line)
found [] k h = absurd (omega (arith, h))
found (x ∷ lines) zero h = (x, refl)
found (x ∷ lines) (suc k) h = found lines k (omega (arith, h))

pub items_add : ItemsAdd
items_add set lines k h =
    let at = found lines k h in
    let one : k + 1 - 1 ≡ k = omega arith in
    let its : items_at set lines (k + 1) ≡ (next set (world_at set lines k) at.0).items =
    ap (λ (i : ℕ). items_in set (world_at set lines i) (slice_get lines i)) one ∙ ap (λ (o : Option Line). items_in set (world_at set lines k) o) at.1 in
    ap (λ (ls : List Line). (whole_run set ls).items) (take_next lines k at.0 at.1) ∙ run_items set (take k lines) at.0 (switched_on set)
    ∙ ap (λ (items : List Item). (whole_run set (take k lines)).items ++ items) (sym its)
