use Rattle.std.proofs.Common.{◌≡◌, ℕ, ◌+◌, ◌&&◌, not, false, drop, length, slice_index_or}
use Rattle.sx_bus.specs.Windows.{has_place}
use Rattle.sx_executor.proofs.marks.unmark_each.Given as goal

-- what is left to do leads to the marks that are due
abbrev pub invariant-loop-place : goal.invariant-loop-place
invariant-loop-place l = (length l.marks ≡ 256) × ((page : ℕ) →
    (slice_index_or l.marks page false
    && (not (has_place page (drop l.place-index l.places)) && not (has_place (page + 1) (drop l.place-index l.places))))
    ≡ (slice_index_or l.initial.marks page false && (not (has_place page l.places) && not (has_place (page + 1) l.places))))
