use Rattle.std.proofs.Common.{◌≡◌, ℕ, ◌<◌, false, [], slice_index_or}
use Rattle.sx_executor.specs.Occupancy.{is_bare, is_vacant}
use Rattle.sx_executor.proofs.marks.mark_open.Given as goal

-- the pages so far are right, and whether a section meets the page itself is known
abbrev pub invariant-loop-page : goal.invariant-loop-page
invariant-loop-page l =
    ((page : ℕ) → page < l.page → slice_index_or l.marks page false ≡ is_vacant l.table.live [] page)
    × (l.here ≡ is_bare l.table.live [] l.page)
