use Rattle.std.proofs.Common.{◌≡◌, ℕ, ◌+◌, ◌<◌, false, nat_lt, slice_index_or}
use Rattle.sx_executor.proofs.marks.mark_all.Given as goal

-- the pages so far are right
abbrev pub invariant-loop-page : goal.invariant-loop-page
invariant-loop-page l = (page : ℕ) → page < l.page → slice_index_or l.marks page false ≡ nat_lt (page + 1) 256
