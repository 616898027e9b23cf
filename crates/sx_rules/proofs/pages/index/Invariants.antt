use Rattle.std.proofs.Common.{◌≡◌, ℕ, ◌<◌, slice_index}
use Rattle.sx_rules.specs.Pages.{meeting}
use Rattle.sx_rules.proofs.pages.index.Given as goal

-- the pages so far are right
abbrev pub invariant-loop-page : goal.invariant-loop-page
invariant-loop-page l = (page : ℕ) → page < l.page → slice_index l.pages page ≡ meeting page l.live
