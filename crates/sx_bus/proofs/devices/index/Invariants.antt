use Rattle.std.proofs.Common.{◌≡◌, ℕ, ◌<◌, false, slice_index_or}
use Rattle.sx_bus.specs.Windows.{has_place}
use Rattle.sx_bus.proofs.devices.index.Given as goal

-- the pages so far are right
abbrev pub invariant-loop-page : goal.invariant-loop-page
invariant-loop-page l = (page : ℕ) → page < l.page → slice_index_or l.pages page false ≡ has_place page l.places
