use Rattle.std.proofs.Common.{◌≡◌, [], get_or, set}
use Rattle.sx_pages.specs.Arena.{zeroed}
use Rattle.sx_pages.proofs.Views.{blend}
use Rattle.sx_pages.proofs.block.Block.clear.Given as goal

-- the slots so far are zeros
abbrev pub invariant-loop-at : goal.invariant-loop-at
invariant-loop-at l = (l.self.start ≡ l.initial.self.start) × (l.self.pages ≡ set l.initial.self.pages l.page (blend l.at zeroed (get_or l.initial.self.pages l.page [])))
