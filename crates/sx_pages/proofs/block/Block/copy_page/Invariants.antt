use Rattle.std.proofs.Common.{◌≡◌, [], get_or, set}
use Rattle.sx_pages.proofs.Views.{blend}
use Rattle.sx_pages.proofs.block.Block.copy_page.Given as goal

-- the slots so far are those of the other block
abbrev pub invariant-loop-at : goal.invariant-loop-at
invariant-loop-at l =
    (l.self.start ≡ l.initial.self.start) × (l.self.pages ≡ set l.initial.self.pages l.page (blend l.at (get_or l.from.pages l.page []) (get_or l.initial.self.pages l.page [])))
