use Rattle.std.proofs.Common.{◌≡◌, drop}
use Rattle.std.specs.List.{position_from}
use Rattle.sx_model.specs.Changes.{is_end}
use Rattle.sx_model.proofs.ends.end_at.Given as goal

-- the end isn't among those so far
abbrev pub invariant-loop-at : goal.invariant-loop-at
invariant-loop-at l = position_from (is_end l.link l.side) l.at (drop l.at l.ends) ≡ position_from (is_end l.link l.side) 0 l.ends
