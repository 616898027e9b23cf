use Rattle.sx_paged.specs.Paged.{AreBlank, IsKept}
use Rattle.sx_paged.proofs.paged.release_run.Given as goal

-- the indices so far have the blank page
abbrev pub invariant-loop-index : goal.invariant-loop-index
invariant-loop-index l = IsKept l.arena l.starts l.blank × AreBlank l.starts l.blank l.index
