use Rattle.std.proofs.Common.{◌*◌}
use Rattle.sx_paged.specs.Paged.{AreBlank, IsKept}
use Rattle.sx_paged.proofs.paged.release_all.Given as goal

-- the runs so far have the blank page
abbrev pub invariant-loop-run : goal.invariant-loop-run
invariant-loop-run l = IsKept l.arena l.starts l.blank × AreBlank l.starts l.blank (32 * l.run)
