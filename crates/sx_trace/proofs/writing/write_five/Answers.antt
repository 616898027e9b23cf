use Rattle.std.proofs.Common.{append_assoc}
use Rattle.sx_trace.proofs.Written.{written_as}
use Rattle.sx_trace.proofs.writing.write_five.Goals as goal

pub returns : goal.returns
returns c = written_as _ _ _ _ _ (simp append_assoc) (c.write_next.ensures _ _ c.write_four-written.ensures)
