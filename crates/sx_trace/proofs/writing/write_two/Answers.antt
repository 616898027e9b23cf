use Rattle.sx_trace.proofs.Written.{written_first}
use Rattle.sx_trace.proofs.writing.write_two.Goals as goal

pub returns : goal.returns
returns c = c.write_next.ensures _ _ (written_first c.args.a.now c.args.into.now _ c.write_at.ensures)
