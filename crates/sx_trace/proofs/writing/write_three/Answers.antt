use Rattle.std.proofs.Common.{◌∷◌, append_assoc}
use Rattle.sx_trace.proofs.Written.{written_as}
use Rattle.sx_trace.proofs.writing.write_three.Goals as goal

pub returns : goal.returns
returns c =
    written_as _ _ _ _ _ (append_assoc c.args.a.now (32 ∷ c.args.b.now) (32 ∷ c.args.c.now)) (c.write_next.ensures _ _ c.write_two-written.ensures)
