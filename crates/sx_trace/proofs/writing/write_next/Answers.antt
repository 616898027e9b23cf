use Rattle.std.proofs.Common.{[], ◌∷◌, ◌++◌, append_assoc}
use Rattle.sx_trace.proofs.Written.{written_more, written_as}
use Rattle.sx_trace.proofs.writing.write_next.Goals as goal

pub returns : goal.returns
returns c = λ text first h.
    let spaced = written_more text first (32 ∷ []) _ _ c.args.written h c.write_at.ensures in
    let longer = written_more (text ++ 32 ∷ []) first c.args.word.now _ _ _ spaced c.write_at-2.ensures in
    written_as _ _ first _ _ (append_assoc text (32 ∷ []) c.args.word.now) longer
