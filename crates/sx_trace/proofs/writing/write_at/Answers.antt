use Rattle.std.proofs.Common.{ℕ, List, ◌+◌, ◌++◌, length, take, drop, refl, ap, ◌∙◌, append_assoc, arith}
use Rattle.std.proofs.lemmas.List.{take_all}
use Rattle.std.proofs.lemmas.Slice.{put_mid-paste}
use Rattle.sx_trace.proofs.writing.write_at.Goals as goal

pub returns : goal.returns
returns c =
    let at = c.args.at in
    let old = c.args.into.now in
    let part = c.args.part.now in
    put_mid-paste at _ old _ part (length part) c.copy_from_slice.ensures.after (omega arith) refl
    ∙ ap (λ (xs : List ℕ). (take at old ++ xs) ++ drop (at + length part) old) (take_all (length part) part (omega arith)) ∙ append_assoc (take at old) part _
