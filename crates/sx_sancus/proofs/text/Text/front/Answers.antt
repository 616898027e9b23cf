use Rattle.sx_sancus.proofs.Padding.{copied_padded}
use Rattle.sx_sancus.proofs.text.Text.front.Goals as goal

pub invariant_of-result : goal.invariant_of-result
invariant_of-result c =
    (c.requires.short, copied_padded c.args.bytes.now c.copy_from_slice.new.self c.args.count c.requires.within c.copy_from_slice.ensures.after)
