use Rattle.sx_lang.proofs.Stored.{stored}
use Rattle.sx_lang.proofs.names.Name.new.Goals as goal

pub invariant_of-result : goal.invariant_of-result
invariant_of-result c =
    stored c.args.bytes.now _ _ c.copy_from_slice.ensures.after c.split_at_mut-front.ensures.back c.if-is_empty.ensures c.if-bytes-gt-LONGEST.false
