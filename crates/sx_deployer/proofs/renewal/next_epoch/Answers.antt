use Rattle.std.proofs.Common.{◌∙◌, arith, sym}
use Rattle.sx_deployer.proofs.Raised.{below_last}
use Rattle.sx_deployer.proofs.renewal.next_epoch.Goals as goal

pub overflow_add-result : goal.overflow_add-result
overflow_add-result c =
    let low = below_last c.args.ends.now c.args.epochs.now c.args.link c.requires.open (sym c.has_link.ensures ∙ c.if-has_link.true) in
    rw c.from.ensures (omega (arith, low))
