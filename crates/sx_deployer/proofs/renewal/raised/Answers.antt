use Rattle.std.proofs.Common.{rules}
use Rattle.sx_deployer.proofs.Raised.{raised_more, raised_all}
use Rattle.sx_deployer.proofs.renewal.raised.Goals as goal

pub loop-link-preserved : goal.loop-link-preserved
loop-link-preserved c =
    rw c.from.ensures record {
      whole = search rules;
      raised =
          raised_more c.args.ends.now c.args.epochs.now c.loop-link.next _ c.loop-link.link c.next_epoch.result (search rules) (search rules)
          c.next_epoch.ensures c.loop-link.invariant.raised;
    }

pub returns : goal.returns
returns c = raised_all c.args.ends.now c.args.epochs.now c.loop-link.next _ c.loop-link.link (search rules) (search rules) c.loop-link.invariant.raised
