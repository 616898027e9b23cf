use Rattle.sx_ledger.specs.Entries.{made}
use Rattle.sx_observe.proofs.Recorded.{recorded_ok}
use Rattle.sx_observe.proofs.recording.record.Goals as goal

pub returns : goal.returns
returns c =
    recorded_ok c.made.result c.args.ledger.now c.made.new.self (made c.args.maker c.args.target c.args.boot c.args.header.now c.args.body.now) c.new.result
    c.new.ensures c.made.ensures.added
