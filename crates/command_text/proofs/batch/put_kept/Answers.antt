use Rattle.command_text.proofs.Keeping.{puts_all}
use Rattle.command_text.proofs.batch.put_kept.Goals as goal

pub returns : goal.returns
returns g c =
    let e = c.put_all.ensures in
    puts_all g.K.Sink.tells (g.K.Sink.at c.args.output.now) (g.K.Sink.at c.put_all.new.sink) c.args.kept.now.items c.as_slice.result.now c.put_all.result
    c.as_slice.ensures.value e.ok e.failed e.faultless e.fault
