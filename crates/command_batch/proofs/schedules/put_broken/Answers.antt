use Rattle.std.proofs.Common.{subst}
use Rattle.command_promise.specs.declared.status.Status.{Status}
use Rattle.command_promise.specs.Told.{CommandEnds}
use Rattle.command_world.specs.Broken.{broken_output}
use Rattle.command_batch.proofs.Replied.{broken_failed}
use Rattle.command_batch.proofs.schedules.put_broken.Goals as goal

pub returns-in-WriteFailed-clause-does : goal.returns-in-WriteFailed-clause-does
returns-in-WriteFailed-clause-does g c =
    let P : Status → Type 0 = λ s. CommandEnds g.K.Sink.tells (g.K.Sink.at c.args.output.now) (g.K.Sink.at c.break_off.new.output) s (broken_output c.args.rule c.args.number) in
    broken_failed c.args.rule c.args.number (subst P c.in-WriteFailed.is c.break_off.ensures.ends)
