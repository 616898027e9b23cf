use Rattle.command_world.specs.Broken.{broken_output}
use Rattle.command_text.proofs.Keeping.{ends_kept, ends_stopped}
use Rattle.command_run.proofs.schedule.break_kept.Goals as goal

pub returns-in-Ok-clause-ends : goal.returns-in-Ok-clause-ends
returns-in-Ok-clause-ends g c = ends_kept (broken_output c.args.rule c.args.number) c.in-Ok.ensures c.break_off.ensures.ends

pub returns-in-Err-clause-ends : goal.returns-in-Err-clause-ends
returns-in-Err-clause-ends g c = ends_stopped (broken_output c.args.rule c.args.number) c.in-Err.ensures

pub returns-in-Ok-clause-memory : goal.returns-in-Ok-clause-memory
returns-in-Ok-clause-memory g c = c.break_off.ensures.memory
