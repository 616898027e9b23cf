use Rattle.std.proofs.Common.{refl}
use Rattle.command_text.proofs.Keeping.{prefix_ends}
use Rattle.command_run.specs.Turns.{shown_text}
use Rattle.command_run.proofs.trace.keep_line.Goals as goal

pub returns-in-Ok-clause-does : goal.returns-in-Ok-clause-does
returns-in-Ok-clause-does g c = λ left. record {
  text = shown_text c.args.shown c.args.names.now (record { text = c.args.said.now; items = c.args.items.now });
  up_to = c.in-Ok.ensures;
  same = λ more. refl;
}

pub returns-in-Err-clause-does : goal.returns-in-Err-clause-does
returns-in-Err-clause-does g c = λ left more.
    prefix_ends c.args.kept.now.items (shown_text c.args.shown c.args.names.now (record { text = c.args.said.now; items = c.args.items.now })) (left more) c.in-Err.ensures
