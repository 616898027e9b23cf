use Rattle.sx_trace.proofs.Known.{guessed_right}
use Rattle.sx_trace.proofs.names.place_in.Goals as goal

pub returns-in-Some-clause-place : goal.returns-in-Some-clause-place
returns-in-Some-clause-place c = guessed_right c.args.names.now c.args.text.now c.in-Some.place c.requires.unique c.in-Some.ensures.within c.in-Some.ensures.named
