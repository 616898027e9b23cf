use Rattle.sx_check.proofs.Named.{found_is}
use Rattle.sx_check.proofs.indexed.is_in.Goals as goal

pub returns : goal.returns
returns c = λ names is. found_is names c.bytes.result.now c.args.x.now c.has.result (c.has.ensures names is) c.bytes.ensures.bytes
