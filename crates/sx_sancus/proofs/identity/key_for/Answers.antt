use Rattle.std.proofs.Common.{[]}
use Rattle.sx_sancus.proofs.identity.key_for.Goals as goal

pub returns : goal.returns
returns g c = c.finish_answer.ensures _ _ (c.feed_identity.ensures _ [] c.begin_module_key-run.ensures)
