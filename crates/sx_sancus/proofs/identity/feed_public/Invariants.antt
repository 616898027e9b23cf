use Rattle.std.proofs.Common.{◌*◌, ◌++◌, List, ℕ}
use Rattle.sx_tag.specs.Stream.{Leads}
use Rattle.spec_machine.specs.Memory.{bytes_from}
use Rattle.sx_sancus.proofs.identity.feed_public.Given as goal

abbrev pub invariant-loop-i : goal.invariant-loop-i
invariant-loop-i g l = (answer : List ℕ → List ℕ) (fed : List ℕ) → Leads g.T.Tag.has g.T.Tag.mac answer l.fn.run fed
    → Leads g.T.Tag.has g.T.Tag.mac answer l.run (fed ++ bytes_from l.executor.mem l.layout.pub_from (64 * l.i))
