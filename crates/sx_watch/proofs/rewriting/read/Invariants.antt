use Rattle.std.specs.Prelude.{◌≡◌, ◌++◌, drop, length}
use Rattle.sx_watch.specs.declared.rewriting.Mode.TheVariants.{Plain}
use Rattle.sx_watch.specs.Rewriting.{read}
use Rattle.sx_watch.proofs.rewriting.read.Given as goal

abbrev pub invariant-loop-token : goal.invariant-loop-token
invariant-loop-token l =
    (l.heads.items ++ (read l.mode (length l.heads.items) (drop l.token-index l.tokens)).0 ≡ (read Plain 0 l.tokens).0)
    × (l.list.items ++ (read l.mode (length l.heads.items) (drop l.token-index l.tokens)).1 ≡ (read Plain 0 l.tokens).1)
