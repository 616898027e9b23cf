use Rattle.std.specs.Prelude.{◌≡◌, ◌++◌, drop}
use Rattle.sx_watch.specs.Rewriting.{placed}
use Rattle.sx_watch.proofs.rewriting.put.Given as goal

abbrev pub invariant-loop-kind : goal.invariant-loop-kind
invariant-loop-kind l = l.list.items ++ placed l.place (drop l.kind-index l.kinds) ≡ l.fn.list.items ++ placed l.place l.kinds
