use Rattle.std.proofs.Common.{◌≡◌, ◌++◌, drop}
use Rattle.sx_tmpl.specs.Text.{addresses, bytes_of, words_of}
use Rattle.sx_tmpl.proofs.text.put_operations.Given as goal

abbrev pub invariant-loop-place : goal.invariant-loop-place
invariant-loop-place l =
    l.text.items ++ bytes_of (words_of l.fn.layout (addresses l.fn.layout l.fn.code) l.place (drop l.place l.operation-items))
    ≡ l.fn.text.items ++ bytes_of (words_of l.fn.layout (addresses l.fn.layout l.fn.code) 0 l.operation-items)
