use Rattle.std.proofs.Common.{◌≡◌, take, drop, []}
use Rattle.sx_entries.specs.Lines.{first_bad}
use Rattle.sx_entries.proofs.lines.first_bad.Given as goal

abbrev pub invariant-loop-i : goal.invariant-loop-i
invariant-loop-i g l =
    first_bad (g.L.Line.bad l.line) (take l.i l.rows) (drop l.i l.rows) ≡ first_bad (g.L.Line.bad l.line) [] l.rows
