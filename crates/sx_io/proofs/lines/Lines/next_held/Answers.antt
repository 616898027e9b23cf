use Rattle.std.proofs.Common.{sym}
use Rattle.sx_io.proofs.Scans.{gives-held}
use Rattle.sx_io.proofs.lines.Lines.next_held.Goals as goal

pub returns-in-Open : goal.returns-in-Open
returns-in-Open c =
    let e = c.held_line.ensures in
    gives-held c.args.self.now c.held_line.new.self c.held_line.new.into c.held_line.result (sym c.in-Open.ensures.state) e.state e.took e.none e.plain
