use Rattle.std.proofs.Common.{sym, length}
use Rattle.sx_io.proofs.Parts.{next_open}
use Rattle.sx_io.proofs.lines.Lines.next_within.Goals as goal

pub returns-in-Open-clause-next : goal.returns-in-Open-clause-next
returns-in-Open-clause-next g c =
    next_open (length c.args.into.now) g.S.Source.tells (g.S.Source.at c.args.source.now) (g.S.Source.at c.take_line.new.source) c.args.self.now c.take_line.new.self
    c.take_line.new.front c.take_line.result c.take_line.ensures.room (sym c.in-Open.ensures.state) c.take_line.ensures.takes
