use Rattle.std.proofs.Common.{arith, ap, drop, ◌-◌}
use Rattle.std.proofs.lemmas.List.{length-take}
use Rattle.sx_io.specs.Next.{Ahead}
use Rattle.sx_io.proofs.Parts.{part_view}
use Rattle.sx_io.proofs.lines.Lines.take_part.Goals as goal

pub returns-clause-takes : goal.returns-clause-takes
returns-clause-takes c line h =
    part_view c.args.limit line c.self.inside.held _ c.self.inside.from c.self.inside.to c.take_chunk-part.result.1 c.take_chunk-part.result.0 c.take_chunk-part.new.front
    (omega (arith, c.take_chunk-part.ensures.used, length-take (c.self.inside.to - c.self.inside.from) (drop c.self.inside.from c.self.inside.held)))
    (ap (λ (a : Ahead). a.held) c.self.view_is) (c.take_chunk-part.ensures.takes line h)
