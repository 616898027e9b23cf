use Rattle.std.proofs.Common.{◌∙◌, arith}
use Rattle.sx_paged.proofs.Starts.{live-place, read-kept}
use Rattle.sx_paged.proofs.paged.Paged.get.Goals as goal

pub read_at-requires-clause-live : goal.read_at-requires-clause-live
read_at-requires-clause-live c =
    let inside = c.self.inside in
    live-place inside.arena inside.starts inside.blank c.self.invariant c.args.at c.place_of.result (omega (arith, c.ranges.at.fits)) c.place_of.ensures

pub returns : goal.returns
returns c =
    let inside = c.self.inside in
    rw (← c.self.view_is) (c.read_at.ensures
    ∙ read-kept inside.arena inside.starts inside.blank c.self.invariant c.args.at c.place_of.result (omega (arith, c.ranges.at.fits)) c.place_of.ensures)
