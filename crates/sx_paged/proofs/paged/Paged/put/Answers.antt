use Rattle.std.proofs.Common.{◌/◌, ◌%◌, arith}
use Rattle.sx_paged.proofs.Starts.{live-place, place-page, write-kept, IsKept-write}
use Rattle.sx_paged.proofs.paged.Paged.put.Goals as goal

pub write_at-requires-clause-live : goal.write_at-requires-clause-live
write_at-requires-clause-live c =
    let inside = c.self.inside in
    live-place inside.arena inside.starts inside.blank c.self.invariant c.args.at c.place_of.result (omega (arith, c.ranges.at.fits)) c.place_of.ensures

pub invariant_of-self : goal.invariant_of-self
invariant_of-self c =
    let inside = c.self.inside in let is = c.self.invariant in let i = c.args.at / 256 in
    rw c.write_at.ensures (IsKept-write inside.arena inside.starts inside.blank is i _ _ (omega (arith, c.ranges.at.fits)) c.if-start-self.true
    (place-page inside.arena inside.starts inside.blank is i (c.args.at % 256) c.place_of.result (omega arith) c.place_of.ensures))

pub returns-then-start-self : goal.returns-then-start-self
returns-then-start-self c =
    let inside = c.self.inside in
    rw (c.write_at.ensures, ← c.self.view_is)
    (write-kept inside.arena inside.starts inside.blank c.self.invariant c.args.at c.place_of.result c.args.byte (omega (arith, c.ranges.at.fits)) c.if-start-self.true c.place_of.ensures)
