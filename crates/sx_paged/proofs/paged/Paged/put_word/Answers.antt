use Rattle.std.proofs.Common.{◌≡◌, ◌/◌, ◌%◌, ◌<◌, get_or, map, arith}
use Rattle.sx_pages.specs.Pages.{with_byte}
use Rattle.sx_paged.specs.Paged.{number}
use Rattle.sx_paged.proofs.Starts.{live-place, place-page, word-kept, IsKept-write}
use Rattle.sx_paged.proofs.paged.Paged.put_word.Goals as goal

pub write_two_at-requires-clause-live : goal.write_two_at-requires-clause-live
write_two_at-requires-clause-live c =
    let inside = c.self.inside in
    live-place inside.arena inside.starts inside.blank c.self.invariant c.args.at c.place_of.result (omega (arith, c.ranges.at.fits)) c.place_of.ensures

pub invariant_of-self : goal.invariant_of-self
invariant_of-self c =
    let i = c.args.at / 256 in let place = c.place_of.result in let low = c.args.value % 256 in
    let arena = c.self.inside.arena in let starts = c.self.inside.starts in let blank = c.self.inside.blank in
    let within : i < 256 = omega (arith, c.ranges.at.fits) in
    let page : place / 256 ≡ get_or (map number starts) i 0 = place-page arena starts blank c.self.invariant i (c.args.at % 256) place (omega arith) c.place_of.ensures in
    rw c.write_two_at.ensures (IsKept-write (with_byte arena (place / 256) (place % 256) low) starts blank
    (IsKept-write arena starts blank c.self.invariant i (place / 256) _ within c.if-start-self.true page) i (place / 256) _ within c.if-start-self.true page)

pub returns-then-start-self : goal.returns-then-start-self
returns-then-start-self c =
    let inside = c.self.inside in
    rw (c.write_two_at.ensures, ← c.self.view_is) (word-kept inside.arena inside.starts inside.blank c.self.invariant c.args.at c.place_of.result (c.args.value % 256) (c.args.value / 256)
    (omega (arith, c.ranges.at.fits)) c.requires c.if-start-self.true c.place_of.ensures)
