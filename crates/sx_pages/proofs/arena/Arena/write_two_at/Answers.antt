use Rattle.std.proofs.Common.{◌≡◌, ◌+◌, ◌/◌, ◌%◌, ◌<◌, true, false, get_or, refl, sym, ◌∙◌, arith}
use Rattle.sx_pages.specs.Arena.{with_slot}
use Rattle.sx_pages.proofs.Kept.{IsArena-write}
use Rattle.sx_pages.proofs.Slots.{IsArenaBlock-set}
use Rattle.sx_pages.proofs.Views.{is_live-pages_of, write-is}
use Rattle.sx_pages.proofs.arena.Arena.write_two_at.Goals as goal

pub put_two_at-requires : goal.put_two_at-requires
put_two_at-requires c = omega (arith, c.requires.within, c.requires.inside)

pub invariant_of-self : goal.invariant_of-self
invariant_of-self c =
    let a = c.self.inside in let same = c.self.invariant.2.flags ∙ sym a.block.shaped.0 in
    let place = c.args.place in let p = place / 256 in let at = place % 256 in let low = c.args.low in
    let live : get_or a.lives p false ≡ true = sym (is_live-pages_of a.lives a.block.pages p same) ∙ (rw c.self.view_is c.requires.live) in
    let within : p < 256 = omega (arith, c.requires.within) in
    let page : (place + 1) / 256 ≡ p = omega (arith, c.requires.inside) in
    let index : (place + 1) % 256 ≡ at + 1 = omega (arith, c.requires.inside) in (
      c.self.invariant.0 ∙ sym c.put_two_at.ensures.0,
      c.self.invariant.1,
      rw (c.put_two_at.ensures.1, page, index)
          (IsArena-write a.lives (with_slot a.block.pages p at low) a.head a.free p (at + 1) c.args.high
          (IsArenaBlock-set a.block.pages p at low within a.block.shaped)
          (IsArena-write a.lives a.block.pages a.head a.free p at low a.block.shaped c.self.invariant.2 within live) within live),
    )

pub returns : goal.returns
returns c =
    let a = c.self.inside in let same = c.self.invariant.2.flags ∙ sym a.block.shaped.0 in
    let place = c.args.place in let p = place / 256 in let at = place % 256 in let low = c.args.low in
    let live : get_or a.lives p false ≡ true = sym (is_live-pages_of a.lives a.block.pages p same) ∙ (rw c.self.view_is c.requires.live) in
    let within : p < 256 = omega (arith, c.requires.within) in
    let page : (place + 1) / 256 ≡ p = omega (arith, c.requires.inside) in
    let index : (place + 1) % 256 ≡ at + 1 = omega (arith, c.requires.inside) in
    let shaped = IsArenaBlock-set a.block.pages p at low within a.block.shaped in
    rw (c.put_two_at.ensures.1, page, index, ← c.self.view_is)
    (write-is a.lives (with_slot a.block.pages p at low) p (at + 1) c.args.high (c.self.invariant.2.flags ∙ sym shaped.0) live
    ∙ rw (write-is a.lives a.block.pages p at low same live) refl)
