use Rattle.std.proofs.Common.{◌<◌, refl, sym, ◌∙◌, arith}
use Rattle.sx_pages.proofs.Kept.{positive, linked, IsArena-take}
use Rattle.sx_pages.proofs.Views.{is_live-pages_of, size-pages_of, take-is}
use Rattle.sx_pages.proofs.arena.Arena.take.Goals as goal

pub returns-then-self-eq0 : goal.returns-then-self-eq0
returns-then-self-eq0 c =
    let a = c.self.inside in
    (rw (← c.self.view_is) (omega (arith, size-pages_of a.lives a.block.pages (c.self.invariant.2.flags ∙ sym a.block.shaped.0), c.self.invariant.2.counted, c.if-self-eq0.true)), refl)

pub invariant_of-self : goal.invariant_of-self
invariant_of-self c =
    let a = c.self.inside in (
      c.self.invariant.0 ∙ sym c.clear.ensures.0,
      c.self.invariant.1,
      rw (c.clear.ensures.1, c.mark.ensures)
          (IsArena-take a.lives a.block.pages a.head a.free c.byte.result.now a.block.shaped c.self.invariant.2 (positive a.free c.if-self-eq0.false) c.byte.ensures),
    )

pub returns : goal.returns
returns c =
    let a = c.self.inside in let same = c.self.invariant.2.flags ∙ sym a.block.shaped.0 in
    let some : 0 < a.free = positive a.free c.if-self-eq0.false in
    let it = linked a.lives a.block.pages a.head a.free c.self.invariant.2 some in
    rw (c.clear.ensures.1, c.mark.ensures, ← c.self.view_is) (
      it.0,
      omega (arith, size-pages_of a.lives a.block.pages same, c.self.invariant.2.counted, some),
      is_live-pages_of a.lives a.block.pages a.head same ∙ it.1,
      take-is a.lives a.block.pages a.head same,
    )
