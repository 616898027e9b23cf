use Rattle.std.proofs.Common.{◌≡◌, ◌/◌, ◌%◌, true, false, get_or, sym, ◌∙◌, arith}
use Rattle.sx_pages.proofs.Kept.{IsArena-write}
use Rattle.sx_pages.proofs.Views.{is_live-pages_of, write-is}
use Rattle.sx_pages.proofs.arena.Arena.write_at.Goals as goal

pub invariant_of-self : goal.invariant_of-self
invariant_of-self c =
    let a = c.self.inside in let same = c.self.invariant.2.flags ∙ sym a.block.shaped.0 in let p = c.args.place / 256 in
    let live : get_or a.lives p false ≡ true = sym (is_live-pages_of a.lives a.block.pages p same) ∙ (rw c.self.view_is c.requires.live) in (
      c.self.invariant.0 ∙ sym c.put_at.ensures.0,
      c.self.invariant.1,
      rw c.put_at.ensures.1
          (IsArena-write a.lives a.block.pages a.head a.free p (c.args.place % 256) c.args.byte a.block.shaped c.self.invariant.2
          (omega (arith, c.requires.within)) live),
    )

pub returns : goal.returns
returns c =
    let a = c.self.inside in let same = c.self.invariant.2.flags ∙ sym a.block.shaped.0 in let p = c.args.place / 256 in
    let live : get_or a.lives p false ≡ true = sym (is_live-pages_of a.lives a.block.pages p same) ∙ (rw c.self.view_is c.requires.live) in
    rw (c.put_at.ensures.1, ← c.self.view_is) (write-is a.lives a.block.pages p (c.args.place % 256) c.args.byte same live)
