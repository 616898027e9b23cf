use Rattle.std.proofs.Common.{◌≡◌, ◌/◌, ◌%◌, true, false, get_or, sym, ◌∙◌, arith}
use Rattle.sx_pages.proofs.Kept.{written}
use Rattle.sx_pages.proofs.Views.{is_live-pages_of, read-is}
use Rattle.sx_pages.proofs.arena.Arena.read_at.Goals as goal

pub byte_at-requires : goal.byte_at-requires
byte_at-requires c =
    let a = c.self.inside in let same = c.self.invariant.2.flags ∙ sym a.block.shaped.0 in
    let live : get_or a.lives (c.args.place / 256) false ≡ true = sym (is_live-pages_of a.lives a.block.pages (c.args.place / 256) same) ∙ (rw c.self.view_is c.requires.live) in
    (c.requires.within, written a.lives a.block.pages a.head a.free (c.args.place / 256) (c.args.place % 256) a.block.shaped c.self.invariant.2 (omega (arith, c.requires.within)) (omega arith) live)

pub returns : goal.returns
returns c =
    let a = c.self.inside in let same = c.self.invariant.2.flags ∙ sym a.block.shaped.0 in
    let live : get_or a.lives (c.args.place / 256) false ≡ true = sym (is_live-pages_of a.lives a.block.pages (c.args.place / 256) same) ∙ (rw c.self.view_is c.requires.live) in
    rw (← c.self.view_is) (read-is a.lives a.block.pages (c.args.place / 256) (c.args.place % 256) c.byte_at.result.now same live c.byte_at.ensures)
