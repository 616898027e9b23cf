use Rattle.std.proofs.Common.{◌∙◌, ◌++◌, ap, arith, length-take, List, ℕ}
use Rattle.sx_asm.specs.Shown.{listed}
use Rattle.command_asm.proofs.LeftLines.{line_is, front_is}
use Rattle.command_asm.proofs.Sizes.{listed_sized}
use Rattle.command_asm.proofs.listing.first_line.Goals as goal

pub slice_bounds-put_bytes-end : goal.slice_bounds-put_bytes-end
slice_bounds-put_bytes-end c =
    let sized = listed_sized c.args.at c.args.code.now c.requires in
    omega (arith, sized.within, c.dis-length.ensures.bytes, c.from.ensures, length-take c.from.result c.args.code.now)

pub put_bytes-requires-clause-few : goal.put_bytes-requires-clause-few
put_bytes-requires-clause-few c =
    let sized = listed_sized c.args.at c.args.code.now c.requires in
    omega (arith, sized.few, c.dis-length.ensures.bytes, c.from.ensures, length-take c.from.result c.args.code.now)

pub returns-clause-line : goal.returns-clause-line
returns-clause-line c =
    line_is c.args.at c.from.result c.args.code.now _ _ _ _ _ _ _ _ c.new-text.ensures
    (c.put.ensures ∙ ap (λ (t : List ℕ). c.new-text.result.items ++ t) c.address.ensures) c.put-2.ensures c.put_bytes.ensures.added
    c.put-3.ensures c.put-4.ensures c.put-5.ensures (c.from.ensures ∙ c.dis-length.ensures.bytes)
    (front_is (listed c.args.at c.args.code.now).0 _ _ _ c.dis-length.ensures.text c.dis-length.ensures.length)
