use Rattle.std.proofs.Common.{◌≡◌, ◌∷◌, ◌+◌, ◌≤◌, true, length, refl, sym, ◌∙◌, arith}
use Rattle.sx_asm.specs.Reading.{parts, line_fits, is_newline}
use Rattle.sx_asm.proofs.Lines.{fits_left, next_line}
use Rattle.sx_asm.proofs.reading.read.Goals as goal

pub overflow_sub-left : goal.overflow_sub-left
overflow_sub-left c =
    let line = c.split_line.result.0.now in
    let e : line_fits c.loop-line.left line (parts is_newline c.in-Some.more.now) ≡ true =
    rw c.in-Some.is at (sym c.line_fits.ensures ∙ c.if-not-line_fits.false) in
    fits_left c.loop-line.left line c.in-Some.more.now e

pub loop-line-preserved : goal.loop-line-preserved
loop-line-preserved c =
    let line = c.split_line.result.0.now in
    let more = parts is_newline c.in-Some.more.now in
    let e : line_fits c.loop-line.left line more ≡ true =
    rw c.in-Some.is at (sym c.line_fits.ensures ∙ c.if-not-line_fits.false) in
    let f : parts is_newline c.loop-line.rest.now ≡ line ∷ more = c.split_line.ensures.parts ∙ (rw c.in-Some.is refl) in
    let low : length line + 1 ≤ c.loop-line.left = fits_left c.loop-line.left line c.in-Some.more.now e in
    record {
      lines =
          c.loop-line.invariant.lines
          ∙ (rw f (next_line c.loop-line.number c.loop-line.left line c.in-Some.more.now c.loop-line.entries.items c.add_line.new.entries.items
          e c.in_ok-add_line.ensures));
      within = omega (arith, low, c.loop-line.invariant.within);
    }
