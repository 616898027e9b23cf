use Rattle.std.proofs.Common.{◌≡◌, ◌∙◌, ◌<◌, ap, arith, length, drop, ℕ}
use Rattle.command_promise.specs.declared.status.Status.TheVariants.{Done}
use Rattle.sx_asm.specs.Meaning.{further}
use Rattle.sx_asm.specs.Shown.{listed}
use Rattle.command_text.specs.Output.{end_line}
use Rattle.command_asm.proofs.LeftLines.{left_new, left_line, left_stop, left_end, some_word, no_word}
use Rattle.command_asm.proofs.Sizes.{listed_sized}
use Rattle.command_promise.specs.declared.turned.Turned.TheVariants.{Stop}
use Rattle.command_text.proofs.Ends.{never_six}
use Rattle.command_asm.proofs.listing.list.Goals as goal

pub lines-init : goal.lines-init
lines-init g c = record { even = c.requires.even; lines = left_new _ _ _ _ }

pub returns-in-Stop-clause-ends : goal.returns-in-Stop-clause-ends
returns-in-Stop-clause-ends g c =
    let rest = c.lines.rest.now in
    let long = some_word rest c.is_empty.result c.is_empty.ensures c.lines-test.true c.lines.invariant.even in
    left_stop c.lines.address rest c.as_slice.result.now long c.lines.invariant.lines (c.as_slice.ensures.value ∙ c.first_line-line.ensures.line)
    c.in-Stop.ensures.does

pub returns-in-Stop-clause-memory : goal.returns-in-Stop-clause-memory
returns-in-Stop-clause-memory g c = λ six. c.in-Stop.ensures.memory (ap Stop six)

pub split_at-requires : goal.split_at-requires
split_at-requires g c =
    let rest = c.lines.rest.now in
    let long = some_word rest c.is_empty.result c.is_empty.ensures c.lines-test.true c.lines.invariant.even in
    let sized = listed_sized c.lines.address rest long in
    omega (arith, sized.within, c.first_line-line.ensures.size)

pub lines-smaller : goal.lines-smaller
lines-smaller g c =
    let rest = c.lines.rest.now in
    let long = some_word rest c.is_empty.result c.is_empty.ensures c.lines-test.true c.lines.invariant.even in
    let sized = listed_sized c.lines.address rest long in
    let less : length c.split_at.result.1.now < length rest =
    omega (arith, sized.some, c.first_line-line.ensures.size, c.from.ensures, c.split_at.ensures.back_len, c.split_at.ensures.front_len) in
    less

pub lines-preserved : goal.lines-preserved
lines-preserved g c =
    let rest = c.lines.rest.now in
    let long = some_word rest c.is_empty.result c.is_empty.ensures c.lines-test.true c.lines.invariant.even in
    let sized = listed_sized c.lines.address rest long in
    let size : c.from.result ≡ (listed c.lines.address rest).1 = c.from.ensures ∙ c.first_line-line.ensures.size in
    record {
      even = omega (arith, sized.even, size, c.split_at.ensures.back_len, c.split_at.ensures.front_len, c.lines.invariant.even);
      lines =
          left_line c.lines.address _ rest _ c.as_slice.result.now long c.lines.invariant.lines
          (c.as_slice.ensures.value ∙ c.first_line-line.ensures.line)
          (ap (further c.lines.address) (c.from-address.ensures ∙ c.first_line-line.ensures.size))
          (c.split_at.ensures.back ∙ ap (λ (n : ℕ). drop n rest) size)
          c.in_default.ensures.does;
    }

pub returns-clause-ends : goal.returns-clause-ends
unfolding end_line
returns-clause-ends g c =
    let rest = c.lines.rest.now in
    left_end c.lines.address rest (no_word rest c.is_empty.result c.is_empty.ensures c.lines-test.false) c.lines.invariant.lines c.finish.ensures.ends

pub returns-clause-memory : goal.returns-clause-memory
returns-clause-memory g c = never_six _ Done c.finish.ensures.status (λ e. cc e)
