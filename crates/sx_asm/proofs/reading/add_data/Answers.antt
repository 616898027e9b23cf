use Rattle.std.proofs.Common.{◌≡◌, None, sym, ◌∙◌}
use Rattle.sx_asm.specs.Grammar.{data_of}
use Rattle.sx_asm.proofs.Growing.{fault_stays, no_value, no_comma, next_value, last_value}
use Rattle.sx_asm.proofs.reading.add_data.Goals as goal

pub returns-in_default-value : goal.returns-in_default-value
returns-in_default-value c =
    let n : data_of c.loop-first.rest.now ≡ None =
    rw c.in-Some.ensures.cases.0 (no_value c.in-Some.first.now c.in-Some.more.now (sym c.value.ensures ∙ c.in_default-value.is)) in
    fault_stays c.args.entries.now.items c.loop-first.entries.items c.loop-first.entries.items c.args.line
    (data_of c.args.tokens.now) (data_of c.loop-first.rest.now) c.not_written-in_default-value.result
    c.loop-first.invariant n c.not_written-in_default-value.ensures

pub returns-then-not-is_comma : goal.returns-then-not-is_comma
returns-then-not-is_comma c =
    let n : data_of c.loop-first.rest.now ≡ None =
    rw (c.in-Some.ensures.cases.0, c.in-Some-split_first.ensures.cases.0)
    (no_comma c.in-Some.first.now c.in-Some-split_first.comma.now c.in-Some-split_first.more.now
    (sym c.is_comma.ensures ∙ c.if-not-is_comma.true)) in
    fault_stays c.args.entries.now.items c.loop-first.entries.items c.add.new.entries.items c.args.line
    (data_of c.args.tokens.now) (data_of c.loop-first.rest.now) c.not_written-then-not-is_comma.result
    c.loop-first.invariant n c.not_written-then-not-is_comma.ensures

pub returns-in_default-split_first : goal.returns-in_default-split_first
returns-in_default-split_first c =
    c.loop-first.invariant
    ∙ (rw c.in-Some.ensures.cases.0
    (last_value c.in-Some.first.now c.in-Some.more.now c.in-Some-value.value c.args.line c.loop-first.entries.items c.add.new.entries.items
    c.in_default-split_first.ensures.cases (sym c.value.ensures ∙ c.in-Some-value.is) c.in_ok-add.ensures.added))

pub loop-first-preserved : goal.loop-first-preserved
loop-first-preserved c =
    c.loop-first.invariant
    ∙ (rw (c.in-Some.ensures.cases.0, c.in-Some-split_first.ensures.cases.0)
    (next_value c.in-Some.first.now c.in-Some-split_first.comma.now c.in-Some-split_first.more.now c.in-Some-value.value c.args.line
    c.loop-first.entries.items c.add.new.entries.items (sym c.value.ensures ∙ c.in-Some-value.is)
    (sym c.is_comma.ensures ∙ c.if-not-is_comma.false) c.in_ok-add.ensures.added))
