use Rattle.std.proofs.Common.{sym, ◌∙◌}
use Rattle.sx_asm.proofs.Growing.{adds_label}
use Rattle.sx_asm.proofs.reading.add_label.Goals as goal

pub returns : goal.returns
returns c =
    rw c.in-Some.ensures.cases.0
    (adds_label c.args.name.now c.in-Some.colon.now c.in-Some.rest.now c.args.line c.args.entries.now.items c.add.new.entries.items
    c.add_statement.new.entries.items c.add_statement.result (sym c.is_colon.ensures ∙ c.if-not-is_colon.false)
    c.in_ok-add.ensures.added c.add_statement.ensures)
