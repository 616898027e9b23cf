use Rattle.std.proofs.Common.{◌∙◌, ap, sym}
use Rattle.std.specs.Prelude.{option_map}
use Rattle.command_explain.specs.Trace.{said_by}
use Rattle.command_explain.specs.declared.lines.TraceLine.TheVariants as kind
use Rattle.command_explain.proofs.Found.{one_item}
use Rattle.command_explain.proofs.lines.line_of.Goals as goal

pub returns : goal.returns
returns c = λ means is.
    let names = c.args.names.now in
    let text = c.args.text.now in
    let item = means.item names text in
    c.item_line.ensures
    ∙ ap (option_map kind.Item) (one_item names text c.read_item.result item c.requires c.read_item.ensures (is.item names text c.requires))
    ∙ ap (λ last. said_by last item) (sym c.if-is_last.false ∙ c.is_last.ensures)
