use Rattle.std.proofs.Common.{◌∙◌, ap}
use Rattle.sx_entries.specs.Documents.{document_of}
use Rattle.sx_entries.proofs.Texts.{never_both, table_of-text, table_of-no_text}
use Rattle.sx_entries.proofs.documents.table_of.Goals as goal

pub returns-in-Err-clause-gives : goal.returns-in-Err-clause-gives
returns-in-Err-clause-gives c = table_of-no_text c.args.text.now c.in-Err.ensures.cases.0

pub returns-in-Ok-table_from_str-clause-gives : goal.returns-in-Ok-table_from_str-clause-gives
returns-in-Ok-table_from_str-clause-gives c =
    table_of-text c.args.text.now c.in-Ok.ensures.cases.1 ∙ ap document_of (rw c.in-Ok.ensures.cases.0 at c.in-Ok-table_from_str.ensures.ok)

pub returns-in-Err-table_from_str-clause-memory : goal.returns-in-Err-table_from_str-clause-memory
returns-in-Err-table_from_str-clause-memory c = λ no_text. absurd (never_both c.args.text.now c.in-Ok.ensures.cases.1 no_text)
