use Rattle.std.proofs.Common.{◌∙◌, ap, sym, arith}
use Rattle.sx_isa.specs.Reading.{length_of}
use Rattle.sx_isa.proofs.Agreement.{length_illegal, none_where}
use Rattle.sx_isa.proofs.Lengths.{length_of_spelling}
use Rattle.sx_isa.proofs.reading.length.Goals as goal

pub returns-clause-only : goal.returns-clause-only
returns-clause-only c = λ i h e. c.length_at.ensures ∙ (ap length_of (sym e) ∙ length_of_spelling i h)

pub returns-clause-none : goal.returns-clause-none
returns-clause-none c = none_where c.length_at.result _ c.args.w0 c.length_at.ensures (length_illegal c.args.w0 (omega arith))
