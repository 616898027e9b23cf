use Rattle.std.proofs.Common.{◌∙◌, arith}
use Rattle.sx_isa.proofs.Agreement.{decode_found, reading_none, none_where}
use Rattle.sx_isa.proofs.Spelled.{reads}
use Rattle.sx_isa.proofs.reading.decode.Goals as goal

pub returns-clause-found : goal.returns-clause-found
returns-clause-found c = decode_found c.args.w0 c.args.w1 c.args.w2 c.front.result (omega arith) (omega arith) (omega arith) c.front.ensures

pub returns-clause-only : goal.returns-clause-only
returns-clause-only c = λ i n b. c.front.ensures ∙ reads c.args.w0 c.args.w1 c.args.w2 i n b

pub returns-clause-none : goal.returns-clause-none
returns-clause-none c = none_where c.front.result _ c.args.w0 c.front.ensures (reading_none c.args.w0 c.args.w1 c.args.w2 (omega arith) (omega arith) (omega arith))
