use Rattle.std.proofs.Common.{◌∙◌, sym, arith}
use Rattle.sx_wire.proofs.Words.{split_parts}
use Rattle.sx_wire.proofs.reading.read_event.Goals as goal

pub returns-clause-packet : goal.returns-clause-packet
returns-clause-packet c =
    split_parts 3 2 c.args.bytes.now c.read_u16.result c.read_u16-2.result c.copy_from_slice.new.self c.copy_from_slice-2.new.self
    (omega arith) (λ i. let fits = c.type_inv.bytes i in omega arith) (sym c.begins.ensures ∙ c.if-not-begins.false) c.read_u16.ensures c.read_u16-2.ensures
    c.copy_from_slice.ensures.after c.copy_from_slice-2.ensures.after
