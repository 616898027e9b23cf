use Rattle.std.proofs.Common.{arith, ap, sym, ◌∙◌, length, option_to_list, length-append}
use Rattle.sx_isa.proofs.Spelled.{three_read}
use Rattle.sx_isa.proofs.writing.encode.Goals as goal

pub returns-clause-read_back : goal.returns-clause-read_back
returns-clause-read_back c =
    three_read c.in_order.result.w c.args.i.now c.in_order.result.len (omega arith) (
      c.requires,
      omega (arith, ap length c.parts_of.ensures, length-append (option_to_list c.parts_of.result.source) (option_to_list c.parts_of.result.destination)),
      c.in_order.ensures.words ∙ sym c.parts_of.ensures,
    )
