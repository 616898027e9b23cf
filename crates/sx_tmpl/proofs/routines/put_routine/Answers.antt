use Rattle.std.proofs.Common.{◌++◌}
use Rattle.sx_tmpl.specs.Template.{counting, packet_copy, wrapping}
use Rattle.sx_tmpl.proofs.Putting.{then_rest}
use Rattle.sx_tmpl.proofs.routines.put_routine.Goals as goal

pub returns : goal.returns
returns c =
    let all = c.put_counting.new.text.items in
    let copied = c.put_packet_copy.new.text.items in
    let rest = then_rest c.put_counting.result (packet_copy c.args.base) (counting c.args.base c.args.end) c.put_wrapping.new.text.items copied all c.in_ok-put_packet_copy.ensures c.put_counting.ensures in
    then_rest c.put_counting.result (wrapping c.args.base c.args.end) (packet_copy c.args.base ++ counting c.args.base c.args.end) c.args.text.now.items c.put_wrapping.new.text.items all c.in_ok-put_wrapping.ensures rest
