use Rattle.std.proofs.Common.{List, drop, take}
use Rattle.sx_isa.specs.declared.instruction.Instr.{Instr}
use Rattle.sx_tmpl.specs.Template.{packet_copy, turns}
use Rattle.sx_tmpl.proofs.Putting.{then_rest}
use Rattle.sx_tmpl.proofs.routines.put_packet_copy.Goals as goal

pub returns : goal.returns
returns c =
    let is : List Instr = packet_copy c.args.base in
    let all = c.put_turns.new.text.items in
    let from_8 = then_rest c.put_turns.result (take 2 (drop 8 is)) (turns 8) c.put_four-2.new.text.items c.put_two.new.text.items all c.in_ok-put_two.ensures c.put_turns.ensures in
    let from_4 = then_rest c.put_turns.result (take 4 (drop 4 is)) (drop 8 is) c.put_four.new.text.items c.put_four-2.new.text.items all c.in_ok-put_four-2.ensures from_8 in
    then_rest c.put_turns.result (take 4 is) (drop 4 is) c.args.text.now.items c.put_four.new.text.items all c.in_ok-put_four.ensures from_4
