use Rattle.sx_tmpl.proofs.Texts.TextTurns.{whole}
use Rattle.sx_tmpl.proofs.text.put_text.Goals as goal

pub returns : goal.returns
returns c =
    whole c.args.layout.now c.args.code.now c.args.text.now.items c.put_entry.new.text.items c.put_operations.new.text.items c.put_exit.new.text.items c.put_slots.new.text.items
    c.put_packets.new.text.items c.put_words.new.text.items
    c.in_ok-put_entry.ensures c.in_ok-put_operations.ensures c.in_ok-put_exit.ensures c.in_ok-put_slots.ensures c.in_ok-put_packets.ensures c.in_ok-put_words.ensures
