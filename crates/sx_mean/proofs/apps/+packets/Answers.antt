use Rattle.std.proofs.Common.{arith, ap}
use Rattle.std.proofs.lemmas.Grind.{common_steps}
use Rattle.sx_mean.specs.Application.{links_from}
use Rattle.sx_mean.specs.Packets.{statement_packets}
use Rattle.sx_mean.proofs.apps.+packets.Goals as goal
use Rattle.sx_lang.proofs.Rows.{if_seen, repeat_seen}
use Rattle.sx_check.proofs.Turns.{sends_cut}

pub packets_of_statement-returns-in-If : goal.packets_of_statement-returns-in-If
packets_of_statement-returns-in-If t c =
    grind (arith, common_steps, ap (statement_packets (links_from c.args.links.now c.args.part) c.args.decls.now) (if_seen _ c.in-If.field-0 c.in-If.then c.in-If.otherwise c.in-If.is))

pub packets_of_statement-returns-in-Repeat : goal.packets_of_statement-returns-in-Repeat
packets_of_statement-returns-in-Repeat t c =
    grind (arith, common_steps, sends_cut, ap (statement_packets (links_from c.args.links.now c.args.part) c.args.decls.now) (repeat_seen _ c.in-Repeat.n c.in-Repeat.body c.in-Repeat.is))
