use Rattle.std.proofs.lemmas.Map.Views.{btree_set_contains_iff}
use Rattle.sx_ledger.specs.contracts.entry.EntryOrd.TheImpl.Laws as order_laws
use Rattle.sx_ledger.proofs.Order.{exact_entry}
use Rattle.sx_ledger.proofs.ledger.Ledger.is_made.Goals as goal

pub returns : goal.returns
returns c = rw (c.contains.ensures, ← c.self.view_is) (btree_set_contains_iff (order_laws.lawful).total exact_entry c.self.inside.entries c.args.entry.now)
