use Rattle.std.proofs.Common.{sym, ◌∙◌}
use Rattle.std.proofs.lemmas.Map.Views.{btree_set_contains_iff}
use Rattle.sx_ledger.specs.contracts.entry.EntryOrd.TheImpl.Laws as order_laws
use Rattle.sx_ledger.proofs.Order.{exact_entry}
use Rattle.sx_ledger.proofs.Sets.{adds}
use Rattle.sx_ledger.proofs.ledger.Ledger.made.Goals as goal
use Rattle.sx_ledger.proofs.ledger.Ledger.made.Goals.{in-Ok, in-Err}

pub returns-clause-added : goal.returns-clause-added
returns-clause-added c = elim c.match-insert.branch [
  | in-Ok w ↦
      let h = w.in-Ok.ensures.updates in
      rw (w.result-is, ← c.self.view_is) (adds (order_laws.lawful).total exact_entry c.self.inside.entries c.insert.new.self c.args.entry h.0 h.1)
  | in-Err w ↦ rw w.result-is tt
]

pub returns-clause-absent : goal.returns-clause-absent
returns-clause-absent c = elim c.match-insert.branch [
  | in-Ok w ↦ rw w.result-is tt
  | in-Err w ↦
      rw (w.result-is, ← c.self.view_is)
      (λ there. absurd (cc (sym w.in-Err.ensures.absent
      ∙ (btree_set_contains_iff (order_laws.lawful).total exact_entry c.self.inside.entries c.args.entry).1 there)))
]
