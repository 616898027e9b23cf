use Rattle.command_snap.proofs.queries.query_of_kind.Goals as goal

pub returns-then-eq-3-clause-asked : goal.returns-then-eq-3-clause-asked
returns-then-eq-3-clause-asked c = c.items_query.ensures.asked c.args.names.now
