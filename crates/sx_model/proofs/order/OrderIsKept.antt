-- Worked runs, by computing.
use Rattle.std.proofs.Common.{refl}
use Rattle.sx_model.specs.order.Laws.{OrderIsKept}

pub order_is_kept : OrderIsKept
unfolding Rattle.sx_model.specs.State.FIELDS
order_is_kept = record { lit = refl; renewal = refl; before = refl; not_before = refl; not_lost = refl; behind = refl; owed = refl; once = refl; pieces = refl }
