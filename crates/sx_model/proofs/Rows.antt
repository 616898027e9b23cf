-- The worked runs, by computing.
use Rattle.std.proofs.Common.{refl}
use Rattle.sx_model.specs.Laws.{LightingIsLegal, DoneNeedsEmits, EventsAreTaken, DriverIsAlone, VouchedAreAttested, RenewalIsLegal}

pub lighting_is_legal : LightingIsLegal
unfolding Rattle.sx_model.specs.State.FIELDS
lighting_is_legal = refl

pub done_needs_emits : DoneNeedsEmits
unfolding Rattle.sx_model.specs.State.FIELDS
done_needs_emits = record { other = refl; twice = refl; owed = refl; after_done = refl }

pub events_are_taken : EventsAreTaken
unfolding Rattle.sx_model.specs.State.FIELDS
events_are_taken = record { other = refl; unsent = refl; twice = refl; busy = refl }

pub driver_is_alone : DriverIsAlone
unfolding Rattle.sx_model.specs.State.FIELDS
driver_is_alone = record { present = refl; absent = refl }

pub vouched_are_attested : VouchedAreAttested
unfolding Rattle.sx_model.specs.State.FIELDS
vouched_are_attested = record { unvouched = refl; other_boot = refl; other_ask = refl; twice = refl }

pub renewal_is_legal : RenewalIsLegal
unfolding Rattle.sx_model.specs.State.FIELDS
renewal_is_legal = record { whole = refl; first_twice = refl; next_twice = refl; old = refl; beyond = refl; unattested = refl; old_event = refl }
