-- What an honest run delivers.
use Rattle.std.specs.Prelude.{◌≡◌, ℕ, ◌<◌, true, List, length, Some, slice_get, option_map}
use Rattle.std.specs.List.{list_all}
use Rattle.sx_mean.specs.Application.{AppTree}
use Rattle.sx_trace.specs.declared.items.Item.{Item}
use Rattle.sx_model.specs.State.{Model, power_on}
use Rattle.sx_model.specs.Legal.{after}
use Rattle.spec_honest.specs.Plain.{Sampling, plain_outputs}
use Rattle.spec_honest.specs.Told.{is_well, numbered, outputs_of, takes_of}

-- Items deliver: the source allows each of them. Nothing is forged, no node is reset, and no
-- invocation ends but with status 1. What was sent over each connection in epoch 0 is what was
-- taken from it, from number 0 on, each word once and in order. And the outputs are those of the
-- plain fold.
pub record Delivers (app : AppTree) (rs : List Sampling) (items : List Item) : Type 0 where
  pub model : Model
  pub legal : after app (power_on app) items ≡ Some model
  pub unforged : list_all is_well items ≡ true
  pub delivered : (k : ℕ) → k < length app.links
      → option_map (numbered 0) (slice_get model.sent k) ≡ Some (takes_of k items)
  pub outputs : plain_outputs app rs ≡ Some (outputs_of items)
