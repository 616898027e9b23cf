-- What is in order in worked runs, and what isn't though it is legal. Nobody has to believe this
-- file.
use Rattle.std.specs.Prelude.{◌≡◌, Bool, true, false, List, [], ◌∷◌, ◌++◌, is_some, Some, None, All}
use Rattle.sx_trace.specs.declared.items.Item.{Item}
use Rattle.sx_trace.specs.declared.items.Item.TheVariants.{Reset, Protect, Sense, Read, Take, Out}
use Rattle.sx_trace.specs.declared.items.Item.TheVariants.{Done}
use Rattle.sx_trace.specs.declared.items.Cause.TheVariants.{Asked}
use Rattle.sx_mean.specs.Application.{AppTree}
use Rattle.sx_mean.specs.Worked.{lighting}
use Rattle.sx_model.specs.State.{power_on}
use Rattle.sx_model.specs.Legal.{after}
use Rattle.sx_model.specs.Worked.{loaded, taken, shown, dark}
use Rattle.sx_model.specs.order.State.{power_on as switched_on}
use Rattle.sx_model.specs.order.Legal.{after as after_in_order}
use Rattle.sx_model.specs.order.Given.{IsGiven}
use Rattle.sx_model.specs.order.Turns.{OneAtATime}
use Rattle.sx_model.specs.order.Worked.{telling, told}

-- each of the items is allowed
abbrev pub allowed : AppTree → List Item → Bool
allowed app items = is_some (after app (power_on app) items)

-- and each act comes in its order
abbrev pub in_order : AppTree → List Item → Bool
in_order app items = is_some (after_in_order app (switched_on app) items)

-- The ear takes the value after it was shown. Before that, taking it is legal and isn't in order.
pub record OrderIsKept : Type 0 where
  pub lit : in_order lighting shown ≡ true
  pub renewal : in_order lighting dark ≡ true
  pub before : allowed telling (told ++ Take 2 1 0 120 ∷ []) ≡ true
  pub not_before : in_order telling (told ++ Take 2 1 0 120 ∷ []) ≡ false
  pub not_lost : in_order telling (told ++ Reset 1 Asked ∷ Take 2 1 0 120 ∷ []) ≡ false
  pub behind : in_order telling (told ++ Out 1 120 ∷ Take 2 1 0 120 ∷ Done 2 1 0 ∷ Done 1 1 1 ∷ [])
      ≡ true
  pub owed : in_order telling (told ++ Done 1 1 1 ∷ []) ≡ false
  pub once : in_order telling (told ++ Out 1 120 ∷ Out 1 120 ∷ []) ≡ false
  pub pieces : in_order telling (told ++ Out 1 120 ∷ Done 1 1 0 ∷ []) ≡ false

-- the lamp's node goes on though the lamp's output is missing
abbrev pub going_on : List Item
going_on = taken ++ Protect 1 None ∷ []

-- the eye is done after the logic took its word
abbrev pub done_late : List Item
done_late = loaded ++ Sense 0 120 ∷ Read 0 120 ∷ Take 1 0 0 120 ∷ Done 1 1 1 ∷ Done 0 1 1 ∷ []

-- Each of these is legal, and no run shows it: two events of a node at once, or a reading that no
-- sensor gives.
pub record TurnsAreKept : Type 0 where
  pub unfinished : allowed lighting going_on ≡ true
  pub not_unfinished : OneAtATime lighting going_on → ⊥
  pub late : allowed lighting done_late ≡ true
  pub not_late : OneAtATime lighting done_late → ⊥
  pub high : allowed lighting (Protect 0 (Some 0) ∷ Sense 0 65535 ∷ Read 0 65535 ∷ []) ≡ true
  pub not_high : All IsGiven (Sense 0 65535 ∷ []) → ⊥
