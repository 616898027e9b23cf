-- What the model allows in worked runs, and what it doesn't. Nobody has to believe this file.
use Rattle.std.specs.Prelude.{◌≡◌, Bool, true, false, List, [], ◌∷◌, ◌++◌, Some, is_some}
use Rattle.sx_lang.specs.declared.sides.Side.TheVariants.{To}
use Rattle.sx_trace.specs.declared.items.Item.{Item}
use Rattle.sx_trace.specs.declared.items.Item.TheVariants.{Reset, Protect, Ask, Attested, Vouch}
use Rattle.sx_trace.specs.declared.items.Item.TheVariants.{Open, Take, Out, Raw, Done}
use Rattle.sx_trace.specs.declared.items.Cause.TheVariants.{Asked}
use Rattle.sx_model.specs.State.{power_on}
use Rattle.sx_mean.specs.Worked.{lighting}
use Rattle.sx_model.specs.Legal.{after}
use Rattle.sx_model.specs.Worked.{loaded, sent, taken, shown, again, renewed, dark}

-- each of the items is allowed in the lighting application
abbrev pub allows : List Item → Bool
allows items = is_some (after lighting (power_on lighting) items)

-- the run that is shown is legal
abbrev pub LightingIsLegal : Type 0
LightingIsLegal = allows shown ≡ true

-- an emit is owed once, with its value; with one owed the event isn't done
pub record DoneNeedsEmits : Type 0 where
  pub other : allows (taken ++ Out 2 2 ∷ []) ≡ false
  pub twice : allows (taken ++ Out 2 1 ∷ Out 2 1 ∷ []) ≡ false
  pub owed : allows (taken ++ Done 2 1 0 ∷ []) ≡ false
  pub after_done : allows (shown ++ Out 2 1 ∷ []) ≡ false

-- a word is taken as it was sent, once, and by an open end alone
pub record EventsAreTaken : Type 0 where
  pub other : allows (loaded ++ sent ++ Take 2 1 0 0 ∷ []) ≡ false
  pub unsent : allows (loaded ++ sent ++ Take 2 1 1 1 ∷ []) ≡ false
  pub twice : allows (shown ++ Take 2 1 0 1 ∷ []) ≡ false
  pub busy : allows (taken ++ Take 2 1 0 1 ∷ []) ≡ false

-- a device is written by others only while its driver is absent
pub record DriverIsAlone : Type 0 where
  pub present : allows (shown ++ Raw 1 7 ∷ []) ≡ false
  pub absent : allows (shown ++ Reset 1 Asked ∷ Raw 1 7 ∷ []) ≡ true

-- an attestation has its vouch, at its boot, and comes once at a boot
pub record VouchedAreAttested : Type 0 where
  pub unvouched : allows (Protect 1 (Some 2) ∷ Ask 2 0 ∷ Attested 2 0 ∷ []) ≡ false
  pub other_boot : allows (again ++ Attested 2 2 ∷ []) ≡ false
  pub other_ask : allows (Protect 1 (Some 2) ∷ Ask 2 0 ∷ Vouch 2 0 ∷ Done 2 1 1 ∷ Ask 2 1
      ∷ Attested 2 0 ∷ []) ≡ false
  pub twice : allows (again ++ Attested 2 1 ∷ Ask 2 4 ∷ Vouch 2 4 ∷ Done 2 1 1 ∷ Attested 2 1 ∷ [])
      ≡ false

-- an end opens once in an epoch, and not in one before its floor or beyond its connection's
pub record RenewalIsLegal : Type 0 where
  pub whole : allows dark ≡ true
  pub first_twice : allows (shown ++ Open 2 1 To 0 ∷ []) ≡ false
  pub next_twice : allows (renewed ++ Open 2 1 To 1 ∷ []) ≡ false
  pub old : allows (again ++ Attested 2 1 ∷ Open 2 1 To 0 ∷ []) ≡ false
  pub beyond : allows (again ++ Attested 2 1 ∷ Open 2 1 To 2 ∷ []) ≡ false
  pub unattested : allows (again ++ Open 2 1 To 0 ∷ []) ≡ false
  pub old_event : allows (renewed ++ Take 2 1 0 1 ∷ []) ≡ false
