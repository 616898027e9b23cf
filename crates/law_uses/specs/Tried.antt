-- If a step unwraps, it tried.
use Rattle.std.specs.Prelude.{◌≡◌, ℕ, true, List, ◌∷◌, ◌++◌, length, take, slice_get, slice_index}
use Rattle.std.specs.Prelude.{bytes_eq, Some}
use Rattle.sx_tag.specs.Wrap.{crypt, padded}
use Rattle.spec_machine.specs.declared.kinds.Event.TheVariants as event
use Rattle.spec_machine.specs.State.{State}
use Rattle.spec_machine.specs.Step.{step}
use Rattle.spec_run.specs.Setting.{Setting}
use Rattle.spec_run.specs.State.{switched_on}
use Rattle.spec_run.specs.Ledger.{header_of, body_of}
use Rattle.law_isolation.specs.Happening.{Step}
use Rattle.law_isolation.specs.Script.{Script}
use Rattle.law_forgery.specs.Moments.{Moment, moment_from}
use Rattle.law_uses.specs.Uses.{Holder, key_held, Tries, uses}
use Rattle.law_uses.specs.GivenLogged.{IsUse}

-- a tag was tried and was right, and header and body of the exchange are those of what was tried
pub record IsTried (set : Setting) (now : Moment) (s t : State) : Type 0 where
  pub whose : Holder
  pub header : List ℕ
  pub cipher : List ℕ
  pub tag : List ℕ
  pub is : IsUse (Tries whose 0x54 (length header ∷ (header ++ cipher)) tag) (uses set now)
  pub right : bytes_eq tag (take 16 (set.mac (key_held set whose)
      (0x54 ∷ length header ∷ (header ++ cipher)))) ≡ true
  pub header_is : header_of t.exchange ≡ header
  pub body_is : body_of t.exchange
      ≡ take (slice_index s.regs 13) (padded (crypt set.mac (key_held set whose) header cipher))

-- each unwrap of a run is a try that was right, of whatever code
abbrev pub UnwrapsAreTried : Type 0
UnwrapsAreTried = (set : Setting) (script : Script) (k : ℕ) (now : Moment)
    → moment_from set k script (switched_on set) ≡ Some now
    → (n id : ℕ) (s : State) → now.next ≡ Step n → slice_get now.world.nodes n ≡ Some s
    → (step set.mac s).shown.event ≡ event.Unwrapped id
    → IsTried set now s (step set.mac s).state
