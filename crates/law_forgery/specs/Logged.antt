-- The ledger is a log of what is wrapped under keys of modules and connections.
use Rattle.std.specs.Prelude.{◌≡◌, ℕ, ◌/◌, ◌%◌, true, false, ◌⊎◌, List, [], ◌∷◌, slice_get, Some}
use Rattle.sx_ledger.specs.declared.entry.Maker.{Maker}
use Rattle.sx_ledger.specs.declared.entry.Maker.TheVariants as maker
use Rattle.spec_machine.specs.declared.kinds.Event.TheVariants as event
use Rattle.spec_machine.specs.State.{State}
use Rattle.spec_machine.specs.Step.{own_of, step}
use Rattle.sx_sched.specs.Lines.{Line}
use Rattle.spec_run.specs.Setting.{Setting, module_of}
use Rattle.spec_run.specs.Ledger.{Made, NO_TARGET, made_entry, is_made, header_of, body_of}
use Rattle.sx_deployer.specs.Granting.{Grant}
use Rattle.spec_run.specs.Deployer.{set_key_entry}
use Rattle.sx_wire.specs.Headers.{is_ask, is_event_header, link_in}
use Rattle.spec_run.specs.Law.{IsSoundSetting, LinesInForm}
use Rattle.spec_run.specs.Observation.{sender_of}
use Rattle.law_isolation.specs.Happening.{Step, done}
use Rattle.law_forgery.specs.Moments.{Moment, moment, NoneBefore}

-- a number's low byte, and what is above it: the two bytes of a word
abbrev pub IsWord : List ℕ → Type 0
IsWord body = (v : ℕ) × (body ≡ v % 256 ∷ v / 256 ∷ [])

-- An entry of the deployer is a set-key packet; one of a module is an ask that it answers, which
-- has no body, or an event, whose body is a word, over a connection that comes from it.
abbrev pub IsLogged : Setting → Maker → Made → Type 0
IsLogged set maker.Deployer e = (g : Grant) × (e ≡ set_key_entry set g)
IsLogged set (maker.Module k) e = ((is_ask e.header ≡ true) × (e.body ≡ []))
    ⊎ ((is_event_header e.header ≡ true) × IsWord e.body
    × (sender_of set.app (link_in e.header) ≡ k))

-- What the code of the m-th module wraps in the next step of the n-th node is an ask, under its own
-- key, or an event, under another; and it is entered.
abbrev pub IsEntered : Setting → ℕ → State → ℕ → List Made → Type 0
IsEntered set n s m ledger =
    let x = (step set.mac s).state.exchange in
    ((x.own_key ≡ true) × (is_made ledger (made_entry (maker.Module m) NO_TARGET s.boot
    (header_of x) (body_of x)) ≡ true))
    ⊎ ((x.own_key ≡ false) × (is_made ledger (made_entry (maker.Module m) NO_TARGET 0 (header_of x)
    (body_of x)) ≡ true))

-- Until the run has shown a `forged`, each entry is of this form, and whatever a deployed module
-- wraps is entered.
pub record KeepsLog (set : Setting) (now : Moment) : Type 0 where
  pub entries : (e : Made) → is_made now.world.ledger e ≡ true → IsLogged set e.maker e
  pub wraps : (n m id : ℕ) (s : State) → now.next ≡ Step n → slice_get now.world.nodes n ≡ Some s
      → module_of set.sites n s (own_of s) ≡ Some m
      → (step set.mac s).shown.event ≡ event.Wrapped id
      → IsEntered set n s m (done set now.next now.world).world.ledger

abbrev pub LedgerTells : Type 0
LedgerTells = (set : Setting) → IsSoundSetting set → (lines : List Line) → LinesInForm set lines
    → (k : ℕ) (now : Moment) → moment set lines k ≡ Some now → NoneBefore set lines k
    → KeepsLog set now
