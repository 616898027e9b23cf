-- What is given under a deployed module's key is entered.
use Rattle.std.specs.Prelude.{◌≡◌, ℕ, ◌⊎◌, List, [], ◌∷◌, ◌++◌, length, slice_get, Some, true}
use Rattle.sx_ledger.specs.declared.entry.Maker.TheVariants as maker
use Rattle.sx_tag.specs.Wrap.{crypt}
use Rattle.spec_machine.specs.State.{State}
use Rattle.spec_machine.specs.Step.{own_of}
use Rattle.sx_sched.specs.Lines.{Line}
use Rattle.spec_run.specs.Setting.{Setting, Site, module_of}
use Rattle.spec_run.specs.Ledger.{NO_TARGET, made_entry, is_made}
use Rattle.spec_run.specs.Deployer.{key_of}
use Rattle.spec_run.specs.Law.{IsSoundSetting, LinesInForm}
use Rattle.law_isolation.specs.Happening.{Step, done}
use Rattle.law_forgery.specs.Moments.{Moment, moment, NoneBefore}
use Rattle.law_forgery.specs.Forgery.{OfModule, WasWrapped}
use Rattle.law_uses.specs.Uses.{Held, Use, Gives, uses, module_holder}

-- the use is among these
abbrev pub IsUse : Use → List Use → Type 0
IsUse u [] = ⊥
IsUse u (x ∷ xs) = (x ≡ u) ⊎ IsUse u xs

-- a body that was wrapped with its header makes what the tag is of, and this is entered after the
-- moment
pub record IsEnteredUse (set : Setting) (now : Moment) (m boot : ℕ) (site : Site)
    (rest : List ℕ) : Type 0 where
  pub header : List ℕ
  pub body : List ℕ
  pub of_them : rest ≡ length header ∷ (header ++ crypt set.mac (key_of set site boot) header body)
  pub entered : WasWrapped (done set now.next now.world).world.ledger (OfModule m boot) header body

-- Until the run has shown a `forged`, each tag over `T` that a moment gives under a deployed
-- module's key was wrapped, as the ledger says, by the deployer or by this module.
abbrev pub GivenAreLogged : Type 0
GivenAreLogged = (set : Setting) → IsSoundSetting set → (lines : List Line) → LinesInForm set lines
    → (k : ℕ) (now : Moment) → moment set lines k ≡ Some now → NoneBefore set lines k
    → (m boot : ℕ) (site : Site) (rest : List ℕ) → slice_get set.sites m ≡ Some site
    → IsUse (Gives (module_holder site boot) 0x54 rest) (uses set now)
    → IsEnteredUse set now m boot site rest

-- the same of a key that code holds
pub record IsEnteredHeld (set : Setting) (now : Moment) (m : ℕ) (key rest : List ℕ) : Type 0 where
  pub header : List ℕ
  pub body : List ℕ
  pub of_them : rest ≡ length header ∷ (header ++ crypt set.mac key header body)
  pub entered : is_made (done set now.next now.world).world.ledger
      (made_entry (maker.Module m) NO_TARGET 0 header body) ≡ true

-- And each that a deployed module's code gives under a key that it holds is entered as an event
-- of this module.
abbrev pub HeldAreLogged : Type 0
HeldAreLogged = (set : Setting) → IsSoundSetting set → (lines : List Line) → LinesInForm set lines
    → (k : ℕ) (now : Moment) → moment set lines k ≡ Some now → NoneBefore set lines k
    → (n m : ℕ) (s : State) → now.next ≡ Step n → slice_get now.world.nodes n ≡ Some s
    → module_of set.sites n s (own_of s) ≡ Some m
    → (key rest : List ℕ) → IsUse (Gives (Held key) 0x54 rest) (uses set now)
    → IsEnteredHeld set now m key rest
