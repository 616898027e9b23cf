-- What nobody wrapped no moment before gave.
use Rattle.std.specs.Prelude.{◌≡◌, ℕ, ◌<◌, List, ◌∷◌, ◌++◌, length, slice_get, Option, Some}
use Rattle.sx_tag.specs.Wrap.{crypt}
use Rattle.sx_sched.specs.Lines.{Line}
use Rattle.spec_run.specs.Setting.{Setting, Site}
use Rattle.spec_run.specs.Deployer.{key_of}
use Rattle.spec_run.specs.Law.{IsSoundSetting, LinesInForm}
use Rattle.law_forgery.specs.Moments.{Moment, moment, NoneBefore, FirstForged}
use Rattle.law_forgery.specs.Forgery.{OfModule, WasWrapped, Forgery}
use Rattle.law_uses.specs.Uses.{Gives, uses, module_holder}
use Rattle.law_uses.specs.GivenLogged.{IsUse}

-- The tag of this header and this cipher is given at no moment before the k-th.
abbrev pub NeverGiven : Setting → List Line → ℕ → (boot : ℕ) → Site → (header cipher : List ℕ)
    → Type 0
NeverGiven set lines k boot site header cipher =
    (j : ℕ) (past : Moment) → j < k → moment set lines j ≡ Some past
    → IsUse (Gives (module_holder site boot) 0x54 (length header ∷ (header ++ cipher)))
    (uses set past) → ⊥

-- Until the run has shown a `forged`, what nobody wrapped under a deployed module's key wasn't
-- given either.
abbrev pub UnmadeWasNotGiven : Type 0
UnmadeWasNotGiven = (set : Setting) → IsSoundSetting set → (lines : List Line)
    → LinesInForm set lines → (k : ℕ) (now : Moment) → moment set lines k ≡ Some now
    → NoneBefore set lines k → (m boot : ℕ) (site : Site) (header cipher : List ℕ)
    → slice_get set.sites m ≡ Some site
    → ((body : List ℕ) → crypt set.mac (key_of set site boot) header body ≡ cipher
    → WasWrapped now.world.ledger (OfModule m boot) header body → ⊥)
    → NeverGiven set lines k boot site header cipher

-- So what the first `forged` accepts under a module's key was given at no moment before.
abbrev pub ForgedWasNotGiven : Type 0
ForgedWasNotGiven = (set : Setting) → IsSoundSetting set → (lines : List Line)
    → LinesInForm set lines → (k : ℕ) (now : Moment) (who : Option ℕ)
    → FirstForged set lines k now who → (f : Forgery set lines k now.world who)
    → (m boot : ℕ) (site : Site) → f.key ≡ OfModule m boot → slice_get set.sites m ≡ Some site
    → NeverGiven set lines k boot site f.header f.cipher
