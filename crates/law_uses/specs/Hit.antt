-- The first `forged` is a hit.
use Rattle.std.specs.Prelude.{◌≡◌, ℕ, Bool, true, false, if◌then◌else◌, List, [], ◌∷◌, ◌++◌, length}
use Rattle.std.specs.Prelude.{take, slice_get, bytes_eq, Option, Some, None}
use Rattle.sx_trace.specs.declared.items.Item.{Item}
use Rattle.sx_trace.specs.declared.items.Item.TheVariants as item
use Rattle.sx_model.specs.Legal.{is_forged}
use Rattle.sx_sched.specs.Lines.{Line}
use Rattle.spec_run.specs.Setting.{Setting, Site}
use Rattle.spec_run.specs.Law.{IsSoundSetting, LinesInForm}
use Rattle.spec_run.specs.Deployer.{key_of}
use Rattle.law_forgery.specs.Moments.{Moment, shown_at, FirstForged}
use Rattle.law_uses.specs.Uses.{Holder, key_held, Tries, uses, module_holder}
use Rattle.law_uses.specs.Fresh.{NeverGiven}
use Rattle.law_uses.specs.GivenLogged.{IsUse}

-- the moment tries a tag that is right
pub record IsHit (set : Setting) (now : Moment) : Type 0 where
  pub whose : Holder
  pub rest : List ℕ
  pub tag : List ℕ
  pub is : IsUse (Tries whose 0x54 rest tag) (uses set now)
  pub right : bytes_eq tag (take 16 (set.mac (key_held set whose) (0x54 ∷ rest))) ≡ true

-- the moment that shows the first `forged` does
abbrev pub ForgedIsHit : Type 0
ForgedIsHit = (set : Setting) → IsSoundSetting set → (lines : List Line) → LinesInForm set lines
    → (k : ℕ) (now : Moment) (who : Option ℕ) → FirstForged set lines k now who → IsHit set now

-- it does so under a deployed module's key, and no moment before gave this tag
pub record IsFreshHit (set : Setting) (lines : List Line) (k : ℕ) (now : Moment) : Type 0 where
  pub m : ℕ
  pub boot : ℕ
  pub site : Site
  pub sited : slice_get set.sites m ≡ Some site
  pub header : List ℕ
  pub cipher : List ℕ
  pub tag : List ℕ
  pub is : IsUse (Tries (module_holder site boot) 0x54 (length header ∷ (header ++ cipher)) tag)
      (uses set now)
  pub right : bytes_eq tag (take 16 (set.mac (key_of set site boot)
      (0x54 ∷ length header ∷ (header ++ cipher)))) ≡ true
  pub fresh : NeverGiven set lines k boot site header cipher

-- the item after the first `forged`, of which that warns
abbrev pub warned : List Item → Option Item
warned [] = None
warned (i ∷ items) = if is_forged i then slice_get items 0 else warned items

-- What such an item accepts is under a module's key: an `attested` or an `open`. (Under a
-- connection's key it is a `take`.)
abbrev pub is_of_module : Option Item → Bool
is_of_module (Some (item.Attested m boot)) = true
is_of_module (Some (item.Open m link side epoch)) = true
is_of_module _ = false

-- where the first `forged` warns of such an item, its moment is a fresh hit
abbrev pub ModuleTagsHitFresh : Type 0
ModuleTagsHitFresh = (set : Setting) → IsSoundSetting set → (lines : List Line)
    → LinesInForm set lines → (k : ℕ) (now : Moment) (who : Option ℕ)
    → FirstForged set lines k now who → is_of_module (warned (shown_at set now)) ≡ true
    → IsFreshHit set lines k now
