-- What a maker makes of a setting under another tag function, up to the first use that has another answer.
use Rattle.std.proofs.Common.{◌≡◌, ℕ, zero, suc, ◌<◌, List, [], ◌∷◌, ◌++◌, Option, Some, None, refl, sym, ◌∙◌, ap}
use Rattle.sx_tag.specs.Mac.{Mac}
use Rattle.sx_sched.specs.Lines.{Line}
use Rattle.spec_run.specs.Setting.{Setting}
use Rattle.spec_run.specs.State.{Acted}
use Rattle.law_forgery.specs.Bare.{bare}
use Rattle.law_forgery.specs.Moments.{Moment, moment}
use Rattle.law_uses.specs.Uses.{SameUses, uses}
use Rattle.law_uses.specs.Whole.{DeriveTheSame}
use Rattle.law_makers.specs.Makers.{Sight, sight, Maker, Made, more, made}
use Rattle.law_rarity.proofs.Same.{schedule_same, run_same}
use Rattle.law_rarity.proofs.Extending.{moment_more, moment_before}

module _ (a : Setting) (nac : Mac) (derive : DeriveTheSame a.mac nac) (make : Maker) where
  abbrev b : Setting
  b = record a { mac = nac }

  -- the lines that are made of a setting
  abbrev lines : Setting → ℕ → List Line
  lines set n = (made set make n).lines

  sight_same : (ls : List Line) → ((i : ℕ) (now : Moment) → moment a ls i ≡ Some now → SameUses a b (uses a now)) → sight b ls ≡ sight a ls
  sight_same ls p = ap (λ (r : Acted). record { items = r.items; world = bare r.world }) (run_same a nac derive ls p)

  made_same : (n : ℕ) → ((i : ℕ) (now : Moment) → moment a (lines a n) i ≡ Some now → SameUses a b (uses a now)) → made b make n ≡ made a make n
  made_same zero p = ap (λ (s : Sight). record { lines = []; sights = s ∷ [] }) (sight_same [] p)
  made_same (suc n) p =
      let m = made a make n in
      let ls = m.lines ++ make m.sights ∷ [] in
      ap (more b make) (made_same n (λ i now e. p i now (moment_more a m.lines (make m.sights ∷ []) i now e)))
      ∙ ap (λ (s : Sight). record { lines = ls; sights = m.sights ++ s ∷ [] }) (sight_same ls p)

  -- the moments of what is made
  pub moments_made : (n k : ℕ) → ((i : ℕ) (now : Moment) → i < k → moment a (lines a n) i ≡ Some now → SameUses a b (uses a now))
      → moment b (lines b n) k ≡ moment a (lines a n) k
  moments_made zero k p = schedule_same a nac derive [] k p
  moments_made (suc n) k p = by (moment a m.lines k) refl (moments_made n k before)
    where
      m : Made
      m = made a make n

      mb : Made
      mb = made b make n

      ls : List Line
      ls = m.lines ++ make m.sights ∷ []

      before : (i : ℕ) (now : Moment) → i < k → moment a m.lines i ≡ Some now → SameUses a b (uses a now)
      before i now lt e = p i now lt (moment_more a m.lines (make m.sights ∷ []) i now e)

      by : (o : Option Moment) → moment a m.lines k ≡ o → moment b mb.lines k ≡ moment a m.lines k → moment b (mb.lines ++ make mb.sights ∷ []) k ≡ moment a ls k
      by (Some now) e so_far =
          moment_more b mb.lines (make mb.sights ∷ []) k now (so_far ∙ e)
          ∙ sym (moment_more a m.lines (make m.sights ∷ []) k now e)
      by None e so_far =
          ap (λ (z : Made). moment b (z.lines ++ make z.sights ∷ []) k) (made_same n (λ i now f. before i now (moment_before a m.lines i k now e f) f))
          ∙ schedule_same a nac derive ls k p
