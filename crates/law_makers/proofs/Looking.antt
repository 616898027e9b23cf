-- Makers who look outside see the same.
use Rattle.std.proofs.Common.{◌≡◌, ℕ, zero, suc, ◌<◌, ◌≤◌, List, [], ◌∷◌, ◌++◌, refl, sym, ◌∙◌, ap, ap₂, subst, arith}
use Rattle.sx_sched.specs.Lines.{Line}
use Rattle.spec_run.specs.Setting.{Setting}
use Rattle.spec_run.specs.State.{switched_on}
use Rattle.spec_run.specs.Run.{run}
use Rattle.spec_run.specs.Law.{IsSoundSetting, LinesInForm}
use Rattle.law_forgery.specs.Moments.{NoForged}
use Rattle.law_connections.specs.Unlinked.{Unlinked}
use Rattle.law_connections.specs.LinksUnseen.{upto_forged, SameWorldOutside, NothingGuessed, RunsAlike}
use Rattle.law_connections.specs.Laws.{HidesKeys, LinksUnseen}
use Rattle.law_connections.proofs.Final.{links_unseen}
use Rattle.law_makers.specs.LinkMakers.{Sight, sight, SameSights, Maker, LooksOutside, made, LinkMakersSeeTheSame}

one_more : (a : Setting) (p q : List Sight) (x y : Sight) → SameSights a p q → y.items ≡ x.items → SameWorldOutside a x.world y.world
    → SameSights a (p ++ x ∷ []) (q ++ y ∷ [])
one_more a [] [] x y h e f = (e, f, tt)
one_more a [] (z ∷ q) x y h e f = absurd h
one_more a (z ∷ p) [] x y h e f = absurd h
one_more a (z ∷ p) (u ∷ q) x y h e f = (h.0, h.1, one_more a p q x y h.2 e f)

module _ (law : LinksUnseen) (a b : Setting) (make : Maker) (sound : IsSoundSetting a) (hides : HidesKeys a) (sound2 : IsSoundSetting b) (unlinked : Unlinked a b)
    (looks : LooksOutside a make) where
  alike : (lines : List Line) → LinesInForm a lines → NothingGuessed a b lines → RunsAlike a b lines
  alike lines form none = law a lines sound hides form b sound2 unlinked none

  going : (n : ℕ) → ((k : ℕ) → k ≤ n → LinesInForm a (made a make k).lines) → ((k : ℕ) → k ≤ n → NothingGuessed a b (made a make k).lines)
      → ((k : ℕ) → k ≤ n → NoForged (run a (switched_on a) (made a make k).lines).items)
      → ((made b make n).lines ≡ (made a make n).lines) × SameSights a (made a make n).sights (made b make n).sights
  going zero form none calm = (refl, tt)
  going (suc n) form none calm =
      let h = going n (λ k le. form k (omega (arith, le))) (λ k le. none k (omega (arith, le))) (λ k le. calm k (omega (arith, le))) in
      let same : (made b make (suc n)).lines ≡ (made a make (suc n)).lines
      = ap₂ (λ (lines : List Line) (l : Line). lines ++ l ∷ []) h.0 (sym (looks (made a make n).sights (made b make n).sights h.1)) in
      let all = (made a make (suc n)).lines in
      let x = alike all (form (suc n) (omega arith)) (none (suc n) (omega arith)) in (
        same,
        one_more a (made a make n).sights (made b make n).sights (sight a all) (sight b (made b make (suc n)).lines) h.1
            (ap (λ (lines : List Line). upto_forged (run b (switched_on b) lines).items) same ∙ x.0)
            (subst (λ (lines : List Line). SameWorldOutside a (run a (switched_on a) all).world (run b (switched_on b) lines).world) (sym same) (x.1 (calm (suc n) (omega arith)))),
      )

  last : (n : ℕ) → ((k : ℕ) → k ≤ n → LinesInForm a (made a make k).lines) → ((k : ℕ) → k ≤ n → NothingGuessed a b (made a make k).lines)
      → ((k : ℕ) → k < n → NoForged (run a (switched_on a) (made a make k).lines).items)
      → ((made b make n).lines ≡ (made a make n).lines)
      × (upto_forged (run b (switched_on b) (made b make n).lines).items ≡ upto_forged (run a (switched_on a) (made a make n).lines).items)
  last zero form none calm = (refl, (alike [] (form zero (omega arith)) (none zero (omega arith))).0)
  last (suc n) form none calm =
      let h = going n (λ k le. form k (omega (arith, le))) (λ k le. none k (omega (arith, le))) (λ k le. calm k (omega (arith, le))) in
      let same : (made b make (suc n)).lines ≡ (made a make (suc n)).lines
      = ap₂ (λ (lines : List Line) (l : Line). lines ++ l ∷ []) h.0 (sym (looks (made a make n).sights (made b make n).sights h.1)) in (
        same,
        ap (λ (lines : List Line). upto_forged (run b (switched_on b) lines).items) same
            ∙ (alike (made a make (suc n)).lines (form (suc n) (omega arith)) (none (suc n) (omega arith))).0,
      )

pub link_makers_see_the_same : LinkMakersSeeTheSame
link_makers_see_the_same a make n sound hides b sound2 unlinked looks form none calm =
    last links_unseen a b make sound hides sound2 unlinked looks n form none calm
