-- Where the sites of a setting are.
use Rattle.std.proofs.Common.{◌≡◌, ℕ, zero, suc, ◌+◌, List, [], ◌∷◌, length, Some, refl, sym, ◌∙◌, ap, subst, arith}
use Rattle.std.specs.Prelude.{slice_get}
use Rattle.sx_rules.specs.declared.section.Layout.{Layout}
use Rattle.sx_deploy.specs.Deployment.{Deployed}
use Rattle.sx_mean.specs.Application.{PartTree}
use Rattle.sx_deploy.specs.Law.{IsLaid, AreLaid, standing}
use Rattle.spec_run.specs.Setting.{Site}
use Rattle.spec_run.proofs.tie.Lists.{some_inj}
use Rattle.spec_run.specs.Accepted.{sites_of}

-- what a site is made of
pub record IsSite (qs : List PartTree) (ls : List Layout) (ps : List ℕ) (ts : List (List ℕ)) (m : ℕ) (site : Site) : Type 0 where
  pub part : PartTree
  pub found : slice_get qs m ≡ Some part
  pub node : site.node ≡ part.node
  pub layout : slice_get ls m ≡ Some site.layout
  pub provider : slice_get ps m ≡ Some site.provider
  pub text : slice_get ts m ≡ Some site.text

pub site_at : (qs : List PartTree) (ls : List Layout) (ps : List ℕ) (ts : List (List ℕ)) (m : ℕ) (site : Site) → slice_get (sites_of qs ls ps ts) m ≡ Some site → IsSite qs ls ps ts m site
site_at [] ls ps ts m site e = absurd cc
site_at (q ∷ qs) [] ps ts m site e = absurd cc
site_at (q ∷ qs) (l ∷ ls) [] ts m site e = absurd cc
site_at (q ∷ qs) (l ∷ ls) (p ∷ ps) [] m site e = absurd cc
site_at (q ∷ qs) (l ∷ ls) (p ∷ ps) (t ∷ ts) zero site e =
    let same = some_inj (record { node = q.node; layout = l; provider = p; text = t }) site e in
    record {
      part = q;
      found = refl;
      node = sym (ap (λ (s : Site). s.node) same);
      layout = ap (λ (s : Site). Some s.layout) same;
      provider = ap (λ (s : Site). Some s.provider) same;
      text = ap (λ (s : Site). Some s.text) same;
    }
site_at (q ∷ qs) (l ∷ ls) (p ∷ ps) (t ∷ ts) (suc m) site e =
    let r = site_at qs ls ps ts m site e in
    record { part = r.part; found = r.found; node = r.node; layout = r.layout; provider = r.provider; text = r.text }

pub sites_long : (qs : List PartTree) (ls : List Layout) (ps : List ℕ) (ts : List (List ℕ)) → length ls ≡ length qs
    → length ps ≡ length qs → length ts ≡ length qs → length (sites_of qs ls ps ts) ≡ length qs
sites_long [] ls ps ts a b c = refl
sites_long (q ∷ qs) [] ps ts a b c = absurd (omega (arith, a))
sites_long (q ∷ qs) (l ∷ ls) [] ts a b c = absurd (omega (arith, b))
sites_long (q ∷ qs) (l ∷ ls) (p ∷ ps) [] a b c = absurd (omega (arith, c))
sites_long (q ∷ qs) (l ∷ ls) (p ∷ ps) (t ∷ ts) a b c = ap suc (sites_long qs ls ps ts (omega (arith, a)) (omega (arith, b)) (omega (arith, c)))

pub laid_long : (d : Deployed) (p : ℕ) (qs : List PartTree) (ls : List Layout) → AreLaid d p qs ls → length ls ≡ length qs
laid_long d p [] [] h = refl
laid_long d p [] (l ∷ ls) h = absurd h
laid_long d p (q ∷ qs) [] h = absurd h
laid_long d p (q ∷ qs) (l ∷ ls) h = ap suc (laid_long d (p + 1) qs ls h.1)

pub laid_at : (d : Deployed) (p : ℕ) (qs : List PartTree) (ls : List Layout) (m : ℕ) (q : PartTree) (l : Layout)
    → AreLaid d p qs ls → slice_get qs m ≡ Some q → slice_get ls m ≡ Some l → IsLaid d (p + m) q l
laid_at d p [] ls m q l h e f = absurd cc
laid_at d p (x ∷ qs) [] m q l h e f = absurd h
laid_at d p (x ∷ qs) (y ∷ ls) zero q l h e f =
    subst (λ p. IsLaid d p q l) (omega arith) (subst (λ l. IsLaid d p q l) (some_inj y l f) (subst (λ (q : PartTree). IsLaid d p q y) (some_inj x q e) h.0))
laid_at d p (x ∷ qs) (y ∷ ls) (suc m) q l h e f = subst (λ p. IsLaid d p q l) (omega arith) (laid_at d (p + 1) qs ls m q l h.1 e f)

pub standing_at : (qs : List PartTree) (ls : List Layout) (m : ℕ) (q : PartTree) (l : Layout)
    → slice_get qs m ≡ Some q → slice_get ls m ≡ Some l → slice_get (standing qs ls) m ≡ Some (record { node = q.node; layout = l })
standing_at [] ls m q l e f = absurd cc
standing_at (x ∷ qs) [] m q l e f = absurd cc
standing_at (x ∷ qs) (y ∷ ls) zero q l e f = ap (λ (z : PartTree). Some (record { node = z.node; layout = y }))
    (some_inj x q e) ∙ ap (λ (z : Layout). Some (record { node = q.node; layout = z })) (some_inj y l f)
standing_at (x ∷ qs) (y ∷ ls) (suc m) q l e f = standing_at qs ls m q l e f
