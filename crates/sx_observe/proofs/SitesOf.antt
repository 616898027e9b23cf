-- The sites of a deployment's modules, one after the other.
use Rattle.std.proofs.Common.{◌≡◌, ℕ, zero, suc, ◌+◌, List, [], ◌∷◌, ◌++◌, length, take, Some, sym, ◌∙◌, ap, arith}
use Rattle.std.specs.Prelude.{slice_get}
use Rattle.sx_rules.specs.declared.section.Layout.{Layout}
use Rattle.sx_mean.specs.Application.{PartTree}
use Rattle.sx_deploy.specs.Deployment.{Deployed}
use Rattle.sx_deploy.specs.Law as deployment
use Rattle.spec_run.specs.Accepted.{sites_of}
use Rattle.spec_run.proofs.accepted.LaidSites.{sites_long, laid_long}

-- Lists that grow by their next element

pub take_next : {X : Type 0} (xs : List X) (m : ℕ) (x : X) → slice_get xs m ≡ Some x → take (m + 1) xs ≡ take m xs ++ x ∷ []
take_next [] m x e = absurd cc
take_next (y ∷ xs) zero x e = let same : y ≡ x = cc in ap (λ z. z ∷ []) same
take_next (y ∷ xs) (suc m) x e =
    let next : suc m + 1 ≡ suc (m + 1) = omega arith in
    ap (λ (k : ℕ). take k (y ∷ xs)) next ∙ ap (λ r. y ∷ r) (take_next xs m x e)

-- Sites

pub site_is : (qs : List PartTree) (ls : List Layout) (ps : List ℕ) (ts : List (List ℕ)) (m : ℕ) (q : PartTree) (l : Layout) (p : ℕ) (t : List ℕ)
    → slice_get qs m ≡ Some q → slice_get ls m ≡ Some l → slice_get ps m ≡ Some p → slice_get ts m ≡ Some t
    → slice_get (sites_of qs ls ps ts) m ≡ Some (record { node = q.node; layout = l; provider = p; text = t })
site_is [] ls ps ts m q l p t a b c d = absurd cc
site_is (x ∷ qs) [] ps ts m q l p t a b c d = absurd cc
site_is (x ∷ qs) (y ∷ ls) [] ts m q l p t a b c d = absurd cc
site_is (x ∷ qs) (y ∷ ls) (z ∷ ps) [] m q l p t a b c d = absurd cc
site_is (x ∷ qs) (y ∷ ls) (z ∷ ps) (u ∷ ts) zero q l p t a b c d =
    let eq : x ≡ q = cc in
    let el : y ≡ l = cc in
    let ep : z ≡ p = cc in
    let et : u ≡ t = cc in
    ap (λ (v : PartTree). Some (record { node = v.node; layout = y; provider = z; text = u })) eq
    ∙ ap (λ (v : Layout). Some (record { node = q.node; layout = v; provider = z; text = u })) el
    ∙ ap (λ (v : ℕ). Some (record { node = q.node; layout = l; provider = v; text = u })) ep
    ∙ ap (λ (v : List ℕ). Some (record { node = q.node; layout = l; provider = p; text = v })) et
site_is (x ∷ qs) (y ∷ ls) (z ∷ ps) (u ∷ ts) (suc m) q l p t a b c d = site_is qs ls ps ts m q l p t a b c d

module _ (d : Deployed) (acc : deployment.IsSoundDeployment d) where
  pub layouts_long : length d.layouts ≡ length d.app.parts
  layouts_long = laid_long d 0 d.app.parts d.layouts acc.laid

  pub providers_long : length d.providers ≡ length d.app.parts
  providers_long = acc.providers ∙ sym acc.parts

  pub all_sited : (ts : List (List ℕ)) → length ts ≡ length d.app.parts → length (sites_of d.app.parts d.layouts d.providers ts) ≡ length d.app.parts
  all_sited ts e = sites_long d.app.parts d.layouts d.providers ts layouts_long providers_long e
