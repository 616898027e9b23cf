-- What a row has after a change of modules, devices and words.
use Rattle.std.proofs.Common.{◌≡◌, ℕ, zero, suc, ◌%◌, ◌⊎◌, inl, inr, ◌==◌, Bool, true, false, if◌then◌else◌, List, [], ◌∷◌, Option, Some, None, refl, sym, ap}
use Rattle.std.proofs.Common.{◌∙◌, subst}
use Rattle.std.specs.Prelude.{slice_get, slice_set, map, is_none, replicate}
use Rattle.std.proofs.lemmas.Bool.{ne_eqb, eqb-true}
use Rattle.std.proofs.lemmas.Option.{same_Some}
use Rattle.sx_mean.specs.declared.apps.AppDevice.{AppDevice}
use Rattle.sx_mean.specs.Application.{AppTree, PartTree}
use Rattle.sx_model.specs.State.{Pending, Present, Reading, Standing, contains}
use Rattle.sx_model.specs.Step.{◌>>?◌, absent_at, idle, is_nothing, stale_at}
use Rattle.sx_model.specs.Consequences.{is_device_at, is_part_at}
use Rattle.sx_model.proofs.Written.{at_set}
use Rattle.sx_model.proofs.ReadsAreSensed.{first_stale, fresh_elsewhere}
use Rattle.law_never.specs.Rules.{Each}
use Rattle.law_never.specs.Intervals.{Interval, IsInside, AreInside}
use Rattle.law_never.specs.Tables.{Row, at, IsAtPlace, HasPlace, HasPlaces, HasReading, HasReadings, HasWord, HasWords, IsShown, MayBeAbsent, owed_of}
use Rattle.law_never.specs.Closed.{Stays}
use Rattle.law_never.proofs.Lists.{each_map, one_map}
use Rattle.spec_run.proofs.tie.Start.{get_blank}

-- modules

pub places_set : (new : Row) (xs : List Standing) (m : ℕ) (y : Standing) → IsShown new m y.present
    → ((k : ℕ) (x : Standing) → (m ≡ k → ⊥) → slice_get xs k ≡ Some x → IsShown new k x.present) → HasPlaces new (slice_set xs m y)
places_set new xs m y own others k x e =
    elim (at_set xs m k y x e) [
      | inl h ↦ subst (λ n. IsShown new n x.present) h.0 (subst (λ (x : Standing). IsShown new m x.present) h.1 own)
      | inr h ↦ others k x h.0 h.1
    ]

-- what stays of a module
pub shown_stays : (r new : Row) (ms ds : ℕ → Bool) (m : ℕ) (o : Option Present) → Stays ms ds r new → ms m ≡ false → IsShown r m o → IsShown new m o
shown_stays r new ms ds m None st free h = st.absent m free h
shown_stays r new ms ds m (Some p) st free h = st.places m free p h

-- a module that is present has its place
pub place_of_present : (r : Row) (m : ℕ) (x : Standing) (p : Present) → x.present ≡ Some p → IsShown r m x.present → HasPlace r m p
place_of_present r m x p e h = subst (IsShown r m) e h

pub absent_shown : (r : Row) (m : ℕ) (o : Option Present) → is_none o ≡ true → IsShown r m o → MayBeAbsent r m
absent_shown r m None e h = h
absent_shown r m (Some p) e h = absurd cc

-- of one module's change
pub places_but : (r new : Row) (ds : ℕ → Bool) (xs : List Standing) (m : ℕ) (y : Standing) → HasPlaces r xs → Stays (λ k. m == k) ds r new
    → IsShown new m y.present → HasPlaces new (slice_set xs m y)
places_but r new ds xs m y h st own = places_set new xs m y own (λ k x n e. shown_stays r new (λ k. m == k) ds k x.present st (ne_eqb m k n) (h k x e))

-- a module is where it was
pub places_like : (r : Row) (xs : List Standing) (m : ℕ) (x y : Standing) → slice_get xs m ≡ Some x → HasPlaces r xs
    → IsShown r m y.present → HasPlaces r (slice_set xs m y)
places_like r xs m x y ex h own = places_set r xs m y own (λ k x n e. h k x e)

pub place_like : (r : Row) (m : ℕ) (p q : Present) → p.cells ≡ q.cells → owed_of p.pending ≡ owed_of q.pending → HasPlace r m p → HasPlace r m q
place_like r m p q c o h =
    one_map (λ place. IsAtPlace place p) (λ place. IsAtPlace place q)
    (λ place a. record { cells = subst (AreInside place.cells) c a.cells; owed = subst (AreInside place.owed) o a.owed }) (at r.places m) h

absent_or : (n : ℕ) (qs : List PartTree) (xs : List Standing) (m : ℕ) (x : Standing) → slice_get (absent_at n qs xs) m ≡ Some x
    → ((is_part_at n (slice_get qs m) ≡ true) × (None ≡ x.present)) ⊎ ((is_part_at n (slice_get qs m) ≡ false) × (slice_get xs m ≡ Some x))
absent_or n [] xs m x e = inr (refl, e)
absent_or n (q ∷ qs) [] m x e = absurd cc
absent_or n (q ∷ qs) (y ∷ xs) zero x e = here (q.node == n) e
  where
    here : (b : Bool) → Some (if b then record y { present = None } else y) ≡ Some x → ((b ≡ true) × (None ≡ x.present)) ⊎ ((b ≡ false) × (Some y ≡ Some x))
    here true e = inl (refl, ap (λ (x : Standing). x.present) (same_Some (record y { present = None }) x e))
    here false e = inr (refl, e)
absent_or n (q ∷ qs) (y ∷ xs) (suc m) x e = absent_or n qs xs m x e

pub places_reset : (app : AppTree) (r new : Row) (ds : ℕ → Bool) (n : ℕ) (xs : List Standing) → HasPlaces r xs
    → Stays (λ m. is_part_at n (slice_get app.parts m)) ds r new → ((m : ℕ) → is_part_at n (slice_get app.parts m) ≡ true → MayBeAbsent new m)
    → HasPlaces new (absent_at n app.parts xs)
places_reset app r new ds n xs h st gone m x e =
    elim (absent_or n app.parts xs m x e) [
      | inl k ↦ subst (IsShown new m) k.1 (gone m k.0)
      | inr k ↦ shown_stays r new (λ m. is_part_at n (slice_get app.parts m)) ds m x.present st k.0 (h m x k.1)
    ]

-- devices

pub readings_set : (r new : Row) (ms : ℕ → Bool) (ys : List Reading) (d : ℕ) (z : Reading) → HasReadings r ys → Stays ms (λ k. d == k) r new
    → (z.fresh ≡ true → HasReading new d z.value) → HasReadings new (slice_set ys d z)
readings_set r new ms ys d z h st own k y e f =
    elim (at_set ys d k z y e) [
      | inl p ↦ subst (λ n. HasReading new n y.value) p.0
          (subst (λ (y : Reading). HasReading new d y.value) p.1 (own (ap (λ (y : Reading). y.fresh) p.1 ∙ f)))
      | inr p ↦ st.readings k (ne_eqb d k p.0) y.value (h k y p.1 f)
    ]

pub readings_reset : (app : AppTree) (r new : Row) (ms : ℕ → Bool) (n : ℕ) (ys : List Reading) → HasReadings r ys
    → Stays ms (λ d. is_device_at n (slice_get app.devices d)) r new → HasReadings new (stale_at n app.devices ys)
readings_reset app r new ms n ys h st d y e f =
    let k = fresh_elsewhere n app.devices ys d y e f in
    st.readings d k.0 y.value (h d y k.1 f)

-- what stays

pub places_stay : (r new : Row) (ds : ℕ → Bool) (xs : List Standing) → HasPlaces r xs → Stays (λ n. false) ds r new → HasPlaces new xs
places_stay r new ds xs h st m x e = shown_stays r new (λ n. false) ds m x.present st refl (h m x e)

pub readings_stay : (r new : Row) (ms : ℕ → Bool) (ys : List Reading) → HasReadings r ys → Stays ms (λ n. false) r new → HasReadings new ys
readings_stay r new ms ys h st d y e f = st.readings d refl y.value (h d y e f)

pub words_stay : (r new : Row) (ms ds : ℕ → Bool) (wss : List (List ℕ)) → HasWords r wss → Stays ms ds r new → HasWords new wss
words_stay r new ms ds wss h st field words e = each_map (λ v. HasWord r (field % 256) v) (λ v. HasWord new (field % 256) v) (λ v. st.words (field % 256) v) words (h field words e)

-- at first

pub first_places : (r : Row) (qs : List PartTree) → ((m : ℕ) (q : PartTree) → slice_get qs m ≡ Some q → MayBeAbsent r m)
    → HasPlaces r (map (λ p. record { present = None; asked = None; vouched = []; attested = None }) qs)
first_places r qs h m x e = let k = first_absent qs m x e in subst (IsShown r m) k.0 (h m k.1 k.2)
  where
    first_absent : (qs : List PartTree) (m : ℕ) (x : Standing)
        → slice_get (map (λ p. record { present = None; asked = None; vouched = []; attested = None }) qs) m ≡ Some x
        → (None ≡ x.present) × (q : PartTree) × (slice_get qs m ≡ Some q)
    first_absent [] m x e = absurd cc
    first_absent (q ∷ qs) zero x e = (ap (λ (x : Standing). x.present) (same_Some (record { present = None; asked = None; vouched = []; attested = None }) x e), q, refl)
    first_absent (q ∷ qs) (suc m) x e = first_absent qs m x e

pub first_readings : (r : Row) (ds : List AppDevice) → HasReadings r (map (λ d. record { value = 0; fresh = false }) ds)
first_readings r ds d y e f = absurd (let z = sym (first_stale ds d y e) ∙ f in cc)

pub first_words : (r : Row) (k : ℕ) → HasWords r (replicate k [])
first_words r k field words e = subst (Each (λ v. HasWord r (field % 256) v)) (sym (get_blank k field words e)) tt

-- what is owed

pub owes_nothing : (p : Present) → is_none p.pending ≡ true → owed_of p.pending ≡ []
owes_nothing p h = here p.pending h
  where
    here : (o : Option Pending) → is_none o ≡ true → owed_of o ≡ []
    here None h = refl
    here (Some owed) h = absurd cc

pub idle_owes : (x : Standing) (p : Present) → idle x ≡ Some p → owed_of p.pending ≡ []
idle_owes x p e = from x.present e
  where
    tests : (q : Present) (b : Bool) → is_none q.pending ≡ b → (if b then Some q else None) ≡ Some p → owed_of p.pending ≡ []
    tests q true n e = subst (λ (q : Present). owed_of q.pending ≡ []) (same_Some q p e) (owes_nothing q n)
    tests q false n e = absurd cc

    from : (o : Option Present) → (o >>? (λ q. if is_none q.pending then Some q else None)) ≡ Some p → owed_of p.pending ≡ []
    from None e = absurd cc
    from (Some q) e = tests q (is_none q.pending) refl e

pub nothing_owed : (xs : List ℕ) → is_nothing xs ≡ true → xs ≡ []
nothing_owed [] h = refl
nothing_owed (x ∷ xs) h = absurd cc

pub inside_none : (is : List Interval) → AreInside is [] → is ≡ []
inside_none [] h = refl
inside_none (i ∷ is) h = absurd h

pub record InsideOne (is : List Interval) (v : ℕ) (vs : List ℕ) : Type 0 where
  pub first : Interval
  pub rest : List Interval
  pub are : is ≡ first ∷ rest
  pub one : IsInside first v
  pub more : AreInside rest vs

pub inside_one : (is : List Interval) (v : ℕ) (vs : List ℕ) → AreInside is (v ∷ vs) → InsideOne is v vs
inside_one [] v vs h = absurd h
inside_one (i ∷ is) v vs h = record { first = i; rest = is; are = refl; one = h.0; more = h.1 }

-- a word that is there
pub each_there : (P : ℕ → Type 0) (words : List ℕ) (k v : ℕ) → Each P words → contains (slice_get words k) v ≡ true → P v
each_there P [] k v h e = absurd cc
each_there P (w ∷ words) zero v h e = subst P (eqb-true w v e) h.0
each_there P (w ∷ words) (suc k) v h e = each_there P words k v h.1 e
