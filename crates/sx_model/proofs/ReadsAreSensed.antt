-- Each reading was sensed: a fresh value is the one that its sensor got last.
use Rattle.std.proofs.Common.{◌≡◌, ℕ, zero, suc, inl, inr, ◌==◌, Bool, true, false, List, [], ◌∷◌, ◌++◌, Some, None, refl, sym, ap, ◌∙◌, subst, if◌then◌else◌}
use Rattle.std.specs.Prelude.{slice_get, slice_set, map}
use Rattle.std.proofs.lemmas.Bool.{eq-eqb, eqb-true, ne_eqb, and_from, and_parts}
use Rattle.std.proofs.lemmas.Option.{same_Some}
use Rattle.sx_mean.specs.declared.apps.AppDevice.{AppDevice}
use Rattle.sx_mean.specs.Application.{AppTree, PartTree}
use Rattle.sx_trace.specs.declared.items.Cause.{Cause}
use Rattle.sx_trace.specs.declared.items.Item.{Item}
use Rattle.sx_trace.specs.declared.items.Item.TheVariants.{Reset, Protect, Sense, Read, Drain, Ask, Attested, Denied, Vouch, Open, Take, Out, Raw, Done, Packet, Forged, Busy, Skip, Budget}
use Rattle.sx_model.specs.State.{Model, Reading, power_on, contains}
use Rattle.sx_model.specs.Step.{device_of, ◌>>?◌, stale_at, step}
use Rattle.sx_model.specs.Legal.{Legal}
use Rattle.sx_model.specs.Consequences.{ReadsAreSensed, Since, ends_reading, is_device_at, senses}
use Rattle.sx_model.proofs.Along.{keeps_by, some_of, step_of}
use Rattle.sx_model.proofs.Since.{since_now, since_still}
use Rattle.sx_model.proofs.Steps.{Cases, on_read}
use Rattle.sx_model.proofs.Written.{at_set}

-- a fresh value is the one that its device got last
abbrev Sensed : AppTree → List Item → List Reading → Type 0
Sensed app items rs = (d : ℕ) (r : Reading) → slice_get rs d ≡ Some r → r.fresh ≡ true → Since (senses d r.value) (ends_reading app d) items

-- a reset leaves fresh what isn't at its node
pub fresh_elsewhere : (n : ℕ) (ds : List AppDevice) (rs : List Reading) (d : ℕ) (r : Reading) → slice_get (stale_at n ds rs) d ≡ Some r → r.fresh ≡ true
    → (is_device_at n (slice_get ds d) ≡ false) × (slice_get rs d ≡ Some r)
fresh_elsewhere n [] rs d r e f = (refl, e)
fresh_elsewhere n (x ∷ ds) [] d r e f = absurd cc
fresh_elsewhere n (x ∷ ds) (y ∷ rs) zero r e f = here (x.node == n) e
  where
    here : (b : Bool) → Some (if b then record y { fresh = false } else y) ≡ Some r → (b ≡ false) × (Some y ≡ Some r)
    here true e = absurd cc
    here false e = (refl, e)
fresh_elsewhere n (x ∷ ds) (y ∷ rs) (suc d) r e f = fresh_elsewhere n ds rs d r e f

device_is : (app : AppTree) (m : ℕ) (q : PartTree) (d : ℕ) → slice_get app.parts m ≡ Some q → q.device ≡ Some d → device_of app m ≡ Some d
device_is app m q d e f = ap (λ o. o >>? (λ (q : PartTree). q.device)) e ∙ f

driven : (app : AppTree) (m : ℕ) (q : PartTree) (d k : ℕ) → slice_get app.parts m ≡ Some q → q.device ≡ Some d → (d ≡ k → ⊥) → contains (device_of app m) k ≡ false
driven app m q d k e f n = ap (λ o. contains o k) (device_is app m q d e f) ∙ ne_eqb d k n

module _ (app : AppTree) (items : List Item) (rs : List Reading) (h : Sensed app items rs) where
  -- the devices are left as they were
  still : (item : Item) → ((d : ℕ) → ends_reading app d item ≡ false) → Sensed app (items ++ item ∷ []) rs
  still item quiet d r e f = since_still (senses d r.value) (ends_reading app d) items item (h d r e f) (quiet d)

  -- a value is taken
  used : (item : Item) (d : ℕ) (y : Reading) → ((k : ℕ) → (d ≡ k → ⊥) → ends_reading app k item ≡ false) → y.fresh ≡ false → Sensed app (items ++ item ∷ []) (slice_set rs d y)
  used item d y quiet stale k r e f =
      elim (at_set rs d k y r e) [
        | inl p ↦ absurd (let z = ap (λ (r : Reading). r.fresh) p.1 in cc)
        | inr p ↦ since_still (senses k r.value) (ends_reading app k) items item (h k r p.1 f) (quiet k p.0)
      ]

  sensed : (d v : ℕ) → Sensed app (items ++ Sense d v ∷ []) (slice_set rs d (record { value = v; fresh = true }))
  sensed d v k r e f =
      elim (at_set rs d k (record { value = v; fresh = true }) r e) [
        | inl p ↦ since_now (senses k r.value) (ends_reading app k) items (Sense d v)
            (and_from (d == k) (v == r.value) (eq-eqb d k p.0) (eq-eqb v r.value (ap (λ (r : Reading). r.value) p.1)))
        | inr p ↦ since_still (senses k r.value) (ends_reading app k) items (Sense d v) (h k r p.1 f) (ne_eqb d k p.0)
      ]

  reset : (n : ℕ) (cause : Cause) → Sensed app (items ++ Reset n cause ∷ []) (stale_at n app.devices rs)
  reset n cause d r e f =
      let p = fresh_elsewhere n app.devices rs d r e f in
      since_still (senses d r.value) (ends_reading app d) items (Reset n cause) (h d r p.1 f) p.0

abbrev In : AppTree → List Item → Model → Type 0
In app items s = Sensed app items s.devices

cases : (app : AppTree) (items : List Item) (s : Model) → In app items s → Cases app s (λ item t. In app (items ++ item ∷ []) t)
cases app items s h =
    let quiet : (item : Item) → ((d : ℕ) → ends_reading app d item ≡ false) → Sensed app (items ++ item ∷ []) s.devices = still app items s.devices h in
    record {
      reset = λ n cause boot _. reset app items s.devices h n cause;
      unknown = λ n. quiet (Protect n None) (λ d. refl);
      protect = λ n m q x _ _. quiet (Protect n (Some m)) (λ d. refl);
      sense = λ d v. sensed app items s.devices h d v;
      read = λ m v q x p d r eq _ _ ed _ _. used app items s.devices h (Read m v) d (record r { fresh = false }) (λ k n. driven app m q d k eq ed n) refl;
      drain = λ d r. used app items s.devices h (Drain d) d (record r { fresh = false }) (λ k n. ne_eqb d k n) refl;
      ask = λ m a x _. quiet (Ask m a) (λ d. refl);
      attested = λ m b a x _ _. quiet (Attested m b) (λ d. refl);
      denied = λ m. quiet (Denied m) (λ d. refl);
      vouch = λ m a q x p boot _ _ _ _. quiet (Vouch m a) (λ d. refl);
      opened = λ m c side epoch q x p boot views _ _ _ _ _ _. quiet (Open m c side epoch) (λ d. refl);
      take = λ m c i v q x p l views _ _ _ _ _. quiet (Take m c i v) (λ d. refl);
      out = λ m v x p owed left _ _ _ _. quiet (Out m v) (λ d. refl);
      raw = λ d v. quiet (Raw d v) (λ d. refl);
      done = λ m status k x p _ _. quiet (Done m status k) (λ d. refl);
      refused = λ m status k x p _ _ _. quiet (Done m status k) (λ d. refl);
      packet = λ k n. quiet (Packet k n) (λ d. refl);
      forged = λ m. quiet (Forged m) (λ d. refl);
      busy = λ n. quiet (Busy n) (λ d. refl);
      skip = λ n. quiet (Skip n) (λ d. refl);
      budget = λ n. quiet (Budget n) (λ d. refl);
    }

-- no device's reading is fresh at first
pub first_stale : (ds : List AppDevice) (d : ℕ) (r : Reading) → slice_get (map (λ d. record { value = 0; fresh = false }) ds) d ≡ Some r → r.fresh ≡ false
first_stale [] d r e = absurd cc
first_stale (x ∷ ds) zero r e = sym (ap (λ (r : Reading). r.fresh) (same_Some _ r e))
first_stale (x ∷ ds) (suc d) r e = first_stale ds d r e

first : (app : AppTree) → In app [] (power_on app)
first app d r e f = absurd (let z = first_stale app.devices d r e in cc)

pub reads_are_sensed : (app : AppTree) (items : List Item) → Legal app items → ReadsAreSensed app items
reads_are_sensed app items legal before behind m v place =
    let st = step_of app (In app) (keeps_by app (In app) (cases app)) (first app) items before (Read m v) behind legal place in
    some_of (step app st.from (Read m v)) st.to (λ _. (d : ℕ) × (device_of app m ≡ Some d) × Since (senses d v) (ends_reading app d) before)
    (on_read app st.from (λ _. (d : ℕ) × (device_of app m ≡ Some d) × Since (senses d v) (ends_reading app d) before) m v (λ q x p d r eq _ _ ed er b.
    let t = and_parts r.fresh (r.value == v) b in
    (d, device_is app m q d eq ed, subst (λ w. Since (senses d w) (ends_reading app d) before) (eqb-true r.value v t.1) (st.holds d r er t.0))))
    st.is
