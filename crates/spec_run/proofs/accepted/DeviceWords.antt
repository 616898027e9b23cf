-- A node's windows when it is switched on are at the words of its devices.
use Rattle.std.proofs.Common.{◌≡◌, ◌≢◌, ℕ, zero, suc, ◌+◌, ◌%◌, ◌<◌, ◌≤◌, ◌==◌, inl, inr, nat_lt}
use Rattle.std.proofs.Common.{nat_le, Bool, true, false, if◌then◌else◌, List, [], ◌∷◌, length}
use Rattle.std.proofs.Common.{get_or, Option, Some, None, refl, sym, ◌∙◌, ap, subst, arith}
use Rattle.std.specs.Prelude.{slice_get, All, AllPairs}
use Rattle.std.proofs.lemmas.Bool.{and_parts, eqb-true, cases_lt}
use Rattle.std.proofs.lemmas.Bool.Decides.{nat_tests}
use Rattle.std.proofs.lemmas.List.{length-map}
use Rattle.std.proofs.lemmas.Option.{get_or_from_slice_get, slice_get-get_or, slice_get-map}
use Rattle.lemmas.proofs.Lists.{get_some}
use Rattle.sx_mean.specs.declared.apps.AppDevice.{AppDevice}
use Rattle.sx_bus.specs.declared.devices.Kind.{Kind}
use Rattle.sx_bus.specs.declared.devices.Window.{Window}
use Rattle.sx_bus.specs.Devices.{ArePlaces, powered_on, places_of, on_word, device_at}
use Rattle.sx_deploy.specs.Law.{Word, words_of, IsWordPlace}
use Rattle.spec_machine.proofs.Devices.{position_is}
use Rattle.spec_run.specs.Setting.{devices_at, windows_at, kind_of}
use Rattle.spec_run.proofs.tie.Lists.{some_inj, get_within}
use Rattle.spec_run.proofs.steps.Steps.{increasing}
use Rattle.spec_run.proofs.accepted.Windows.{AreSpaced}

-- what holds of all holds at a place

pub all_at : {X : Type 0} (P : X → Type 0) (xs : List X) (k : ℕ) (x : X) → All P xs → slice_get xs k ≡ Some x → P x
all_at P xs k x h e = subst P (get_or_from_slice_get xs k x x e) (h k x (get_within xs k x e))

pub pair_at : {X : Type 0} (R : X → X → Type 0) (xs : List X) (j k : ℕ) (x y : X) → AllPairs R xs → j < k → slice_get xs j ≡ Some x → slice_get xs k ≡ Some y → R x y
pair_at R xs j k x y h lt ex ey =
    subst (λ z. R x z) (get_or_from_slice_get xs k y x ey) (subst (λ z. R z (get_or xs k x)) (get_or_from_slice_get xs j x x ex) (h j k x lt (get_within xs k y ey)))

pub all_from : {X : Type 0} (P : X → Type 0) (xs : List X) → ((k : ℕ) (x : X) → slice_get xs k ≡ Some x → P x) → All P xs
all_from P xs h k d lt = h k (get_or xs k d) (slice_get-get_or xs k d lt)

pub pairs_from : {X : Type 0} (R : X → X → Type 0) (xs : List X) → ((j k : ℕ) (x y : X) → j < k → slice_get xs j ≡ Some x → slice_get xs k ≡ Some y → R x y) → AllPairs R xs
pairs_from R xs h j k d lt le = h j k (get_or xs j d) (get_or xs k d) lt (slice_get-get_or xs j d (omega (arith, lt, le))) (slice_get-get_or xs k d le)

-- the word of a device
pub word_get : (ds : List AppDevice) (ats : List ℕ) (d : ℕ) (x : AppDevice) (at : ℕ) → slice_get ds d ≡ Some x
    → slice_get ats d ≡ Some at → slice_get (words_of ds ats) d ≡ Some (record { node = x.node; at = at })
word_get [] ats d x at e a = absurd cc
word_get (y ∷ ds) [] d x at e a = absurd cc
word_get (y ∷ ds) (b ∷ ats) zero x at e a = ap (λ (z : AppDevice). Some (record { node = z.node; at = b })) (some_inj y x e) ∙ ap (λ c. Some (record { node = x.node; at = c })) (some_inj b at a)
word_get (y ∷ ds) (b ∷ ats) (suc d) x at e a = word_get ds ats d x at e a

-- the k-th window of a node is the device with the node's k-th number
pub record IsOf (n i : ℕ) (ds : List AppDevice) (ats : List ℕ) (k : ℕ) (p : ℕ × Kind) : Type 0 where
  pub number : ℕ
  pub device : AppDevice
  pub listed : slice_get (devices_at n i ds) k ≡ Some (i + number)
  pub found : slice_get ds number ≡ Some device
  pub node : device.node ≡ n
  pub place : slice_get ats number ≡ Some p.0
  pub kind : p.1 ≡ kind_of device.kind

pub window_of : (n i : ℕ) (ds : List AppDevice) (ats : List ℕ) (k : ℕ) (p : ℕ × Kind) → slice_get (windows_at n ds ats) k ≡ Some p → IsOf n i ds ats k p
window_of n i [] ats k p e = absurd cc
window_of n i (y ∷ ds) [] k p e = absurd cc
window_of n i (y ∷ ds) (b ∷ ats) k p e = head (y.node == n) refl k e (λ k e. window_of n (i + 1) ds ats k p e)
  where
    head : (t : Bool) → (y.node == n) ≡ t → (k : ℕ) → slice_get (if t then (b, kind_of y.kind) ∷ windows_at n ds ats else windows_at n ds ats) k ≡ Some p
        → ((k : ℕ) → slice_get (windows_at n ds ats) k ≡ Some p → IsOf n (i + 1) ds ats k p) → IsOf n i (y ∷ ds) (b ∷ ats) k p
    head true t zero e f =
        let same = some_inj (b, kind_of y.kind) p e in
        record {
          number = 0;
          device = y;
          listed = ap (λ t. slice_get (if t then i ∷ devices_at n (i + 1) ds else devices_at n (i + 1) ds) 0) t ∙ ap (λ j. Some j) (omega arith);
          found = refl;
          node = eqb-true y.node n t;
          place = ap (λ (p : ℕ × Kind). Some p.0) same;
          kind = sym (ap (λ (p : ℕ × Kind). p.1) same);
        }
    head true t (suc k) e f =
        let r = f k e in
        record {
          number = suc r.number;
          device = r.device;
          listed = ap (λ t. slice_get (if t then i ∷ devices_at n (i + 1) ds else devices_at n (i + 1) ds) (suc k)) t ∙ r.listed ∙ ap (λ j. Some j) (omega arith);
          found = r.found;
          node = r.node;
          place = r.place;
          kind = r.kind;
        }
    head false t k e f =
        let r = f k e in
        record {
          number = suc r.number;
          device = r.device;
          listed = ap (λ t. slice_get (if t then i ∷ devices_at n (i + 1) ds else devices_at n (i + 1) ds) k) t ∙ r.listed ∙ ap (λ j. Some j) (omega arith);
          found = r.found;
          node = r.node;
          place = r.place;
          kind = r.kind;
        }

pub powered_window : (xs : List (ℕ × Kind)) (k : ℕ) (w : Window) → slice_get (powered_on xs) k ≡ Some w → slice_get xs k ≡ Some (w.at, w.kind)
powered_window [] k w e = absurd cc
powered_window (x ∷ xs) zero w e = ap (λ (w : Window). Some (w.at, w.kind)) (some_inj _ w e)
powered_window (x ∷ xs) (suc k) w e = powered_window xs k w e

pub window_powered : (xs : List (ℕ × Kind)) (k : ℕ) (p : ℕ × Kind) → slice_get xs k ≡ Some p → slice_get (powered_on xs) k ≡ Some (record { at = p.0; kind = p.1; value = 0; fresh = false })
window_powered [] k p e = absurd cc
window_powered (x ∷ xs) zero p e = ap (λ (p : ℕ × Kind). Some (record { at = p.0; kind = p.1; value = 0; fresh = false })) (some_inj x p e)
window_powered (x ∷ xs) (suc k) p e = window_powered xs k p e

powered_long : (xs : List (ℕ × Kind)) → length (powered_on xs) ≡ length xs
powered_long [] = refl
powered_long (x ∷ xs) = ap suc (powered_long xs)

windows_few : (n : ℕ) (ds : List AppDevice) (ats : List ℕ) → length (windows_at n ds ats) ≤ length ds
windows_few n [] ats = omega arith
windows_few n (d ∷ ds) [] = omega arith
windows_few n (d ∷ ds) (at ∷ ats) = head (d.node == n) (windows_few n ds ats)
  where
    head : (t : Bool) → length (windows_at n ds ats) ≤ length ds → length (if t then (at, kind_of d.kind) ∷ windows_at n ds ats else windows_at n ds ats) ≤ suc (length ds)
    head true h = omega (arith, h)
    head false h = omega (arith, h)

abbrev pub AreWordsApart : Word → Word → Type 0
AreWordsApart v w = v.node ≡ w.node → ¬ (v.at ≡ w.at)

module _ (ds : List AppDevice) (ats : List ℕ) (few : length ds ≤ 32) (words : All IsWordPlace (words_of ds ats)) (apart : AllPairs AreWordsApart (words_of ds ats)) where
  -- a window is a device's
  pub of_window : (n k : ℕ) (w : Window) → slice_get (powered_on (windows_at n ds ats)) k ≡ Some w → IsOf n 0 ds ats k (w.at, w.kind)
  of_window n k w e = window_of n 0 ds ats k (w.at, w.kind) (powered_window (windows_at n ds ats) k w e)

  -- and the word is one of the words
  pub word_of_window : (n k : ℕ) (w : Window) → slice_get (powered_on (windows_at n ds ats)) k ≡ Some w → (d : ℕ) × (slice_get (words_of ds ats) d ≡ Some (record { node = n; at = w.at }))
  word_of_window n k w e = let o = of_window n k w e in (o.number, word_get ds ats o.number o.device w.at o.found o.place ∙ ap (λ j. Some (record { node = j; at = w.at })) o.node)

  place_of_window : (n k : ℕ) (w : Window) → slice_get (powered_on (windows_at n ds ats)) k ≡ Some w → IsWordPlace (record { node = n; at = w.at })
  place_of_window n k w e = let o = word_of_window n k w e in all_at IsWordPlace (words_of ds ats) o.0 _ words o.1

  -- two windows of a node at one place are the same
  one_window : (n j k : ℕ) (v w : Window) → slice_get (powered_on (windows_at n ds ats)) j ≡ Some v → slice_get (powered_on (windows_at n ds ats)) k ≡ Some w → v.at ≡ w.at → j ≡ k
  one_window n j k v w ev ew same =
      let a = of_window n j v ev in
      let b = of_window n k w ew in
      let wa : slice_get (words_of ds ats) a.number ≡ Some (record { node = n; at = v.at }) = word_get ds ats a.number a.device v.at a.found a.place
      ∙ ap (λ j. Some (record { node = j; at = v.at })) a.node in
      let wb : slice_get (words_of ds ats) b.number ≡ Some (record { node = n; at = w.at }) = word_get ds ats b.number b.device w.at b.found b.place
      ∙ ap (λ j. Some (record { node = j; at = w.at })) b.node in
      elim (cases_lt a.number b.number) [
        | inl lt ↦ absurd (pair_at AreWordsApart (words_of ds ats) a.number b.number _ _ apart lt wa wb refl same)
        | inr ge ↦ elim (cases_lt b.number a.number) [
          | inl lt ↦ absurd (pair_at AreWordsApart (words_of ds ats) b.number a.number _ _ apart lt wb wa refl (sym same))
          | inr ge2 ↦ increasing n 0 ds j k (0 + b.number) (a.listed ∙ ap (λ j. Some j) (omega (arith, ge, ge2))) b.listed
        ]
      ]

  pub spaced : (n : ℕ) → AreSpaced (powered_on (windows_at n ds ats))
  spaced n = record {
    even = λ k w e. (place_of_window n k w e).even;
    apart = λ j k v w ev ew same. one_window n j k v w ev ew same;
  }

  place_window : (n k at : ℕ) → slice_get (places_of (powered_on (windows_at n ds ats))) k ≡ Some at → (w : Window) × (slice_get (powered_on (windows_at n ds ats)) k ≡ Some w) × (w.at ≡ at)
  place_window n k at e =
      let lt : k < length (powered_on (windows_at n ds ats)) = omega (
        arith,
        get_within (places_of (powered_on (windows_at n ds ats))) k at e,
        length-map (powered_on (windows_at n ds ats)) (λ (w : Window). w.at),
      ) in
      let w = get_some (powered_on (windows_at n ds ats)) k lt in (
        w.0,
        w.1,
        some_inj w.0.at at (ap (λ o. Rattle.std.specs.Prelude.option_map (λ (w : Window). w.at) o) (sym w.1)
            ∙ sym (slice_get-map (λ (w : Window). w.at) (powered_on (windows_at n ds ats)) k) ∙ e),
      )

  pub are_places : (n : ℕ) → ArePlaces (places_of (powered_on (windows_at n ds ats)))
  are_places n =
      let ws = powered_on (windows_at n ds ats) in
      record {
        count = omega (arith, few, windows_few n ds ats, powered_long (windows_at n ds ats), length-map ws (λ (w : Window). w.at));
        even = all_from (λ p. p % 2 ≡ 0) (places_of ws) (λ k p e. let w = place_window n k p e in subst (λ p. p % 2 ≡ 0) w.2 (place_of_window n k w.0 w.1).even);
        below = all_from (λ p. p < 0xFFE0) (places_of ws) (λ k p e. let w = place_window n k p e in subst (λ p. p < 0xFFE0) w.2 (place_of_window n k w.0 w.1).high);
        distinct = pairs_from (λ p r. p ≢ r) (places_of ws) (λ j k p r lt ep er same.
            let v = place_window n j p ep in
            let w = place_window n k r er in
            let one = one_window n j k v.0 w.0 v.1 w.1 (v.2 ∙ same ∙ sym w.2) in
            absurd (omega (arith, lt, one)));
      }

  -- where no word of the node holds the byte, no device is
  pub nothing_at : (n at : ℕ) → ((k : ℕ) (w : Window) → slice_get (powered_on (windows_at n ds ats)) k ≡ Some w → w.at ≤ at → at < w.at + 2 → ⊥)
      → device_at (powered_on (windows_at n ds ats)) at ≡ None
  nothing_at n at h = by_case (device_at (powered_on (windows_at n ds ats)) at) refl
    where
      by_case : (o : Option ℕ) → device_at (powered_on (windows_at n ds ats)) at ≡ o → o ≡ None
      by_case None q = refl
      by_case (Some j) q =
          let p = position_is (on_word at) 0 (powered_on (windows_at n ds ats)) j q in
          let parts = and_parts (nat_le p.1.at at) (nat_lt at (p.1.at + 2)) p.4 in
          absurd (h p.0 p.1 p.3 (below p.1.at parts.0) (above p.1.at parts.1))
        where
          below : (b : ℕ) → nat_le b at ≡ true → b ≤ at
          below b h = grind (arith, nat_tests)

          above : (b : ℕ) → nat_lt at (b + 2) ≡ true → at < b + 2
          above b h = grind (arith, nat_tests)
