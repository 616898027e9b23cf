-- Devices: one that answers, and what a read leaves.
use Rattle.std.proofs.Common.{◌≡◌, ℕ, zero, suc, ◌+◌, ◌<◌, ◌&&◌, inl, inr, Bool, true, cond, List, [], ◌∷◌, Option, Some, None, refl, sym, ◌∙◌, ap, subst, arith, false, if◌then◌else◌}
use Rattle.std.specs.Prelude.{slice_get, map, nat_le, nat_lt}
use Rattle.std.proofs.lemmas.Bool.{cases_Bool}
use Rattle.std.specs.List.{position_from}
use Rattle.sx_bus.specs.declared.devices.Kind.{Kind}
use Rattle.sx_bus.specs.declared.devices.Window.{Window}
use Rattle.sx_bus.specs.Devices.{HaveSamples, places_of, on_word, device_at, with_changed, cleared, with_sample, stale, all_stale}
use Rattle.spec_machine.specs.declared.kinds.Touch.TheVariants.{DeviceRead}
use Rattle.spec_machine.specs.Run.{with_window, found, device_of, Moment, sampled, with_touch}
use Rattle.spec_machine.specs.NodeLaws.{shapes}

pub some_inj : {A : Type 0} → (a b : A) → ◌≡◌ {A = Option A} (Some a) (Some b) → a ≡ b
some_inj a b e = cc

-- the device that answers is at its index
pub device_found : (ws : List Window) (o : Option ℕ) (k : ℕ) (w : Window) → found ws o ≡ Some (k, w) → slice_get ws k ≡ Some w
device_found ws None k w e = absurd cc
device_found ws (Some d) k w e = by (slice_get ws d) refl e
  where
    by : (o : Option Window) → slice_get ws d ≡ o → with_window d o ≡ Some (k, w) → slice_get ws k ≡ Some w
    by None q e = absurd cc
    by (Some v) q e =
        let p = some_inj (d, v) (k, w) e in
        subst (λ (z : ℕ × Window). slice_get ws z.0 ≡ Some z.1) p q

pub device_there : (ws : List Window) (at k : ℕ) (w : Window) → device_of ws at ≡ Some (k, w) → slice_get ws k ≡ Some w
device_there ws at k w e = device_found ws (device_at ws at) k w e

pub sample_small : (ws : List Window) (k : ℕ) (w : Window) → HaveSamples ws → slice_get ws k ≡ Some w → w.value < 32768
sample_small [] k w h e = absurd cc
sample_small (x ∷ ws) zero w h e = subst (λ (z : Window). z.value < 32768) (some_inj x w e) (h 0 x (omega arith))
sample_small (x ∷ ws) (suc k) w h e = sample_small ws k w (λ j d lt. h (suc j) d (omega (arith, lt))) e

-- a change that leaves places, kinds and good samples leaves them of all devices
pub changed_shapes : (f : Window → Window) → ((w : Window) → ((f w).at ≡ w.at) × ((f w).kind ≡ w.kind)) → (ws : List Window) (k : ℕ) → shapes (with_changed f ws k) ≡ shapes ws
changed_shapes f h [] k = refl
changed_shapes f h (w ∷ ws) zero = let a = (h w).0 in let b = (h w).1 in rw (a, b) refl
changed_shapes f h (w ∷ ws) (suc k) = ap (λ r. (w.at, w.kind) ∷ r) (changed_shapes f h ws k)

pub cleared_shapes : (ws : List Window) (k : ℕ) → shapes (cleared ws k) ≡ shapes ws
cleared_shapes ws k = changed_shapes stale (λ w. (refl, refl)) ws k

pub sensed_shapes : (ws : List Window) (k v : ℕ) → shapes (with_sample ws k v) ≡ shapes ws
sensed_shapes ws k v = changed_shapes (λ w. record w { value = v; fresh = true }) (λ w. (refl, refl)) ws k

pub stale_shapes : (ws : List Window) → shapes (all_stale ws) ≡ shapes ws
stale_shapes [] = refl
stale_shapes (w ∷ ws) = ap (λ r. (w.at, w.kind) ∷ r) (stale_shapes ws)

-- places are part of the shapes
pub places_in : (ws : List Window) → places_of ws ≡ map (λ (p : ℕ × Kind). p.0) (shapes ws)
places_in [] = refl
places_in (w ∷ ws) = ap (λ r. w.at ∷ r) (places_in ws)

pub same_places : (a b : List Window) → shapes a ≡ shapes b → places_of a ≡ places_of b
same_places a b e = places_in a ∙ ap (λ z. map (λ (p : ℕ × Kind). p.0) z) e ∙ sym (places_in b)

-- Devices of the same places and kinds.

pub heads : (x y : Window) (a b : List Window) → shapes (x ∷ a) ≡ shapes (y ∷ b) → (x.at ≡ y.at) × (x.kind ≡ y.kind) × (shapes a ≡ shapes b)
heads x y a b e =
    let h : ◌≡◌ {A = ℕ × Kind} (x.at, x.kind) (y.at, y.kind) = cc in
    (ap (λ (p : ℕ × Kind). p.0) h, ap (λ (p : ℕ × Kind). p.1) h, cc)

pub position_same : (at i : ℕ) (a b : List Window) → shapes a ≡ shapes b → position_from (on_word at) i a ≡ position_from (on_word at) i b
position_same at i [] [] e = refl
position_same at i [] (y ∷ b) e = absurd cc
position_same at i (x ∷ a) [] e = absurd cc
position_same at i (x ∷ a) (y ∷ b) e =
    let h = heads x y a b e in
    let one : on_word at x ≡ on_word at y = ap (λ p. nat_le p at && nat_lt at (p + 2)) h.0 in
    ap (λ t. cond t (Some i) (position_from (on_word at) (i + 1) a)) one ∙ ap (λ r. cond (on_word at y) (Some i) r) (position_same at (i + 1) a b h.2)

pub device_at_same : (a b : List Window) (at : ℕ) → shapes a ≡ shapes b → device_at a at ≡ device_at b at
device_at_same a b at e = position_same at 0 a b e

pub window_same : (a b : List Window) (k : ℕ) (w : Window) → shapes a ≡ shapes b → slice_get a k ≡ Some w → (v : Window) × (slice_get b k ≡ Some v) × (v.at ≡ w.at) × (v.kind ≡ w.kind)
window_same [] b k w e h = absurd cc
window_same (x ∷ a) [] k w e h = absurd cc
window_same (x ∷ a) (y ∷ b) zero w e h =
    let g = heads x y a b e in
    let xw = some_inj x w h in
    (y, refl, sym g.0 ∙ ap (λ (z : Window). z.at) xw, sym g.1 ∙ ap (λ (z : Window). z.kind) xw)
window_same (x ∷ a) (y ∷ b) (suc k) w e h = window_same a b k w (heads x y a b e).2 h

found_parts : (a : List Window) (o : Option ℕ) (k : ℕ) (w : Window) → found a o ≡ Some (k, w) → (o ≡ Some k) × (slice_get a k ≡ Some w)
found_parts a None k w h = absurd cc
found_parts a (Some j) k w h = window_parts (slice_get a j) refl h
  where
    window_parts : (v : Option Window) → slice_get a j ≡ v → with_window j v ≡ Some (k, w) → (◌≡◌ {A = Option ℕ} (Some j) (Some k)) × (slice_get a k ≡ Some w)
    window_parts None e g = absurd cc
    window_parts (Some v) e g =
        let same : ◌≡◌ {A = ℕ × Window} (j, v) (k, w) = some_inj (j, v) (k, w) g in
        (ap (λ (p : ℕ × Window). Some p.0) same, subst (λ i. slice_get a i ≡ Some w) (ap (λ (p : ℕ × Window). p.0) same) (e ∙ ap (λ (p : ℕ × Window). Some p.1) same))

pub device_of_parts : (a : List Window) (at k : ℕ) (w : Window) → device_of a at ≡ Some (k, w) → (device_at a at ≡ Some k) × (slice_get a k ≡ Some w)
device_of_parts a at k w h = found_parts a (device_at a at) k w h

pub position_is : {X : Type 0} → (test : X → Bool) (i : ℕ) (xs : List X) (j : ℕ) → position_from test i xs ≡ Some j → (k : ℕ) × (x : X) × (j ≡ i + k) × (slice_get xs k ≡ Some x) × (test x ≡ true)
position_is test i [] j e = absurd cc
position_is test i (x ∷ xs) j e = elim (cases_Bool (test x)) [
  | inl h ↦ (0, x, sym (some_inj i j (sym (ap (λ b. cond b (Some i) (position_from test (i + 1) xs)) h) ∙ e)) ∙ omega arith, refl, h)
  | inr h ↦
      let p = position_is test (i + 1) xs j (sym (ap (λ b. cond b (Some i) (position_from test (i + 1) xs)) h) ∙ e) in
      (suc p.0, p.1, p.2 ∙ omega arith, p.3, p.4)
]

-- a read of a sensor, by whether its sample is fresh
pub by_sample : (P : ℕ × Moment → Type 0) (device : ℕ) (w : Window) (x : Moment)
    → P (0x8000 + w.value, record x { devices = cleared x.devices device; touches = with_touch x.touches (DeviceRead device w.value) }) → P (0, x) → P (sampled device w x)
by_sample P device w x new old = by w.fresh
  where
    by : (b : Bool) → P (if b then (
      0x8000 + w.value,
      record x { devices = cleared x.devices device; touches = with_touch x.touches (DeviceRead device w.value) },
    ) else (0, x))
    by true = new
    by false = old
