-- Memories that agree at some places: what is read and written there is the same.
use Rattle.std.proofs.Common.{◌≡◌, ℕ, zero, suc, ◌+◌, ◌/◌, ◌%◌, ◌<◌, ◌≤◌, Bool, true, false, cond, inl, inr, List, [], ◌∷◌, length, slice_index, slice_set, Option, Some, None, Result, Ok, Err}
use Rattle.std.proofs.Common.{refl, sym, ◌∙◌, ap, subst, arith}
use Rattle.std.proofs.lemmas.List.{length-set, get_or-set_same, get_or-set_other, set_past}
use Rattle.std.proofs.lemmas.Bool.{cases_eq, cases_lt}
use Rattle.sx_rules.specs.declared.access.Violation.{Violation}
use Rattle.sx_bus.specs.declared.devices.Kind.{Kind}
use Rattle.sx_bus.specs.declared.devices.Kind.TheVariants.{Sensor, Actuator}
use Rattle.sx_bus.specs.declared.devices.Window.{Window}
use Rattle.sx_bus.specs.Devices.{cleared}
use Rattle.spec_machine.specs.declared.kinds.Touch.TheVariants.{DeviceRead}
use Rattle.spec_machine.specs.Memory.{even, word, read_at, write_at, put_bytes, zeroed}
use Rattle.spec_machine.specs.Run.{Moment, with_touch, sampled, read_device, read_place, write_device, write_place, fetch_place}
use Rattle.spec_machine.proofs.PlanGuard.{with_mem}
use Rattle.sx_tmpl.specs.Steady.{AgreeAt}

-- the bytes of an access, which are a word's two or the one
abbrev pub AtPlaces : (ℕ → Type 0) → Bool → ℕ → Type 0
AtPlaces free true at = free (even at) × free (even at + 1)
AtPlaces free false at = free at

pub agree_fewer : (free shut : ℕ → Type 0) (m n : List ℕ) → ((k : ℕ) → shut k → free k) → AgreeAt free m n → AgreeAt shut m n
agree_fewer free shut m n f h = record { size = h.size; same = λ k p. h.same k (f k p) }

pub agree_self : (free : ℕ → Type 0) (m : List ℕ) → AgreeAt free m m
agree_self free m = record { size = refl; same = λ k p. refl }

module _ (free : ℕ → Type 0) where
  pub word_agree : (m n : List ℕ) (at : ℕ) → AgreeAt free m n → AtPlaces free true at → word m at ≡ word n at
  word_agree m n at h p =
      let a = h.same (even at) p.0 in
      let b = h.same (even at + 1) p.1 in
      cc

  pub read_agree : (wide : Bool) (m n : List ℕ) (at : ℕ) → AgreeAt free m n → AtPlaces free wide at → read_at wide m at ≡ read_at wide n at
  read_agree true m n at h p = word_agree m n at h p
  read_agree false m n at h p = h.same at p

  -- the same byte written to both
  pub set_agree : (m n : List ℕ) (i v : ℕ) → AgreeAt free m n → AgreeAt free (slice_set m i v) (slice_set n i v)
  set_agree m n i v h = record {
    size = length-set m i v ∙ h.size ∙ sym (length-set n i v);
    same = λ k p.
        elim (cases_eq k i) [
          | inl e ↦ elim (cases_lt i (length m)) [
            | inl lt ↦ subst (λ (j : ℕ). slice_index (slice_set m i v) j ≡ slice_index (slice_set n i v) j) (sym e)
                (get_or-set_same m i v 0 lt ∙ sym (get_or-set_same n i v 0 (subst (λ (j : ℕ). i < j) h.size lt)))
            | inr ge ↦ ap (λ (xs : List ℕ). slice_index xs k) (set_past m i v ge) ∙ h.same k p
                ∙ sym (ap (λ (xs : List ℕ). slice_index xs k) (set_past n i v (subst (λ (j : ℕ). j ≤ i) h.size ge)))
          ]
          | inr ne ↦ get_or-set_other m i k v 0 ne ∙ h.same k p ∙ sym (get_or-set_other n i k v 0 ne)
        ];
  }

  -- two bytes at a place that doesn't count
  pub set_apart : (m n : List ℕ) (i v w : ℕ) → (free i → ⊥) → AgreeAt free m n → AgreeAt free (slice_set m i v) (slice_set n i w)
  set_apart m n i v w off h = record {
    size = length-set m i v ∙ h.size ∙ sym (length-set n i w);
    same = λ k p.
        elim (cases_eq k i) [
          | inl e ↦ absurd (off (subst free e p))
          | inr ne ↦ get_or-set_other m i k v 0 ne ∙ h.same k p ∙ sym (get_or-set_other n i k w 0 ne)
        ];
  }

  pub write_agree : (wide : Bool) (m n : List ℕ) (at v : ℕ) → AgreeAt free m n → AgreeAt free (write_at wide m at v) (write_at wide n at v)
  write_agree true m n at v h = set_agree (slice_set m (even at) (v % 256)) (slice_set n (even at) (v % 256)) (even at + 1) (v / 256) (set_agree m n (even at) (v % 256) h)
  write_agree false m n at v h = set_agree m n at (v % 256) h

  pub write_apart : (m n : List ℕ) (at v w : ℕ) → (free (even at) → ⊥) → (free (even at + 1) → ⊥) → AgreeAt free m n → AgreeAt free (write_at true m at v) (write_at true n at w)
  write_apart m n at v w lo hi h =
      set_apart (slice_set m (even at) (v % 256)) (slice_set n (even at) (w % 256)) (even at + 1) (v / 256) (w / 256) hi (set_apart m n (even at) (v % 256) (w % 256) lo h)

  pub put_agree : (bs m n : List ℕ) (at : ℕ) → AgreeAt free m n → AgreeAt free (put_bytes m at bs) (put_bytes n at bs)
  put_agree [] m n at h = h
  put_agree (b ∷ bs) m n at h = put_agree bs (slice_set m at (b % 256)) (slice_set n at (b % 256)) (at + 1) (set_agree m n at (b % 256) h)

  pub zeroed_agree : (m n : List ℕ) (at len : ℕ) → AgreeAt free m n → AgreeAt free (zeroed m at len) (zeroed n at len)
  unfolding zeroed
  zeroed_agree m n at zero h = h
  zeroed_agree m n at (suc len) h = set_agree (zeroed m at len) (zeroed n at len) (at + len) 0 (zeroed_agree m n at len h)

-- bytes at places that don't count
pub put_apart : (free : ℕ → Type 0) (bs cs m n : List ℕ) (at : ℕ) → length cs ≡ length bs → ((k : ℕ) → at ≤ k → k < at + length bs → free k → ⊥) → AgreeAt free m n
    → AgreeAt free (put_bytes m at bs) (put_bytes n at cs)
put_apart free [] [] m n at e off h = h
put_apart free [] (c ∷ cs) m n at e off h = absurd (omega (arith, e))
put_apart free (b ∷ bs) [] m n at e off h = absurd (omega (arith, e))
put_apart free (b ∷ bs) (c ∷ cs) m n at e off h =
    put_apart free bs cs (slice_set m at (b % 256)) (slice_set n at (c % 256)) (at + 1) (omega (arith, e)) (λ k p q. off k (omega arith) (omega (arith, q)))
    (set_apart free m n at (b % 256) (c % 256) (off at (omega arith) (omega arith)) h)

-- moments whose memories agree at these places, and that are else the same
pub record SameMoments (places : ℕ → Type 0) (x y : Moment) : Type 0 where
  pub rest : y ≡ with_mem x y.mem
  pub mem : AgreeAt places x.mem y.mem

module _ (places : ℕ → Type 0) where
  abbrev pub SameRead : Result (ℕ × Moment) Violation → Result (ℕ × Moment) Violation → Type 0
  SameRead (Ok r) (Ok q) = (r.0 ≡ q.0) × SameMoments places r.1 q.1
  SameRead (Err v) (Err w) = v ≡ w
  SameRead (Ok r) (Err w) = ⊥
  SameRead (Err v) (Ok q) = ⊥

  abbrev pub SameWrite : Result Moment Violation → Result Moment Violation → Type 0
  SameWrite (Ok x) (Ok y) = SameMoments places x y
  SameWrite (Err v) (Err w) = v ≡ w
  SameWrite (Ok x) (Err w) = ⊥
  SameWrite (Err v) (Ok y) = ⊥

  sampled_same : (device : ℕ) (w : Window) (x : Moment) (n : List ℕ) → AgreeAt places x.mem n → SameRead (Ok (sampled device w x)) (Ok (sampled device w (with_mem x n)))
  sampled_same device w x n h =
      let told : Moment → ℕ × Moment = λ y. (0x8000 + w.value, record { mem = y.mem; devices = cleared y.devices device; touches = with_touch y.touches (DeviceRead device w.value) }) in
      elim (w.fresh) as (λ b. SameRead (Ok (cond b (told x) (0, x))) (Ok (cond b (told (with_mem x n)) (0, with_mem x n))))
      [ true ↦ (refl, record { rest = refl; mem = h }) | false ↦ (refl, record { rest = refl; mem = h }) ]

  read_device_same : (wide : Bool) (device : ℕ) (w : Window) (kind : Kind) (x : Moment) (n : List ℕ) → AgreeAt places x.mem n
      → SameRead (read_device wide device w kind x) (read_device wide device w kind (with_mem x n))
  read_device_same true device w Sensor x n h = sampled_same device w x n h
  read_device_same false device w Sensor x n h = refl
  read_device_same true device w Actuator x n h = refl
  read_device_same false device w Actuator x n h = refl

  pub read_place_same : (wide : Bool) (at : ℕ) (d : Option (ℕ × Window)) (x : Moment) (n : List ℕ) → AgreeAt places x.mem n → AtPlaces places wide at
      → SameRead (read_place wide at d x) (read_place wide at d (with_mem x n))
  read_place_same wide at None x n h p = (read_agree places wide x.mem n at h p, record { rest = refl; mem = h })
  read_place_same wide at (Some d) x n h p = read_device_same wide d.0 d.1 d.1.kind x n h

  write_device_same : (wide : Bool) (device v : ℕ) (kind : Kind) (x : Moment) (n : List ℕ) → AgreeAt places x.mem n
      → SameWrite (write_device wide device v kind x) (write_device wide device v kind (with_mem x n))
  write_device_same true device v Actuator x n h = record { rest = refl; mem = h }
  write_device_same false device v Actuator x n h = refl
  write_device_same true device v Sensor x n h = refl
  write_device_same false device v Sensor x n h = refl

  pub write_place_same : (wide : Bool) (at v : ℕ) (d : Option (ℕ × Window)) (x : Moment) (n : List ℕ) → AgreeAt places x.mem n
      → SameWrite (write_place wide at v d x) (write_place wide at v d (with_mem x n))
  write_place_same wide at v None x n h = record { rest = refl; mem = write_agree places wide x.mem n at v h }
  write_place_same wide at v (Some d) x n h = write_device_same wide d.0 v d.1.kind x n h

  pub fetch_place_same : (at : ℕ) (d : Option (ℕ × Window)) (x : Moment) (n : List ℕ) → AgreeAt places x.mem n → AtPlaces places true at → fetch_place at d (with_mem x n) ≡ fetch_place at d x
  fetch_place_same at None x n h p = ap Ok (sym (word_agree places x.mem n at h p))
  fetch_place_same at (Some d) x n h p = refl
