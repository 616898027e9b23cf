-- What a step shows of the devices is all that happened to them: no instruction touches more than two.
use Rattle.std.proofs.Common.{◌≡◌, ℕ, zero, suc, ◌+◌, ◌%◌, ◌<◌, ◌≤◌, ◌⊎◌, inl, inr, Bool, true, false, cond, if◌then◌else◌, List, [], ◌∷◌, length, Option, Some}
use Rattle.std.proofs.Common.{None, Result, Ok, Err, refl, sym, ◌∙◌, ap, subst, arith}
use Rattle.std.specs.Prelude.{slice_get, nat_le, nat_lt}
use Rattle.std.proofs.lemmas.Bool.{and_parts, leb-true, ltb-true}
use Rattle.std.proofs.lemmas.Option.{none-some}
use Rattle.sx_rules.specs.declared.access.Access.{Access}
use Rattle.sx_rules.specs.declared.access.Access.TheVariants.{Read, Write}
use Rattle.sx_rules.specs.declared.access.Violation.{Violation}
use Rattle.sx_rules.specs.declared.access.Violation.TheVariants as bad
use Rattle.sx_rules.specs.declared.section.Section.{Section}
use Rattle.sx_rules.specs.Access.{Sections, may}
use Rattle.sx_bus.specs.declared.devices.Kind.{Kind}
use Rattle.sx_bus.specs.declared.devices.Kind.TheVariants.{Sensor, Actuator}
use Rattle.sx_bus.specs.declared.devices.Window.{Window}
use Rattle.sx_bus.specs.Devices.{on_word, cleared}
use Rattle.spec_machine.specs.declared.kinds.Touch.{Touch}
use Rattle.spec_machine.specs.declared.kinds.Touch.TheVariants.{Quiet, DeviceRead, DeviceWrite}
use Rattle.spec_machine.specs.Memory.{even, write_at, read_at, bytes_from, put_bytes}
use Rattle.spec_machine.specs.Plan.{Plan, Done, Tell, Stop, Fetch, Load, Store, Need, Writable, Bytes, Put}
use Rattle.spec_machine.specs.Run.{Moment, with_touch, Outcome, Finished, Violated, Module, may_at, may_range, may_each, device_of, sampled, read_device}
use Rattle.spec_machine.specs.Run.{read_place, write_device, write_place, fetch, after_read, after_write, after_fetch, exec}
use Rattle.spec_machine.specs.Touches.{Replays}
use Rattle.spec_machine.proofs.Devices.{some_inj, device_of_parts, device_at_same, window_same, cleared_shapes, position_is}

-- The touches so far leave room for n more: the quiet places are at the end.

abbrev pub AllQuiet : List Touch → Type 0
AllQuiet [] = Unit {0}
AllQuiet (Quiet ∷ ts) = AllQuiet ts
AllQuiet (DeviceRead k v ∷ ts) = ⊥
AllQuiet (DeviceWrite k v ∷ ts) = ⊥

abbrev pub Room : ℕ → List Touch → Type 0
Room n [] = n ≡ 0
Room n (Quiet ∷ ts) = AllQuiet ts × (n ≤ suc (length ts))
Room n (DeviceRead k v ∷ ts) = Room n ts
Room n (DeviceWrite k v ∷ ts) = Room n ts

room_less : (n : ℕ) (ts : List Touch) → Room (suc n) ts → Room n ts
room_less n [] h = absurd (omega (arith, h))
room_less n (Quiet ∷ ts) h = (h.0, omega (arith, h.1))
room_less n (DeviceRead k v ∷ ts) h = room_less n ts h
room_less n (DeviceWrite k v ∷ ts) h = room_less n ts h

quiet_room : (n : ℕ) (ts : List Touch) → AllQuiet ts → suc n ≤ suc (length ts) → Room n ts
quiet_room n [] q h = omega (arith, h)
quiet_room n (Quiet ∷ ts) q h = (q, omega (arith, h))
quiet_room n (DeviceRead k v ∷ ts) q h = absurd q
quiet_room n (DeviceWrite k v ∷ ts) q h = absurd q

quiet_same : (live : List Section) (own : ℕ) (ts : List Touch) (a b : List Window) → AllQuiet ts → Replays live own ts a b → b ≡ a
quiet_same live own [] a b q h = h
quiet_same live own (Quiet ∷ ts) a b q h = quiet_same live own ts a b q h
quiet_same live own (DeviceRead k v ∷ ts) a b q h = absurd q
quiet_same live own (DeviceWrite k v ∷ ts) a b q h = absurd q

quiet_replays : (live : List Section) (own : ℕ) (ts : List Touch) (a : List Window) → AllQuiet ts → Replays live own ts a a
quiet_replays live own [] a q = refl
quiet_replays live own (Quiet ∷ ts) a q = quiet_replays live own ts a q
quiet_replays live own (DeviceRead k v ∷ ts) a q = absurd q
quiet_replays live own (DeviceWrite k v ∷ ts) a q = absurd q

-- one more touch
read_noted : (live : List Section) (own n k : ℕ) (w : Window) (ts : List Touch) (a b : List Window)
    → Room (suc n) ts → Replays live own ts a b → slice_get b k ≡ Some w → w.kind ≡ Sensor → w.fresh ≡ true → may live own Read w.at ≡ true
    → Replays live own (with_touch ts (DeviceRead k w.value)) a (cleared b k) × Room n (with_touch ts (DeviceRead k w.value))
read_noted live own n k w [] a b r h e s f m = absurd (omega (arith, r))
read_noted live own n k w (Quiet ∷ ts) a b r h e s f m =
    let same = quiet_same live own ts a b r.0 h in (
      (
        w,
        subst (λ z. slice_get z k ≡ Some w) same e,
        s,
        f,
        refl,
        m,
        subst (λ z. Replays live own ts (cleared a k) (cleared z k)) (sym same) (quiet_replays live own ts (cleared a k) r.0),
      ),
      quiet_room n ts r.0 r.1,
    )
read_noted live own n k w (DeviceRead j v ∷ ts) a b r h e s f m =
    let g = read_noted live own n k w ts (cleared a j) b r h.6 e s f m in ((h.0, h.1, h.2, h.3, h.4, h.5, g.0), g.1)
read_noted live own n k w (DeviceWrite j v ∷ ts) a b r h e s f m =
    let g = read_noted live own n k w ts a b r h.4 e s f m in ((h.0, h.1, h.2, h.3, g.0), g.1)

write_noted : (live : List Section) (own n k v : ℕ) (w : Window) (ts : List Touch) (a b : List Window)
    → Room (suc n) ts → Replays live own ts a b → slice_get b k ≡ Some w → w.kind ≡ Actuator → may live own Write w.at ≡ true
    → Replays live own (with_touch ts (DeviceWrite k v)) a b × Room n (with_touch ts (DeviceWrite k v))
write_noted live own n k v w [] a b r h e s m = absurd (omega (arith, r))
write_noted live own n k v w (Quiet ∷ ts) a b r h e s m =
    let same = quiet_same live own ts a b r.0 h in
    ((w, subst (λ z. slice_get z k ≡ Some w) same e, s, m, h), quiet_room n ts r.0 r.1)
write_noted live own n k v w (DeviceRead j u ∷ ts) a b r h e s m =
    let g = write_noted live own n k v w ts (cleared a j) b r h.6 e s m in ((h.0, h.1, h.2, h.3, h.4, h.5, g.0), g.1)
write_noted live own n k v w (DeviceWrite j u ∷ ts) a b r h e s m =
    let g = write_noted live own n k v w ts a b r h.4 e s m in ((h.0, h.1, h.2, h.3, g.0), g.1)

-- A plan makes at most n accesses more at which a device may answer. A store to the place that was just loaded is free: a
-- device that answered the load refuses the store. So is a load of a vector: there is no device.

abbrev pub Spend : ℕ → (ℕ → Type 0) → Type 0
Spend zero f = ⊥
Spend (suc n) f = f n

abbrev pub Sparse : ℕ → Option (Bool × ℕ) → Plan → Type 0
Sparse n last (Done regs) = Unit {0}
Sparse n last (Tell regs e c) = Unit {0}
Sparse n last (Stop v) = Unit {0}
Sparse n last (Fetch at k) = (w : ℕ) → Sparse n last (k w)
Sparse n last (Load wide at k) = ((0xFFE0 ≤ at) × ((v : ℕ) → Sparse n (Some (wide, at)) (k v))) ⊎ Spend n (λ m. (v : ℕ) → Sparse m (Some (wide, at)) (k v))
Sparse n last (Store wide at v k) = ((last ≡ Some (wide, at)) × Sparse n None k) ⊎ Spend n (λ m. Sparse m None k)
Sparse n last (Need b v k) = Sparse n last k
Sparse n last (Writable at c k) = Sparse n last k
Sparse n last (Bytes at c k) = (bs : List ℕ) → Sparse n last (k bs)
Sparse n last (Put at bs k) = Sparse n last k

-- what was loaded there is no actuator
abbrev pub LastOk : Option (Bool × ℕ) → List Window → Type 0
LastOk None ws = Unit {0}
LastOk (Some p) ws = (k : ℕ) (w : Window) → device_of ws p.1 ≡ Some (k, w) → w.kind ≡ Sensor

pub record Traced (live : List Section) (own n : ℕ) (last : Option (Bool × ℕ)) (a : List Window) (x : Moment) : Type 0 where
  pub replays : Replays live own x.touches a x.devices
  pub room : Room n x.touches
  pub last_ok : LastOk last x.devices
  pub evens : (k : ℕ) (w : Window) → slice_get x.devices k ≡ Some w → (w.at % 2 ≡ 0) × (w.at < 0xFFE0)

abbrev pub TracedBy : List Section → ℕ → List Window → Outcome → Type 0
TracedBy live own a (Finished regs x) = Replays live own x.touches a x.devices
TracedBy live own a (Violated v) = Unit {0}
TracedBy live own a (Module regs x t e c) = Replays live own x.touches a x.devices

word_even : (at p : ℕ) → p % 2 ≡ 0 → p ≤ at → at < p + 2 → even at ≡ p
word_even at p e lo hi = omega (arith, e, lo, hi)

-- the window at a place lies where the access is
window_open : (live : List Section) (own : ℕ) (access : Access) (ws : List Window) (at k : ℕ) (w : Window)
    → device_of ws at ≡ Some (k, w) → w.at % 2 ≡ 0 → may_at true live own access at ≡ true
    → (slice_get ws k ≡ Some w) × (may live own access w.at ≡ true)
window_open live own access ws at k w d e m =
    let p = device_of_parts ws at k w d in
    let q = position_is (on_word at) 0 ws k p.0 in
    let same : q.1 ≡ w = some_inj q.1 w (sym (subst (λ j. slice_get ws j ≡ Some q.1) (sym (q.2 ∙ omega arith)) q.3) ∙ p.1) in
    let t : on_word at w ≡ true = subst (λ z. on_word at z ≡ true) same q.4 in
    let b = and_parts (nat_le w.at at) (nat_lt at (w.at + 2)) t in
    let ev : even at ≡ w.at = word_even at w.at e (leb-true w.at at b.0) (ltb-true at (w.at + 2) b.1) in
    (p.1, subst (λ j. may live own access j ≡ true) ev (and_parts (may live own access (even at)) _ m).0)

-- no device answers at a vector
none_above : (ws : List Window) (at : ℕ) → ((k : ℕ) (w : Window) → slice_get ws k ≡ Some w → (w.at % 2 ≡ 0) × (w.at < 0xFFE0)) → 0xFFE0 ≤ at → device_of ws at ≡ None
none_above ws at evens ge = by (device_of ws at) refl
  where
    by : (o : Option (ℕ × Window)) → device_of ws at ≡ o → o ≡ None
    by None e = refl
    by (Some d) e =
        let p = device_of_parts ws at d.0 d.1 e in
        let q = position_is (on_word at) 0 ws d.0 p.0 in
        let same : q.1 ≡ d.1 = some_inj q.1 d.1 (sym (subst (λ j. slice_get ws j ≡ Some q.1) (sym (q.2 ∙ omega arith)) q.3) ∙ p.1) in
        let hi = ltb-true at (d.1.at + 2) (and_parts (nat_le d.1.at at) (nat_lt at (d.1.at + 2)) (subst (λ z. on_word at z ≡ true) same q.4)).1 in
        let v = evens d.0 d.1 p.1 in
        absurd (omega (arith, v.0, v.1, hi, ge))

module _ (t : Sections) (own : ℕ) (a : List Window) where
  abbrev Is : ℕ → Option (Bool × ℕ) → Moment → Type 0
  Is n last x = Traced t.live own n last a x

  abbrev By : Outcome → Type 0
  By o = TracedBy t.live own a o

  less : (n : ℕ) (last next : Option (Bool × ℕ)) (x : Moment) → LastOk next x.devices → Is (suc n) last x → Is n next x
  less n last next x ok h = record { replays = h.replays; room = room_less n x.touches h.room; last_ok = ok; evens = h.evens }

  with_mem : (n : ℕ) (last next : Option (Bool × ℕ)) (x : Moment) (mem : List ℕ) → LastOk next x.devices → Is n last x → Is n next (record x { mem = mem })
  with_mem n last next x mem ok h = record { replays = h.replays; room = h.room; last_ok = ok; evens = h.evens }

  after_sample : (n : ℕ) (last : Option (Bool × ℕ)) (at k : ℕ) (w : Window) (x : Moment) → Is (suc n) last x
      → device_of x.devices at ≡ Some (k, w) → w.kind ≡ Sensor → w.fresh ≡ true → may_at true t.live own Read at ≡ true
      → Is n (Some (true, at)) (record { mem = x.mem; devices = cleared x.devices k; touches = with_touch x.touches (DeviceRead k w.value) })
  after_sample n last at k w x h d s f m =
      let p = device_of_parts x.devices at k w d in
      let o = window_open t.live own Read x.devices at k w d (h.evens k w p.1).0 m in
      let g = read_noted t.live own n k w x.touches a x.devices h.room h.replays o.0 s f o.1 in
      record {
        replays = g.0;
        room = g.1;
        last_ok = λ k2 w2 e.
            let p2 = device_of_parts (cleared x.devices k) at k2 w2 e in
            let same : ◌≡◌ {A = Option ℕ} (Some k2) (Some k) = sym p2.0 ∙ device_at_same (cleared x.devices k) x.devices at (cleared_shapes x.devices k) ∙ p.0 in
            let v = window_same (cleared x.devices k) x.devices k2 w2 (cleared_shapes x.devices k) p2.1 in
            let vw : v.0 ≡ w = some_inj v.0 w (sym v.1 ∙ subst (λ j. slice_get x.devices j ≡ Some w) (sym (some_inj k2 k same)) p.1) in
            sym v.3 ∙ ap (λ (z : Window). z.kind) vw ∙ s;
        evens = λ j y e.
            let v = window_same (cleared x.devices k) x.devices j y (cleared_shapes x.devices k) e in
            subst (λ z. (z % 2 ≡ 0) × (z < 0xFFE0)) v.2 (h.evens j v.0 v.1);
      }

  sampled_by : (n : ℕ) (last : Option (Bool × ℕ)) (at k : ℕ) (w : Window) (x : Moment) (f : ℕ → Moment → Outcome) (b : Bool)
      → Is (suc n) last x → device_of x.devices at ≡ Some (k, w) → w.kind ≡ Sensor → w.fresh ≡ b → may_at true t.live own Read at ≡ true
      → ((v : ℕ) (y : Moment) → Is n (Some (true, at)) y → By (f v y)) → By (after_read (Ok (sampled k w x)) f)
  sampled_by n last at k w x f true h d s fr m g =
      let p : ℕ × Moment = (0x8000 + w.value, record { mem = x.mem; devices = cleared x.devices k; touches = with_touch x.touches (DeviceRead k w.value) }) in
      let e : sampled k w x ≡ p = ap (λ (b : Bool). let q : ℕ × Moment = (0, x) in if b then p else q) fr in
      subst (λ z. By (f z.0 z.1)) (sym e) (g p.0 p.1 (after_sample n last at k w x h d s fr m))
  sampled_by n last at k w x f false h d s fr m g =
      let p : ℕ × Moment = (0x8000 + w.value, record { mem = x.mem; devices = cleared x.devices k; touches = with_touch x.touches (DeviceRead k w.value) }) in
      let q : ℕ × Moment = (0, x) in
      let e : sampled k w x ≡ q = ap (λ (b : Bool). if b then p else q) fr in
      subst (λ z. By (f z.0 z.1)) (sym e) (g 0 x (less n last (Some (true, at)) x (λ k2 w2 e2. ap (λ (z : ℕ × Window). z.1.kind) (some_inj (k2, w2) (k, w) (sym e2 ∙ d)) ∙ s) h))

  device_by : (n : ℕ) (last : Option (Bool × ℕ)) (wide : Bool) (at k : ℕ) (w : Window) (kind : Kind) (x : Moment) (f : ℕ → Moment → Outcome)
      → Is (suc n) last x → device_of x.devices at ≡ Some (k, w) → w.kind ≡ kind → may_at wide t.live own Read at ≡ true
      → ((v : ℕ) (y : Moment) → Is n (Some (wide, at)) y → By (f v y)) → By (after_read (read_device wide k w kind x) f)
  device_by n last true at k w Sensor x f h d e m g = sampled_by n last at k w x f w.fresh h d e refl m g
  device_by n last false at k w Sensor x f h d e m g = tt
  device_by n last true at k w Actuator x f h d e m g = tt
  device_by n last false at k w Actuator x f h d e m g = tt

  place_by : (n : ℕ) (last : Option (Bool × ℕ)) (wide : Bool) (at : ℕ) (o : Option (ℕ × Window)) (x : Moment) (f : ℕ → Moment → Outcome)
      → Is (suc n) last x → device_of x.devices at ≡ o → may_at wide t.live own Read at ≡ true
      → ((v : ℕ) (y : Moment) → Is n (Some (wide, at)) y → By (f v y)) → By (after_read (read_place wide at o x) f)
  place_by n last wide at None x f h d m g = g (read_at wide x.mem at) x (less n last (Some (wide, at)) x (λ k w e. absurd (none-some (k, w) (sym d ∙ e))) h)
  place_by n last wide at (Some dv) x f h d m g = device_by n last wide at dv.0 dv.1 dv.1.kind x f h d refl m g

  load_by : (n : ℕ) (last : Option (Bool × ℕ)) (wide : Bool) (at : ℕ) (x : Moment) (f : ℕ → Moment → Outcome) (b : Bool) → may_at wide t.live own Read at ≡ b → Is (suc n) last x
      → ((v : ℕ) (y : Moment) → Is n (Some (wide, at)) y → By (f v y)) → By (after_read (if b then read_place wide at (device_of x.devices at) x else Err bad.Read) f)
  load_by n last wide at x f true m h g = place_by n last wide at (device_of x.devices at) x f h refl m g
  load_by n last wide at x f false m h g = tt

  load_all : (n : ℕ) (last : Option (Bool × ℕ)) (wide : Bool) (at : ℕ) (k : ℕ → Plan) (x : Moment) (f : ℕ → Moment → Outcome) (b : Bool) → may_at wide t.live own Read at ≡ b → Is n last x
      → ((0xFFE0 ≤ at) × ((v : ℕ) → Sparse n (Some (wide, at)) (k v))) ⊎ Spend n (λ m. (v : ℕ) → Sparse m (Some (wide, at)) (k v))
      → ((m v : ℕ) (y : Moment) → Sparse m (Some (wide, at)) (k v) → Is m (Some (wide, at)) y → By (f v y))
      → By (after_read (if b then read_place wide at (device_of x.devices at) x else Err bad.Read) f)
  load_all n last wide at k x f false m h s g = tt
  load_all n last wide at k x f true m h (inl s) g =
      let none = none_above x.devices at h.evens s.0 in
      subst (λ o. By (after_read (read_place wide at o x) f)) (sym none)
      (g n (read_at wide x.mem at) x (s.1 (read_at wide x.mem at)) (record { replays = h.replays; room = h.room; last_ok = λ j w e. absurd (none-some (j, w) (sym none ∙ e)); evens = h.evens }))
  load_all zero last wide at k x f true m h (inr s) g = absurd s
  load_all (suc n) last wide at k x f true m h (inr s) g = load_by n last wide at x f true m h (λ v y i. g n v y (s v) i)

  -- a store that is free
  free_by : (n : ℕ) (wide : Bool) (at v : ℕ) (o : Option (ℕ × Window)) (x : Moment) (f : Moment → Outcome) → Is n (Some (wide, at)) x → device_of x.devices at ≡ o
      → ((y : Moment) → Is n None y → By (f y)) → By (after_write (write_place wide at v o x) f)
  free_by n wide at v None x f h d g = g (record x { mem = write_at wide x.mem at v }) (with_mem n (Some (wide, at)) None x (write_at wide x.mem at v) tt h)
  free_by n wide at v (Some dv) x f h d g = sensor_refuses dv.1.kind wide (h.last_ok dv.0 dv.1 d)
    where
      sensor_refuses : (k : Kind) (wide : Bool) → k ≡ Sensor → By (after_write (write_device wide dv.0 v k x) f)
      sensor_refuses Sensor true e = tt
      sensor_refuses Sensor false e = tt
      sensor_refuses Actuator wide e = absurd (cc e)

  -- a store that may touch an actuator
  after_actuated : (n : ℕ) (last : Option (Bool × ℕ)) (at k v : ℕ) (w : Window) (x : Moment) → Is (suc n) last x
      → device_of x.devices at ≡ Some (k, w) → w.kind ≡ Actuator → may_at true t.live own Write at ≡ true
      → Is n None (record x { touches = with_touch x.touches (DeviceWrite k v) })
  after_actuated n last at k v w x h d s m =
      let p = device_of_parts x.devices at k w d in
      let o = window_open t.live own Write x.devices at k w d (h.evens k w p.1).0 m in
      let g = write_noted t.live own n k v w x.touches a x.devices h.room h.replays o.0 s o.1 in
      record { replays = g.0; room = g.1; last_ok = tt; evens = h.evens }

  actuate_by : (n : ℕ) (last : Option (Bool × ℕ)) (wide : Bool) (at v k : ℕ) (w : Window) (kind : Kind) (x : Moment) (f : Moment → Outcome)
      → Is (suc n) last x → device_of x.devices at ≡ Some (k, w) → w.kind ≡ kind → may_at wide t.live own Write at ≡ true
      → ((y : Moment) → Is n None y → By (f y)) → By (after_write (write_device wide k v kind x) f)
  actuate_by n last true at v k w Actuator x f h d e m g = g (record x { touches = with_touch x.touches (DeviceWrite k v) }) (after_actuated n last at k v w x h d e m)
  actuate_by n last false at v k w Actuator x f h d e m g = tt
  actuate_by n last true at v k w Sensor x f h d e m g = tt
  actuate_by n last false at v k w Sensor x f h d e m g = tt

  write_by : (n : ℕ) (last : Option (Bool × ℕ)) (wide : Bool) (at v : ℕ) (o : Option (ℕ × Window)) (x : Moment) (f : Moment → Outcome)
      → Is (suc n) last x → device_of x.devices at ≡ o → may_at wide t.live own Write at ≡ true
      → ((y : Moment) → Is n None y → By (f y)) → By (after_write (write_place wide at v o x) f)
  write_by n last wide at v None x f h d m g = g (record x { mem = write_at wide x.mem at v }) (with_mem n None None x (write_at wide x.mem at v) tt (less n last None x tt h))
  write_by n last wide at v (Some dv) x f h d m g = actuate_by n last wide at v dv.0 dv.1 dv.1.kind x f h d refl m g

  store_by : (n : ℕ) (last : Option (Bool × ℕ)) (wide : Bool) (at v : ℕ) (k : Plan) (x : Moment) (f : Moment → Outcome) (b : Bool) → may_at wide t.live own Write at ≡ b → Is n last x
      → ((last ≡ Some (wide, at)) × Sparse n None k) ⊎ Spend n (λ m. Sparse m None k)
      → ((m : ℕ) (y : Moment) → Sparse m None k → Is m None y → By (f y)) → By (after_write (if b then write_place wide at v (device_of x.devices at) x else Err bad.Write) f)
  store_by n last wide at v k x f false m h s g = tt
  store_by n last wide at v k x f true m h (inl s) g =
      free_by n wide at v (device_of x.devices at) x f (subst (λ l. Is n l x) s.0 h) refl (λ y i. g n y s.1 i)
  store_by zero last wide at v k x f true m h (inr s) g = absurd s
  store_by (suc n) last wide at v k x f true m h (inr s) g = write_by n last wide at v (device_of x.devices at) x f h refl m (λ y i. g n y s i)

  if_by : (b : Bool) (o : Outcome) (v : Violation) → By o → By (cond b o (Violated v))
  if_by true o v h = h
  if_by false o v h = tt

  fetch_by : (r : Result ℕ Violation) (f : ℕ → Outcome) → ((w : ℕ) → By (f w)) → By (after_fetch r f)
  fetch_by (Ok w) f g = g w
  fetch_by (Err v) f g = tt

  pub exec_traced : (p : Plan) (n : ℕ) (last : Option (Bool × ℕ)) (x : Moment) → Sparse n last p → Is n last x → By (exec t own p x)
  exec_traced (Done regs) n last x s h = h.replays
  exec_traced (Tell regs e c) n last x s h = h.replays
  exec_traced (Stop v) n last x s h = tt
  exec_traced (Fetch at k) n last x s h = fetch_by (fetch t.live own at x) (λ w. exec t own (k w) x) (λ w. exec_traced (k w) n last x (s w) h)
  exec_traced (Load wide at k) n last x s h = load_all n last wide at k x (λ v y. exec t own (k v) y)
      (may_at wide t.live own Read at) refl h s (λ m v y sp i. exec_traced (k v) m (Some (wide, at)) y sp i)
  exec_traced (Store wide at v k) n last x s h = store_by n last wide at v k x (λ y. exec t own k y) (may_at wide t.live own Write at) refl h s (λ m y sp i. exec_traced k m None y sp i)
  exec_traced (Need b v k) n last x s h = if_by b (exec t own k x) v (exec_traced k n last x s h)
  exec_traced (Writable at c k) n last x s h = if_by (may_range t.live own Write at c) (exec t own k x) bad.Write (exec_traced k n last x s h)
  exec_traced (Bytes at c k) n last x s h = if_by (may_range t.live own Read at c)
      (exec t own (k (bytes_from x.mem at c)) x) bad.Read (exec_traced (k (bytes_from x.mem at c)) n last x (s (bytes_from x.mem at c)) h)
  exec_traced (Put at bs k) n last x s h =
      if_by (may_each t.live own Write at bs) (exec t own k (record x { mem = put_bytes x.mem at bs })) bad.Write
      (exec_traced k n last (record x { mem = put_bytes x.mem at bs }) s (with_mem n last last x (put_bytes x.mem at bs) h.last_ok h))
