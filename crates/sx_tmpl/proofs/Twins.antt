-- A plan that shows no key does the same in two nodes that differ in keys.
use Rattle.std.proofs.Common.{◌≡◌, ℕ, ◌+◌, Bool, true, false, cond, ◌&&◌, inl, inr, List, Option, None, Result, Ok, Err}
use Rattle.std.proofs.Common.{refl, sym, ◌∙◌, ap, ap₂, subst, arith}
use Rattle.std.proofs.lemmas.Bool.{and_parts}
use Rattle.spec_machine.proofs.SameRights.{same_at}
use Rattle.sx_rules.specs.declared.access.Access.{Access}
use Rattle.sx_rules.specs.declared.access.Access.TheVariants.{Read, Write}
use Rattle.sx_rules.specs.declared.access.Violation.{Violation}
use Rattle.sx_rules.specs.declared.access.Violation.TheVariants as bad
use Rattle.sx_rules.specs.Access.{Sections, extends, may}
use Rattle.sx_bus.specs.declared.devices.Window.{Window}
use Rattle.sx_bus.specs.Devices.{device_at}
use Rattle.spec_machine.specs.Memory.{even, read_at}
use Rattle.spec_machine.specs.Plan.{Plan, Done, Tell, Stop, Fetch, Load, Store, Need, Writable, Bytes, Put}
use Rattle.spec_machine.specs.Run.{Moment, Outcome, Finished, Violated, Module, may_at, device_of, found, read_place, load}
use Rattle.spec_machine.specs.Run.{write_place, store, fetch_place, fetch, after_read, after_write, after_fetch, exec}
use Rattle.spec_machine.proofs.PlanGuard.{with_mem}
use Rattle.spec_invocation.specs.Setup.{Setup}
use Rattle.sx_tmpl.specs.Unseen.{IsWordShown, MovesKey, PlanShowsNone}
use Rattle.sx_tmpl.specs.Steady.{AgreeAt, AreOpen}
use Rattle.sx_tmpl.proofs.Agreeing.{AtPlaces, SameMoments, SameRead, SameWrite, fetch_place_same, read_place_same, write_apart, write_place_same}

module _ (places : ℕ → Type 0) where
  -- plain instructions that end alike
  abbrev pub SamePlain : Outcome → Outcome → Type 0
  SamePlain (Finished r x) (Finished q y) = (q ≡ r) × SameMoments places x y
  SamePlain (Violated v) (Violated w) = w ≡ v
  SamePlain (Finished r x) (Violated w) = ⊥
  SamePlain (Finished r x) (Module q y u f d) = ⊥
  SamePlain (Violated v) (Finished q y) = ⊥
  SamePlain (Violated v) (Module q y u f d) = ⊥
  SamePlain (Module r x t e c) o = ⊥

-- The module, a second table that grants the same, and places that hold what the module may read and that holds no key.
module _ (s : Setup) (t u : Sections) (live : t.live ≡ s.live) (places : ℕ → Type 0) (fit : AreOpen s places)
    (mays : (access : Access) (at : ℕ) → may u.live s.section.id access at ≡ may s.live s.section.id access at)
    (runs : (at : ℕ) → extends u.live s.section.id at ≡ extends s.live s.section.id at) where
  abbrev own : ℕ
  own = s.section.id

  abbrev pub Alike : Plan → Plan → Moment → List ℕ → Type 0
  Alike p q x n = SamePlain places (exec (record t { live = s.live }) own p x) (exec u own q (with_mem x n))

  store_same : (wide : Bool) (at v : ℕ) (x : Moment) (n : List ℕ) → AgreeAt places x.mem n → SameWrite places (store s.live own wide at v x) (store u.live own wide at v (with_mem x n))
  store_same wide at v x n h =
      subst (λ (b : Bool). SameWrite places (store s.live own wide at v x) (cond b (write_place wide at v (device_of x.devices at) (with_mem x n)) (Err bad.Write))) (sym (same_at s.live u.live own mays wide Write at))
      (by (may_at wide s.live own Write at))
    where
      by : (b : Bool) → SameWrite places (cond b (write_place wide at v (device_of x.devices at) x) (Err bad.Write))
          (cond b (write_place wide at v (device_of x.devices at) (with_mem x n)) (Err bad.Write))
      by true = write_place_same places wide at v (device_of x.devices at) x n h
      by false = refl

  load_same : (wide : Bool) (at : ℕ) (x : Moment) (n : List ℕ) → AgreeAt places x.mem n → (may_at wide s.live own Read at ≡ true → AtPlaces places wide at)
      → SameRead places (load s.live own wide at x) (load u.live own wide at (with_mem x n))
  load_same wide at x n h f =
      subst (λ (b : Bool). SameRead places (load s.live own wide at x) (cond b (read_place wide at (device_of x.devices at) (with_mem x n)) (Err bad.Read))) (sym (same_at s.live u.live own mays wide Read at))
      (by (may_at wide s.live own Read at) f)
    where
      by : (b : Bool) → (b ≡ true → AtPlaces places wide at) → SameRead places (cond b (read_place wide at (device_of x.devices at) x) (Err bad.Read))
          (cond b (read_place wide at (device_of x.devices at) (with_mem x n)) (Err bad.Read))
      by true g = read_place_same places wide at (device_of x.devices at) x n h (g refl)
      by false g = refl

  fetch_same : (at : ℕ) (x : Moment) (n : List ℕ) → AgreeAt places x.mem n → fetch u.live own at (with_mem x n) ≡ fetch s.live own at x
  fetch_same at x n h =
      ap (λ (b : Bool). cond b (fetch_place at (device_of x.devices at) (with_mem x n)) (Err bad.Fetch)) (ap₂ (λ b c. b && c) (runs (even at)) (runs (even at + 1)))
      ∙ by (extends s.live own (even at) && extends s.live own (even at + 1)) refl
    where
      by : (b : Bool) → (extends s.live own (even at) && extends s.live own (even at + 1)) ≡ b
          → cond b (fetch_place at (device_of x.devices at) (with_mem x n)) (Err bad.Fetch) ≡ cond b (fetch_place at (device_of x.devices at) x) (Err bad.Fetch)
      by true e =
          let p = and_parts (extends s.live own (even at)) (extends s.live own (even at + 1)) e in
          fetch_place_same places at (device_of x.devices at) x n h (fit.fetched (even at) p.0, fit.fetched (even at + 1) p.1)
      by false e = refl

  -- where a word that is read holds no key
  open_word : (at : ℕ) → IsWordShown s (even at) → may_at true s.live own Read at ≡ true → AtPlaces places true at
  open_word at h e =
      let p = and_parts (may s.live own Read (even at)) (may s.live own Read (even at + 1)) e in
      (fit.read (even at) p.0 h.0, fit.read (even at + 1) p.1 h.1)

  fetched_on : (r : Result ℕ Violation) (k : ℕ → Plan) (x : Moment) (n : List ℕ) → ((w : ℕ) → r ≡ Ok w → Alike (k w) (k w) x n)
      → SamePlain places (after_fetch r (λ w. exec (record t { live = s.live }) own (k w) x)) (after_fetch r (λ w. exec u own (k w) (with_mem x n)))
  fetched_on (Ok w) k x n f = f w refl
  fetched_on (Err v) k x n f = refl

  read_on : (r q : Result (ℕ × Moment) Violation) (k : ℕ → Plan) → SameRead places r q
      → ((v : ℕ) (x : Moment) (n : List ℕ) → r ≡ Ok (v, x) → AgreeAt places x.mem n → Alike (k v) (k v) x n)
      → SamePlain places (after_read r (λ v y. exec (record t { live = s.live }) own (k v) y)) (after_read q (λ v y. exec u own (k v) y))
  read_on (Ok r) (Ok q) k h f =
      subst (λ (y : Moment). SamePlain places (exec (record t { live = s.live }) own (k r.0) r.1) (exec u own (k q.0) y)) (sym h.1.rest)
      (subst (λ (v : ℕ). SamePlain places (exec (record t { live = s.live }) own (k r.0) r.1) (exec u own (k v) (with_mem r.1 q.1.mem))) h.0 (f r.0 r.1 q.1.mem refl h.1.mem))
  read_on (Err v) (Err w) k h f = sym h
  read_on (Ok r) (Err w) k h f = absurd h
  read_on (Err v) (Ok q) k h f = absurd h

  written_on : (r q : Result Moment Violation) (k : Plan) → SameWrite places r q → ((x : Moment) (n : List ℕ) → r ≡ Ok x → AgreeAt places x.mem n → Alike k k x n)
      → SamePlain places (after_write r (λ y. exec (record t { live = s.live }) own k y)) (after_write q (λ y. exec u own k y))
  written_on (Ok x) (Ok y) k h f = subst (λ (z : Moment). SamePlain places (exec (record t { live = s.live }) own k x) (exec u own k z)) (sym h.rest) (f x y.mem refl h.mem)
  written_on (Err v) (Err w) k h f = sym h
  written_on (Ok x) (Err w) k h f = absurd h
  written_on (Err v) (Ok y) k h f = absurd h

  -- a word that is stored where the places don't count, whatever it is
  store_apart : (at v w : ℕ) (x : Moment) (n : List ℕ) → (places (even at) → ⊥) → (places (even at + 1) → ⊥) → device_at x.devices at ≡ None → AgreeAt places x.mem n
      → SameWrite places (store s.live own true at v x) (store u.live own true at w (with_mem x n))
  store_apart at v w x n lo hi free h =
      subst (λ (b : Bool). SameWrite places (store s.live own true at v x) (cond b (write_place true at w (device_of x.devices at) (with_mem x n)) (Err bad.Write))) (sym (same_at s.live u.live own mays true Write at))
      (subst (λ (d : Option (ℕ × Window)). SameWrite places (cond (may_at true s.live own Write at) (write_place true at v d x) (Err bad.Write))
      (cond (may_at true s.live own Write at) (write_place true at w d (with_mem x n)) (Err bad.Write))) (sym (ap (found x.devices) free))
      (by (may_at true s.live own Write at)))
    where
      by : (b : Bool) → SameWrite places (cond b (write_place true at v None x) (Err bad.Write)) (cond b (write_place true at w None (with_mem x n)) (Err bad.Write))
      by true = record { rest = refl; mem = write_apart places x.mem n at v w lo hi h }
      by false = refl

  -- what a word of a key was, it is only stored in a slot's key
  moved_on : (at : ℕ) (k : ℕ → Plan) (v w : ℕ) (x : Moment) (n : List ℕ) → (m : MovesKey s x.devices at k) → AgreeAt places x.mem n
      → SamePlain places (exec (record t { live = s.live }) own (k v) x) (exec u own (k w) (with_mem x n))
  moved_on at k v w x n m h =
      let lo : places (even m.at) → ⊥ = λ p. fit.key m.o m.key (subst places m.place p) in
      let hi : places (even m.at + 1) → ⊥ = λ p. fit.key_high m.o m.key (subst (λ (a : ℕ). places (a + 1)) m.place p) in
      subst (λ (p : Plan). SamePlain places (exec (record t { live = s.live }) own p x) (exec u own (k w) (with_mem x n))) (sym (m.is v))
      (subst (λ (p : Plan). SamePlain places (exec (record t { live = s.live }) own (Store true m.at v (Done m.regs)) x) (exec u own p (with_mem x n))) (sym (m.is w))
      (written_on (store s.live own true m.at v x) (store u.live own true m.at w (with_mem x n)) (Done m.regs) (store_apart m.at v w x n lo hi m.free h)
      (λ y o e g. (refl, record { rest = refl; mem = g }))))

  -- so a read of it in both does the same
  key_read : (at : ℕ) (k : ℕ → Plan) (x : Moment) (n : List ℕ) → AgreeAt places x.mem n → MovesKey s x.devices at k → Alike (Load true at k) (Load true at k) x n
  key_read at k x n h m =
      subst (λ (b : Bool). SamePlain places (after_read (load s.live own true at x) on) (after_read (cond b (read_place true at (device_of x.devices at) (with_mem x n)) (Err bad.Read)) off))
      (sym (same_at s.live u.live own mays true Read at))
      (subst (λ (d : Option (ℕ × Window)). SamePlain places (after_read (cond (may_at true s.live own Read at) (read_place true at d x) (Err bad.Read)) on)
      (after_read (cond (may_at true s.live own Read at) (read_place true at d (with_mem x n)) (Err bad.Read)) off)) (sym (ap (found x.devices) m.from))
      (by (may_at true s.live own Read at)))
    where
      on : ℕ → Moment → Outcome
      on = λ v y. exec (record t { live = s.live }) own (k v) y

      off : ℕ → Moment → Outcome
      off = λ v y. exec u own (k v) y

      by : (b : Bool) → SamePlain places (after_read (cond b (read_place true at None x) (Err bad.Read)) on) (after_read (cond b (read_place true at None (with_mem x n)) (Err bad.Read)) off)
      by true = moved_on at k (read_at true x.mem at) (read_at true n at) x n m h
      by false = refl

  -- A plan that shows no key does the same in both.
  pub plan_same : (p : Plan) (x : Moment) (n : List ℕ) → AgreeAt places x.mem n → PlanShowsNone s p x → Alike p p x n
  plan_same (Done regs) x n h shown = (refl, record { rest = refl; mem = h })
  plan_same (Tell regs event exchange) x n h shown = absurd shown
  plan_same (Stop v) x n h shown = refl
  plan_same (Fetch at k) x n h shown =
      subst (λ (r : Result ℕ Violation). SamePlain places (after_fetch (fetch s.live own at x) (λ w. exec (record t { live = s.live }) own (k w) x)) (after_fetch r (λ w. exec u own (k w) (with_mem x n))))
      (sym (fetch_same at x n h)) (fetched_on (fetch s.live own at x) k x n (λ w e. plan_same (k w) x n h (shown w e)))
  plan_same (Load true at k) x n h (inl m) = key_read at k x n h m
  plan_same (Load true at k) x n h (inr shown) =
      read_on (load s.live own true at x) (load u.live own true at (with_mem x n)) k (load_same true at x n h (open_word at shown.0))
      (λ v y o e g. plan_same (k v) y o g (shown.1 v y e))
  plan_same (Load false at k) x n h shown =
      read_on (load s.live own false at x) (load u.live own false at (with_mem x n)) k (load_same false at x n h (λ e. fit.read at e shown.0))
      (λ v y o e g. plan_same (k v) y o g (shown.1 v y e))
  plan_same (Store wide at v k) x n h shown =
      written_on (store s.live own wide at v x) (store u.live own wide at v (with_mem x n)) k (store_same wide at v x n h) (λ y o e g. plan_same k y o g (shown y e))
  plan_same (Need true v k) x n h shown = plan_same k x n h (shown refl)
  plan_same (Need false v k) x n h shown = refl
  plan_same (Writable at len k) x n h shown = absurd shown
  plan_same (Bytes at len k) x n h shown = absurd shown
  plan_same (Put at bs k) x n h shown = absurd shown
