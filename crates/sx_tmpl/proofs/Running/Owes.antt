-- What a plan of the module's own code owes, and that it does what was said: one case for each kind of access.
use Rattle.std.proofs.Common.{◌≡◌, ◌≢◌, ℕ, zero, suc, ◌+◌, ◌%◌, ◌<◌, ◌≤◌, inl, inr, Bool, true, false, List, [], ◌∷◌, length, Option, Some, None, Ok, Err, refl}
use Rattle.std.proofs.Common.{sym, ◌∙◌, ap, subst, arith, cond, slice_index, slice_set}
use Rattle.std.proofs.lemmas.Bool.{and_from, cases_eq, cases_Bool, true≢false}
use Rattle.std.proofs.lemmas.List.{get_or-set_same, get_or-set_other, length-set}
use Rattle.std.specs.Prelude.{slice_get, Result}
use Rattle.std.specs.List.{position_from}
use Rattle.std.proofs.lemmas.Option.{none-some, same_Some}
use Rattle.sx_isa.proofs.StandingLemmas.{even_same}
use Rattle.sx_bus.specs.declared.devices.Window.{Window}
use Rattle.sx_bus.specs.declared.devices.Kind.{Kind}
use Rattle.sx_bus.specs.declared.devices.Kind.TheVariants.{Sensor, Actuator}
use Rattle.sx_bus.specs.Devices.{device_at, on_word}
use Rattle.sx_rules.specs.declared.access.Access.TheVariants.{Read, Write}
use Rattle.sx_rules.specs.declared.access.Violation.{Violation}
use Rattle.sx_rules.specs.declared.access.Violation.TheVariants as bad
use Rattle.sx_rules.specs.Access.{in_public, in_private, may}
use Rattle.spec_machine.specs.declared.kinds.Event.{Event}
use Rattle.spec_machine.specs.declared.kinds.Exchange.{Exchange}
use Rattle.spec_machine.specs.Memory.{even, bytes_from, put_bytes}
use Rattle.spec_machine.specs.Plan.{Plan, Done, Tell, Stop, Fetch, Load, Store, Need, Writable, Bytes, Put}
use Rattle.spec_machine.specs.Run.{Moment, Outcome, Finished, Violated, Module, may_range, may_each, found, read_place, read_device, write_place, write_device}
use Rattle.spec_machine.specs.Run.{load, store, after_read, after_write, exec}
use Rattle.sx_tmpl.specs.Running.{sections_of, Fixed, Elsewhere, OutsideKept, cell}
use Rattle.sx_tmpl.proofs.Running.MidRun.{Stands, refused, device_refusal, PrivateByte, PrivatePlace, PrivateWord, PrivateRange, PublicWord, place_of, put_cell, word_shown}
use Rattle.sx_tmpl.specs.Unseen.{IsShown, IsWordShown, PlanShowsNone}
use Rattle.sx_tmpl.proofs.Running.Owned.{in_private_yes, in_public_yes, may_read, may_read_text, may_write, written_not_public, public_bounds, public_not_private}
use Rattle.sx_tmpl.proofs.Running.Mem.{length-put, get-put_other, bytes_put, word_is, put_word_is}

-- a byte that may be written: in the private section, or in the window outside it
pub data Place (f : Fixed) (a : ℕ) : Type 0 where
  Inside : PrivateByte f a → Place f a
  Outside : f.from ≤ a → a < f.to → Place f a

-- What is owed: of each access its address, and that it is let through or how it is refused; of each read what it
-- gives; and at the end what is to follow.
module _ (f : Fixed) (Q : List ℕ → List ℕ → Type 0) (T : List ℕ → Event → Exchange → List ℕ → Type 0) (B : Violation → Type 0) where
  abbrev pub Owes : Plan → List ℕ → Type 0
  Owes (Done regs) m = OutsideKept f m → Q regs m
  Owes (Tell regs event exchange) m = ⊥
  Owes (Stop v) m = B v
  Owes (Fetch at k) m = ⊥
  Owes (Load true at k) m = (a : ℕ) × (at ≡ a) × PrivateWord f a × (v : ℕ) × (cell m a ≡ v) × Owes (k v) m
  Owes (Load false at k) m = (a : ℕ) × (at ≡ a) × IsShown f.setup a × ((v : Violation) → refused f Read bad.Read a ≡ Some v → B v)
      × (refused f Read bad.Read a ≡ None → Owes (k (slice_index m a)) m)
  Owes (Store true at v k) m = (a : ℕ) × (at ≡ a) × PrivateWord f a × (w : ℕ) × (v ≡ w) × (w < 65536) × Owes k (put_cell m a w)
  Owes (Store false at v k) m = (a : ℕ) × (at ≡ a) × Place f a × ((w : Violation) → refused f Write bad.Write a ≡ Some w → B w) × (refused f Write bad.Write a ≡ None
      → Owes k (slice_set m a (v % 256)))
  Owes (Need b v k) m = (b ≡ false → B v) × (b ≡ true → Owes k m)
  Owes (Writable at n k) m = ⊥
  Owes (Bytes at n k) m = ⊥
  Owes (Put at bs k) m = ⊥

  -- what is owed by a module instruction
  abbrev pub OwesSeal : Plan → List ℕ → Type 0
  OwesSeal (Done regs) m = OutsideKept f m → Q regs m
  OwesSeal (Tell regs event exchange) m = OutsideKept f m → T regs event exchange m
  OwesSeal (Stop v) m = B v
  OwesSeal (Fetch at k) m = ⊥
  OwesSeal (Load wide at k) m = ⊥
  OwesSeal (Store wide at v k) m = ⊥
  OwesSeal (Need b v k) m = (b ≡ false → B v) × (b ≡ true → OwesSeal k m)
  OwesSeal (Writable at n k) m = PrivateRange f at n × OwesSeal k m
  OwesSeal (Bytes at n k) m = PrivateRange f at n × OwesSeal (k (bytes_from m at n)) m
  OwesSeal (Put at bs k) m = PrivateRange f at (length bs) × OwesSeal k (put_bytes m at bs)

  -- the end of a plan is what was owed
  abbrev pub Met : Moment → Outcome → Type 0
  Met x (Finished regs y) = (y ≡ record x { mem = y.mem }) × OutsideKept f y.mem × Q regs y.mem
  Met x (Violated v) = B v
  Met x (Module regs y t event exchange) = (y ≡ record x { mem = y.mem }) × OutsideKept f y.mem × (t ≡ (sections_of f)) × T regs event exchange y.mem

module _ (f : Fixed) (st : Stands f) where
  apart_outside : (a b : ℕ) → in_private f.setup.section a ≡ true → Elsewhere f b → b ≢ a
  apart_outside a b h o e = true≢false (sym h ∙ ap (in_private f.setup.section) (sym e) ∙ o.outside)

  -- the text stays
  pub text_kept : (m : List ℕ) (a : ℕ) → OutsideKept f m → in_public f.setup.section a ≡ true → slice_index m a ≡ slice_index f.entered a
  text_kept m a k h =
      let p = public_bounds f.setup.section a h in
      let shut : may f.setup.live f.setup.section.id Write a ≡ false = elim (cases_Bool (may f.setup.live f.setup.section.id Write a)) [
        | inl t ↦ absurd (true≢false (sym h ∙ written_not_public f st a t))
        | inr t ↦ t
      ] in
      k.elsewhere a (record { outside = public_not_private f st a p.0 p.1; beside = inr (inr shut) })

  -- a word written into the private section
  pub kept_word : (m : List ℕ) (a v : ℕ) → OutsideKept f m → PrivatePlace f a → v < 65536 → OutsideKept f (put_cell m a v)
  kept_word m a v k p lt =
      let inside = in_private_yes f.setup.section a (omega (arith, p.low)) (omega (arith, p.high)) in
      let inside1 = in_private_yes f.setup.section (a + 1) (omega (arith, p.low)) (omega (arith, p.high)) in
      record {
        size = length-put m a v ∙ k.size;
        bytes = bytes_put m a v lt (let e : length m ≡ 65536 = k.size in omega (arith, p.high, st.beneath)) k.bytes;
        elsewhere = λ b o. get-put_other m a v b (apart_outside a b inside o) (apart_outside (a + 1) b inside1 o) ∙ k.elsewhere b o;
      }

  bytes_set : (m : List ℕ) (a v : ℕ) → v < 256 → a < length m → ((b : ℕ) → slice_index m b < 256) → (b : ℕ) → slice_index (slice_set m a v) b < 256
  bytes_set m a v lt len h b = elim (cases_eq b a) [
    | inl e ↦ subst (λ (n : ℕ). n < 256) (sym (ap (slice_index (slice_set m a v)) e ∙ get_or-set_same m a v 0 len)) lt
    | inr ne ↦ subst (λ (n : ℕ). n < 256) (sym (get_or-set_other m a b v 0 ne)) (h b)
  ]

  -- a byte written into the private section, or into the window where the access table lets it
  pub kept_byte : (m : List ℕ) (a v : ℕ) → OutsideKept f m → Place f a → may f.setup.live f.setup.section.id Write a ≡ true → OutsideKept f (slice_set m a (v % 256))
  kept_byte m a v k (Inside p) h =
      let inside = in_private_yes f.setup.section a (omega (arith, p.low)) p.high in
      record {
        size = length-set m a (v % 256) ∙ k.size;
        bytes = bytes_set m a (v % 256) (omega arith) (let e : length m ≡ 65536 = k.size in omega (arith, p.high, st.beneath)) k.bytes;
        elsewhere = λ b o. get_or-set_other m a b (v % 256) 0 (apart_outside a b inside o) ∙ k.elsewhere b o;
      }
  kept_byte m a v k (Outside lo hi) h =
      record {
        size = length-set m a (v % 256) ∙ k.size;
        bytes = bytes_set m a (v % 256) (omega arith) (let e : length m ≡ 65536 = k.size in omega (arith, st.window)) k.bytes;
        elsewhere = λ b o. get_or-set_other m a b (v % 256) 0 (beside b o) ∙ k.elsewhere b o;
      }
    where
      beside : (b : ℕ) → Elsewhere f b → b ≢ a
      beside b o e = elim (o.beside) [ inl q ↦ omega arith | inr q ↦ elim q [ inl p ↦ omega arith | inr shut ↦ true≢false (sym h ∙ ap (may f.setup.live f.setup.section.id Write) (sym e) ∙ shut) ] ]

  pub load_word : (at a : ℕ) (x : Moment) → at ≡ a → PrivatePlace f a → ((b : ℕ) → device_at x.devices b ≡ device_at f.devices b) → load f.setup.live f.setup.section.id true at x ≡ Ok (cell x.mem a, x)
  load_word at a x e p same =
      let inside = in_private_yes f.setup.section a (omega (arith, p.low)) (omega (arith, p.high)) in
      let e1 = even_same a p.is_even in
      let m1 = may_read f st a (omega (arith, p.low)) (omega (arith, p.high)) in
      let m2 = may_read f st (a + 1) (omega (arith, p.low)) (omega (arith, p.high)) in
      let d : device_at x.devices a ≡ None = same a ∙ st.private_plain a inside p.low in
      rw (e, e1, m1, m2, d) (ap (λ v. Ok (v, x)) (word_is x.mem a p.is_even))

  -- a word of the text is read
  pub load_text : (at a : ℕ) (x : Moment) → at ≡ a → PublicWord f a → ((b : ℕ) → device_at x.devices b ≡ device_at f.devices b) → load f.setup.live f.setup.section.id true at x ≡ Ok (cell x.mem a, x)
  load_text at a x e p same =
      let e1 = even_same a p.is_even in
      let m1 = may_read_text f st a p.low (omega (arith, p.high)) in
      let m2 = may_read_text f st (a + 1) (omega (arith, p.low)) (omega (arith, p.high)) in
      let d : device_at x.devices a ≡ None = same a ∙ st.public_plain a (in_public_yes f.setup.section a p.low (omega (arith, p.high))) in
      rw (e, e1, m1, m2, d) (ap (λ v. Ok (v, x)) (word_is x.mem a p.is_even))

  pub store_word : (at a v : ℕ) (x : Moment) → at ≡ a → PrivatePlace f a → ((b : ℕ) → device_at x.devices b ≡ device_at f.devices b)
      → store f.setup.live f.setup.section.id true at v x ≡ Ok (record x { mem = put_cell x.mem a v })
  store_word at a v x e p same =
      let inside = in_private_yes f.setup.section a (omega (arith, p.low)) (omega (arith, p.high)) in
      let e1 = even_same a p.is_even in
      let m1 = may_write f st a (omega (arith, p.low)) (omega (arith, p.high)) in
      let m2 = may_write f st (a + 1) (omega (arith, p.low)) (omega (arith, p.high)) in
      let d : device_at x.devices a ≡ None = same a ∙ st.private_plain a inside p.low in
      rw (e, e1, m1, m2, d) (ap (λ m. Ok (record x { mem = m })) (put_word_is x.mem a v p.is_even))

  -- a device that holds a byte is one of the list
  stands_at : (test : Window → Bool) (all xs : List Window) (n i : ℕ) → ((j : ℕ) → slice_get all (n + j) ≡ slice_get xs j) → position_from test n xs ≡ Some i
      → (w : Window) × (slice_get all i ≡ Some w)
  stands_at test all [] n i h e = absurd (none-some i e)
  stands_at test all (x ∷ xs) n i h e =
      either (test x) refl (stands_at test all xs (n + 1) i (λ j. let z : n + 1 + j ≡ n + suc j = omega arith in ap (slice_get all) z ∙ h (suc j)))
    where
      either : (b : Bool) → test x ≡ b → (position_from test (n + 1) xs ≡ Some i → (w : Window) × (slice_get all i ≡ Some w)) → (w : Window) × (slice_get all i ≡ Some w)
      either true t later =
          let same : n ≡ i = same_Some n i (subst (λ c. cond c (Some n) (position_from test (n + 1) xs) ≡ Some i) t e) in
          let z : n + 0 ≡ i = omega arith in
          (x, ap (slice_get all) (sym z) ∙ h 0)
      either false t later = later (subst (λ c. cond c (Some n) (position_from test (n + 1) xs) ≡ Some i) t e)

  -- a byte is read, or refused by the access table and then by a device
  pub load_byte : (a : ℕ) (x : Moment) → ((b : ℕ) → device_at x.devices b ≡ device_at f.devices b) → (r : Option Violation) → refused f Read bad.Read a ≡ r
      → load f.setup.live f.setup.section.id false a x ≡ elim r [ None ↦ Ok (slice_index x.mem a, x) | Some v ↦ Err v ]
  load_byte a x same r e = elim (cases_Bool (may f.setup.live f.setup.section.id Read a)) [
    | inl t ↦ let known : device_refusal (device_at f.devices a) ≡ r = rw t at e in
        rw t (on_device (device_at x.devices a) refl r (ap device_refusal (same a) ∙ known))
    | inr t ↦ let known : Some bad.Read ≡ r = rw t at e in
        rw (t, ← known) refl
  ]
    where
      on_device : (d : Option ℕ) → device_at x.devices a ≡ d → (r : Option Violation) → device_refusal (device_at x.devices a) ≡ r
          → read_place false a (found x.devices d) x ≡ elim r [ None ↦ Ok (slice_index x.mem a, x) | Some v ↦ Err v ]
      on_device None ed r er = let known : None ≡ r = rw ed at er in rw (← known) refl
      on_device (Some i) ed r er =
          let known : Some bad.Device ≡ r = rw ed at er in
          let w = stands_at (on_word a) x.devices x.devices 0 i (λ j. ap (slice_get x.devices) (omega arith)) ed in
          rw (← known, w.1) (kinds i w.0 w.0.kind)
        where
          kinds : (i : ℕ) (w : Window) (k : Kind) → read_device false i w k x ≡ Err bad.Device
          kinds i w Sensor = refl
          kinds i w Actuator = refl

  pub store_byte : (a v : ℕ) (x : Moment) → ((b : ℕ) → device_at x.devices b ≡ device_at f.devices b) → (r : Option Violation) → refused f Write bad.Write a ≡ r
      → store f.setup.live f.setup.section.id false a v x ≡ elim r [ None ↦ Ok (record x { mem = slice_set x.mem a (v % 256) }) | Some v ↦ Err v ]
  store_byte a v x same r e = elim (cases_Bool (may f.setup.live f.setup.section.id Write a)) [
    | inl t ↦ let known : device_refusal (device_at f.devices a) ≡ r = rw t at e in
        rw t (on_device (device_at x.devices a) refl r (ap device_refusal (same a) ∙ known))
    | inr t ↦ let known : Some bad.Write ≡ r = rw t at e in
        rw (t, ← known) refl
  ]
    where
      on_device : (d : Option ℕ) → device_at x.devices a ≡ d → (r : Option Violation) → device_refusal (device_at x.devices a) ≡ r
          → write_place false a v (found x.devices d) x ≡ elim r [ None ↦ Ok (record x { mem = slice_set x.mem a (v % 256) }) | Some v ↦ Err v ]
      on_device None ed r er = let known : None ≡ r = rw ed at er in rw (← known) refl
      on_device (Some i) ed r er =
          let known : Some bad.Device ≡ r = rw ed at er in
          let w = stands_at (on_word a) x.devices x.devices 0 i (λ j. ap (slice_get x.devices) (omega arith)) ed in
          rw (← known, w.1) (kinds i w.0 w.0.kind)
        where
          kinds : (i : ℕ) (w : Window) (k : Kind) → write_device false i v k x ≡ Err bad.Device
          kinds i w Sensor = refl
          kinds i w Actuator = refl

  -- what isn't refused is let through by the access table
  pub let_through : (a : ℕ) → refused f Write bad.Write a ≡ None → may f.setup.live f.setup.section.id Write a ≡ true
  let_through a e = elim (cases_Bool (may f.setup.live f.setup.section.id Write a)) [
    | inl t ↦ t
    | inr t ↦ absurd (none-some bad.Write (sym (rw t at e)))
  ]

  range_less : (a n : ℕ) → PrivateRange f a (suc n) → PrivateRange f a n
  range_less a n p = record { low = p.low; high = omega (arith, p.high) }

  pub range_read : (a n : ℕ) → PrivateRange f a n → may_range f.setup.live f.setup.section.id Read a n ≡ true
  range_read a zero p = refl
  range_read a (suc n) p = and_from _ _ (may_read f st (a + n) (omega (arith, p.low)) (omega (arith, p.high))) (range_read a n (range_less a n p))

  pub range_write : (a n : ℕ) → PrivateRange f a n → may_range f.setup.live f.setup.section.id Write a n ≡ true
  range_write a zero p = refl
  range_write a (suc n) p = and_from _ _ (may_write f st (a + n) (omega (arith, p.low)) (omega (arith, p.high))) (range_write a n (range_less a n p))

  range_next : (a n : ℕ) → PrivateRange f a (suc n) → PrivateRange f (a + 1) n
  range_next a n p = record { low = omega (arith, p.low); high = omega (arith, p.high) }

  range_each : (bs : List ℕ) (a : ℕ) → PrivateRange f a (length bs) → may_each f.setup.live f.setup.section.id Write a bs ≡ true
  range_each [] a p = refl
  range_each (b ∷ bs) a p = and_from _ _ (may_write f st a (omega (arith, p.low)) (omega (arith, p.high))) (range_each bs (a + 1) (range_next a (length bs) p))

  -- bytes written into the private section
  pub kept_bytes : (bs : List ℕ) (m : List ℕ) (a : ℕ) → OutsideKept f m → PrivateRange f a (length bs) → OutsideKept f (put_bytes m a bs)
  kept_bytes [] m a k p = k
  kept_bytes (b ∷ bs) m a k p =
      kept_bytes bs (slice_set m a (b % 256)) (a + 1)
      (kept_byte m a b k (Inside (record { low = p.low; high = omega (arith, p.high) })) (may_write f st a (omega (arith, p.low)) (omega (arith, p.high))))
      (range_next a (length bs) p)

module _ (f : Fixed) (st : Stands f) (Q : List ℕ → List ℕ → Type 0) (T : List ℕ → Event → Exchange → List ℕ → Type 0) (B : Violation → Type 0) where
  abbrev M : Moment → Outcome → Type 0
  M x o = Met f Q T B x o

  moved_on : (x : Moment) (m : List ℕ) (o : Outcome) → M (record x { mem = m }) o → M x o
  moved_on x m (Finished regs y) h = h
  moved_on x m (Violated v) h = h
  moved_on x m (Module regs y t event exchange) h = h

  -- a plan does what it owes
  pub owes_met : (p : Plan) (x : Moment) → ((b : ℕ) → device_at x.devices b ≡ device_at f.devices b) → OutsideKept f x.mem → Owes f Q T B p x.mem → M x (exec (sections_of f) f.setup.section.id p x)
  owes_met (Done regs) x same k h = (refl, k, h k)
  owes_met (Tell regs event exchange) x same k h = absurd h
  owes_met (Stop v) x same k h = h
  owes_met (Fetch at k) x same kept h = absurd h
  owes_met (Load true at k) x same kept h =
      subst (λ r. M x (after_read r (λ v y. exec (sections_of f) f.setup.section.id (k v) y))) (sym (load_word f st at h.0 x h.1 (place_of h.2) same))
      (subst (λ (v : ℕ). M x (exec (sections_of f) f.setup.section.id (k v) x)) (sym h.4) (owes_met (k h.3) x same kept h.5))
  owes_met (Load false at k) x same kept h =
      subst (λ a. M x (after_read (load f.setup.live f.setup.section.id false a x) (λ v y. exec (sections_of f) f.setup.section.id (k v) y))) (sym h.1)
      (byte (refused f Read bad.Read h.0) refl (λ e. owes_met (k (slice_index x.mem h.0)) x same kept (h.4 e)))
    where
      byte : (r : Option Violation) → refused f Read bad.Read h.0 ≡ r → (refused f Read bad.Read h.0 ≡ None → M x (exec (sections_of f) f.setup.section.id (k (slice_index x.mem h.0)) x))
          → M x (after_read (load f.setup.live f.setup.section.id false h.0 x) (λ v y. exec (sections_of f) f.setup.section.id (k v) y))
      byte None e go =
          subst (λ r. M x (after_read r (λ v y. exec (sections_of f) f.setup.section.id (k v) y))) (sym (load_byte f st h.0 x same None e)) (go e)
      byte (Some v) e go =
          subst (λ r. M x (after_read r (λ v y. exec (sections_of f) f.setup.section.id (k v) y))) (sym (load_byte f st h.0 x same (Some v) e)) (h.3 v e)
  owes_met (Store true at v k) x same kept h =
      subst (λ r. M x (after_write r (λ y. exec (sections_of f) f.setup.section.id k y))) (sym (store_word f st at h.0 v x h.1 (place_of h.2) same))
      (subst (λ (v : ℕ). M x (exec (sections_of f) f.setup.section.id k (record x { mem = put_cell x.mem h.0 v }))) (sym h.4)
      (moved_on x (put_cell x.mem h.0 h.3) _ (owes_met k (record x { mem = put_cell x.mem h.0 h.3 }) same (kept_word f st x.mem h.0 h.3 kept (place_of h.2) h.5) h.6)))
  owes_met (Store false at v k) x same kept h =
      subst (λ a. M x (after_write (store f.setup.live f.setup.section.id false a v x) (λ y. exec (sections_of f) f.setup.section.id k y))) (sym h.1) (byte (refused f Write bad.Write h.0) refl
      (λ e. moved_on x (slice_set x.mem h.0 (v % 256)) _ (owes_met k (record x { mem = slice_set x.mem h.0 (v % 256) }) same (kept_byte f st x.mem h.0 v kept h.2 (let_through f st h.0 e)) (h.4 e))))
    where
      byte : (r : Option Violation) → refused f Write bad.Write h.0 ≡ r
          → (refused f Write bad.Write h.0 ≡ None → M x (exec (sections_of f) f.setup.section.id k (record x { mem = slice_set x.mem h.0 (v % 256) })))
          → M x (after_write (store f.setup.live f.setup.section.id false h.0 v x) (λ y. exec (sections_of f) f.setup.section.id k y))
      byte None e go =
          subst (λ r. M x (after_write r (λ y. exec (sections_of f) f.setup.section.id k y))) (sym (store_byte f st h.0 v x same None e)) (go e)
      byte (Some w) e go =
          subst (λ r. M x (after_write r (λ y. exec (sections_of f) f.setup.section.id k y))) (sym (store_byte f st h.0 v x same (Some w) e)) (h.3 w e)
  owes_met (Need b v k) x same kept h = need b refl (λ e. owes_met k x same kept (h.1 e))
    where
      need : (c : Bool) → b ≡ c → (b ≡ true → M x (exec (sections_of f) f.setup.section.id k x)) → M x (cond b (exec (sections_of f) f.setup.section.id k x) (Violated v))
      need true e go = rw e (go e)
      need false e go = rw e (h.0 e)
  owes_met (Writable at n k) x same kept h = absurd h
  owes_met (Bytes at n k) x same kept h = absurd h
  owes_met (Put at bs k) x same kept h = absurd h

  -- a word of the private section is moved to another
  pub moved_met : (at a to b v : ℕ) (regs : List ℕ) (x : Moment) → at ≡ a → PrivatePlace f a → cell x.mem a ≡ v → to ≡ b → PrivatePlace f b → v < 65536
      → ((b : ℕ) → device_at x.devices b ≡ device_at f.devices b) → OutsideKept f x.mem → (OutsideKept f (put_cell x.mem b v) → Q regs (put_cell x.mem b v))
      → M x (exec (sections_of f) f.setup.section.id (Load true at (λ d. Store true to d (Done regs))) x)
  moved_met at a to b v regs x ea pa is eb pb lt same kept h =
      subst (λ r. M x (after_read r (λ d y. exec (sections_of f) f.setup.section.id (Store true to d (Done regs)) y))) (sym (load_word f st at a x ea pa same))
      (subst (λ (d : ℕ). M x (exec (sections_of f) f.setup.section.id (Store true to d (Done regs)) x)) (sym is)
      (subst (λ r. M x (after_write r (λ y. exec (sections_of f) f.setup.section.id (Done regs) y))) (sym (store_word f st to b v x eb pb same))
      (let k2 = kept_word f st x.mem b v kept pb lt in (refl, k2, h k2))))

  -- a word of the private section is compared with one of the text
  pub compared_met : (at a to b v w : ℕ) (regs : ℕ → ℕ → List ℕ) (x : Moment) → at ≡ a → PrivatePlace f a → cell x.mem a ≡ v → to ≡ b → PublicWord f b → cell x.mem b ≡ w
      → ((b : ℕ) → device_at x.devices b ≡ device_at f.devices b) → OutsideKept f x.mem → (OutsideKept f x.mem → Q (regs v w) x.mem)
      → M x (exec (sections_of f) f.setup.section.id (Load true at (λ v. Load true to (λ w. Done (regs v w)))) x)
  compared_met at a to b v w regs x ea pa va eb pb vb same kept h =
      subst (λ r. M x (after_read r (λ v y. exec (sections_of f) f.setup.section.id (Load true to (λ w. Done (regs v w))) y))) (sym (load_word f st at a x ea pa same))
      (subst (λ (v : ℕ). M x (exec (sections_of f) f.setup.section.id (Load true to (λ w. Done (regs v w))) x)) (sym va)
      (subst (λ r. M x (after_read r (λ w y. exec (sections_of f) f.setup.section.id (Done (regs v w)) y))) (sym (load_text f st to b x eb pb same))
      (subst (λ (w : ℕ). M x (exec (sections_of f) f.setup.section.id (Done (regs v w)) x)) (sym vb) (refl, kept, h kept))))

  -- so does a module instruction's
  pub seal_met : (p : Plan) (x : Moment) → OutsideKept f x.mem → OwesSeal f Q T B p x.mem → M x (exec (sections_of f) f.setup.section.id p x)
  seal_met (Done regs) x k h = (refl, k, h k)
  seal_met (Tell regs event exchange) x k h = (refl, k, refl, h k)
  seal_met (Stop v) x k h = h
  seal_met (Fetch at k) x kept h = absurd h
  seal_met (Load wide at k) x kept h = absurd h
  seal_met (Store wide at v k) x kept h = absurd h
  seal_met (Need b v k) x kept h = need b refl (λ e. seal_met k x kept (h.1 e))
    where
      need : (c : Bool) → b ≡ c → (b ≡ true → M x (exec (sections_of f) f.setup.section.id k x)) → M x (cond b (exec (sections_of f) f.setup.section.id k x) (Violated v))
      need true e go = rw e (go e)
      need false e go = rw e (h.0 e)
  seal_met (Writable at n k) x kept h = rw (range_write f st at n h.0) (seal_met k x kept h.1)
  seal_met (Bytes at n k) x kept h = rw (range_read f st at n h.0) (seal_met (k (bytes_from x.mem at n)) x kept h.1)
  seal_met (Put at bs k) x kept h =
      rw (range_each f st bs at h.0)
      (moved_on x (put_bytes x.mem at bs) _ (seal_met k (record x { mem = put_bytes x.mem at bs }) (kept_bytes f st bs x.mem at kept h.0) h.1))

-- what a read or a write gave
abbrev value_of : Result (ℕ × Moment) Violation → ℕ
value_of (Ok r) = r.0
value_of (Err v) = 0

abbrev moment_of : Moment → Result (ℕ × Moment) Violation → Moment
moment_of x (Ok r) = r.1
moment_of x (Err v) = x

abbrev written_of : Moment → Result Moment Violation → Moment
written_of x (Ok y) = y
written_of x (Err v) = x

err_ok : {T : Type 0} (v : Violation) (r : T) → ◌≡◌ {A = Result T Violation} (Err v) (Ok r) → ⊥
err_ok v r e = cc

module _ (f : Fixed) (st : Stands f) (Q : List ℕ → List ℕ → Type 0) (T : List ℕ → Event → Exchange → List ℕ → Type 0) (B : Violation → Type 0) where
  abbrev Shows_none : Plan → Moment → Type 0
  Shows_none p x = PlanShowsNone f.setup p x

  -- where a read or a write went well
  read_on : (k : ℕ → Plan) (r : Result (ℕ × Moment) Violation) (u v : ℕ) (x y : Moment) → r ≡ Ok (u, x) → r ≡ Ok (v, y) → Shows_none (k u) x → Shows_none (k v) y
  read_on k r u v x y here there h =
      let e = sym here ∙ there in
      let ev : u ≡ v = ap value_of e in
      let ey : x ≡ y = ap (moment_of x) e in
      subst (λ (z : Moment). Shows_none (k v) z) ey (subst (λ (n : ℕ). Shows_none (k n) x) ev h)

  written_on : (k : Plan) (r : Result Moment Violation) (x y : Moment) → r ≡ Ok x → r ≡ Ok y → Shows_none k x → Shows_none k y
  written_on k r x y here there h = let e : x ≡ y = ap (written_of x) (sym here ∙ there) in subst (λ (z : Moment). Shows_none k z) e h

  -- a comparison of a word of the private section that holds no key with one of the text shows none
  pub compared_shown : (at a to b : ℕ) (regs : ℕ → ℕ → List ℕ) (x : Moment) → at ≡ a → PrivateWord f a → to ≡ b → PublicWord f b → Shows_none (Load true at (λ v. Load true to (λ w. Done (regs v w)))) x
  compared_shown at a to b regs x ea pa eb pb =
      let ev : even at ≡ a = ap even ea ∙ even_same a pa.is_even in
      let ew : even to ≡ b = ap even eb ∙ even_same b pb.is_even in
      let text : IsWordShown f.setup b = (inl (public_not_private f st b pb.low (omega (arith, pb.high))), inl (public_not_private f st (b + 1) (omega (arith, pb.low)) (omega (arith, pb.high)))) in
      inr (
        subst (λ (a : ℕ). IsWordShown f.setup a) (sym ev) (word_shown f.setup a pa.shown),
        λ v y e. inr (subst (λ (a : ℕ). IsWordShown f.setup a) (sym ew) text, λ w z g. tt),
      )

  -- a plan that does what it owes shows no key
  pub owes_shown : (p : Plan) (x : Moment) → ((b : ℕ) → device_at x.devices b ≡ device_at f.devices b) → OutsideKept f x.mem → Owes f Q T B p x.mem → PlanShowsNone f.setup p x
  owes_shown (Done regs) x same kept h = tt
  owes_shown (Tell regs event exchange) x same kept h = absurd h
  owes_shown (Stop v) x same kept h = tt
  owes_shown (Fetch at k) x same kept h = absurd h
  owes_shown (Load true at k) x same kept h =
      let ev : even at ≡ h.0 = ap even h.1 ∙ even_same h.0 h.2.is_even in
      let here = load_word f st at h.0 x h.1 (place_of h.2) same in
      inr (
        subst (λ (a : ℕ). IsWordShown f.setup a) (sym ev) (word_shown f.setup h.0 h.2.shown),
        λ v y e. read_on k (load f.setup.live f.setup.section.id true at x) (cell x.mem h.0) v x y here e
            (subst (λ (n : ℕ). PlanShowsNone f.setup (k n) x) (sym h.4) (owes_shown (k h.3) x same kept h.5)),
      )
  owes_shown (Load false at k) x same kept h = (
    subst (λ (a : ℕ). IsShown f.setup a) (sym h.1) h.2,
    λ v y e. byte (λ g. owes_shown (k (slice_index x.mem h.0)) x same kept (h.4 g)) (refused f Read bad.Read h.0) refl v y
        (subst (λ (a : ℕ). load f.setup.live f.setup.section.id false a x ≡ Ok (v, y)) h.1 e),
  )
    where
      byte : (refused f Read bad.Read h.0 ≡ None → PlanShowsNone f.setup (k (slice_index x.mem h.0)) x) → (r : Option Violation) → refused f Read bad.Read h.0 ≡ r
          → (v : ℕ) (y : Moment) → load f.setup.live f.setup.section.id false h.0 x ≡ Ok (v, y) → PlanShowsNone f.setup (k v) y
      byte on None e v y g =
          read_on k (load f.setup.live f.setup.section.id false h.0 x) (slice_index x.mem h.0) v x y (load_byte f st h.0 x same None e) g (on e)
      byte on (Some w) e v y g = absurd (err_ok w (v, y) (sym (load_byte f st h.0 x same (Some w) e) ∙ g))
  owes_shown (Store true at v k) x same kept h =
      let z = record x { mem = put_cell x.mem h.0 h.3 } in
      let here : store f.setup.live f.setup.section.id true at v x ≡ Ok z = store_word f st at h.0 v x h.1 (place_of h.2) same
      ∙ ap (λ (n : ℕ). Ok (record x { mem = put_cell x.mem h.0 n })) h.4 in
      λ y e. written_on k (store f.setup.live f.setup.section.id true at v x) z y here e (owes_shown k z same (kept_word f st x.mem h.0 h.3 kept (place_of h.2) h.5) h.6)
  owes_shown (Store false at v k) x same kept h =
      λ y e. byte (λ g. owes_shown k (record x { mem = slice_set x.mem h.0 (v % 256) }) same (kept_byte f st x.mem h.0 v kept h.2 (let_through f st h.0 g)) (h.4 g))
      (refused f Write bad.Write h.0) refl y (subst (λ (a : ℕ). store f.setup.live f.setup.section.id false a v x ≡ Ok y) h.1 e)
    where
      byte : (refused f Write bad.Write h.0 ≡ None → PlanShowsNone f.setup k (record x { mem = slice_set x.mem h.0 (v % 256) })) → (r : Option Violation)
          → refused f Write bad.Write h.0 ≡ r → (y : Moment) → store f.setup.live f.setup.section.id false h.0 v x ≡ Ok y → PlanShowsNone f.setup k y
      byte on None e y g =
          written_on k (store f.setup.live f.setup.section.id false h.0 v x) (record x { mem = slice_set x.mem h.0 (v % 256) }) y (store_byte f st h.0 v x same None e) g (on e)
      byte on (Some w) e y g = absurd (err_ok w y (sym (store_byte f st h.0 v x same (Some w) e) ∙ g))
  owes_shown (Need b v k) x same kept h = λ e. owes_shown k x same kept (h.1 e)
  owes_shown (Writable at n k) x same kept h = absurd h
  owes_shown (Bytes at n k) x same kept h = absurd h
  owes_shown (Put at bs k) x same kept h = absurd h
