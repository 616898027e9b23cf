-- A plan run by other code than s's is guarded: one induction for all instructions.
use Rattle.std.proofs.Common.{◌≡◌, ◌≢◌, ℕ, zero, suc, ◌+◌, ◌/◌, ◌%◌, ◌<◌, ◌≤◌, Bool, true, false, cond, not, ◌&&◌, ◌||◌, ◌==◌, inl, inr, List, [], ◌∷◌, length}
use Rattle.std.proofs.Common.{slice_index, slice_set, refl, sym, ◌∙◌, ap, subst, arith, Option, Some, None, Result, Ok, Err}
use Rattle.std.proofs.lemmas.List.{length-set, get_or-set_same, get_or-set_other, set_past}
use Rattle.std.proofs.lemmas.Bool.{and_parts, or_cases, not-true, cases_eq, cases_lt, eqb-true, true≢false}
use Rattle.std.specs.List.{list_all}
use Rattle.sx_rules.specs.declared.access.Access.{Access}
use Rattle.sx_rules.specs.declared.access.Access.TheVariants.{Read, Write, Run}
use Rattle.sx_rules.specs.declared.access.Violation.{Violation}
use Rattle.sx_rules.specs.declared.access.Violation.TheVariants as bad
use Rattle.sx_rules.specs.declared.section.Section.{Section}
use Rattle.sx_rules.specs.Access.{Sections, may, allows, extends, in_private, in_public, at_entry, Lives}
use Rattle.sx_bus.specs.declared.devices.Kind.{Kind}
use Rattle.sx_bus.specs.declared.devices.Kind.TheVariants.{Sensor, Actuator}
use Rattle.sx_bus.specs.declared.devices.Window.{Window}
use Rattle.sx_bus.specs.Devices.{cleared}
use Rattle.spec_machine.specs.declared.kinds.Touch.TheVariants.{DeviceRead}
use Rattle.spec_machine.specs.Memory.{even, word, read_at, write_at, bytes_from, put_bytes}
use Rattle.spec_machine.specs.Plan.{Plan, Done, Tell, Stop, Fetch, Load, Store, Need, Writable, Bytes, Put}
use Rattle.spec_machine.specs.Run.{Moment, with_touch, Outcome, Finished, Violated, Module, may_at, may_range, may_each, sampled, device_of, read_device}
use Rattle.spec_machine.specs.Run.{read_place, load, write_device, write_place, store, fetch_place, fetch, after_read, after_write, after_fetch, exec}
use Rattle.spec_machine.specs.Guard.{Alike, PrivateKept}

-- what all pass, each live section passes
pub passes : (t : Section → Bool) (xs : List Section) (s : Section) → Lives xs s → list_all t xs ≡ true → t s ≡ true
passes t [] s l h = absurd l
passes t (x ∷ xs) s l h =
    elim l [
      | inl e ↦ subst (λ (y : Section). t y ≡ true) e (and_parts (t x) (list_all t xs) h).0
      | inr r ↦ passes t xs s r (and_parts (t x) (list_all t xs) h).1
    ]

-- other code reaches no private byte
refused : (own : ℕ) (access : Access) (at : ℕ) (s : Section) → own ≢ s.id → allows own access at s ≡ true → in_private s at ≡ false
refused own Read at s ne h =
    elim (or_cases (not (in_private s at)) (own == s.id) h) [ inl e ↦ not-true (in_private s at) e | inr e ↦ absurd (ne (eqb-true own s.id e)) ]
refused own Write at s ne h =
    let h2 = (and_parts (not (in_public s at)) (not (in_private s at) || own == s.id) h).1 in
    elim (or_cases (not (in_private s at)) (own == s.id) h2) [ inl e ↦ not-true (in_private s at) e | inr e ↦ absurd (ne (eqb-true own s.id e)) ]
refused own Run at s ne h =
    not-true (in_private s at) (and_parts (not (in_private s at)) (not (in_public s at) || (own == s.id || at_entry s at)) h).0

pub barred : (live : List Section) (own : ℕ) (access : Access) (at : ℕ) (s : Section) → Lives live s → own ≢ s.id → may live own access at ≡ true → in_private s at ≡ false
unfolding may
barred live own access at s l ne h = refused own access at s ne (passes (allows own access at) live s l h)

-- the bytes of an access, which are a word's two or the one
abbrev pub Open : Section → Bool → ℕ → Type 0
Open s true at = (in_private s (even at) ≡ false) × (in_private s (even at + 1) ≡ false)
Open s false at = in_private s at ≡ false

pub barred_at : (wide : Bool) (live : List Section) (own : ℕ) (access : Access) (at : ℕ) (s : Section) → Lives live s → own ≢ s.id
    → may_at wide live own access at ≡ true → Open s wide at
barred_at true live own access at s l ne h =
    let p = and_parts (may live own access (even at)) (may live own access (even at + 1)) h in
    (barred live own access (even at) s l ne p.0, barred live own access (even at + 1) s l ne p.1)
barred_at false live own access at s l ne h = barred live own access at s l ne h

extends_barred : (live : List Section) (own at : ℕ) (s : Section) → Lives live s → extends live own at ≡ true → in_private s at ≡ false
extends_barred live own at s l h =
    let p = passes (λ u. not (in_private u at) && (not (in_public u at) || own == u.id)) live s l h in
    not-true (in_private s at) (and_parts (not (in_private s at)) (not (in_public s at) || own == s.id) p).0

pub word_alike : (s : Section) (m n : List ℕ) (at : ℕ) → Alike s m n → Open s true at → word m at ≡ word n at
word_alike s m n at h p =
    let a = h.same (even at) p.0 in
    let b = h.same (even at + 1) p.1 in
    cc

read_alike : (s : Section) (wide : Bool) (m n : List ℕ) (at : ℕ) → Alike s m n → Open s wide at → read_at wide m at ≡ read_at wide n at
read_alike s true m n at h p = word_alike s m n at h p
read_alike s false m n at h p = h.same at p

-- the same byte written to both
pub set_alike : (s : Section) (m n : List ℕ) (i v : ℕ) → Alike s m n → Alike s (slice_set m i v) (slice_set n i v)
set_alike s m n i v h = record {
  size = length-set m i v ∙ h.size ∙ sym (length-set n i v);
  same = λ k p.
      elim (cases_eq k i) [
        | inl e ↦ elim (cases_lt i (length m)) [
          | inl lt ↦ subst (λ (j : ℕ). slice_index (slice_set m i v) j ≡ slice_index (slice_set n i v) j) (sym e)
              (get_or-set_same m i v 0 lt ∙ sym (get_or-set_same n i v 0 (subst (λ (j : ℕ). i < j) h.size lt)))
          | inr ge ↦ ap (λ (xs : List ℕ). slice_index xs k) (set_past m i v ge) ∙ h.same k p
              ∙ sym (ap (λ (xs : List ℕ). slice_index xs k) (set_past n i v (subst (λ (j : ℕ). j ≤ i) h.size ge)))
        ]
        | inr ne ↦ get_or-set_other m i k v 0 ne ∙ h.same k p ∙ sym (get_or-set_other n i k v 0 ne)
      ];
}

write_alike : (s : Section) (wide : Bool) (m n : List ℕ) (at v : ℕ) → Alike s m n → Alike s (write_at wide m at v) (write_at wide n at v)
write_alike s true m n at v h = set_alike s _ _ (even at + 1) (v / 256) (set_alike s m n (even at) (v % 256) h)
write_alike s false m n at v h = set_alike s m n at (v % 256) h

-- a byte that isn't private is written
pub set_kept : (s : Section) (m0 m : List ℕ) (i v : ℕ) → in_private s i ≡ false → PrivateKept s m0 m → PrivateKept s m0 (slice_set m i v)
set_kept s m0 m i v q h = λ k p.
    let ne : k ≢ i = λ e. true≢false (sym p ∙ ap (in_private s) e ∙ q) in
    get_or-set_other m i k v 0 ne ∙ h k p

write_kept : (s : Section) (wide : Bool) (m0 m : List ℕ) (at v : ℕ) → Open s wide at → PrivateKept s m0 m → PrivateKept s m0 (write_at wide m at v)
write_kept s true m0 m at v q h = set_kept s m0 _ (even at + 1) (v / 256) q.1 (set_kept s m0 m (even at) (v % 256) q.0 h)
write_kept s false m0 m at v q h = set_kept s m0 m at (v % 256) q h

pub bytes_alike : (s : Section) (m n : List ℕ) (at len : ℕ) → Alike s m n → ((k : ℕ) → at ≤ k → k < at + len → in_private s k ≡ false)
    → bytes_from m at len ≡ bytes_from n at len
unfolding bytes_from
bytes_alike s m n at zero h f = refl
bytes_alike s m n at (suc len) h f =
    let ih : bytes_from m at len ≡ bytes_from n at len = bytes_alike s m n at len h (λ k a b. f k a (omega arith)) in
    let here : slice_index m (at + len) ≡ slice_index n (at + len) = h.same (at + len) (f (at + len) (omega arith) (omega arith)) in
    cc

-- no byte of a range that other code may reach is private
range_barred : (live : List Section) (own : ℕ) (access : Access) (s : Section) → Lives live s → own ≢ s.id → (at n : ℕ) → may_range live own access at n ≡ true
    → (k : ℕ) → at ≤ k → k < at + n → in_private s k ≡ false
range_barred live own access s l ne at zero h k a b = absurd (omega arith)
range_barred live own access s l ne at (suc n) h k a b =
    let p = and_parts (may live own access (at + n)) (may_range live own access at n) h in
    elim (cases_lt k (at + n)) [
      | inl lt ↦ range_barred live own access s l ne at n p.1 k a lt
      | inr ge ↦ let e : at + n ≡ k = omega arith in
          subst (λ (j : ℕ). in_private s j ≡ false) e (barred live own access (at + n) s l ne p.0)
    ]

pub put_alike : (s : Section) (bs m n : List ℕ) (at : ℕ) → Alike s m n → Alike s (put_bytes m at bs) (put_bytes n at bs)
put_alike s [] m n at h = h
put_alike s (b ∷ bs) m n at h = put_alike s bs (slice_set m at (b % 256)) (slice_set n at (b % 256)) (at + 1) (set_alike s m n at (b % 256) h)

put_each_kept : (live : List Section) (own : ℕ) (s : Section) → Lives live s → own ≢ s.id → (bs m0 m : List ℕ) (at : ℕ)
    → may_each live own Write at bs ≡ true → PrivateKept s m0 m → PrivateKept s m0 (put_bytes m at bs)
put_each_kept live own s l ne [] m0 m at h g = g
put_each_kept live own s l ne (b ∷ bs) m0 m at h g =
    let p = and_parts (may live own Write at) (may_each live own Write (at + 1) bs) h in
    put_each_kept live own s l ne bs m0 (slice_set m at (b % 256)) (at + 1) p.1 (set_kept s m0 m at (b % 256) (barred live own Write at s l ne p.0) g)

-- the same moment with other memory
abbrev pub with_mem : Moment → List ℕ → Moment
with_mem x n = record x { mem = n }

-- moments that differ at most in the private bytes of s
pub record Moments (s : Section) (x y : Moment) : Type 0 where
  pub rest : y ≡ with_mem x y.mem
  pub mem : Alike s x.mem y.mem

pub same_moment : (s : Section) (x : Moment) (n : List ℕ) → Alike s x.mem n → Moments s x (with_mem x n)
same_moment s x n h = record { rest = refl; mem = h }

abbrev pub SameRead : Section → Result (ℕ × Moment) Violation → Result (ℕ × Moment) Violation → Type 0
SameRead s (Ok r) (Ok q) = (r.0 ≡ q.0) × Moments s r.1 q.1
SameRead s (Err v) (Err w) = v ≡ w
SameRead s (Ok r) (Err w) = ⊥
SameRead s (Err v) (Ok q) = ⊥

abbrev pub SameWrite : Section → Result Moment Violation → Result Moment Violation → Type 0
SameWrite s (Ok x) (Ok y) = Moments s x y
SameWrite s (Err v) (Err w) = v ≡ w
SameWrite s (Ok x) (Err w) = ⊥
SameWrite s (Err v) (Ok y) = ⊥

abbrev pub SameOutcome : Section → Outcome → Outcome → Type 0
SameOutcome s (Finished r x) (Finished q y) = (r ≡ q) × Moments s x y
SameOutcome s (Violated v) (Violated w) = v ≡ w
SameOutcome s (Module r x t e c) (Module q y u f d) = (r ≡ q) × Moments s x y × (t ≡ u) × (e ≡ f) × (c ≡ d)
SameOutcome s (Finished r x) (Violated w) = ⊥
SameOutcome s (Finished r x) (Module q y u f d) = ⊥
SameOutcome s (Violated v) (Finished q y) = ⊥
SameOutcome s (Violated v) (Module q y u f d) = ⊥
SameOutcome s (Module r x t e c) (Finished q y) = ⊥
SameOutcome s (Module r x t e c) (Violated w) = ⊥

abbrev Alike2 : Section → (Moment → Outcome) → Type 0
Alike2 s f = (x : Moment) (n : List ℕ) → Alike s x.mem n → SameOutcome s (f x) (f (with_mem x n))

-- what follows a test
pub same_if : (s : Section) (b : Bool) (x y : Outcome) (v : Violation) → (b ≡ true → SameOutcome s x y) → SameOutcome s (cond b x (Violated v)) (cond b y (Violated v))
same_if s b x y v f =
    elim b as (λ c. (c ≡ true → SameOutcome s x y) → SameOutcome s (cond c x (Violated v)) (cond c y (Violated v))) [ true ↦ λ g. g refl | false ↦ λ g. refl ] f

read_if : (s : Section) (b : Bool) (x y : Result (ℕ × Moment) Violation) (v : Violation) → (b ≡ true → SameRead s x y) → SameRead s (cond b x (Err v)) (cond b y (Err v))
read_if s b x y v f =
    elim b as (λ c. (c ≡ true → SameRead s x y) → SameRead s (cond c x (Err v)) (cond c y (Err v))) [ true ↦ λ g. g refl | false ↦ λ g. refl ] f

write_if : (s : Section) (b : Bool) (x y : Result Moment Violation) (v : Violation) → (b ≡ true → SameWrite s x y) → SameWrite s (cond b x (Err v)) (cond b y (Err v))
write_if s b x y v f =
    elim b as (λ c. (c ≡ true → SameWrite s x y) → SameWrite s (cond c x (Err v)) (cond c y (Err v))) [ true ↦ λ g. g refl | false ↦ λ g. refl ] f

fetch_if : (b : Bool) (x y : Result ℕ Violation) (v : Violation) → (b ≡ true → x ≡ y) → cond b x (Err v) ≡ cond b y (Err v)
fetch_if b x y v f =
    elim b as (λ c. (c ≡ true → x ≡ y) → cond c x (Err v) ≡ cond c y (Err v)) [ true ↦ λ g. g refl | false ↦ λ g. refl ] f

sampled_alike : (s : Section) (device : ℕ) (w : Window) (x : Moment) (n : List ℕ) → Alike s x.mem n → SameRead s (Ok (sampled device w x)) (Ok (sampled device w (with_mem x n)))
sampled_alike s device w x n h =
    let told : Moment → ℕ × Moment = λ y. (0x8000 + w.value, record { mem = y.mem; devices = cleared y.devices device; touches = with_touch y.touches (DeviceRead device w.value) }) in
    elim (w.fresh) as (λ b. SameRead s (Ok (cond b (told x) (0, x))) (Ok (cond b (told (with_mem x n)) (0, with_mem x n))))
    [ true ↦ (refl, record { rest = refl; mem = h }) | false ↦ (refl, record { rest = refl; mem = h }) ]

read_device_alike : (s : Section) (wide : Bool) (device : ℕ) (w : Window) (kind : Kind) (x : Moment) (n : List ℕ) → Alike s x.mem n
    → SameRead s (read_device wide device w kind x) (read_device wide device w kind (with_mem x n))
read_device_alike s true device w Sensor x n h = sampled_alike s device w x n h
read_device_alike s false device w Sensor x n h = refl
read_device_alike s true device w Actuator x n h = refl
read_device_alike s false device w Actuator x n h = refl

read_place_alike : (s : Section) (wide : Bool) (at : ℕ) (d : Option (ℕ × Window)) (x : Moment) (n : List ℕ) → Alike s x.mem n → Open s wide at
    → SameRead s (read_place wide at d x) (read_place wide at d (with_mem x n))
read_place_alike s wide at None x n h p = (read_alike s wide x.mem n at h p, record { rest = refl; mem = h })
read_place_alike s wide at (Some d) x n h p = read_device_alike s wide d.0 d.1 d.1.kind x n h

load_alike : (live : List Section) (own : ℕ) (s : Section) → Lives live s → own ≢ s.id → (wide : Bool) (at : ℕ) (x : Moment) (n : List ℕ) → Alike s x.mem n
    → SameRead s (load live own wide at x) (load live own wide at (with_mem x n))
load_alike live own s l ne wide at x n h =
    read_if s (may_at wide live own Read at) (read_place wide at (device_of x.devices at) x) (read_place wide at (device_of x.devices at) (with_mem x n)) bad.Read
    (λ e. read_place_alike s wide at (device_of x.devices at) x n h (barred_at wide live own Read at s l ne e))

write_device_alike : (s : Section) (wide : Bool) (device v : ℕ) (kind : Kind) (x : Moment) (n : List ℕ) → Alike s x.mem n
    → SameWrite s (write_device wide device v kind x) (write_device wide device v kind (with_mem x n))
write_device_alike s true device v Actuator x n h = record { rest = refl; mem = h }
write_device_alike s false device v Actuator x n h = refl
write_device_alike s true device v Sensor x n h = refl
write_device_alike s false device v Sensor x n h = refl

write_place_alike : (s : Section) (wide : Bool) (at v : ℕ) (d : Option (ℕ × Window)) (x : Moment) (n : List ℕ) → Alike s x.mem n
    → SameWrite s (write_place wide at v d x) (write_place wide at v d (with_mem x n))
write_place_alike s wide at v None x n h = record { rest = refl; mem = write_alike s wide x.mem n at v h }
write_place_alike s wide at v (Some d) x n h = write_device_alike s wide d.0 v d.1.kind x n h

store_alike : (live : List Section) (own : ℕ) (s : Section) (wide : Bool) (at v : ℕ) (x : Moment) (n : List ℕ) → Alike s x.mem n
    → SameWrite s (store live own wide at v x) (store live own wide at v (with_mem x n))
store_alike live own s wide at v x n h =
    write_if s (may_at wide live own Write at) (write_place wide at v (device_of x.devices at) x) (write_place wide at v (device_of x.devices at) (with_mem x n)) bad.Write
    (λ e. write_place_alike s wide at v (device_of x.devices at) x n h)

fetch_place_alike : (s : Section) (at : ℕ) (d : Option (ℕ × Window)) (x : Moment) (n : List ℕ) → Alike s x.mem n → Open s true at
    → fetch_place at d x ≡ fetch_place at d (with_mem x n)
fetch_place_alike s at None x n h p = ap Ok (word_alike s x.mem n at h p)
fetch_place_alike s at (Some d) x n h p = refl

fetch_alike : (live : List Section) (own : ℕ) (s : Section) → Lives live s → (at : ℕ) (x : Moment) (n : List ℕ) → Alike s x.mem n
    → fetch live own at x ≡ fetch live own at (with_mem x n)
fetch_alike live own s l at x n h =
    fetch_if (extends live own (even at) && extends live own (even at + 1)) (fetch_place at (device_of x.devices at) x) (fetch_place at (device_of x.devices at) (with_mem x n)) bad.Fetch
    (λ e. let p = and_parts (extends live own (even at)) (extends live own (even at + 1)) e in
    fetch_place_alike s at (device_of x.devices at) x n h (extends_barred live own (even at) s l p.0, extends_barred live own (even at + 1) s l p.1))

after_read_alike : (s : Section) (r q : Result (ℕ × Moment) Violation) (f : ℕ → Moment → Outcome) → SameRead s r q → ((v : ℕ) → Alike2 s (f v))
    → SameOutcome s (after_read r f) (after_read q f)
after_read_alike s (Ok r) (Ok q) f h g =
    subst (λ (y : Moment). SameOutcome s (f r.0 r.1) (f q.0 y)) (sym h.1.rest)
    (subst (λ (v : ℕ). SameOutcome s (f r.0 r.1) (f v (with_mem r.1 q.1.mem))) h.0 (g r.0 r.1 q.1.mem h.1.mem))
after_read_alike s (Err v) (Err w) f h g = h
after_read_alike s (Ok r) (Err w) f h g = absurd h
after_read_alike s (Err v) (Ok q) f h g = absurd h

after_write_alike : (s : Section) (r q : Result Moment Violation) (f : Moment → Outcome) → SameWrite s r q → Alike2 s f → SameOutcome s (after_write r f) (after_write q f)
after_write_alike s (Ok x) (Ok y) f h g = subst (λ (z : Moment). SameOutcome s (f x) (f z)) (sym h.rest) (g x y.mem h.mem)
after_write_alike s (Err v) (Err w) f h g = h
after_write_alike s (Ok x) (Err w) f h g = absurd h
after_write_alike s (Err v) (Ok y) f h g = absurd h

after_fetch_alike : (s : Section) (r q : Result ℕ Violation) (f : ℕ → Moment → Outcome) (x : Moment) (n : List ℕ) → r ≡ q → Alike s x.mem n → ((v : ℕ) → Alike2 s (f v))
    → SameOutcome s (after_fetch r (λ v. f v x)) (after_fetch q (λ v. f v (with_mem x n)))
after_fetch_alike s r q f x n e h g =
    subst (λ (p : Result ℕ Violation). SameOutcome s (after_fetch r (λ v. f v x)) (after_fetch p (λ v. f v (with_mem x n)))) e (one r)
  where
    one : (r : Result ℕ Violation) → SameOutcome s (after_fetch r (λ v. f v x)) (after_fetch r (λ v. f v (with_mem x n)))
    one (Ok w) = g w x n h
    one (Err v) = refl

pub exec_alike : (t : Sections) (own : ℕ) (s : Section) → Lives t.live s → own ≢ s.id → (p : Plan) → Alike2 s (exec t own p)
exec_alike t own s l ne (Done regs) x n h = (refl, same_moment s x n h)
exec_alike t own s l ne (Tell regs event exchange) x n h = (refl, same_moment s x n h, refl, refl, refl)
exec_alike t own s l ne (Stop v) x n h = refl
exec_alike t own s l ne (Fetch at k) x n h =
    after_fetch_alike s (fetch t.live own at x) (fetch t.live own at (with_mem x n)) (λ w y. exec t own (k w) y) x n (fetch_alike t.live own s l at x n h) h
    (λ w. exec_alike t own s l ne (k w))
exec_alike t own s l ne (Load wide at k) x n h =
    after_read_alike s (load t.live own wide at x) (load t.live own wide at (with_mem x n)) (λ v y. exec t own (k v) y) (load_alike t.live own s l ne wide at x n h)
    (λ v. exec_alike t own s l ne (k v))
exec_alike t own s l ne (Store wide at v k) x n h =
    after_write_alike s (store t.live own wide at v x) (store t.live own wide at v (with_mem x n)) (λ y. exec t own k y) (store_alike t.live own s wide at v x n h)
    (exec_alike t own s l ne k)
exec_alike t own s l ne (Need b v k) x n h = same_if s b (exec t own k x) (exec t own k (with_mem x n)) v (λ _. exec_alike t own s l ne k x n h)
exec_alike t own s l ne (Writable at len k) x n h = same_if s (may_range t.live own Write at len) (exec t own k x) (exec t own k (with_mem x n)) bad.Write (λ _. exec_alike t own s l ne k x n h)
exec_alike t own s l ne (Bytes at len k) x n h =
    same_if s (may_range t.live own Read at len) (exec t own (k (bytes_from x.mem at len)) x) (exec t own (k (bytes_from n at len)) (with_mem x n)) bad.Read (λ e.
    subst (λ (bs : List ℕ). SameOutcome s (exec t own (k (bytes_from x.mem at len)) x) (exec t own (k bs) (with_mem x n)))
    (bytes_alike s x.mem n at len h (range_barred t.live own Read s l ne at len e))
    (exec_alike t own s l ne (k (bytes_from x.mem at len)) x n h))
exec_alike t own s l ne (Put at bs k) x n h =
    same_if s (may_each t.live own Write at bs) (exec t own k (record x { mem = put_bytes x.mem at bs })) (exec t own k (record (with_mem x n) { mem = put_bytes n at bs })) bad.Write (λ _.
    exec_alike t own s l ne k (record x { mem = put_bytes x.mem at bs }) (put_bytes n at bs) (put_alike s bs x.mem n at h))

-- the private bytes of s after a plan
abbrev pub KeptBy : Section → List ℕ → Outcome → Type 0
KeptBy s m (Finished regs x) = PrivateKept s m x.mem
KeptBy s m (Violated v) = Unit {0}
KeptBy s m (Module regs x t e c) = PrivateKept s m x.mem × Lives t.live s

abbrev ReadKept : Section → List ℕ → Result (ℕ × Moment) Violation → Type 0
ReadKept s m (Ok r) = PrivateKept s m r.1.mem
ReadKept s m (Err v) = Unit {0}

abbrev WriteKept : Section → List ℕ → Result Moment Violation → Type 0
WriteKept s m (Ok x) = PrivateKept s m x.mem
WriteKept s m (Err v) = Unit {0}

pub kept_if : (s : Section) (m : List ℕ) (b : Bool) (x : Outcome) (v : Violation) → (b ≡ true → KeptBy s m x) → KeptBy s m (cond b x (Violated v))
kept_if s m b x v f =
    elim b as (λ c. (c ≡ true → KeptBy s m x) → KeptBy s m (cond c x (Violated v))) [ true ↦ λ g. g refl | false ↦ λ g. tt ] f

read_device_kept : (s : Section) (m : List ℕ) (wide : Bool) (device : ℕ) (w : Window) (kind : Kind) (x : Moment) → PrivateKept s m x.mem → ReadKept s m (read_device wide device w kind x)
read_device_kept s m true device w Sensor x h =
    let told : ℕ × Moment = (0x8000 + w.value, record { mem = x.mem; devices = cleared x.devices device; touches = with_touch x.touches (DeviceRead device w.value) }) in
    elim (w.fresh) as (λ b. ReadKept s m (Ok (cond b told (0, x)))) [ true ↦ h | false ↦ h ]
read_device_kept s m false device w Sensor x h = tt
read_device_kept s m true device w Actuator x h = tt
read_device_kept s m false device w Actuator x h = tt

read_place_kept : (s : Section) (m : List ℕ) (wide : Bool) (at : ℕ) (d : Option (ℕ × Window)) (x : Moment) → PrivateKept s m x.mem → ReadKept s m (read_place wide at d x)
read_place_kept s m wide at None x h = h
read_place_kept s m wide at (Some d) x h = read_device_kept s m wide d.0 d.1 d.1.kind x h

load_kept : (s : Section) (m : List ℕ) (live : List Section) (own : ℕ) (wide : Bool) (at : ℕ) (x : Moment) → PrivateKept s m x.mem → ReadKept s m (load live own wide at x)
load_kept s m live own wide at x h =
    elim (may_at wide live own Read at) as (λ b. ReadKept s m (cond b (read_place wide at (device_of x.devices at) x) (Err bad.Read)))
    [ true ↦ read_place_kept s m wide at (device_of x.devices at) x h | false ↦ tt ]

write_device_kept : (s : Section) (m : List ℕ) (wide : Bool) (device v : ℕ) (kind : Kind) (x : Moment) → PrivateKept s m x.mem → WriteKept s m (write_device wide device v kind x)
write_device_kept s m true device v Actuator x h = h
write_device_kept s m false device v Actuator x h = tt
write_device_kept s m true device v Sensor x h = tt
write_device_kept s m false device v Sensor x h = tt

write_place_kept : (s : Section) (m : List ℕ) (wide : Bool) (at v : ℕ) (d : Option (ℕ × Window)) (x : Moment) → Open s wide at → PrivateKept s m x.mem → WriteKept s m (write_place wide at v d x)
write_place_kept s m wide at v None x p h = write_kept s wide m x.mem at v p h
write_place_kept s m wide at v (Some d) x p h = write_device_kept s m wide d.0 v d.1.kind x h

store_kept : (s : Section) (m : List ℕ) (live : List Section) (own : ℕ) → Lives live s → own ≢ s.id → (wide : Bool) (at v : ℕ) (x : Moment) → PrivateKept s m x.mem
    → WriteKept s m (store live own wide at v x)
store_kept s m live own l ne wide at v x h =
    elim (may_at wide live own Write at) as (λ b. (b ≡ true → Open s wide at) → WriteKept s m (cond b (write_place wide at v (device_of x.devices at) x) (Err bad.Write)))
    [ true ↦ λ f. write_place_kept s m wide at v (device_of x.devices at) x (f refl) h | false ↦ λ f. tt ]
    (barred_at wide live own Write at s l ne)

after_read_kept : (s : Section) (m : List ℕ) (r : Result (ℕ × Moment) Violation) (f : ℕ → Moment → Outcome) → ReadKept s m r → ((v : ℕ) (x : Moment) → PrivateKept s m x.mem → KeptBy s m (f v x))
    → KeptBy s m (after_read r f)
after_read_kept s m (Ok r) f h g = g r.0 r.1 h
after_read_kept s m (Err v) f h g = tt

after_write_kept : (s : Section) (m : List ℕ) (r : Result Moment Violation) (f : Moment → Outcome) → WriteKept s m r → ((x : Moment) → PrivateKept s m x.mem → KeptBy s m (f x))
    → KeptBy s m (after_write r f)
after_write_kept s m (Ok x) f h g = g x h
after_write_kept s m (Err v) f h g = tt

after_fetch_kept : (s : Section) (m : List ℕ) (r : Result ℕ Violation) (f : ℕ → Outcome) → ((w : ℕ) → KeptBy s m (f w)) → KeptBy s m (after_fetch r f)
after_fetch_kept s m (Ok w) f g = g w
after_fetch_kept s m (Err v) f g = tt

pub exec_kept : (t : Sections) (own : ℕ) (s : Section) → Lives t.live s → own ≢ s.id → (p : Plan) (m : List ℕ) (x : Moment) → PrivateKept s m x.mem
    → KeptBy s m (exec t own p x)
exec_kept t own s l ne (Done regs) m x h = h
exec_kept t own s l ne (Tell regs event exchange) m x h = (h, l)
exec_kept t own s l ne (Stop v) m x h = tt
exec_kept t own s l ne (Fetch at k) m x h = after_fetch_kept s m (fetch t.live own at x) (λ w. exec t own (k w) x) (λ w. exec_kept t own s l ne (k w) m x h)
exec_kept t own s l ne (Load wide at k) m x h =
    after_read_kept s m (load t.live own wide at x) (λ v y. exec t own (k v) y) (load_kept s m t.live own wide at x h) (λ v y g. exec_kept t own s l ne (k v) m y g)
exec_kept t own s l ne (Store wide at v k) m x h =
    after_write_kept s m (store t.live own wide at v x) (λ y. exec t own k y) (store_kept s m t.live own l ne wide at v x h) (λ y g. exec_kept t own s l ne k m y g)
exec_kept t own s l ne (Need b v k) m x h = kept_if s m b (exec t own k x) v (λ _. exec_kept t own s l ne k m x h)
exec_kept t own s l ne (Writable at len k) m x h = kept_if s m (may_range t.live own Write at len) (exec t own k x) bad.Write (λ _. exec_kept t own s l ne k m x h)
exec_kept t own s l ne (Bytes at len k) m x h =
    kept_if s m (may_range t.live own Read at len) (exec t own (k (bytes_from x.mem at len)) x) bad.Read (λ _. exec_kept t own s l ne (k (bytes_from x.mem at len)) m x h)
exec_kept t own s l ne (Put at bs k) m x h =
    kept_if s m (may_each t.live own Write at bs) (exec t own k (record x { mem = put_bytes x.mem at bs })) bad.Write (λ e.
    exec_kept t own s l ne k m (record x { mem = put_bytes x.mem at bs }) (put_each_kept t.live own s l ne bs m x.mem at e h))
