-- A plan does the same where memories differ in what its code can't read.
use Rattle.std.proofs.Common.{◌≡◌, ℕ, ◌+◌, Bool, true, false, cond, ◌&&◌, inl, ◌⊎◌, List, slice_index, Result, Ok, Err, refl, sym, ◌∙◌, subst}
use Rattle.std.proofs.lemmas.Bool.{and_parts}
use Rattle.spec_machine.proofs.Meanings.{same_bytes}
use Rattle.sx_rules.specs.declared.access.Access.TheVariants.{Read, Write}
use Rattle.sx_rules.specs.declared.access.Violation.{Violation}
use Rattle.sx_rules.specs.declared.access.Violation.TheVariants as bad
use Rattle.sx_rules.specs.declared.section.Section.{Section}
use Rattle.sx_rules.specs.Access.{Sections, extends, in_private, Lives}
use Rattle.sx_tag.specs.Mac.{Mac}
use Rattle.spec_machine.specs.declared.kinds.Event.{Event}
use Rattle.spec_machine.specs.declared.kinds.Exchange.{Exchange}
use Rattle.spec_machine.specs.Memory.{even, bytes_from, put_bytes}
use Rattle.spec_machine.specs.Plan.{Plan, Done, Tell, Stop, Fetch, Load, Store, Need, Writable, Bytes, Put}
use Rattle.spec_machine.specs.Run.{Moment, Outcome, Finished, Violated, Module, may_at, may_range, may_each, device_of, read_place, load}
use Rattle.spec_machine.specs.Run.{write_place, store, fetch_place, fetch, after_read, after_write, after_fetch, exec}
use Rattle.spec_machine.proofs.PlanGuard.{with_mem}
use Rattle.sx_tmpl.specs.Steady.{AgreeAt}
use Rattle.law_connections.proofs.Outside.{Unhidden, SameSections, text_at}
use Rattle.law_forgery.proofs.Tables.{LikeAll}
use Rattle.law_forgery.proofs.Plans.{may_range_like, may_each_like, load_same, store_same, fetch_same}
use Rattle.sx_tmpl.proofs.Agreeing.{SameMoments, SameRead, SameWrite, fetch_place_same, put_agree, read_place_same, write_place_same}
use Rattle.law_connections.proofs.Opened.{IsOutsider, readable_places, range_open, extends_open, blank_mac, blank_all}

-- the private bytes of the section are 0 in both memories
abbrev pub AreZero : Section → List ℕ → List ℕ → Type 0
AreZero x m n = (k : ℕ) → in_private x k ≡ true → (slice_index m k ≡ 0) × (slice_index n k ≡ 0)

-- A table that came of another: nothing that was hidden is in the open, and each of its sections
-- was live before, or has its text of before and private bytes of 0.
pub record Grown (hides : Section → Bool) (live after : List Section) (m0 m n : List ℕ) : Type 0 where
  pub hidden : (k : ℕ) → Unhidden hides after k → Unhidden hides live k
  pub known : (x : Section) → Lives after x → Lives live x ⊎ ((text_at m x.layout ≡ text_at m0 x.layout) × AreZero x m n)

pub grown_self : (hides : Section → Bool) (live : List Section) (m0 m n : List ℕ) → Grown hides live live m0 m n
grown_self hides live m0 m n = record { hidden = λ k f. f; known = λ x l. inl l }

module _ (places : ℕ → Type 0) where
  read_if : (b : Bool) (x y : Result (ℕ × Moment) Violation) (v : Violation) → (b ≡ true → SameRead places x y) → SameRead places (cond b x (Err v)) (cond b y (Err v))
  read_if true x y v f = f refl
  read_if false x y v f = refl

  write_if : (b : Bool) (x y : Result Moment Violation) (v : Violation) → (b ≡ true → SameWrite places x y) → SameWrite places (cond b x (Err v)) (cond b y (Err v))
  write_if true x y v f = f refl
  write_if false x y v f = refl

  pub store_blind : (live : List Section) (own : ℕ) (wide : Bool) (at v : ℕ) (x : Moment) (n : List ℕ) → AgreeAt places x.mem n
      → SameWrite places (store live own wide at v x) (store live own wide at v (with_mem x n))
  store_blind live own wide at v x n h =
      write_if (may_at wide live own Write at) (write_place wide at v (device_of x.devices at) x) (write_place wide at v (device_of x.devices at) (with_mem x n)) bad.Write
      (λ e. write_place_same places wide at v (device_of x.devices at) x n h)

fetch_if : (b : Bool) (x y : Result ℕ Violation) (v : Violation) → (b ≡ true → y ≡ x) → cond b y (Err v) ≡ cond b x (Err v)
fetch_if true x y v f = f refl
fetch_if false x y v f = refl

module _ (hides : Section → Bool) (live : List Section) (own : ℕ) (outsider : IsOutsider hides live own) where
  abbrev Free : ℕ → Type 0
  Free = Unhidden hides live

  load_blind : (wide : Bool) (at : ℕ) (x : Moment) (n : List ℕ) → AgreeAt Free x.mem n
      → SameRead Free (load live own wide at x) (load live own wide at (with_mem x n))
  load_blind wide at x n h =
      read_if Free (may_at wide live own Read at) (read_place wide at (device_of x.devices at) x) (read_place wide at (device_of x.devices at) (with_mem x n)) bad.Read
      (λ e. read_place_same Free wide at (device_of x.devices at) x n h (readable_places hides live own outsider wide at e))

  fetch_blind : (at : ℕ) (x : Moment) (n : List ℕ) → AgreeAt Free x.mem n → fetch live own at (with_mem x n) ≡ fetch live own at x
  fetch_blind at x n h =
      fetch_if (extends live own (even at) && extends live own (even at + 1)) (fetch_place at (device_of x.devices at) x) (fetch_place at (device_of x.devices at) (with_mem x n)) bad.Fetch
      (λ e. let p = and_parts (extends live own (even at)) (extends live own (even at + 1)) e in
      fetch_place_same Free at (device_of x.devices at) x n h (extends_open hides live own outsider (even at) p.0, extends_open hides live own outsider (even at + 1) p.1))

module _ (mac nac : Mac) (hides : Section → Bool) (live : List Section) (m0 : List ℕ) where
  -- outcomes that differ in keys, in the exchange, and in what is hidden
  abbrev pub SameOutcome : Outcome → Outcome → Type 0
  SameOutcome (Finished r x) (Finished q y) = (r ≡ q) × SameMoments (Unhidden hides live) x y
  SameOutcome (Violated v) (Violated w) = v ≡ w
  SameOutcome (Module r x t e c) (Module q y u f d) =
      (r ≡ q) × SameMoments (Unhidden hides live) x y × SameSections mac nac hides t.live u.live × (u.next ≡ t.next) × (e ≡ f) × Grown hides live t.live m0 x.mem y.mem
  SameOutcome (Finished r x) (Violated w) = ⊥
  SameOutcome (Finished r x) (Module q y u f d) = ⊥
  SameOutcome (Violated v) (Finished q y) = ⊥
  SameOutcome (Violated v) (Module q y u f d) = ⊥
  SameOutcome (Module r x t e c) (Finished q y) = ⊥
  SameOutcome (Module r x t e c) (Violated w) = ⊥

  if_same : (b : Bool) (o p : Outcome) (v : Violation) → (b ≡ true → SameOutcome o p) → SameOutcome (cond b o (Violated v)) (cond b p (Violated v))
  if_same true o p v h = h refl
  if_same false o p v h = refl

  -- the same where the tests are equal
  pub ifs_same : (b c : Bool) (o p : Outcome) (v : Violation) → c ≡ b → (b ≡ true → SameOutcome o p) → SameOutcome (cond b o (Violated v)) (cond c p (Violated v))
  ifs_same b c o p v e h = subst (λ (d : Bool). SameOutcome (cond b o (Violated v)) (cond d p (Violated v))) (sym e) (if_same b o p v h)

  fetched_same : (r : Result ℕ Violation) (f g : ℕ → Outcome) → ((w : ℕ) → SameOutcome (f w) (g w)) → SameOutcome (after_fetch r f) (after_fetch r g)
  fetched_same (Ok w) f g h = h w
  fetched_same (Err v) f g h = refl

  read_same : (r q : Result (ℕ × Moment) Violation) (f g : ℕ → Moment → Outcome) → SameRead (Unhidden hides live) r q
      → ((v : ℕ) (x : Moment) (n : List ℕ) → AgreeAt (Unhidden hides live) x.mem n → SameOutcome (f v x) (g v (with_mem x n))) → SameOutcome (after_read r f) (after_read q g)
  read_same (Ok r) (Ok q) f g h j =
      subst (λ (y : Moment). SameOutcome (f r.0 r.1) (g q.0 y)) (sym h.1.rest)
      (subst (λ (v : ℕ). SameOutcome (f r.0 r.1) (g v (with_mem r.1 q.1.mem))) h.0 (j r.0 r.1 q.1.mem h.1.mem))
  read_same (Err v) (Err w) f g h j = h
  read_same (Ok r) (Err w) f g h j = absurd h
  read_same (Err v) (Ok q) f g h j = absurd h

  written_same : (r q : Result Moment Violation) (f g : Moment → Outcome) → SameWrite (Unhidden hides live) r q
      → ((x : Moment) (n : List ℕ) → AgreeAt (Unhidden hides live) x.mem n → SameOutcome (f x) (g (with_mem x n))) → SameOutcome (after_write r f) (after_write q g)
  written_same (Ok x) (Ok y) f g h j = subst (λ (z : Moment). SameOutcome (f x) (g z)) (sym h.rest) (j x y.mem h.mem)
  written_same (Err v) (Err w) f g h j = h
  written_same (Ok x) (Err w) f g h j = absurd h
  written_same (Err v) (Ok y) f g h j = absurd h

-- Tables that differ in keys, and code that is of no section that hides.
module _ (mac nac : Mac) (hides : Section → Bool) (m0 : List ℕ) (t u : Sections) (same : SameSections mac nac hides t.live u.live) (next : u.next ≡ t.next)
    (own : ℕ) (outsider : IsOutsider hides t.live own) where
  abbrev Blank : LikeAll blank_mac blank_mac t.live u.live
  Blank = blank_all mac nac hides t.live u.live same

  abbrev pub Same : Outcome → Outcome → Type 0
  Same o p = SameOutcome mac nac hides t.live m0 o p

  -- the plans do the same in moments whose memories agree in the open
  abbrev pub AlikeIn : Moment → List ℕ → Plan → Plan → Type 0
  AlikeIn x n p q = Same (exec t own p x) (exec u own q (with_mem x n))

  abbrev pub Agree : Moment → List ℕ → Type 0
  Agree x n = AgreeAt (Unhidden hides t.live) x.mem n

  pub same_blind : (p : Plan) (x : Moment) (n : List ℕ) → Agree x n → AlikeIn x n p p
  same_blind (Done regs) x n h = (refl, record { rest = refl; mem = h })
  same_blind (Tell regs event exchange) x n h = (refl, record { rest = refl; mem = h }, same, next, refl, grown_self hides t.live m0 x.mem n)
  same_blind (Stop v) x n h = refl
  same_blind (Fetch at k) x n h =
      subst (λ (r : Result ℕ Violation). Same (after_fetch (fetch t.live own at x) (λ w. exec t own (k w) x)) (after_fetch r (λ w. exec u own (k w) (with_mem x n))))
      (sym (fetch_same blank_mac blank_mac t u Blank next own at (with_mem x n) ∙ fetch_blind hides t.live own outsider at x n h))
      (fetched_same mac nac hides t.live m0 (fetch t.live own at x) (λ w. exec t own (k w) x) (λ w. exec u own (k w) (with_mem x n)) (λ w. same_blind (k w) x n h))
  same_blind (Load wide at k) x n h =
      subst (λ (r : Result (ℕ × Moment) Violation). Same (after_read (load t.live own wide at x) (λ v y. exec t own (k v) y)) (after_read r (λ v y. exec u own (k v) y)))
      (sym (load_same blank_mac blank_mac t u Blank next own wide at (with_mem x n)))
      (read_same mac nac hides t.live m0 (load t.live own wide at x) (load t.live own wide at (with_mem x n)) (λ v y. exec t own (k v) y) (λ v y. exec u own (k v) y)
      (load_blind hides t.live own outsider wide at x n h) (λ v y o g. same_blind (k v) y o g))
  same_blind (Store wide at v k) x n h =
      subst (λ (r : Result Moment Violation). Same (after_write (store t.live own wide at v x) (λ y. exec t own k y)) (after_write r (λ y. exec u own k y)))
      (sym (store_same blank_mac blank_mac t u Blank next own wide at v (with_mem x n)))
      (written_same mac nac hides t.live m0 (store t.live own wide at v x) (store t.live own wide at v (with_mem x n)) (λ y. exec t own k y) (λ y. exec u own k y)
      (store_blind (Unhidden hides t.live) t.live own wide at v x n h) (λ y o g. same_blind k y o g))
  same_blind (Need b v k) x n h = ifs_same mac nac hides t.live m0 b b (exec t own k x) (exec u own k (with_mem x n)) v refl (λ e. same_blind k x n h)
  same_blind (Writable at len k) x n h =
      ifs_same mac nac hides t.live m0 (may_range t.live own Write at len) (may_range u.live own Write at len) (exec t own k x) (exec u own k (with_mem x n)) bad.Write
      (may_range_like blank_mac blank_mac t u Blank next own Write at len) (λ e. same_blind k x n h)
  same_blind (Bytes at len k) x n h =
      ifs_same mac nac hides t.live m0 (may_range t.live own Read at len) (may_range u.live own Read at len) (exec t own (k (bytes_from x.mem at len)) x)
      (exec u own (k (bytes_from n at len)) (with_mem x n)) bad.Read (may_range_like blank_mac blank_mac t u Blank next own Read at len) (λ e.
      subst (λ (bs : List ℕ). Same (exec t own (k (bytes_from x.mem at len)) x) (exec u own (k bs) (with_mem x n)))
      (same_bytes n x.mem at len (λ i a b. h.same i (range_open hides t.live own outsider at len e i a b)))
      (same_blind (k (bytes_from x.mem at len)) x n h))
  same_blind (Put at bs k) x n h =
      ifs_same mac nac hides t.live m0 (may_each t.live own Write at bs) (may_each u.live own Write at bs) (exec t own k (record x { mem = put_bytes x.mem at bs }))
      (exec u own k (record (with_mem x n) { mem = put_bytes n at bs })) bad.Write (may_each_like blank_mac blank_mac t u Blank next own Write at bs) (λ e.
      same_blind k (record x { mem = put_bytes x.mem at bs }) (put_bytes n at bs) (put_agree (Unhidden hides t.live) bs x.mem n at h))

  -- At one moment.
  module _ (x : Moment) (n : List ℕ) (agree : Agree x n) where
    pub equal_blind : (p q : Plan) → p ≡ q → AlikeIn x n p q
    equal_blind p q e = subst (λ (z : Plan). AlikeIn x n p z) e (same_blind p x n agree)

    -- the exchange may differ
    pub tell_blind : (regs : List ℕ) (event : Event) (c d : Exchange) → AlikeIn x n (Tell regs event c) (Tell regs event d)
    tell_blind regs event c d = (refl, record { rest = refl; mem = agree }, same, next, refl, grown_self hides t.live m0 x.mem n)

    pub need_blind : (b : Bool) (v : Violation) (p q : Plan) → AlikeIn x n p q → AlikeIn x n (Need b v p) (Need b v q)
    need_blind b v p q h = ifs_same mac nac hides t.live m0 b b (exec t own p x) (exec u own q (with_mem x n)) v refl (λ e. h)

    pub writable_blind : (at len : ℕ) (p q : Plan) → AlikeIn x n p q → AlikeIn x n (Writable at len p) (Writable at len q)
    writable_blind at len p q h =
        ifs_same mac nac hides t.live m0 (may_range t.live own Write at len) (may_range u.live own Write at len) (exec t own p x) (exec u own q (with_mem x n)) bad.Write
        (may_range_like blank_mac blank_mac t u Blank next own Write at len) (λ e. h)

    -- bytes that the code may read are read
    pub bytes_blind : (at len : ℕ) (k l : List ℕ → Plan) → (may_range t.live own Read at len ≡ true → AlikeIn x n (k (bytes_from x.mem at len)) (l (bytes_from x.mem at len)))
        → AlikeIn x n (Bytes at len k) (Bytes at len l)
    bytes_blind at len k l h =
        ifs_same mac nac hides t.live m0 (may_range t.live own Read at len) (may_range u.live own Read at len) (exec t own (k (bytes_from x.mem at len)) x)
        (exec u own (l (bytes_from n at len)) (with_mem x n)) bad.Read (may_range_like blank_mac blank_mac t u Blank next own Read at len) (λ e.
        subst (λ (bs : List ℕ). Same (exec t own (k (bytes_from x.mem at len)) x) (exec u own (l bs) (with_mem x n)))
        (same_bytes n x.mem at len (λ i a b. agree.same i (range_open hides t.live own outsider at len e i a b))) (h e))
