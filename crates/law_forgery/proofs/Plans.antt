-- A plan does the same where sections differ in their keys alone.
use Rattle.std.proofs.Common.{◌≡◌, ℕ, ◌+◌, Bool, true, false, cond, ◌&&◌, List, length, Result, Ok, Err, refl, sym, ap, ap₂, subst}
use Rattle.spec_machine.proofs.SameRights.{same_at, same_each, same_range}
use Rattle.sx_rules.specs.declared.access.Access.{Access}
use Rattle.sx_rules.specs.declared.access.Access.TheVariants.{Read, Write}
use Rattle.sx_rules.specs.declared.access.Violation.{Violation}
use Rattle.sx_rules.specs.declared.access.Violation.TheVariants as bad
use Rattle.sx_rules.specs.Access.{Sections, may}
use Rattle.sx_tag.specs.Mac.{Mac}
use Rattle.spec_machine.specs.Memory.{even, bytes_from, put_bytes}
use Rattle.spec_machine.specs.Plan.{Plan, Done, Tell, Stop, Fetch, Load, Store, Need, Writable, Bytes, Put}
use Rattle.spec_machine.specs.Run.{Moment, Outcome, Finished, Violated, Module, may_range, may_each, device_of, read_place, load, write_place, store}
use Rattle.spec_machine.specs.Run.{fetch_place, fetch, after_read, after_write, after_fetch, exec}
use Rattle.spec_machine.proofs.Lengths.{length-bytes_from}
use Rattle.law_forgery.proofs.Tables.{LikeAll, may_like, extends_like}

module _ (mac nac : Mac) where
  -- outcomes that differ in the keys of sections alone
  abbrev pub LikeOutcome : Outcome → Outcome → Type 0
  LikeOutcome (Finished r x) (Finished q y) = (r ≡ q) × (x ≡ y)
  LikeOutcome (Violated v) (Violated w) = v ≡ w
  LikeOutcome (Module r x t e c) (Module q y u f d) = (r ≡ q) × (x ≡ y) × LikeAll mac nac t.live u.live × (u.next ≡ t.next) × (e ≡ f) × (c ≡ d)
  LikeOutcome (Finished r x) (Violated w) = ⊥
  LikeOutcome (Finished r x) (Module q y u f d) = ⊥
  LikeOutcome (Violated v) (Finished q y) = ⊥
  LikeOutcome (Violated v) (Module q y u f d) = ⊥
  LikeOutcome (Module r x t e c) (Finished q y) = ⊥
  LikeOutcome (Module r x t e c) (Violated w) = ⊥

  pub cond_like : (b : Bool) (o p q r : Outcome) → LikeOutcome o p → LikeOutcome q r → LikeOutcome (cond b o q) (cond b p r)
  cond_like true o p q r h f = h
  cond_like false o p q r h f = f

  -- the same where the tests are equal
  pub ifs_like : (b c : Bool) (o p : Outcome) (v : Violation) → c ≡ b → LikeOutcome o p → LikeOutcome (cond b o (Violated v)) (cond c p (Violated v))
  ifs_like b c o p v e h = subst (λ (d : Bool). LikeOutcome (cond b o (Violated v)) (cond d p (Violated v))) (sym e) (cond_like b o p (Violated v) (Violated v) h refl)

  read_like : (r : Result (ℕ × Moment) Violation) (f g : ℕ → Moment → Outcome) → ((v : ℕ) (y : Moment) → LikeOutcome (f v y) (g v y)) → LikeOutcome (after_read r f) (after_read r g)
  read_like (Ok r) f g h = h r.0 r.1
  read_like (Err v) f g h = refl

  write_like : (r : Result Moment Violation) (f g : Moment → Outcome) → ((y : Moment) → LikeOutcome (f y) (g y)) → LikeOutcome (after_write r f) (after_write r g)
  write_like (Ok x) f g h = h x
  write_like (Err v) f g h = refl

  fetch_like : (r : Result ℕ Violation) (f g : ℕ → Outcome) → ((w : ℕ) → LikeOutcome (f w) (g w)) → LikeOutcome (after_fetch r f) (after_fetch r g)
  fetch_like (Ok w) f g h = h w
  fetch_like (Err v) f g h = refl

  module _ (t u : Sections) (like : LikeAll mac nac t.live u.live) (next : u.next ≡ t.next) (own : ℕ) where
    may_same : (access : Access) (at : ℕ) → may u.live own access at ≡ may t.live own access at
    may_same access at = may_like mac nac t.live u.live own access at like

    pub may_range_like : (access : Access) (at n : ℕ) → may_range u.live own access at n ≡ may_range t.live own access at n
    may_range_like = same_range t.live u.live own may_same

    pub may_each_like : (access : Access) (at : ℕ) (bs : List ℕ) → may_each u.live own access at bs ≡ may_each t.live own access at bs
    may_each_like = same_each t.live u.live own may_same

    pub load_same : (wide : Bool) (at : ℕ) (x : Moment) → load u.live own wide at x ≡ load t.live own wide at x
    load_same wide at x = ap (λ b. cond b (read_place wide at (device_of x.devices at) x) (Err bad.Read)) (same_at t.live u.live own may_same wide Read at)

    pub store_same : (wide : Bool) (at v : ℕ) (x : Moment) → store u.live own wide at v x ≡ store t.live own wide at v x
    store_same wide at v x = ap (λ b. cond b (write_place wide at v (device_of x.devices at) x) (Err bad.Write)) (same_at t.live u.live own may_same wide Write at)

    pub fetch_same : (at : ℕ) (x : Moment) → fetch u.live own at x ≡ fetch t.live own at x
    fetch_same at x =
        ap (λ b. cond b (fetch_place at (device_of x.devices at) x) (Err bad.Fetch))
        (ap₂ (λ b c. b && c) (extends_like mac nac t.live u.live own (even at) like) (extends_like mac nac t.live u.live own (even at + 1) like))

    -- the plans do the same
    abbrev pub Alike : Plan → Plan → Type 0
    Alike p q = (x : Moment) → LikeOutcome (exec t own p x) (exec u own q x)

    pub same_alike : (p : Plan) → Alike p p
    same_alike (Done regs) x = (refl, refl)
    same_alike (Tell regs event exchange) x = (refl, refl, like, next, refl, refl)
    same_alike (Stop v) x = refl
    same_alike (Fetch at k) x =
        subst (λ (r : Result ℕ Violation). LikeOutcome (after_fetch (fetch t.live own at x) (λ w. exec t own (k w) x)) (after_fetch r (λ w. exec u own (k w) x))) (sym (fetch_same at x))
        (fetch_like (fetch t.live own at x) (λ w. exec t own (k w) x) (λ w. exec u own (k w) x) (λ w. same_alike (k w) x))
    same_alike (Load wide at k) x =
        subst (λ (r : Result (ℕ × Moment) Violation). LikeOutcome (after_read (load t.live own wide at x) (λ v y. exec t own (k v) y))
        (after_read r (λ v y. exec u own (k v) y))) (sym (load_same wide at x))
        (read_like (load t.live own wide at x) (λ v y. exec t own (k v) y) (λ v y. exec u own (k v) y) (λ v y. same_alike (k v) y))
    same_alike (Store wide at v k) x =
        subst (λ (r : Result Moment Violation). LikeOutcome (after_write (store t.live own wide at v x) (λ y. exec t own k y)) (after_write r (λ y. exec u own k y))) (sym (store_same wide at v x))
        (write_like (store t.live own wide at v x) (λ y. exec t own k y) (λ y. exec u own k y) (λ y. same_alike k y))
    same_alike (Need b v k) x = ifs_like b b (exec t own k x) (exec u own k x) v refl (same_alike k x)
    same_alike (Writable at n k) x =
        ifs_like (may_range t.live own Write at n) (may_range u.live own Write at n) (exec t own k x) (exec u own k x) bad.Write (may_range_like Write at n) (same_alike k x)
    same_alike (Bytes at n k) x =
        ifs_like (may_range t.live own Read at n) (may_range u.live own Read at n) (exec t own (k (bytes_from x.mem at n)) x) (exec u own (k (bytes_from x.mem at n)) x) bad.Read
        (may_range_like Read at n) (same_alike (k (bytes_from x.mem at n)) x)
    same_alike (Put at bs k) x =
        let y : Moment = record x { mem = put_bytes x.mem at bs } in
        ifs_like (may_each t.live own Write at bs) (may_each u.live own Write at bs) (exec t own k y) (exec u own k y) bad.Write (may_each_like Write at bs) (same_alike k y)

    pub equal_alike : (p q : Plan) → p ≡ q → Alike p q
    equal_alike p q e x = subst (λ (z : Plan). LikeOutcome (exec t own p x) (exec u own z x)) e (same_alike p x)

    pub need_alike : (b : Bool) (v : Violation) (p q : Plan) → Alike p q → Alike (Need b v p) (Need b v q)
    need_alike b v p q h x = ifs_like b b (exec t own p x) (exec u own q x) v refl (h x)

    -- bytes are read, as many as were asked for
    pub bytes_alike : (at n : ℕ) (k l : List ℕ → Plan) → ((bs : List ℕ) → length bs ≡ n → Alike (k bs) (l bs)) → Alike (Bytes at n k) (Bytes at n l)
    bytes_alike at n k l h x =
        let bs = bytes_from x.mem at n in
        ifs_like (may_range t.live own Read at n) (may_range u.live own Read at n) (exec t own (k bs) x) (exec u own (l bs) x) bad.Read
        (may_range_like Read at n) (h bs (length-bytes_from x.mem at n) x)
