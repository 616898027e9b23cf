-- Protecting a new module, by other code than s's, is guarded.
use Rattle.std.proofs.Common.{◌≡◌, ℕ, zero, suc, ◌+◌, ◌-◌, ◌<◌, ◌≤◌, Bool, true, false, cond, not, leb, ltb, inl, inr, List, [], ◌∷◌, ◌++◌, refl, ap, arith, Option, Some, None}
use Rattle.std.specs.List.{list_all}
use Rattle.std.proofs.lemmas.Bool.{and_parts, or_cases, and_left, and_right, leb-true, lt-leb, le-ltb}
use Rattle.sx_rules.specs.declared.section.Layout.{Layout}
use Rattle.sx_rules.specs.declared.section.Section.{Section}
use Rattle.sx_rules.specs.declared.admission.Refusal.{Refusal}
use Rattle.sx_rules.specs.declared.admission.Refusal.TheVariants.{Bounds, Overlap, Device, Full, Ids}
use Rattle.sx_rules.specs.Access.{Sections, in_private, Lives}
use Rattle.sx_rules.specs.Admission.{apart, good_bounds, parts_apart, clear_of, no_overlap, no_device, is_full, ids_used, refusal, admitted}
use Rattle.sx_tag.specs.Mac.{Mac}
use Rattle.sx_tag.specs.Keys.{section_key, identity}
use Rattle.sx_bus.specs.Devices.{places_of}
use Rattle.spec_machine.specs.Memory.{zeroed}
use Rattle.spec_machine.specs.Given.{Given}
use Rattle.spec_machine.specs.Protect.{identity_at, layout_in, provider_in, protected_if, protect}
use Rattle.spec_machine.specs.Guard.{Alike, PrivateKept}
use Rattle.spec_machine.proofs.PlanGuard.{passes, set_alike, set_kept, bytes_alike, SameOutcome, KeptBy}

abbrev pub chosen : Bool → Bool → Bool → Bool → Bool → Option Refusal
chosen a b c d e = cond (not a) (Some Bounds) (cond (not b) (Some Overlap) (cond (not c) (Some Device) (cond d (Some Full) (cond e (Some Ids) None))))

no_second : (a b c d e : Bool) → chosen a b c d e ≡ None → b ≡ true
no_second true true c d e h = refl
no_second true false c d e h = cc
no_second false b c d e h = cc

-- an admitted module's sections don't meet the private section of a live one
clear_here : (t : Sections) (l : Layout) (places : List ℕ) (s : Section) → Lives t.live s → refusal t l places ≡ None
    → (apart l.pub_from l.pub_to s.layout.priv_from s.layout.priv_to ≡ true) × (apart l.priv_from l.priv_to s.layout.priv_from s.layout.priv_to ≡ true)
unfolding refusal
clear_here t l places s v h =
    let o = no_second (good_bounds l) (no_overlap t.live l) (no_device places l) (is_full t) (ids_used t) h in
    let c = passes (clear_of l) t.live s v (and_parts (parts_apart l) (list_all (clear_of l) t.live) o).1 in
    let p1 = and_parts (apart l.pub_from l.pub_to s.layout.pub_from s.layout.pub_to) _ c in
    let p2 = and_parts (apart l.pub_from l.pub_to s.layout.priv_from s.layout.priv_to) _ p1.1 in
    let p3 = and_parts (apart l.priv_from l.priv_to s.layout.pub_from s.layout.pub_to) _ p2.1 in
    (p2.0, p3.1)

pub outside : (s : Section) (from to k : ℕ) → apart from to s.layout.priv_from s.layout.priv_to ≡ true → from ≤ k → k < from + (to - from) → in_private s k ≡ false
outside s from to k h a b =
    elim (or_cases (leb to s.layout.priv_from) (leb s.layout.priv_to from) h) [
      | inl e ↦ let le = leb-true to s.layout.priv_from e in
          and_left (leb s.layout.priv_from k) (ltb k s.layout.priv_to) (lt-leb s.layout.priv_from k (omega (arith, le, b)))
      | inr e ↦ let le = leb-true s.layout.priv_to from e in
          and_right (leb s.layout.priv_from k) (ltb k s.layout.priv_to) (le-ltb k s.layout.priv_to (omega (arith, le, a)))
    ]

pub zeroed_alike : (s : Section) (m n : List ℕ) (at len : ℕ) → Alike s m n → Alike s (zeroed m at len) (zeroed n at len)
unfolding zeroed
zeroed_alike s m n at zero h = h
zeroed_alike s m n at (suc len) h = set_alike s (zeroed m at len) (zeroed n at len) (at + len) 0 (zeroed_alike s m n at len h)

pub zeroed_kept : (s : Section) (m : List ℕ) (at len : ℕ) → ((k : ℕ) → at ≤ k → k < at + len → in_private s k ≡ false) → PrivateKept s m (zeroed m at len)
unfolding zeroed
zeroed_kept s m at zero f = λ k p. refl
zeroed_kept s m at (suc len) f =
    set_kept s m (zeroed m at len) (at + len) 0 (f (at + len) (omega arith) (omega arith)) (zeroed_kept s m at len (λ k a b. f k a (omega (arith, b))))

pub lives_on : (live : List Section) (s new : Section) → Lives live s → Lives (live ++ new ∷ []) s
lives_on [] s new l = absurd l
lives_on (x ∷ xs) s new l = elim l [ inl e ↦ inl e | inr r ↦ inr (lives_on xs s new r) ]

protected_kept : (mac : Mac) (s : Section) (g : Given) (m : List ℕ) (l : Layout) (o : Option Refusal) → Lives g.sections.live s
    → (o ≡ None → refusal g.sections l (places_of g.devices) ≡ None) → KeptBy s m (protected_if mac g m l o)
protected_kept mac s g m l None v f =
    let c = clear_here g.sections l (places_of g.devices) s v (f refl) in
    (zeroed_kept s m l.priv_from (l.priv_to - l.priv_from) (λ k p q. outside s l.priv_from l.priv_to k c.1 p q), lives_on g.sections.live s _ v)
protected_kept mac s g m l (Some why) v f = (λ k p. refl, v)

pub protect_kept : (mac : Mac) (s : Section) (g : Given) (m : List ℕ) → Lives g.sections.live s → KeptBy s m (protect mac g m)
unfolding protect
protect_kept mac s g m v =
    protected_kept mac s g m (layout_in g.regs) (refusal g.sections (layout_in g.regs) (places_of g.devices)) v (λ e. e)

protected_alike : (mac : Mac) (s : Section) (g : Given) (m n : List ℕ) (l : Layout) (o : Option Refusal) → Lives g.sections.live s → Alike s m n
    → (o ≡ None → refusal g.sections l (places_of g.devices) ≡ None) → SameOutcome s (protected_if mac g m l o) (protected_if mac g n l o)
protected_alike mac s g m n l None v h f =
    let c = clear_here g.sections l (places_of g.devices) s v (f refl) in
    let i : identity_at m l ≡ identity_at n l =
    ap (λ (bs : List ℕ). identity bs l.pub_from l.pub_to l.priv_from l.priv_to) (bytes_alike s m n l.pub_from (l.pub_to - l.pub_from) h (λ k p q. outside s l.pub_from l.pub_to k c.0 p q)) in (
      refl,
      record { rest = refl; mem = zeroed_alike s m n l.priv_from (l.priv_to - l.priv_from) h },
      ap (λ (bs : List ℕ). admitted g.sections l (provider_in g.regs) (section_key mac g.base (provider_in g.regs) bs)) i,
      refl,
      refl,
    )
protected_alike mac s g m n l (Some why) v h f = (refl, record { rest = refl; mem = h }, refl, refl, refl)

pub protect_alike : (mac : Mac) (s : Section) (g : Given) (m n : List ℕ) → Lives g.sections.live s → Alike s m n
    → SameOutcome s (protect mac g m) (protect mac g n)
unfolding protect
protect_alike mac s g m n v h =
    protected_alike mac s g m n (layout_in g.regs) (refusal g.sections (layout_in g.regs) (places_of g.devices)) v h (λ e. e)
