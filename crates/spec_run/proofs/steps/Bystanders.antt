-- What a step leaves of the modules whose code it isn't, and of the devices that its marks tell of.
use Rattle.std.proofs.Common.{◌≡◌, ◌≢◌, ℕ, zero, suc, ◌-◌, ◌⊎◌, inl, inr, ◌==◌, ◌&&◌, Bool, true, false, if◌then◌else◌, List, [], ◌∷◌, Some, None, refl, sym, ◌∙◌, ap, subst, arith}
use Rattle.std.specs.Prelude.{slice_get, slice_set, nat_le, nat_lt}
use Rattle.std.proofs.lemmas.Bool.{and_parts, or_cases, cases_eq, cases_Bool, leb-true, ltb-true, lt-ltb, le-leb, and_from}
use Rattle.sx_rules.specs.declared.section.Section.{Section}
use Rattle.sx_rules.specs.declared.section.Layout.{Layout}
use Rattle.sx_rules.specs.Access.{Sections, Lives, section_of}
use Rattle.sx_rules.specs.Admission.{apart}
use Rattle.sx_rules.specs.Placed.{Placed}
use Rattle.sx_rules.proofs.Placing.{placed_beside, placed_found}
use Rattle.sx_bus.specs.declared.devices.Window.{Window}
use Rattle.sx_bus.specs.Devices.{cleared, stale}
use Rattle.spec_machine.specs.declared.kinds.Touch.{Touch}
use Rattle.spec_machine.specs.declared.kinds.Touch.TheVariants as touch
use Rattle.spec_machine.specs.State.{State}
use Rattle.spec_machine.specs.Step.{step, own_of}
use Rattle.spec_machine.specs.Guard.{PrivateKept}
use Rattle.spec_machine.proofs.StepGuard.{step_guarded}
use Rattle.sx_image.specs.Watched.{marks_of_touches, violation_of}
use Rattle.spec_invocation.specs.ModuleState.{state_of}
use Rattle.spec_machine.specs.Node.{IsNode}
use Rattle.sx_image.specs.Image.{private_bytes, public_bytes}
use Rattle.sx_mean.specs.Application.{PartTree, AppTree}
use Rattle.sx_mean.specs.Ends.{ends_of}
use Rattle.sx_model.specs.State.{Reading}
use Rattle.sx_model.specs.order.State.{Standing}
use Rattle.spec_run.specs.Setting.{Site, Setting, is_at_site, same_layout, device_number}
use Rattle.spec_run.proofs.tie.Lists.{get_other, some_inj}
use Rattle.spec_run.proofs.tie.Tied.{SameState, DeviceTied, ModuleTied, Absent, Rests, Runs, shapes}
use Rattle.spec_run.proofs.steps.Stretch.{readings_all}
use Rattle.spec_machine.specs.Touches.{Replays}
use Rattle.spec_run.proofs.steps.Machine.{MachineLaws, Onward, onward, no_reset}
use Rattle.spec_machine.proofs.Devices.{cleared_shapes}
use Rattle.spec_machine.proofs.Meanings.{same_bytes}

pub kept_bytes : (sec : Section) (m n : List ℕ) → PrivateKept sec m n → private_bytes sec.layout n ≡ private_bytes sec.layout m
kept_bytes sec m n h =
    same_bytes m n sec.layout.priv_from (sec.layout.priv_to - sec.layout.priv_from) (λ k a b.
    h k (and_from (nat_le sec.layout.priv_from k) (nat_lt k sec.layout.priv_to) (le-leb sec.layout.priv_from k a) (lt-ltb k sec.layout.priv_to (omega (arith, a, b)))))

pub at_site_same : (n : ℕ) (m m2 : List ℕ) (sec : Section) (site : Site) → public_bytes sec.layout m2 ≡ public_bytes sec.layout m → is_at_site n m2 sec site ≡ is_at_site n m sec site
at_site_same n m m2 sec site e =
    ap (λ bs. (site.node == n) && (same_layout sec.layout site.layout && ((sec.provider == site.provider) && Rattle.std.specs.Prelude.bytes_eq bs site.text))) e

pub cur_of : (s t : State) → Onward s t → (t.cur ≡ 0) ⊎ (t.cur ≡ own_of s)
cur_of s t h = elim (cases_Bool (own_of t == own_of s)) [
  | inl e ↦ inr (h.cur ∙ ap (λ (b : Bool). if b then own_of s else 0) e)
  | inr e ↦ inl (h.cur ∙ ap (λ (b : Bool). if b then own_of s else 0) e)
]

-- a deployed module that rests or is absent, at a step of other code that leaves the sections
pub bystander : (set : Setting) (n m : ℕ) (q : PartTree) (site : Site) (s : State) (x : Standing) (sent : List (List ℕ)) (laws : MachineLaws set.mac)
    → IsNode s → violation_of (step set.mac s).shown.event ≡ None
    → (step set.mac s).state.sections ≡ s.sections → ((sec : Section) → Lives s.sections.live sec → is_at_site n s.mem sec site ≡ true → (sec.id ≢ 0) × (own_of s ≢ sec.id) × (s.cur ≢ sec.id))
    → ModuleTied set n m q site s x sent → ModuleTied set n m q site (step set.mac s).state x sent
bystander set n m q site s x sent laws node quiet same foreign (Absent none f) =
    Absent none (λ sec l.
    let l2 : Lives s.sections.live sec = subst (λ (z : Sections). Lives z.live sec) same l in
    at_site_same n s.mem (step set.mac s).state.mem sec site (laws.public s sec node l2 quiet) ∙ f sec l2)
bystander set n m q site s x sent laws node quiet same foreign (Rests sec pr p i c pend h) =
    let away = foreign sec i.lives i.here in
    let on = onward set.mac s quiet in
    Rests sec pr p (record {
      lives = subst (λ (z : Sections). Lives z.live sec) (sym same) i.lives;
      here = at_site_same n s.mem (step set.mac s).state.mem sec site (laws.public s sec node i.lives quiet) ∙ i.here;
    })
    (λ e. elim (cur_of s (step set.mac s).state on) [ inl z ↦ absurd (away.0 (sym e ∙ z)) | inr o ↦ absurd (away.1 (sym o ∙ e)) ]) pend
    (elim ((step_guarded set.mac sec s node.placed i.lives (inl away.1)).kept) [
      | inl k ↦ subst (λ bs. SameState (ends_of set.app m) (state_of q.tree (ends_of set.app m) bs) pr.cells pr.ends sent) (sym (kept_bytes sec s.mem (step set.mac s).state.mem k.0)) h
      | inr r ↦ absurd (no_reset s (step set.mac s).state on.boot r)
    ])
bystander set n m q site s x sent laws node quiet same foreign (Runs sec pr p i c u) = absurd ((foreign sec i.lives i.here).2 c)

-- the same where the step is of other code altogether: sections may come and go
pub onlooker : (set : Setting) (n m : ℕ) (q : PartTree) (site : Site) (s : State) (x : Standing) (sent : List (List ℕ)) (laws : MachineLaws set.mac)
    → IsNode s → violation_of (step set.mac s).shown.event ≡ None
    → ((sec : Section) → Lives (step set.mac s).state.sections.live sec → Lives s.sections.live sec ⊎ (is_at_site n (step set.mac s).state.mem sec site ≡ false))
    → ((sec : Section) → Lives s.sections.live sec → is_at_site n s.mem sec site ≡ true → (sec.id ≢ 0) × (own_of s ≢ sec.id) × (s.cur ≢ sec.id))
    → ModuleTied set n m q site s x sent → ModuleTied set n m q site (step set.mac s).state x sent
onlooker set n m q site s x sent laws node quiet after foreign (Absent none f) =
    Absent none (λ sec l. elim (after sec l) [
      | inl old ↦ at_site_same n s.mem (step set.mac s).state.mem sec site (laws.public s sec node old quiet) ∙ f sec old
      | inr new ↦ new
    ])
onlooker set n m q site s x sent laws node quiet after foreign (Rests sec pr p i c pend h) =
    let away = foreign sec i.lives i.here in
    let on = onward set.mac s quiet in
    elim ((step_guarded set.mac sec s node.placed i.lives (inl away.1)).kept) [
      | inl k ↦ Rests sec pr p (record { lives = k.1; here = at_site_same n s.mem (step set.mac s).state.mem sec site (laws.public s sec node i.lives quiet) ∙ i.here })
          (λ e. elim (cur_of s (step set.mac s).state on) [ inl z ↦ absurd (away.0 (sym e ∙ z)) | inr o ↦ absurd (away.1 (sym o ∙ e)) ]) pend
          (subst (λ bs. SameState (ends_of set.app m) (state_of q.tree (ends_of set.app m) bs) pr.cells pr.ends sent) (sym (kept_bytes sec s.mem (step set.mac s).state.mem k.0)) h)
      | inr r ↦ absurd (no_reset s (step set.mac s).state on.boot r)
    ]
onlooker set n m q site s x sent laws node quiet after foreign (Runs sec pr p i c u) = absurd ((foreign sec i.lives i.here).2 c)

-- two live sections of one layout are one
pub apart_self : (from to : ℕ) → nat_lt from to ≡ true → apart from to from to ≡ true → ⊥
apart_self from to lt h = elim (or_cases (nat_le to from) (nat_le to from) h) [
  | inl e ↦ absurd (omega (arith, ltb-true from to lt, leb-true to from e))
  | inr e ↦ absurd (omega (arith, ltb-true from to lt, leb-true to from e))
]

pub one_section : (t : Sections) (a b : Section) → Placed t → Lives t.live a → Lives t.live b → a.layout ≡ b.layout → nat_lt a.layout.pub_from a.layout.pub_to ≡ true → a ≡ b
one_section t a b pl la lb same bounds = elim (cases_eq a.id b.id) [
  | inl e ↦ some_inj a b (sym (placed_found t a pl la) ∙ subst (λ i. section_of t.live i ≡ Some b) (sym e) (placed_found t b pl lb))
  | inr ne ↦
      let h = (placed_beside t a b pl la lb ne).parts in
      let first = (and_parts (apart a.layout.pub_from a.layout.pub_to b.layout.pub_from b.layout.pub_to) _ h).0 in
      absurd (apart_self a.layout.pub_from a.layout.pub_to bounds (subst (λ (l : Layout). apart a.layout.pub_from a.layout.pub_to l.pub_from l.pub_to ≡ true) (sym same) first))
]

-- Devices.

-- a node's devices as the source has them
abbrev pub DevicesTied : AppTree → ℕ → List Window → List Reading → Type 0
DevicesTied app n ws rs = (k : ℕ) (x : Window) (r : Reading) → slice_get ws k ≡ Some x → slice_get rs (device_number app n k) ≡ Some r → DeviceTied x r

-- two devices of a node are two devices
abbrev pub Apart : AppTree → ℕ → List Window → Type 0
Apart app n ws = (j k : ℕ) (x y : Window) → slice_get ws j ≡ Some x → slice_get ws k ≡ Some y → device_number app n j ≡ device_number app n k → j ≡ k

cleared_same : (ws : List Window) (k : ℕ) (w : Window) → slice_get ws k ≡ Some w → slice_get (cleared ws k) k ≡ Some (stale w)
cleared_same [] k w e = absurd cc
cleared_same (x ∷ ws) zero w e = ap (λ z. Some (stale z)) (some_inj x w e)
cleared_same (x ∷ ws) (suc k) w e = cleared_same ws k w e

cleared_other : (ws : List Window) (k j : ℕ) → j ≢ k → slice_get (cleared ws k) j ≡ slice_get ws j
cleared_other [] k j ne = refl
cleared_other (x ∷ ws) zero zero ne = absurd (ne refl)
cleared_other (x ∷ ws) zero (suc j) ne = refl
cleared_other (x ∷ ws) (suc k) zero ne = refl
cleared_other (x ∷ ws) (suc k) (suc j) ne = cleared_other ws k j (λ e. ne (ap suc e))

pub cleared_get : (ws : List Window) (k j : ℕ) (x w : Window) → slice_get ws k ≡ Some w → slice_get (cleared ws k) j ≡ Some x → (y : Window) × (slice_get ws j ≡ Some y)
cleared_get ws k j x w kw e = elim (cases_eq j k) [
  | inl same ↦ (w, subst (λ i. slice_get ws i ≡ Some w) (sym same) kw)
  | inr ne ↦ (x, sym (cleared_other ws k j ne) ∙ e)
]

pub set_apart : (app : AppTree) (n k : ℕ) (ws : List Window) (w : Window) → slice_get ws k ≡ Some w → Apart app n ws → Apart app n (cleared ws k)
set_apart app n k ws w kw h i j x y ix jy e =
    let a = cleared_get ws k i x w kw ix in
    let b = cleared_get ws k j y w kw jy in
    h i j a.0 b.0 a.1 b.1 e

pub tied_read : (app : AppTree) (n k v : ℕ) (ws : List Window) (rs : List Reading) (w : Window) → slice_get ws k ≡ Some w → w.value ≡ v → Apart app n ws → DevicesTied app n ws rs
    → DevicesTied app n (cleared ws k) (slice_set rs (device_number app n k) (record { value = v; fresh = false }))
tied_read app n k v ws rs w kw wv apart h j x r jx jr = elim (cases_eq j k) [
  | inl same ↦
      let xw : x ≡ stale w = some_inj x (stale w) (sym jx ∙ subst (λ i. slice_get (cleared ws k) i ≡ Some (stale w)) (sym same) (cleared_same ws k w kw)) in
      elim (set_cases rs (device_number app n k) (record { value = v; fresh = false }) r
      (subst (λ i. slice_get (slice_set rs (device_number app n k) (record { value = v; fresh = false }))
      (device_number app n i) ≡ Some r) same jr)) [
        | inl e ↦ record { value = ap (λ (z : Reading). z.value) e ∙ sym wv ∙ sym (ap (λ (z : Window). z.value) xw); fresh = ap (λ (z : Reading). z.fresh) e ∙ sym (ap (λ (z : Window). z.fresh) xw) }
        | inr bad ↦ absurd bad
      ]
  | inr ne ↦
      let old = sym (cleared_other ws k j ne) ∙ jx in
      h j x r old (sym (get_other rs (device_number app n k) (device_number app n j) (record { value = v; fresh = false }) (λ e. ne (apart j k x w old kw e))) ∙ jr)
]
  where
    set_cases : (xs : List Reading) (i : ℕ) (v r : Reading) → slice_get (slice_set xs i v) i ≡ Some r → (r ≡ v) ⊎ ⊥
    set_cases [] i v r e = absurd cc
    set_cases (x ∷ xs) zero v r e = inl (sym (some_inj v r e))
    set_cases (x ∷ xs) (suc i) v r e = set_cases xs i v r e

pub replayed : (app : AppTree) (n own : ℕ) (live : List Section) (ts : List Touch) (a b : List Window) (rs : List Reading) → Replays live own ts a b → Apart app n a → DevicesTied app n a rs
    → DevicesTied app n b (readings_all app n (marks_of_touches ts) rs)
replayed app n own live [] a b rs h apart t = subst (λ z. DevicesTied app n z rs) (sym h) t
replayed app n own live (touch.Quiet ∷ ts) a b rs h apart t = replayed app n own live ts a b rs h apart t
replayed app n own live (touch.DeviceRead k v ∷ ts) a b rs h apart t =
    replayed app n own live ts (cleared a k) b (slice_set rs (device_number app n k) (record { value = v; fresh = false })) h.6
    (set_apart app n k a h.0 h.1 apart) (tied_read app n k v a rs h.0 h.1 h.4 apart t)
replayed app n own live (touch.DeviceWrite k v ∷ ts) a b rs h apart t = replayed app n own live ts a b rs h.4 apart t

pub replayed_shapes : (own : ℕ) (live : List Section) (ts : List Touch) (a b : List Window) → Replays live own ts a b → shapes b ≡ shapes a
replayed_shapes own live [] a b h = ap shapes h
replayed_shapes own live (touch.Quiet ∷ ts) a b h = replayed_shapes own live ts a b h
replayed_shapes own live (touch.DeviceRead k v ∷ ts) a b h = replayed_shapes own live ts (cleared a k) b h.6 ∙ cleared_shapes a k
replayed_shapes own live (touch.DeviceWrite k v ∷ ts) a b h = replayed_shapes own live ts a b h.4
