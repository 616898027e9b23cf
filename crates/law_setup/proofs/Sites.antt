-- The sections of a node where modules were loaded one after the other, and that the next one is admitted.
use Rattle.std.proofs.Common.{◌≡◌, ℕ, zero, suc, ◌+◌, ◌%◌, ◌<◌, ◌≤◌, inl, inr, ◌==◌, not, Bool, true, false, cond, if◌then◌else◌, List, [], ◌∷◌, ◌++◌, length}
use Rattle.std.proofs.Common.{Option, Some, None, refl, sym, ◌∙◌, ap, subst, arith}
use Rattle.std.specs.Prelude.{All, count_by, nat_le, nat_lt, slice_get}
use Rattle.std.specs.List.{list_all, position_from}
use Rattle.std.proofs.lemmas.Bool.{and_from, cases_Bool, eq-eqb, eqb-true, le-leb, leb-false, lt-ltb, or_left, or_right, true_from_ne_false}
use Rattle.std.proofs.lemmas.List.Elements.{All-cons, All-nil}
use Rattle.std.proofs.lemmas.List.Sums.{sum_by-cons}
use Rattle.std.proofs.lemmas.Option.{none-some}
use Rattle.sx_rules.specs.declared.section.Section.{Section}
use Rattle.sx_rules.specs.declared.section.Layout.{Layout}
use Rattle.sx_rules.specs.declared.admission.Refusal.{Refusal}
use Rattle.sx_rules.specs.declared.admission.Refusal.TheVariants.{Bounds, Overlap, Device, Full, Ids}
use Rattle.sx_rules.specs.Access.{Lives, Sections}
use Rattle.sx_rules.specs.Admission.{apart, good_bounds, ids_used, is_full, no_device, no_overlap, refusal}
use Rattle.sx_bus.specs.declared.devices.Kind.{Kind}
use Rattle.sx_bus.specs.declared.devices.Window.{Window}
use Rattle.sx_bus.specs.Devices.{on_word, places_of, powered_on}
use Rattle.sx_mean.specs.declared.apps.AppDevice.{AppDevice}
use Rattle.sx_mean.specs.Application.{PartTree}
use Rattle.spec_run.specs.Setting.{Site, Setting, kind_of, windows_at}
use Rattle.spec_run.specs.Deployer.{key_of}
use Rattle.spec_run.proofs.tie.Lists.{some_inj}
use Rattle.law_setup.proofs.forms.Settled.{sections_of}

-- The sections are those of the sites.

pub record FromSite (n : ℕ) (sites : List Site) (x : Section) : Type 0 where
  pub place : ℕ
  pub site : Site
  pub there : slice_get sites place ≡ Some site
  pub at : site.node ≡ n
  pub layout : x.layout ≡ site.layout

abbrev pub section_at : Setting → ℕ → Site → Section
section_at set id site = record { layout = site.layout; provider = site.provider; id = id; key = key_of set site 0 }

later_site : (n : ℕ) (y : Site) (sites : List Site) (x : Section) → FromSite n sites x → FromSite n (y ∷ sites) x
later_site n y sites x f = record { place = suc f.place; site = f.site; there = f.there; at = f.at; layout = f.layout }

pub in_sections : (set : Setting) (n id : ℕ) (sites : List Site) (x : Section) → Lives (sections_of set n id sites) x → FromSite n sites x
in_sections set n id [] x l = absurd l
in_sections set n id (site ∷ sites) x l = by (site.node == n) refl (in_sections set n (id + 1) sites x) (in_sections set n id sites x) l
  where
    by : (b : Bool) → (site.node == n) ≡ b → (Lives (sections_of set n (id + 1) sites) x → FromSite n sites x)
        → (Lives (sections_of set n id sites) x → FromSite n sites x)
        → Lives (if b then section_at set id site ∷ sections_of set n (id + 1) sites else sections_of set n id sites) x → FromSite n (site ∷ sites) x
    by true e f h g = elim g [
      | inl same ↦ record { place = 0; site = site; there = refl; at = eqb-true site.node n e; layout = sym (ap (λ (z : Section). z.layout) same) }
      | inr r ↦ later_site n site sites x (f r)
    ]
    by false e f h g = later_site n site sites x (h g)

pub section_there : (set : Setting) (n id : ℕ) (sites : List Site) (i : ℕ) (site : Site) → slice_get sites i ≡ Some site → site.node ≡ n
    → (x : Section) × (Lives (sections_of set n id sites) x) × (x.layout ≡ site.layout)
section_there set n id [] i site e at = absurd cc
section_there set n id (y ∷ sites) zero site e at =
    let same : y ≡ site = some_inj y site e in
    let yes : (y.node == n) ≡ true = eq-eqb y.node n (ap (λ (z : Site). z.node) same ∙ at) in (
      section_at set id y,
      subst (λ (b : Bool). Lives (if b then section_at set id y ∷ sections_of set n (id + 1) sites else sections_of set n id sites) (section_at set id y)) (sym yes) (inl refl),
      ap (λ (z : Site). z.layout) same,
    )
section_there set n id (y ∷ sites) (suc i) site e at = by (y.node == n) (section_there set n (id + 1) sites i site e at) (section_there set n id sites i site e at)
  where
    by : (b : Bool) → ((x : Section) × (Lives (sections_of set n (id + 1) sites) x) × (x.layout ≡ site.layout))
        → ((x : Section) × (Lives (sections_of set n id sites) x) × (x.layout ≡ site.layout)) → (x : Section)
        × (Lives (if b then section_at set id y ∷ sections_of set n (id + 1) sites else sections_of set n id sites) x) × (x.layout ≡ site.layout)
    by true r o = (r.0, inr r.1, r.2)
    by false r o = o

-- one more site
pub one_more : (set : Setting) (n id : ℕ) (sites : List Site) (site : Site) → site.node ≡ n
    → sections_of set n id (sites ++ site ∷ []) ≡ sections_of set n id sites ++ section_at set (id + length (sections_of set n id sites)) site ∷ []
one_more set n id [] site at =
    let here : id ≡ id + 0 = omega arith in
    ap (λ (b : Bool). if b then section_at set id site ∷ [] else []) (eq-eqb site.node n at) ∙ ap (λ (k : ℕ). section_at set k site ∷ []) here
one_more set n id (y ∷ sites) site at = by (y.node == n) (one_more set n (id + 1) sites site at) (one_more set n id sites site at)
  where
    next : (id k : ℕ) → id + 1 + k ≡ id + suc k
    next id k = omega arith

    by : (b : Bool) → sections_of set n (id + 1) (sites ++ site ∷ []) ≡ sections_of set n (id + 1) sites ++ section_at set (id + 1 + length (sections_of set n (id + 1) sites)) site ∷ []
        → sections_of set n id (sites ++ site ∷ []) ≡ sections_of set n id sites ++ section_at set (id + length (sections_of set n id sites)) site ∷ []
        → (if b then section_at set id y ∷ sections_of set n (id + 1) (sites ++ site ∷ []) else sections_of set n id (sites ++ site ∷ []))
        ≡ (if b then section_at set id y ∷ sections_of set n (id + 1) sites else sections_of set n id sites)
        ++ section_at set (id + length (if b then section_at set id y ∷ sections_of set n (id + 1) sites else sections_of set n id sites)) site ∷ []
    by true r o =
        ap (λ r. section_at set id y ∷ r) r
        ∙ ap (λ (k : ℕ). section_at set id y ∷ (sections_of set n (id + 1) sites ++ section_at set k site ∷ [])) (next id (length (sections_of set n (id + 1) sites)))
    by false r o = o

pub not_more : (set : Setting) (n id : ℕ) (sites : List Site) (site : Site) → (site.node == n) ≡ false → sections_of set n id (sites ++ site ∷ []) ≡ sections_of set n id sites
not_more set n id [] site off = ap (λ (b : Bool). if b then section_at set id site ∷ [] else []) off
not_more set n id (y ∷ sites) site off = by (y.node == n) (not_more set n (id + 1) sites site off) (not_more set n id sites site off)
  where
    by : (b : Bool) → sections_of set n (id + 1) (sites ++ site ∷ []) ≡ sections_of set n (id + 1) sites → sections_of set n id (sites ++ site ∷ []) ≡ sections_of set n id sites
        → (if b then section_at set id y ∷ sections_of set n (id + 1) (sites ++ site ∷ []) else sections_of set n id (sites ++ site ∷ []))
        ≡ (if b then section_at set id y ∷ sections_of set n (id + 1) sites else sections_of set n id sites)
    by true r o = ap (λ r. section_at set id y ∷ r) r
    by false r o = o

-- There are no more sections than parts at the node.

abbrev at_node : ℕ → PartTree → Bool
at_node n q = q.node == n

abbrev one_if : Bool → ℕ
one_if b = cond b 1 0

count_more : (n : ℕ) (q : PartTree) (qs : List PartTree) → count_by (at_node n) (q ∷ qs) ≡ one_if (at_node n q) + count_by (at_node n) qs
count_more n q qs = sum_by-cons (λ (x : PartTree). one_if (at_node n x)) q qs

pub fewer_sections : (set : Setting) (n id : ℕ) (sb sa : List Site) (site : Site) (pb pa : List PartTree) (q : PartTree) → length sb ≡ length pb
    → ((i : ℕ) (x : PartTree) (y : Site) → slice_get (pb ++ q ∷ pa) i ≡ Some x → slice_get (sb ++ site ∷ sa) i ≡ Some y → y.node ≡ x.node) → q.node ≡ n
    → length (sections_of set n id sb) < count_by (at_node n) (pb ++ q ∷ pa)
fewer_sections set n id [] sa site [] pa q len same at =
    let c = count_more n q pa in
    let one : one_if (at_node n q) ≡ 1 = ap one_if (eq-eqb q.node n at) in
    omega (arith, c, one)
fewer_sections set n id [] sa site (x ∷ pb) pa q len same at = absurd (omega (arith, len))
fewer_sections set n id (y ∷ sb) sa site [] pa q len same at = absurd (omega (arith, len))
fewer_sections set n id (y ∷ sb) sa site (x ∷ pb) pa q len same at =
    let less : length sb ≡ length pb = omega (arith, len) in
    by (y.node == n) refl (fewer_sections set n (id + 1) sb sa site pb pa q less (λ i a b h g. same (suc i) a b h g) at)
    (fewer_sections set n id sb sa site pb pa q less (λ i a b h g. same (suc i) a b h g) at)
  where
    yx : y.node ≡ x.node
    yx = same 0 x y refl refl

    by : (b : Bool) → (y.node == n) ≡ b → length (sections_of set n (id + 1) sb) < count_by (at_node n) (pb ++ q ∷ pa) → length (sections_of set n id sb) < count_by (at_node n) (pb ++ q ∷ pa)
        → length (if b then section_at set id y ∷ sections_of set n (id + 1) sb else sections_of set n id sb) < count_by (at_node n) (x ∷ (pb ++ q ∷ pa))
    by true e r o =
        let c = count_more n x (pb ++ q ∷ pa) in
        let one : one_if (at_node n x) ≡ 1 = ap (λ (k : ℕ). one_if (k == n)) (sym yx) ∙ ap one_if e in
        omega (arith, r, c, one)
    by false e u r =
        let c = count_more n x (pb ++ q ∷ pa) in
        omega (arith, r, c)

-- Devices.

pub low_windows : (n : ℕ) (ds : List AppDevice) (ats : List ℕ) → All (λ at. 512 ≤ at) ats → All (λ at. 512 ≤ at) (places_of (powered_on (windows_at n ds ats)))
low_windows n [] ats h = All-nil (λ (at : ℕ). 512 ≤ at)
low_windows n (d ∷ ds) [] h = All-nil (λ (at : ℕ). 512 ≤ at)
low_windows n (d ∷ ds) (at ∷ ats) h = by (d.node == n) (low_windows n ds ats (λ k x lt. h (suc k) x (omega (arith, lt))))
  where
    by : (b : Bool) → All (λ at. 512 ≤ at) (places_of (powered_on (windows_at n ds ats)))
        → All (λ at. 512 ≤ at) (places_of (powered_on (if b then (at, kind_of d.kind) ∷ windows_at n ds ats else windows_at n ds ats)))
    by true r = All-cons (λ (at : ℕ). 512 ≤ at) at (places_of (powered_on (windows_at n ds ats))) (h 0 at (omega arith)) r
    by false r = r

pub stale_windows : (xs : List (ℕ × Kind)) → All (λ (d : Window). d.fresh ≡ false) (powered_on xs)
stale_windows [] = All-nil (λ (d : Window). d.fresh ≡ false)
stale_windows (x ∷ xs) = All-cons (λ (d : Window). d.fresh ≡ false) _ (powered_on xs) refl (stale_windows xs)

-- no device's word meets a public section with no device
pub no_word : (from to : ℕ) (ws : List Window) (i : ℕ) → from % 2 ≡ 0 → All (λ p. p % 2 ≡ 0) (places_of ws) → ((at : ℕ) → from ≤ at → at < to → position_from (on_word at) i ws ≡ None)
    → list_all (λ place. apart from to place (place + 2)) (places_of ws) ≡ true
no_word from to [] i even evens h = refl
no_word from to (w ∷ ws) i even evens h =
    and_from (apart from to w.at (w.at + 2)) (list_all (λ place. apart from to place (place + 2)) (places_of ws)) first
    (no_word from to ws (i + 1) even (λ k d lt. evens (suc k) d (omega (arith, lt))) (λ at lo hi. past (on_word at w) at (h at lo hi)))
  where
    past : (b : Bool) (at : ℕ) → (if b then Some i else position_from (on_word at) (i + 1) ws) ≡ None → position_from (on_word at) (i + 1) ws ≡ None
    past true at e = absurd (none-some i (sym e))
    past false at e = e

    own : on_word w.at w ≡ true
    own = and_from (nat_le w.at w.at) (nat_lt w.at (w.at + 2)) (le-leb w.at w.at (omega arith)) (lt-ltb w.at (w.at + 2) (omega arith))

    even_at : w.at % 2 ≡ 0
    even_at = evens 0 w.at (omega arith)

    inside : nat_le to w.at ≡ false → nat_le (w.at + 2) from ≡ false → ⊥
    inside a b =
        let p = leb-false to w.at a in
        let r = leb-false (w.at + 2) from b in
        let e = even in
        let g = even_at in
        let low : from ≤ w.at = omega (arith, r, e, g) in
        none-some i (sym (sym (ap (λ (b : Bool). if b then Some i else position_from (on_word w.at) (i + 1) ws) own) ∙ h w.at low p))

    first : apart from to w.at (w.at + 2) ≡ true
    first = elim (cases_Bool (nat_le to w.at)) [
      | inl x ↦ or_left (nat_le to w.at) (nat_le (w.at + 2) from) x
      | inr x ↦ or_right (nat_le to w.at) (nat_le (w.at + 2) from) (true_from_ne_false (nat_le (w.at + 2) from) (λ y. inside x y))
    ]

-- No rule refuses the section.

step_on : (b : Bool) (r : Refusal) (rest : Option Refusal) → b ≡ true → rest ≡ None → (if not b then Some r else rest) ≡ None
step_on b r rest e h = ap (λ (c : Bool). if not c then Some r else rest) e ∙ h

pub admitted_next : (t : Sections) (l : Layout) (places : List ℕ) → good_bounds l ≡ true → no_overlap t.live l ≡ true → no_device places l ≡ true
    → length t.live < 8 → t.next ≤ 65535 → refusal t l places ≡ None
unfolding refusal
admitted_next t l places bounds overlap device room ids =
    let full : is_full t ≡ false = Rattle.std.proofs.lemmas.Bool.lt-leb 8 (length t.live) room in
    let used : ids_used t ≡ false = Rattle.std.proofs.lemmas.Bool.le-ltb 65535 t.next ids in
    step_on (good_bounds l) Bounds _ bounds (step_on (no_overlap t.live l) Overlap _ overlap (step_on (no_device places l) Device _ device
    (ap (λ (b : Bool). if b then Some Full else if ids_used t then Some Ids else None) full ∙ ap (λ (b : Bool). if b then Some Ids else None) used)))
