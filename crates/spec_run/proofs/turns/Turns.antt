-- The source's states while an event is pending.
use Rattle.std.proofs.Common.{◌≡◌, ℕ, inl, inr, ◌==◌, Bool, true, false, if◌then◌else◌, List, [], ◌∷◌, ◌++◌, Option, Some, None, refl, sym, ◌∙◌, ap, subst}
use Rattle.std.specs.Prelude.{slice_get, slice_set, IfSome, is_none}
use Rattle.std.specs.List.{list_any}
use Rattle.std.proofs.lemmas.Bool.{true≢false, cases_eq, eqb-true, eq-eqb, or_parts, false≢true}
use Rattle.std.proofs.lemmas.Option.{same_Some}
use Rattle.lemmas.proofs.Lists.{get_same}
use Rattle.sx_trace.specs.declared.items.Item.{Item}
use Rattle.sx_mean.specs.Application.{AppTree, PartTree}
use Rattle.sx_model.specs.order.State.{Model, Pending, Present, Standing}
use Rattle.sx_model.specs.order.Step.{step, idle}
use Rattle.sx_model.specs.Legal.{before, is_forged}
use Rattle.sx_model.proofs.order.Steps.{Cases, by_step}
use Rattle.sx_model.proofs.Along.{some_of}
use Rattle.spec_run.proofs.tie.Lists.{get_other}
use Rattle.spec_run.proofs.tie.Verdicts.{Verdict, Over, judge_on, judge, Fares}
use Rattle.sx_model.specs.order.Turns.{is_at_node, begins, ends, goes_on, OneAtATime}
use Rattle.spec_run.proofs.acts.Walks.{Unless, Walks}
use Rattle.sx_explain.proofs.Finishes.{absent_other}

-- an event of the module is pending
pub record Pends (xs : List Standing) (m : ℕ) : Type 0 where
  pub x : Standing
  pub p : Present
  pub owed : Pending
  pub there : slice_get xs m ≡ Some x
  pub present : x.present ≡ Some p
  pub pending : p.pending ≡ Some owed

-- beside a pending event its node shows what belongs to it
abbrev pub InTurn : AppTree → Model → Item → Type 0
InTurn app s i = (m : ℕ) (q : PartTree) → slice_get app.parts m ≡ Some q → Pends s.modules m → is_at_node app q.node i ≡ true → goes_on m i ≡ true

none_some : {A : Type 0} → (x : A) → ◌≡◌ {A = Option A} None (Some x) → ⊥
none_some x e = cc

idle_none : (x : Standing) (p : Present) → idle x ≡ Some p → (r : Present) (owed : Pending) → x.present ≡ Some r → r.pending ≡ Some owed → ⊥
idle_none x p e r owed pe oe = none_some p (sym (idle_by x.present pe) ∙ e)
  where
    idle_by : (o : Option Present) → o ≡ Some r → Rattle.sx_model.specs.Step.◌>>?◌ o (λ p. if is_none p.pending then Some p else None) ≡ None
    idle_by o h = rw (h, oe) refl

module _ (xs : List Standing) (m : ℕ) (h : Pends xs m) where
  -- a module is changed
  set_pends : (k : ℕ) (x y : Standing) → slice_get xs k ≡ Some x
      → (x ≡ h.x → (p : Present) × (owed : Pending) × (y.present ≡ Some p) × (p.pending ≡ Some owed)) → Pends (slice_set xs k y) m
  set_pends k x y e f = elim (cases_eq m k) [
    | inl same ↦
        let xe : slice_get xs m ≡ Some x = subst (λ j. slice_get xs j ≡ Some x) (sym same) e in
        let g = f (same_Some x h.x (sym xe ∙ h.there)) in
        record {
          x = y;
          p = g.0;
          owed = g.1;
          there = subst (λ j. slice_get (slice_set xs k y) j ≡ Some y) (sym same) (get_same xs k y x e);
          present = g.2;
          pending = g.3;
        }
    | inr ne ↦ record { x = h.x; p = h.p; owed = h.owed; there = get_other xs k m y ne ∙ h.there; present = h.present; pending = h.pending }
  ]

  -- it isn't this one, since that is idle
  idle_pends : (k : ℕ) (x y : Standing) (p : Present) → slice_get xs k ≡ Some x → idle x ≡ Some p → Pends (slice_set xs k y) m
  idle_pends k x y p e i = set_pends k x y e (λ same. absurd (idle_none x p i h.p h.owed (ap (λ (z : Standing). z.present) same ∙ h.present) h.pending))

  kept_present : (k : ℕ) (x y : Standing) → slice_get xs k ≡ Some x → y.present ≡ x.present → Pends (slice_set xs k y) m
  kept_present k x y e same = set_pends k x y e (λ xe. (h.p, h.owed, same ∙ ap (λ (z : Standing). z.present) xe ∙ h.present, h.pending))

module _ (app : AppTree) (m : ℕ) where
  -- an event stays pending until its end
  abbrev Stays : Item → Model → Type 0
  Stays item t = ends app m item ≡ false → Pends t.modules m

  stays : (s : Model) → Pends s.modules m → Cases app s Stays
  stays s h = record {
    reset = λ n cause boot _ f. record { x = h.x; p = h.p; owed = h.owed; there = absent_other n app.parts s.modules m h.x f h.there; present = h.present; pending = h.pending };
    unknown = λ n f. h;
    protect = λ n k q x e none f. set_pends s.modules m h k x _ e (λ same. absurd (absent x h.p none (ap (λ (z : Standing). z.present) same ∙ h.present)));
    sense = λ d v f. h;
    read = λ k v q x p d r _ e i _ _ _ f. idle_pends s.modules m h k x _ p e i;
    drain = λ d r f. h;
    ask = λ k a x e f. kept_present s.modules m h k x _ e refl;
    attested = λ k b a x e _ f. kept_present s.modules m h k x _ e refl;
    denied = λ k f. h;
    vouch = λ k a q x p boot _ e i _ f. idle_pends s.modules m h k x _ p e i;
    opened = λ k c side epoch q x p boot views _ e i _ _ _ f. idle_pends s.modules m h k x _ p e i;
    take = λ k c i v q x p l views _ e j _ _ f. idle_pends s.modules m h k x _ p e j;
    out = λ k v x p owed left e ep eo el f. set_pends s.modules m h k x _ e (λ same. (_, _, refl, refl));
    raw = λ d v f. h;
    done = λ k status n x p e ep f. set_pends_other k x _ e f;
    refused = λ k status n x p e ep none f. h;
    packet = λ k n f. h;
    forged = λ k f. h;
    busy = λ n f. h;
    skip = λ n f. h;
    budget = λ n f. h;
  }
    where
      absent : (x : Standing) (p : Present) → is_none x.present ≡ true → x.present ≡ Some p → ⊥
      absent x p none e = true≢false (sym none ∙ ap is_none e)

      set_pends_other : (k : ℕ) (x y : Standing) → slice_get s.modules k ≡ Some x → (k == m) ≡ false → Pends (slice_set s.modules k y) m
      set_pends_other k x y e f = record {
        x = h.x;
        p = h.p;
        owed = h.owed;
        there = get_other s.modules k m y (λ same. true≢false (sym (eq-eqb k m (sym same)) ∙ f)) ∙ h.there;
        present = h.present;
        pending = h.pending;
      }

  -- and it is pending once it began
  abbrev Starts : Item → Model → Type 0
  Starts item t = begins m item ≡ true → Pends t.modules m

  started : (xs : List Standing) (k : ℕ) (x y : Standing) (p : Present) (owed : Pending) → slice_get xs k ≡ Some x → y.present ≡ Some p → p.pending ≡ Some owed
      → (k == m) ≡ true → Pends (slice_set xs k y) m
  started xs k x y p owed e ep eo f = subst (λ j. Pends (slice_set xs k y) j) (eqb-true k m f)
      (record { x = y; p = p; owed = owed; there = get_same xs k y x e; present = ep; pending = eo })

  starts : (s : Model) → Cases app s Starts
  starts s = record {
    reset = λ n cause boot _ f. absurd (false≢true f);
    unknown = λ n f. absurd (false≢true f);
    protect = λ n k q x e none f. absurd (false≢true f);
    sense = λ d v f. absurd (false≢true f);
    read = λ k v q x p d r _ e i _ _ _ f. started s.modules k x _ _ _ e refl refl f;
    drain = λ d r f. absurd (false≢true f);
    ask = λ k a x e f. absurd (false≢true f);
    attested = λ k b a x e _ f. absurd (false≢true f);
    denied = λ k f. absurd (false≢true f);
    vouch = λ k a q x p boot _ e i _ f. started s.modules k x _ _ _ e refl refl f;
    opened = λ k c side epoch q x p boot views _ e i _ _ _ f. started s.modules k x _ _ _ e refl refl f;
    take = λ k c i v q x p l views _ e j _ _ f. started s.modules k x _ _ _ e refl refl f;
    out = λ k v x p owed left e ep eo el f. absurd (false≢true f);
    raw = λ d v f. absurd (false≢true f);
    done = λ k status n x p e ep f. absurd (false≢true f);
    refused = λ k status n x p e ep none f. absurd (false≢true f);
    packet = λ k n f. absurd (false≢true f);
    forged = λ k f. absurd (false≢true f);
    busy = λ n f. absurd (false≢true f);
    skip = λ n f. absurd (false≢true f);
    budget = λ n f. absurd (false≢true f);
  }

-- items that are allowed, each in its turn
abbrev pub Turning : AppTree → Model → List Item → Type 0
Turning app s [] = Unit {0}
Turning app s (i ∷ items) = (t : Model) × (step app s i ≡ Some t) × InTurn app s i × Turning app t items

turning_head : (app : AppTree) (s : Model) (i : Item) (items : List Item) (b : Bool) (o : Option Model) (f : Model → Verdict) (good g : Model → Type 0) → step app s i ≡ o
    → ((u : Model) → Fares (f u) good → g u → Turning app u (before items))
    → Fares (if b then Over else judge_on o f) good → Unless b (InTurn app s i × IfSome o g) → Turning app s (if b then [] else i ∷ before items)
turning_head app s i items true o f good g e j h w = tt
turning_head app s i items false None f good g e j h w = absurd h
turning_head app s i items false (Some u) f good g e j h w = (u, e, w.0, j u h w.1)

pub turning : (app : AppTree) (s : Model) (items : List Item) (good : Model → Type 0) → Fares (judge app s items) good → Walks (InTurn app) app s items → Turning app s (before items)
turning app s [] good h w = tt
turning app s (i ∷ items) good h w =
    turning_head app s i items (is_forged i) (step app s i) (λ t. judge app t items) good (λ t. Walks (InTurn app) app t items) refl
    (λ u a b. turning app u items good a b) h w

module _ (app : AppTree) (m : ℕ) (q : PartTree) (part : slice_get app.parts m ≡ Some q) (item : Item) (behind : List Item) where
  while_pending : (s : Model) (between : List Item) → Turning app s (between ++ item ∷ behind) → Pends s.modules m → list_any (ends app m) between ≡ false
      → is_at_node app q.node item ≡ true → goes_on m item ≡ true
  while_pending s [] t h f at = t.2 m q part h at
  while_pending s (i ∷ between) t h f at =
      let g = or_parts (ends app m i) (list_any (ends app m) between) f in
      while_pending t.0 between t.3 (some_of (step app s i) t.0 (Stays app m i) (by_step app s (Stays app m) (stays app m s h) i) t.1 g.0) g.1 at

  after_begin : (s : Model) (before : List Item) (first : Item) (between : List Item) → Turning app s (before ++ first ∷ between ++ item ∷ behind)
      → begins m first ≡ true → list_any (ends app m) between ≡ false → is_at_node app q.node item ≡ true → goes_on m item ≡ true
  after_begin s [] first between t b f at =
      while_pending t.0 between t.3 (some_of (step app s first) t.0 (Starts app m first) (by_step app s (Starts app m) (starts app m s) first) t.1 b) f at
  after_begin s (i ∷ before) first between t b f at = after_begin t.0 before first between t.3 b f at

pub one_at_a_time : (app : AppTree) (s : Model) (items : List Item) → Turning app s items → OneAtATime app items
one_at_a_time app s items t front between behind first item m q place part b f at =
    after_begin app m q part item behind s front first between (subst (λ xs. Turning app s xs) place t) b f at
