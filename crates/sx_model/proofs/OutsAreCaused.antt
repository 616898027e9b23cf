-- Each output has its cause: emits are owed only while an event is under way.
use Rattle.std.proofs.Common.{◌≡◌, ℕ, zero, suc, inl, inr, ◌==◌, Bool, true, false, List, [], ◌∷◌, ◌++◌, Option, Some, None, refl, sym, ap, ◌∙◌, subst, if◌then◌else◌}
use Rattle.std.specs.Prelude.{slice_get, slice_set, map, not, is_none}
use Rattle.std.proofs.lemmas.Bool.{cases_eq, eq-eqb, ne_eqb, eqb-true}
use Rattle.std.proofs.lemmas.Option.{same_Some}
use Rattle.sx_mean.specs.Application.{AppTree, PartTree}
use Rattle.sx_mean.specs.Ends.{ends_of}
use Rattle.sx_trace.specs.declared.items.Cause.{Cause}
use Rattle.sx_trace.specs.declared.items.Item.{Item}
use Rattle.sx_trace.specs.declared.items.Item.TheVariants.{Reset, Protect, Sense, Read, Drain, Ask, Attested, Denied, Vouch, Open, Take, Out, Raw, Done, Packet, Forged, Busy, Skip, Budget}
use Rattle.sx_model.specs.State.{Model, Pending, Present, Standing, owing, power_on}
use Rattle.sx_model.specs.Step.{absent_at, first_present, is_nothing, step, without_first}
use Rattle.sx_model.specs.Legal.{Legal}
use Rattle.sx_model.specs.Consequences.{OutsAreCaused, Since, begins_event, ends_event, is_part_at}
use Rattle.sx_model.proofs.Along.{keeps_by, some_of, step_of}
use Rattle.sx_model.proofs.Since.{since_now, since_still}
use Rattle.sx_model.proofs.Steps.{Cases, on_out}
use Rattle.sx_model.proofs.Written.{at_set}

-- an emit is owed
abbrev pending_owes : Option Pending → Bool
pending_owes None = false
pending_owes (Some owed) = not (is_nothing owed.emits)

abbrev present_owes : Option Present → Bool
present_owes None = false
present_owes (Some p) = pending_owes p.pending

-- a module that owes an emit is in an event
abbrev Caused : AppTree → List Item → List Standing → Type 0
Caused app items xs = (m : ℕ) (x : Standing) → slice_get xs m ≡ Some x → present_owes x.present ≡ true → Since (begins_event m) (ends_event app m) items

-- a reset leaves present what isn't at its node
pub present_elsewhere : (n : ℕ) (qs : List PartTree) (xs : List Standing) (m : ℕ) (x : Standing) → slice_get (absent_at n qs xs) m ≡ Some x → (x.present ≡ None → ⊥)
    → (is_part_at n (slice_get qs m) ≡ false) × (slice_get xs m ≡ Some x)
present_elsewhere n [] xs m x e some = (refl, e)
present_elsewhere n (q ∷ qs) [] m x e some = absurd cc
present_elsewhere n (q ∷ qs) (y ∷ xs) zero x e some = here (q.node == n) e
  where
    here : (b : Bool) → Some (if b then record y { present = None } else y) ≡ Some x → (b ≡ false) × (Some y ≡ Some x)
    here true e = absurd (some (sym (ap (λ (x : Standing). x.present) (same_Some (record y { present = None }) x e))))
    here false e = (refl, e)
present_elsewhere n (q ∷ qs) (y ∷ xs) (suc m) x e some = present_elsewhere n qs xs m x e some

nothing_owed : (o : Option Pending) → is_none o ≡ true → pending_owes o ≡ false
nothing_owed None h = refl
nothing_owed (Some owed) h = absurd cc

-- what is put out is the first that was owed
pub first_owed : (v : ℕ) (emits : List ℕ) (k : ℕ) (left : Pending) → without_first v emits k ≡ Some left → emits ≡ v ∷ left.emits
first_owed v [] k left e = absurd cc
first_owed v (w ∷ ws) k left e = at (w == v) refl e
  where
    at : (b : Bool) → (w == v) ≡ b → (if b then owing ws k else None) ≡ Some left → w ∷ ws ≡ v ∷ left.emits
    at true t h =
        let same : w ≡ v = eqb-true w v t in
        let rest : ws ≡ left.emits = ap (λ (p : Pending). p.emits) (same_Some (record { emits = ws; pieces = k }) left h) in
        cc
    at false t h = absurd cc

module _ (app : AppTree) (items : List Item) (xs : List Standing) (h : Caused app items xs) where
  -- the modules are left as they were
  still : (item : Item) → ((m : ℕ) → ends_event app m item ≡ false) → Caused app (items ++ item ∷ []) xs
  still item quiet m x e f = since_still (begins_event m) (ends_event app m) items item (h m x e f) (quiet m)

  -- one module is changed
  other : (item : Item) (k : ℕ) (y : Standing) → ((m : ℕ) → (k ≡ m → ⊥) → ends_event app m item ≡ false)
      → (present_owes y.present ≡ true → Since (begins_event k) (ends_event app k) (items ++ item ∷ [])) → Caused app (items ++ item ∷ []) (slice_set xs k y)
  other item k y quiet own m x e f =
      elim (at_set xs k m y x e) [
        | inl p ↦ subst (λ m. Since (begins_event m) (ends_event app m) (items ++ item ∷ [])) p.0 (own (subst (λ (x : Standing). present_owes x.present ≡ true) (sym p.1) f))
        | inr p ↦ since_still (begins_event m) (ends_event app m) items item (h m x p.1 f) (quiet m p.0)
      ]

  -- it owes nothing then
  ended : (item : Item) (k : ℕ) (y : Standing) → ((m : ℕ) → (k ≡ m → ⊥) → ends_event app m item ≡ false) → present_owes y.present ≡ false
      → Caused app (items ++ item ∷ []) (slice_set xs k y)
  ended item k y quiet none = other item k y quiet (λ f. absurd cc)

  -- an event of it begins
  begun : (item : Item) (k : ℕ) (y : Standing) → ((m : ℕ) → (k ≡ m → ⊥) → ends_event app m item ≡ false) → begins_event k item ≡ true
      → Caused app (items ++ item ∷ []) (slice_set xs k y)
  begun item k y quiet begins = other item k y quiet (λ f. since_now (begins_event k) (ends_event app k) items item begins)

  -- it owed something before
  going : (item : Item) (k : ℕ) (x y : Standing) → slice_get xs k ≡ Some x → ((m : ℕ) → ends_event app m item ≡ false)
      → (present_owes y.present ≡ true → present_owes x.present ≡ true) → Caused app (items ++ item ∷ []) (slice_set xs k y)
  going item k x y e quiet before =
      other item k y (λ m _. quiet m) (λ f. since_still (begins_event k) (ends_event app k) items item (h k x e (before f)) (quiet k))

  reset : (n : ℕ) (cause : Cause) → Caused app (items ++ Reset n cause ∷ []) (absent_at n app.parts xs)
  reset n cause m x e f =
      let p = present_elsewhere n app.parts xs m x e (λ none. absurd (let z = ap (λ o. present_owes o) none in cc)) in
      since_still (begins_event m) (ends_event app m) items (Reset n cause) (h m x p.1 f) p.0

  -- a module is refused while it owes nothing
  refused : (k status n : ℕ) (x : Standing) (p : Present) → slice_get xs k ≡ Some x → x.present ≡ Some p → is_none p.pending ≡ true → Caused app (items ++ Done k status n ∷ []) xs
  refused k status n x p ex ep none m y e f =
      elim (cases_eq k m) [
        | inl q ↦ absurd (
            let same : x ≡ y = same_Some x y (sym ex ∙ ap (λ k. slice_get xs k) q ∙ e) in
            let owes : pending_owes p.pending ≡ true = ap (λ o. present_owes o) (sym ep) ∙ ap (λ (z : Standing). present_owes z.present) same ∙ f in
            let nothing : pending_owes p.pending ≡ false = nothing_owed p.pending none in
            cc
            )
        | inr d ↦ since_still (begins_event m) (ends_event app m) items (Done k status n) (h m y e f) (ne_eqb k m d)
      ]

owed_before : (x : Standing) (p : Present) (owed left : Pending) (v : ℕ) → x.present ≡ Some p → p.pending ≡ Some owed
    → without_first v owed.emits owed.pieces ≡ Some left → present_owes x.present ≡ true
owed_before x p owed left v ep eo el = ap (λ o. present_owes o) ep ∙ ap (λ o. pending_owes o) eo ∙ ap (λ (l : List ℕ). not (is_nothing l)) (first_owed v owed.emits owed.pieces left el)

abbrev In : AppTree → List Item → Model → Type 0
In app items s = Caused app items s.modules

cases : (app : AppTree) (items : List Item) (s : Model) → In app items s → Cases app s (λ item t. In app (items ++ item ∷ []) t)
cases app items s h =
    let xs = s.modules in
    let quiet : (item : Item) → ((m : ℕ) → ends_event app m item ≡ false) → Caused app (items ++ item ∷ []) xs = still app items xs h in
    record {
      reset = λ n cause boot _. reset app items xs h n cause;
      unknown = λ n. quiet (Protect n None) (λ m. refl);
      protect = λ n k q x _ _. ended app items xs h (Protect n (Some k)) k (record x { present = Some (first_present q.tree (ends_of app k)) }) (λ m d. ne_eqb k m d) refl;
      sense = λ d v. quiet (Sense d v) (λ m. refl);
      read = λ k v q x p d r _ _ _ _ _ _. begun app items xs h (Read k v) k _ (λ m d. ne_eqb k m d) (eq-eqb k k refl);
      drain = λ d r. quiet (Drain d) (λ m. refl);
      ask = λ k a x e. going app items xs h (Ask k a) k x _ e (λ m. refl) (λ f. f);
      attested = λ k b a x e _. going app items xs h (Attested k b) k x _ e (λ m. refl) (λ f. f);
      denied = λ k. quiet (Denied k) (λ m. refl);
      vouch = λ k a q x p boot _ _ _ _. ended app items xs h (Vouch k a) k _ (λ m d. ne_eqb k m d) refl;
      opened = λ k c side epoch q x p boot views _ _ _ _ _ _. ended app items xs h (Open k c side epoch) k _ (λ m d. ne_eqb k m d) refl;
      take = λ k c i v q x p l views _ _ _ _ _. begun app items xs h (Take k c i v) k _ (λ m d. ne_eqb k m d) (eq-eqb k k refl);
      out = λ k v x p owed left e ep eo el. going app items xs h (Out k v) k x _ e (λ m. refl) (λ _. owed_before x p owed left v ep eo el);
      raw = λ d v. quiet (Raw d v) (λ m. refl);
      done = λ k status n x p _ _. ended app items xs h (Done k status n) k _ (λ m d. ne_eqb k m d) refl;
      refused = λ k status n x p e ep none. refused app items xs h k status n x p e ep none;
      packet = λ k n. quiet (Packet k n) (λ m. refl);
      forged = λ k. quiet (Forged k) (λ m. refl);
      busy = λ n. quiet (Busy n) (λ m. refl);
      skip = λ n. quiet (Skip n) (λ m. refl);
      budget = λ n. quiet (Budget n) (λ m. refl);
    }

first_absent : (qs : List PartTree) (m : ℕ) (x : Standing)
    → slice_get (map (λ p. record { present = None; asked = None; vouched = []; attested = None }) qs) m ≡ Some x → present_owes x.present ≡ false
first_absent [] m x e = absurd cc
first_absent (q ∷ qs) zero x e = sym (ap (λ (x : Standing). present_owes x.present) (same_Some _ x e))
first_absent (q ∷ qs) (suc m) x e = first_absent qs m x e

first : (app : AppTree) → In app [] (power_on app)
first app m x e f = absurd (let z = first_absent app.parts m x e in cc)

pub outs_are_caused : (app : AppTree) (items : List Item) → Legal app items → OutsAreCaused app items
outs_are_caused app items legal before behind m v place =
    let st = step_of app (In app) (keeps_by app (In app) (cases app)) (first app) items before (Out m v) behind legal place in
    some_of (step app st.from (Out m v)) st.to (λ _. Since (begins_event m) (ends_event app m) before)
    (on_out app st.from (λ _. Since (begins_event m) (ends_event app m) before) m v (λ x p owed left e ep eo el. st.holds m x e (owed_before x p owed left v ep eo el)))
    st.is
