-- The value of an output is what its module's latest event emits next.
use Rattle.std.proofs.Common.{◌≡◌, ℕ, zero, suc, inl, inr, ◌==◌, true, false, List, [], ◌∷◌, ◌++◌}
use Rattle.std.proofs.Common.{Option, Some, None, append_assoc, refl, sym, ap, ◌∙◌, subst}
use Rattle.std.specs.Prelude.{slice_get, slice_set, map, is_none}
use Rattle.std.specs.List.{list_any}
use Rattle.std.proofs.lemmas.Bool.{cases_eq, eq-eqb, ne_eqb, or_from}
use Rattle.std.proofs.lemmas.List.{append-nil}
use Rattle.std.proofs.lemmas.List.Folds.{list_any-append}
use Rattle.std.proofs.lemmas.Option.{same_Some}
use Rattle.sx_mean.specs.declared.apps.Link.{Link}
use Rattle.sx_mean.specs.declared.events.Act.{Act}
use Rattle.sx_mean.specs.declared.events.Act.TheVariants.{Send, Emit}
use Rattle.sx_mean.specs.declared.events.End.{End}
use Rattle.sx_mean.specs.declared.events.SourceEvent.TheVariants as event
use Rattle.sx_mean.specs.Application.{AppTree, PartTree}
use Rattle.sx_mean.specs.Ends.{ends_of}
use Rattle.sx_mean.specs.React.{react}
use Rattle.sx_trace.specs.declared.items.Cause.{Cause}
use Rattle.sx_trace.specs.declared.items.Item.{Item}
use Rattle.sx_trace.specs.declared.items.Item.TheVariants.{Reset, Protect, Sense, Read, Drain, Ask, Attested, Denied, Vouch, Open, Take, Out, Raw, Done, Packet, Forged, Busy, Skip, Budget}
use Rattle.sx_model.specs.State.{EndView, Model, Pending, Present, Standing, power_on}
use Rattle.sx_model.specs.Step.{◌>>?◌, absent_at, first_present, step, without_first}
use Rattle.sx_model.specs.Reaction.{Flow, all_done, sent_to}
use Rattle.sx_model.specs.Legal.{Legal, after}
use Rattle.sx_model.specs.Consequences.{ends_event}
use Rattle.sx_model.proofs.Along.{Keeps, some_of, step_of}
use Rattle.sx_model.proofs.Steps.{Cases, by_step, on_out}
use Rattle.sx_model.proofs.Written.{at_set}
use Rattle.sx_model.specs.Changes.{with_pending}
use Rattle.sx_model.proofs.Emits.{emits_to}
use Rattle.sx_model.proofs.Idle.{idle_is}
use Rattle.sx_model.proofs.OutsAreCaused.{first_owed, present_elsewhere}
use Rattle.sx_explain.specs.Causes.{Reacts, emits_of, out_of, outs_of}
use Rattle.sx_explain.proofs.After.{after_more}

-- What the acts of an event emit.

emits_all : (es : List End) (views : List EndView) (acts : List Act) (f : Flow) → (all_done es views acts f).emits ≡ f.emits ++ emits_of acts
emits_all es views [] f = sym (append-nil f.emits)
emits_all es views (Send output v ∷ acts) f = emits_all es views acts (sent_to es views output v f) ∙ ap (λ (l : List ℕ). l ++ emits_of acts) (emits_to es views output v f)
emits_all es views (Emit v ∷ acts) f = emits_all es views acts (record f { emits = f.emits ++ v ∷ [] }) ∙ append_assoc f.emits (v ∷ []) (emits_of acts)

-- What was put out, with one item more.

pub outs_append : (m : ℕ) (xs ys : List Item) → outs_of m (xs ++ ys) ≡ outs_of m xs ++ outs_of m ys
outs_append m [] ys = refl
outs_append m (x ∷ xs) ys = ap (λ (o : List ℕ). out_of m x ++ o) (outs_append m xs ys) ∙ sym (append_assoc (out_of m x) (outs_of m xs) (outs_of m ys))

outs_longer : (m : ℕ) (rest : List Item) (item : Item) (owed new : List ℕ) → owed ≡ out_of m item ++ new → outs_of m rest ++ owed ≡ outs_of m (rest ++ item ∷ []) ++ new
outs_longer m rest item owed new is =
    ap (λ (o : List ℕ). outs_of m rest ++ o) is ∙ sym (append_assoc (outs_of m rest) (out_of m item) new)
    ∙ ap (λ (o : List ℕ). o ++ new) (ap (λ (o : List ℕ). outs_of m rest ++ o) (sym (append-nil (out_of m item))) ∙ sym (outs_append m rest (item ∷ [])))

out_own : (m v : ℕ) → out_of m (Out m v) ≡ v ∷ []
out_own m v = let same : (m == m) ≡ true = eq-eqb m m refl in rw same refl

out_other : (m k v : ℕ) → (k ≡ m → ⊥) → out_of m (Out k v) ≡ []
out_other m k v d = let other : (k == m) ≡ false = ne_eqb k m d in rw other refl

-- A module that owes emits is in an event, whose handler emits what was put out since, and then those.
pub record Owing (app : AppTree) (items : List Item) (m : ℕ) (owed : List ℕ) : Type 0 where
  pub front : List Item
  pub by : Item
  pub rest : List Item
  pub place : items ≡ front ++ by ∷ rest
  pub unended : list_any (ends_event app m) rest ≡ false
  pub emits : Reacts app front by m (λ acts. emits_of acts ≡ outs_of m rest ++ owed)

reacts_so : (app : AppTree) (front : List Item) (by : Item) (m : ℕ) (P Q : List Act → Type 0) → ((acts : List Act) → P acts → Q acts) → Reacts app front by m P → Reacts app front by m Q
reacts_so app front by m P Q so r = record {
  begins = r.begins;
  before = r.before;
  ran = r.ran;
  part = r.part;
  part_is = r.part_is;
  standing = r.standing;
  standing_is = r.standing_is;
  present = r.present;
  present_is = r.present_is;
  event = r.event;
  event_is = r.event_is;
  acts = so (react r.part.tree r.event r.present.cells).acts r.acts;
}

owing_more : (app : AppTree) (items : List Item) (m : ℕ) (item : Item) (owed new : List ℕ) → ends_event app m item ≡ false → owed ≡ out_of m item ++ new → Owing app items m owed
    → Owing app (items ++ item ∷ []) m new
owing_more app items m item owed new quiet is o = record {
  front = o.front;
  by = o.by;
  rest = o.rest ++ item ∷ [];
  place = ap (λ xs. xs ++ item ∷ []) o.place ∙ append_assoc o.front (o.by ∷ o.rest) (item ∷ []);
  unended = list_any-append (ends_event app m) o.rest (item ∷ [])
      ∙ or_from (list_any (ends_event app m) o.rest) (list_any (ends_event app m) (item ∷ [])) o.unended (or_from (ends_event app m item) false quiet refl);
  emits = reacts_so app o.front o.by m (λ acts. emits_of acts ≡ outs_of m o.rest ++ owed) (λ acts. emits_of acts ≡ outs_of m (o.rest ++ item ∷ []) ++ new)
      (λ acts e. e ∙ outs_longer m o.rest item owed new is) o.emits;
}

-- What the modules owe.

abbrev pending_owed : Option Pending → List ℕ
pending_owed None = []
pending_owed (Some owed) = owed.emits

abbrev owed_of : Option Present → List ℕ
owed_of None = []
owed_of (Some p) = pending_owed p.pending

abbrev Caused : AppTree → List Item → List Standing → Type 0
Caused app items xs = (m : ℕ) (x : Standing) → slice_get xs m ≡ Some x → (v : ℕ) (more : List ℕ) → owed_of x.present ≡ v ∷ more → Owing app items m (v ∷ more)

none_owed : (v : ℕ) (more : List ℕ) → ◌≡◌ {A = List ℕ} [] (v ∷ more) → ⊥
none_owed v more e = cc

nothing_owed : (o : Option Pending) → is_none o ≡ true → pending_owed o ≡ []
nothing_owed None h = refl
nothing_owed (Some owed) h = absurd cc

owed_first : (x : Standing) (p : Present) (owed left : Pending) (v : ℕ) → x.present ≡ Some p → p.pending ≡ Some owed → without_first v owed.emits owed.pieces ≡ Some left
    → owed_of x.present ≡ v ∷ left.emits
owed_first x p owed left v ep eo el = ap (λ o. owed_of o) ep ∙ ap (λ o. pending_owed o) eo ∙ first_owed v owed.emits owed.pieces left el

-- the item ends no event of the module, nor is it an output of it
abbrev Quiet : AppTree → Item → ℕ → Type 0
Quiet app item m = (ends_event app m item ≡ false) × (out_of m item ≡ [])

module _ (app : AppTree) (items : List Item) (xs : List Standing) (h : Caused app items xs) where
  stays : (item : Item) (m : ℕ) (owed : List ℕ) → Quiet app item m → Owing app items m owed → Owing app (items ++ item ∷ []) m owed
  stays item m owed quiet o = owing_more app items m item owed owed quiet.0 (ap (λ (xs : List ℕ). xs ++ owed) (sym quiet.1)) o

  -- the modules are left as they were
  still : (item : Item) → ((m : ℕ) → Quiet app item m) → Caused app (items ++ item ∷ []) xs
  still item quiet m x e v more f = stays item m (v ∷ more) (quiet m) (h m x e v more f)

  -- one module is changed
  other : (item : Item) (k : ℕ) (y : Standing) → ((m : ℕ) → (k ≡ m → ⊥) → Quiet app item m)
      → ((v : ℕ) (more : List ℕ) → owed_of y.present ≡ v ∷ more → Owing app (items ++ item ∷ []) k (v ∷ more)) → Caused app (items ++ item ∷ []) (slice_set xs k y)
  other item k y quiet own m x e v more f =
      elim (at_set xs k m y x e) [
        | inl p ↦ subst (λ m. Owing app (items ++ item ∷ []) m (v ∷ more)) p.0 (own v more (ap (λ (x : Standing). owed_of x.present) p.1 ∙ f))
        | inr p ↦ stays item m (v ∷ more) (quiet m p.0) (h m x p.1 v more f)
      ]

  -- it owes nothing then
  ended : (item : Item) (k : ℕ) (y : Standing) → ((m : ℕ) → (k ≡ m → ⊥) → Quiet app item m) → owed_of y.present ≡ [] → Caused app (items ++ item ∷ []) (slice_set xs k y)
  ended item k y quiet none = other item k y quiet (λ v more f. absurd (none_owed v more (sym none ∙ f)))

  -- an event of it begins, and it owes what the handler emits
  begun : (item : Item) (k : ℕ) (y : Standing) → ((m : ℕ) → (k ≡ m → ⊥) → Quiet app item m) → Reacts app items item k (λ acts. emits_of acts ≡ owed_of y.present)
      → Caused app (items ++ item ∷ []) (slice_set xs k y)
  begun item k y quiet r =
      other item k y quiet (λ v more f. record {
        front = items;
        by = item;
        rest = [];
        place = refl;
        unended = refl;
        emits = reacts_so app items item k (λ acts. emits_of acts ≡ owed_of y.present) (λ acts. emits_of acts ≡ v ∷ more) (λ acts e. e ∙ f) r;
      })

  -- it owes what it owed before
  going : (item : Item) (k : ℕ) (x y : Standing) → slice_get xs k ≡ Some x → ((m : ℕ) → Quiet app item m) → owed_of y.present ≡ owed_of x.present
      → Caused app (items ++ item ∷ []) (slice_set xs k y)
  going item k x y e quiet same = other item k y (λ m _. quiet m) (λ v more f. stays item k (v ∷ more) (quiet k) (h k x e v more (sym same ∙ f)))

  -- it puts out the first that it owed
  wrote : (k v : ℕ) (x : Standing) (p : Present) (owed left : Pending) → slice_get xs k ≡ Some x → x.present ≡ Some p → p.pending ≡ Some owed
      → without_first v owed.emits owed.pieces ≡ Some left → Caused app (items ++ Out k v ∷ []) (slice_set xs k (record x { present = Some (with_pending p (Some left)) }))
  wrote k v x p owed left e ep eo el =
      other (Out k v) k (record x { present = Some (with_pending p (Some left)) }) (λ m d. (refl, out_other m k v d)) (λ w more f.
      owing_more app items k (Out k v) (v ∷ w ∷ more) (w ∷ more) refl (ap (λ (o : List ℕ). o ++ w ∷ more) (sym (out_own k v)))
      (h k x e v (w ∷ more) (owed_first x p owed left v ep eo el ∙ ap (λ (o : List ℕ). v ∷ o) f)))

  reset : (n : ℕ) (cause : Cause) → Caused app (items ++ Reset n cause ∷ []) (absent_at n app.parts xs)
  reset n cause m x e v more f =
      let p = present_elsewhere n app.parts xs m x e (λ none. none_owed v more (sym (ap (λ o. owed_of o) none) ∙ f)) in
      stays (Reset n cause) m (v ∷ more) (p.0, refl) (h m x p.1 v more f)

  -- a module is refused while it owes nothing
  refused : (k status n : ℕ) (x : Standing) (p : Present) → slice_get xs k ≡ Some x → x.present ≡ Some p → is_none p.pending ≡ true → Caused app (items ++ Done k status n ∷ []) xs
  refused k status n x p ex ep none m y e v more f =
      elim (cases_eq k m) [
        | inl q ↦ absurd (
            let same : x ≡ y = same_Some x y (sym ex ∙ ap (λ k. slice_get xs k) q ∙ e) in
            let owes : pending_owed p.pending ≡ v ∷ more = ap (λ o. owed_of o) (sym ep) ∙ ap (λ (z : Standing). owed_of z.present) same ∙ f in
            none_owed v more (sym (nothing_owed p.pending none) ∙ owes)
            )
        | inr d ↦ stays (Done k status n) m (v ∷ more) (ne_eqb k m d, refl) (h m y e v more f)
      ]

-- Along a run.

cases : (app : AppTree) (items : List Item) (s : Model) → after app (power_on app) items ≡ Some s → Caused app items s.modules
    → Cases app s (λ item t. Caused app (items ++ item ∷ []) t.modules)
cases app items s ran h =
    let xs = s.modules in
    let quiet : (item : Item) → ((m : ℕ) → Quiet app item m) → Caused app (items ++ item ∷ []) xs = still app items xs h in
    record {
      reset = λ n cause boot _. reset app items xs h n cause;
      unknown = λ n. quiet (Protect n None) (λ m. (refl, refl));
      protect = λ n k q x _ _.
          ended app items xs h (Protect n (Some k)) k (record x { present = Some (first_present q.tree (ends_of app k)) }) (λ m d. (ne_eqb k m d, refl)) refl;
      sense = λ d v. quiet (Sense d v) (λ m. (refl, refl));
      read = λ k v q x p d r eq ex ep _ _ _.
          begun app items xs h (Read k v) k _ (λ m d. (ne_eqb k m d, refl)) (record {
            begins = eq-eqb k k refl;
            before = s;
            ran = ran;
            part = q;
            part_is = eq;
            standing = x;
            standing_is = ex;
            present = p;
            present_is = idle_is x p ep;
            event = event.Sample v;
            event_is = refl;
            acts = sym (emits_all (ends_of app k) p.ends (react q.tree (event.Sample v) p.cells).acts (record { sent = s.sent; emits = []; pieces = 0 }));
          });
      drain = λ d r. quiet (Drain d) (λ m. (refl, refl));
      ask = λ k a x e. going app items xs h (Ask k a) k x _ e (λ m. (refl, refl)) refl;
      attested = λ k b a x e _. going app items xs h (Attested k b) k x _ e (λ m. (refl, refl)) refl;
      denied = λ k. quiet (Denied k) (λ m. (refl, refl));
      vouch = λ k a q x p boot _ _ _ _. ended app items xs h (Vouch k a) k _ (λ m d. (ne_eqb k m d, refl)) refl;
      opened = λ k c side epoch q x p boot views _ _ _ _ _ _. ended app items xs h (Open k c side epoch) k _ (λ m d. (ne_eqb k m d, refl)) refl;
      take = λ k c i v q x p l views eq ex ep el _.
          begun app items xs h (Take k c i v) k _ (λ m d. (ne_eqb k m d, refl)) (record {
            begins = eq-eqb k k refl;
            before = s;
            ran = ran;
            part = q;
            part_is = eq;
            standing = x;
            standing_is = ex;
            present = p;
            present_is = idle_is x p ep;
            event = event.Input l.input v;
            event_is = ap (λ o. o >>? (λ (l : Link). Some (event.Input l.input v))) el;
            acts = sym (emits_all (ends_of app k) views (react q.tree (event.Input l.input v) p.cells).acts (record { sent = s.sent; emits = []; pieces = 0 }));
          });
      out = λ k v x p owed left e ep eo el. wrote app items xs h k v x p owed left e ep eo el;
      raw = λ d v. quiet (Raw d v) (λ m. (refl, refl));
      done = λ k status n x p _ _. ended app items xs h (Done k status n) k _ (λ m d. (ne_eqb k m d, refl)) refl;
      refused = λ k status n x p e ep none. refused app items xs h k status n x p e ep none;
      packet = λ k n. quiet (Packet k n) (λ m. (refl, refl));
      forged = λ k. quiet (Forged k) (λ m. (refl, refl));
      busy = λ n. quiet (Busy n) (λ m. (refl, refl));
      skip = λ n. quiet (Skip n) (λ m. (refl, refl));
      budget = λ n. quiet (Budget n) (λ m. (refl, refl));
    }

abbrev In : AppTree → List Item → Model → Type 0
In app items s = (after app (power_on app) items ≡ Some s) × Caused app items s.modules

keeps : (app : AppTree) → Keeps app (In app)
keeps app items s p item t e = (
  after_more app items (power_on app) s item p.0 ∙ e,
  some_of (step app s item) t (λ t. Caused app (items ++ item ∷ []) t.modules)
      (by_step app s (λ item t. Caused app (items ++ item ∷ []) t.modules) (cases app items s p.0 p.1) item) e,
)

first_absent : (qs : List PartTree) (m : ℕ) (x : Standing)
    → slice_get (map (λ p. record { present = None; asked = None; vouched = []; attested = None }) qs) m ≡ Some x → owed_of x.present ≡ []
first_absent [] m x e = absurd cc
first_absent (q ∷ qs) zero x e = sym (ap (λ (x : Standing). owed_of x.present) (same_Some _ x e))
first_absent (q ∷ qs) (suc m) x e = first_absent qs m x e

first : (app : AppTree) → Caused app [] (power_on app).modules
first app m x e v more f = absurd (none_owed v more (sym (first_absent app.parts m x e) ∙ f))

-- before an output its module owed the value, first of all
pub outs_owed : (app : AppTree) (items : List Item) → Legal app items → (before behind : List Item) (m v : ℕ) → items ≡ before ++ Out m v ∷ behind
    → (later : List ℕ) × Owing app before m (v ∷ later)
outs_owed app items legal before behind m v place =
    let st = step_of app (In app) (keeps app) (refl, first app) items before (Out m v) behind legal place in
    some_of (step app st.from (Out m v)) st.to (λ _. (later : List ℕ) × Owing app before m (v ∷ later))
    (on_out app st.from (λ _. (later : List ℕ) × Owing app before m (v ∷ later)) m v (λ x p owed left e ep eo el.
    (left.emits, st.holds.1 m x e v left.emits (owed_first x p owed left v ep eo el))))
    st.is
