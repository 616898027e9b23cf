-- The numbers that are taken over a connection rise, and so do the epochs with which an end opens.
use Rattle.std.proofs.Common.{◌≡◌, ℕ, zero, suc, ◌<◌, ◌==◌, ◌&&◌, true, if◌then◌else◌, List, [], ◌∷◌, ◌++◌, Some, None, append_assoc, refl, sym, ap, ◌∙◌}
use Rattle.std.specs.Prelude.{map, slice_get}
use Rattle.std.proofs.lemmas.Bool.{and_from, eq-eqb}
use Rattle.std.proofs.lemmas.Option.{same_Some}
use Rattle.sx_lang.specs.declared.sides.Side.{Side}
use Rattle.sx_lang.specs.declared.sides.Side.TheVariants.{To}
use Rattle.sx_mean.specs.declared.apps.Link.{Link}
use Rattle.sx_mean.specs.Application.{AppTree, PartTree}
use Rattle.sx_mean.specs.Ends.{ends_of, same_side}
use Rattle.sx_mean.proofs.Ends.{same_side-refl}
use Rattle.sx_trace.specs.declared.items.Item.{Item}
use Rattle.sx_trace.specs.declared.items.Item.TheVariants.{Open, Take}
use Rattle.sx_model.specs.State.{Model, Standing, power_on}
use Rattle.sx_model.specs.Step.{step}
use Rattle.sx_model.specs.Legal.{Legal}
use Rattle.sx_model.specs.Consequences.{OpensRise, TakesRise}
use Rattle.sx_model.proofs.Along.{some_of, step_of}
use Rattle.sx_model.proofs.EndSteps.{HeldIn, Moved, cases, opens_at, takes_at}
use Rattle.sx_model.proofs.EndViews.{changed_at, link_of_end, module_at, owner}
use Rattle.sx_model.proofs.HeldEnd.{held_first}
use Rattle.sx_model.proofs.Rising.{rising}
use Rattle.sx_model.proofs.Steps.{by_step, on_open, on_take}

-- an end of a module
record OneEnd (app : AppTree) (m c : ℕ) (side : Side) : Type 0 where
  pub part : PartTree
  pub link : Link
  pub is_part : slice_get app.parts m ≡ Some part
  pub is_link : slice_get app.links c ≡ Some link
  pub own : module_at side link ≡ m

abbrev pub fresh : Standing
fresh = record { present = None; asked = None; vouched = []; attested = None }

pub first_standing : (qs : List PartTree) (m : ℕ) (q : PartTree) → slice_get qs m ≡ Some q
    → slice_get (map (λ p. fresh) qs) m ≡ Some fresh
first_standing [] m q e = absurd cc
first_standing (r ∷ qs) zero q e = refl
first_standing (r ∷ qs) (suc m) q e = first_standing qs m q e

pub first_epoch : (ls : List Link) (c : ℕ) (l : Link) → slice_get ls c ≡ Some l → slice_get {X = ℕ} (map (λ l. 0) ls) c ≡ Some 0
first_epoch [] c l e = absurd cc
first_epoch (r ∷ ls) zero l e = refl
first_epoch (r ∷ ls) (suc c) l e = first_epoch ls c l e

module _ (app : AppTree) (m c : ℕ) (side : Side) (o : OneEnd app m c side) where
  abbrev In : ℕ → ℕ → Model → Type 0
  In next number s = HeldIn app m c side o.part.node next number s.boots s.modules s.epochs

  first : In 0 0 (power_on app)
  first = record {
    standing = fresh;
    here = first_standing app.parts m o.part o.is_part;
    epoch = 0;
    there = first_epoch app.links c o.link o.is_link;
    held = held_first c _ 0;
  }

  moved : (next number : ℕ) (s : Model) → In next number s → (item : Item) (t : Model) → step app s item ≡ Some t
      → Moved app m c side o.part.node (opens_at m c side item) (takes_at m c side item) next number t.boots t.modules t.epochs
  moved next number s h item t e =
      some_of (step app s item) t (λ t. Moved app m c side o.part.node (opens_at m c side item) (takes_at m c side item) next number t.boots t.modules t.epochs)
      (by_step app s (λ item t. Moved app m c side o.part.node (opens_at m c side item) (takes_at m c side item) next number t.boots t.modules t.epochs)
      (cases app m c side o.part o.link o.is_part o.is_link (owner side m o.link o.own) next number s h) item) e

  opens_rise_at : (items before between behind : List Item) (x y : Item) (a b : ℕ) → Legal app items → items ≡ before ++ x ∷ between ++ y ∷ behind
      → opens_at m c side x ≡ Some a → opens_at m c side y ≡ Some b → a < b
  opens_rise_at =
      rising app (opens_at m c side) (λ next s. (number : ℕ) × In next number s)
      (λ next s h item t e. let r = moved next h.0 s h.1 item t e in (r.next, r.opens, (r.number, r.held)))
      (0, first)

  takes_rise_at : (items before between behind : List Item) (x y : Item) (a b : ℕ) → Legal app items → items ≡ before ++ x ∷ between ++ y ∷ behind
      → takes_at m c side x ≡ Some a → takes_at m c side y ≡ Some b → a < b
  takes_rise_at =
      rising app (takes_at m c side) (λ number s. (next : ℕ) × In next number s)
      (λ number s h item t e. let r = moved h.0 number s h.1 item t e in (r.number, r.takes, (r.next, r.held)))
      (0, first)

-- An item at an end is of a module that has it.

abbrev Always : List Item → Model → Type 0
Always items s = Unit {0}

opened_end : (app : AppTree) (items before behind : List Item) (m c : ℕ) (side : Side) (epoch : ℕ) → Legal app items → items ≡ before ++ Open m c side epoch ∷ behind → OneEnd app m c side
opened_end app items before behind m c side epoch legal place =
    let st = step_of app Always (λ xs s h item t e. tt) tt items before (Open m c side epoch) behind legal place in
    some_of (step app st.from (Open m c side epoch)) st.to (λ _. OneEnd app m c side)
    (on_open app st.from (λ _. OneEnd app m c side) m c side epoch (λ q x p boot views eq ex ep eb ev may.
    let r = changed_at _ c side (ends_of app m) p.ends views ev in
    let l = link_of_end app c side m p.ends r.old r.was in
    record { part = q; link = l.0; is_part = eq; is_link = l.1; own = l.2 }))
    st.is

taken_end : (app : AppTree) (items before behind : List Item) (m c i v : ℕ) → Legal app items → items ≡ before ++ Take m c i v ∷ behind → OneEnd app m c To
taken_end app items before behind m c i v legal place =
    let st = step_of app Always (λ xs s h item t e. tt) tt items before (Take m c i v) behind legal place in
    some_of (step app st.from (Take m c i v)) st.to (λ _. OneEnd app m c To)
    (on_take app st.from (λ _. OneEnd app m c To) m c i v (λ q x p l views eq ex ep el ev.
    let r = changed_at _ c To (ends_of app m) p.ends views ev in
    let l = link_of_end app c To m p.ends r.old r.was in
    record { part = q; link = l.0; is_part = eq; is_link = l.1; own = l.2 }))
    st.is

-- the receiving end of a connection is one module's
one_receiver : (app : AppTree) (m k c : ℕ) → OneEnd app m c To → OneEnd app k c To → k ≡ m
one_receiver app m k c a b = let same : a.link ≡ b.link = same_Some a.link b.link (sym a.is_link ∙ b.is_link) in sym b.own ∙ sym (ap (λ (l : Link). l.to) same) ∙ a.own

at_end : (k m c : ℕ) (side : Side) → k ≡ m → ((k == m) && ((c == c) && same_side side side)) ≡ true
at_end k m c side e = and_from (k == m) ((c == c) && same_side side side) (eq-eqb k m e) (and_from (c == c) (same_side side side) (eq-eqb c c refl) (same_side-refl side))

pub opens_rise : (app : AppTree) (items : List Item) → Legal app items → OpensRise items
opens_rise app items legal before between behind m c side d e place =
    let o = opened_end app items (before ++ Open m c side d ∷ between) behind m c side e legal place in
    opens_rise_at app m c side o items before between behind (Open m c side d) (Open m c side e) d e legal place
    (ap (λ b. if b then Some d else None) (at_end m m c side refl)) (ap (λ b. if b then Some e else None) (at_end m m c side refl))

pub takes_rise : (app : AppTree) (items : List Item) → Legal app items → TakesRise items
takes_rise app items legal before between behind m k c i j v w place =
    let a : items ≡ before ++ Take m c i v ∷ (between ++ Take k c j w ∷ behind) = place ∙ append_assoc before (Take m c i v ∷ between) (Take k c j w ∷ behind) in
    let o = taken_end app items before (between ++ Take k c j w ∷ behind) m c i v legal a in
    let p = taken_end app items (before ++ Take m c i v ∷ between) behind k c j w legal place in
    takes_rise_at app m c To o items before between behind (Take m c i v) (Take k c j w) i j legal place
    (ap (λ b. if b then Some i else None) (at_end m m c To refl)) (ap (λ b. if b then Some j else None) (at_end k m c To (one_receiver app m k c o p)))
