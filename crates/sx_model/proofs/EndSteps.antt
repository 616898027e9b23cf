-- What each item makes of an end of a connection.
use Rattle.std.proofs.Common.{◌≡◌, ℕ, zero, suc, ◌+◌, ◌/◌, ◌%◌, ◌≤◌, inl, inr, ◌==◌, ◌&&◌, Bool, true, false, if◌then◌else◌, List, [], ◌∷◌, ◌++◌, Option, Some, None, refl, sym, ap, ◌∙◌, subst, arith}
use Rattle.std.specs.Prelude.{is_none, map, slice_get, slice_index, slice_set}
use Rattle.std.proofs.lemmas.Bool.{and_parts, cases_eq, eq-eqb, eqb-false, eqb-true}
use Rattle.std.proofs.lemmas.List.{get_or-set_other, get_or-set_same}
use Rattle.std.proofs.lemmas.Option.{get_or_from_slice_get, same_Some, slice_get_within}
use Rattle.sx_lang.specs.declared.sides.Side.{Side}
use Rattle.sx_lang.specs.declared.sides.Side.TheVariants.{To}
use Rattle.sx_mean.specs.declared.apps.Link.{Link}
use Rattle.sx_mean.specs.Application.{AppTree, PartTree}
use Rattle.sx_mean.specs.Ends.{ends_of, same_side}
use Rattle.sx_trace.specs.declared.items.Item.{Item}
use Rattle.sx_trace.specs.declared.items.Item.TheVariants.{Open, Take}
use Rattle.sx_model.specs.State.{EndView, Model, Present, Standing}
use Rattle.sx_model.specs.Renewal.{boot_of, is_of, may_open, opens, renewed, takes}
use Rattle.sx_model.specs.Step.{◌>>?◌, absent_at, changed_views, first_present, is_vouched}
use Rattle.sx_model.proofs.EndViews.{changed_at, changed_other, first_closed, same_side-true, view_at}
use Rattle.sx_model.proofs.HeldEnd.{Held, held_attested, held_opened, held_protected, held_raised, held_reset, held_taken, held_vouched, is_open}
use Rattle.sx_model.proofs.Renewed.{renewed_at}
use Rattle.sx_model.proofs.Rising.{On}
use Rattle.sx_model.proofs.Steps.{Cases}
use Rattle.sx_model.proofs.Written.{get_other}
use Rattle.sx_model.proofs.Idle.{idle_is}
use Rattle.lemmas.proofs.Lists.{get_same}

-- the epoch with which an item opens the end, if it does
abbrev pub opens_at : ℕ → ℕ → Side → Item → Option ℕ
opens_at m c side (Open k d to epoch) = if (k == m) && ((d == c) && same_side to side) then Some epoch else None
opens_at m c side _ = None

-- the number that an item takes at the end, if it does
abbrev pub takes_at : ℕ → ℕ → Side → Item → Option ℕ
takes_at m c side (Take k d i v) = if (k == m) && ((d == c) && same_side To side) then Some i else None
takes_at m c side _ = None

abbrev pub view_of : AppTree → ℕ → ℕ → Side → Standing → Option EndView
view_of app m c side x = x.present >>? (λ p. view_at c side (ends_of app m) p.ends)

-- `Held` in a state
pub record HeldIn (app : AppTree) (m c : ℕ) (side : Side) (node next number : ℕ) (boots : List ℕ) (xs : List Standing) (epochs : List ℕ) : Type 0 where
  pub standing : Standing
  pub here : slice_get xs m ≡ Some standing
  pub epoch : ℕ
  pub there : slice_get epochs c ≡ Some epoch
  pub held : Held c next number (slice_index boots node) epoch standing.attested standing.vouched (view_of app m c side standing)

-- and after an item
pub record Moved (app : AppTree) (m c : ℕ) (side : Side) (node : ℕ) (opening taking : Option ℕ) (low count : ℕ) (boots : List ℕ) (xs : List Standing) (epochs : List ℕ) : Type 0 where
  pub next : ℕ
  pub number : ℕ
  pub opens : On opening low next
  pub takes : On taking count number
  pub held : HeldIn app m c side node next number boots xs epochs

absent_own : (n : ℕ) (qs : List PartTree) (xs : List Standing) (m : ℕ) (q : PartTree) (x : Standing) → slice_get qs m ≡ Some q → slice_get xs m ≡ Some x
    → slice_get (absent_at n qs xs) m ≡ Some (if q.node == n then record x { present = None } else x)
absent_own n [] xs m q x e f = absurd cc
absent_own n (r ∷ qs) [] m q x e f = absurd cc
absent_own n (r ∷ qs) (y ∷ xs) zero q x e f =
    ap (λ (r : PartTree). Some (if r.node == n then record y { present = None } else y)) (same_Some r q e)
    ∙ ap (λ (y : Standing). Some (if q.node == n then record y { present = None } else y)) (same_Some y x f)
absent_own n (r ∷ qs) (y ∷ xs) (suc m) q x e f = absent_own n qs xs m q x e f

-- From a state in which it holds. The module m is at an end of the connection c.
module _ (app : AppTree) (m c : ℕ) (side : Side) (q : PartTree) (l : Link) (eq : slice_get app.parts m ≡ Some q) (el : slice_get app.links c ≡ Some l) (own : is_of m l ≡ true)
    (low count : ℕ) (now : Model) (h : HeldIn app m c side q.node low count now.boots now.modules now.epochs) where
  abbrev boots : List ℕ
  boots = now.boots

  abbrev xs : List Standing
  xs = now.modules

  abbrev epochs : List ℕ
  epochs = now.epochs

  abbrev In : ℕ → ℕ → List ℕ → List Standing → List ℕ → Type 0
  In next number bs ys es = HeldIn app m c side q.node next number bs ys es

  abbrev Is : ℕ → ℕ → ℕ → Standing → Type 0
  Is next number epoch x = Held c next number (slice_index boots q.node) epoch x.attested x.vouched (view_of app m c side x)

  -- the end neither opens nor takes
  quiet : (bs : List ℕ) (ys : List Standing) (es : List ℕ) → In low count bs ys es → Moved app m c side q.node None None low count bs ys es
  quiet bs ys es g = record { next = low; number = count; opens = refl; takes = refl; held = g }

  same : Moved app m c side q.node None None low count boots xs epochs
  same = quiet boots xs epochs h

  -- its module is changed
  own_changed : (next number epoch : ℕ) (es : List ℕ) (z y : Standing) → slice_get xs m ≡ Some z → slice_get es c ≡ Some epoch → (Is low count h.epoch z → Is next number epoch y)
      → In next number boots (slice_set xs m y) es
  own_changed next number epoch es z y e f g = record {
    standing = y;
    here = get_same xs m y z e;
    epoch = epoch;
    there = f;
    held = g (subst (λ (x : Standing). Is low count h.epoch x) (same_Some h.standing z (sym h.here ∙ e)) h.held);
  }

  -- a module is changed
  changed_one : (k epoch : ℕ) (es : List ℕ) (z y : Standing) → slice_get xs k ≡ Some z → slice_get es c ≡ Some epoch → h.epoch ≤ epoch
      → (k ≡ m → Is low count h.epoch z → Is low count epoch y) → In low count boots (slice_set xs k y) es
  changed_one k epoch es z y e f le g =
      elim (cases_eq k m) [
        | inl s ↦ subst (λ k. In low count boots (slice_set xs k y) es) (sym s) (own_changed low count epoch es z y (subst (λ k. slice_get xs k ≡ Some z) s e) f (g s))
        | inr n ↦ record {
          standing = h.standing;
          here = get_other xs k m y n ∙ h.here;
          epoch = epoch;
          there = f;
          held = held_raised c low count (slice_index boots q.node) h.epoch h.standing.attested h.standing.vouched (view_of app m c side h.standing) h.held epoch le;
        }
      ]

  -- and the end isn't
  alike : (k : ℕ) (z y : Standing) → slice_get xs k ≡ Some z → (k ≡ m → Is low count h.epoch z → Is low count h.epoch y) → Moved app m c side q.node None None low count boots (slice_set xs k y) epochs
  alike k z y e g = quiet boots (slice_set xs k y) epochs (changed_one k h.epoch epochs z y e h.there (omega arith) g)

  with_view : (z : Standing) (o p : Option EndView) → o ≡ p → Held c low count (slice_index boots q.node) h.epoch z.attested z.vouched o
      → Held c low count (slice_index boots q.node) h.epoch z.attested z.vouched p
  with_view z o p e g = subst (λ o. Held c low count (slice_index boots q.node) h.epoch z.attested z.vouched o) e g

  seen : (z : Standing) (p : Present) → z.present ≡ Some p → view_of app m c side z ≡ view_at c side (ends_of app m) p.ends
  seen z p e = ap (λ o. o >>? (λ (p : Present). view_at c side (ends_of app m) p.ends)) e

  -- the boot of its node
  boot_here : (k : ℕ) (r : PartTree) (boot : ℕ) → k ≡ m → slice_get app.parts k ≡ Some r → slice_get boots r.node ≡ Some boot → slice_index boots q.node ≡ boot
  boot_here k r boot s e f =
      let is : r ≡ q = same_Some r q (sym e ∙ ap (λ k. slice_get app.parts k) s ∙ eq) in
      subst (λ (r : PartTree). slice_index boots r.node ≡ boot) is (get_or_from_slice_get boots r.node boot 0 f)

  reset : (n boot : ℕ) → slice_get boots n ≡ Some boot → Moved app m c side q.node None None low count (slice_set boots n (boot + 1)) (absent_at n app.parts xs) epochs
  reset n boot e = quiet (slice_set boots n (boot + 1)) (absent_at n app.parts xs) epochs (record {
    standing = if q.node == n then record h.standing { present = None } else h.standing;
    here = absent_own n app.parts xs m q h.standing eq h.here;
    epoch = h.epoch;
    there = h.there;
    held = at (q.node == n) refl;
  })
    where
      raised : q.node ≡ n → slice_index (slice_set boots n (boot + 1)) q.node ≡ slice_index boots q.node + 1
      raised s =
          subst (λ k. slice_index (slice_set boots n (boot + 1)) k ≡ slice_index boots k + 1) (sym s)
          (get_or-set_same boots n (boot + 1) 0 (slice_get_within boots n boot e) ∙ ap (λ b. b + 1) (sym (get_or_from_slice_get boots n boot 0 e)))

      at : (b : Bool) → (q.node == n) ≡ b
          → let x : Standing = if b then record h.standing { present = None } else h.standing in
          Held c low count (slice_index (slice_set boots n (boot + 1)) q.node) h.epoch x.attested x.vouched (view_of app m c side x)
      at true t =
          subst (λ b. Held c low count b h.epoch h.standing.attested h.standing.vouched None) (sym (raised (eqb-true q.node n t)))
          (held_reset c low count (slice_index boots q.node) h.epoch h.standing.attested h.standing.vouched (view_of app m c side h.standing) h.held)
      at false t =
          subst (λ b. Held c low count b h.epoch h.standing.attested h.standing.vouched (view_of app m c side h.standing))
          (sym (get_or-set_other boots n q.node (boot + 1) 0 (eqb-false q.node n t))) h.held

  protect : (k : ℕ) (r : PartTree) (z : Standing) → slice_get xs k ≡ Some z → is_none z.present ≡ true
      → Moved app m c side q.node None None low count boots (slice_set xs k (record z { present = Some (first_present r.tree (ends_of app k)) })) epochs
  protect k r z e none = alike k z (record z { present = Some (first_present r.tree (ends_of app k)) }) e (λ s g.
      held_protected c low count (slice_index boots q.node) h.epoch z.attested z.vouched (view_of app m c side z) g
      (view_at c side (ends_of app m) (map (λ e. record { epoch = None; next = 0 }) (ends_of app k))) (closed z.present none)
      (subst (λ k. (v : EndView) → view_at c side (ends_of app m) (map (λ e. record { epoch = None; next = 0 }) (ends_of app k)) ≡ Some v → v.epoch ≡ None) (sym s)
      (first_closed c side (ends_of app m))))
    where
      closed : (o : Option Present) → is_none o ≡ true → is_open (o >>? (λ p. view_at c side (ends_of app m) p.ends)) ≡ false
      closed None e = refl
      closed (Some p) e = absurd cc

  attested : (k b a : ℕ) (z : Standing) → slice_get xs k ≡ Some z → is_vouched a b z.vouched ≡ true
      → let es = renewed k app.links (boot_of z.attested) epochs in
      Moved app m c side q.node None None low count boots (slice_set xs k (record z { asked = None; attested = Some (record { boot = b; floors = es }) })) es
  attested k b a z e by =
      let es = renewed k app.links (boot_of z.attested) epochs in
      let y : Standing = record z { asked = None; attested = Some (record { boot = b; floors = es }) } in
      let r = renewed_at k c app.links l (boot_of z.attested) epochs h.epoch el h.there in
      quiet boots (slice_set xs k y) es (changed_one k r.epoch es z y e r.there r.kept (λ s g.
      held_attested c low count (slice_index boots q.node) h.epoch z.attested z.vouched (view_of app m c side z) g a b r.epoch es by r.kept r.there
      (λ last f. r.higher last f (subst (λ k. is_of k l ≡ true) (sym s) own))))

  vouch : (k a : ℕ) (r : PartTree) (z : Standing) (p w : Present) (boot : ℕ) → slice_get app.parts k ≡ Some r → slice_get xs k ≡ Some z → z.present ≡ Some p
      → slice_get boots r.node ≡ Some boot → w.ends ≡ p.ends
      → Moved app m c side q.node None None low count boots
      (slice_set xs k (record z { present = Some w; vouched = z.vouched ++ record { challenge = a; boot = boot } ∷ [] })) epochs
  vouch k a r z p w boot er ez ep eb same = alike k z (record z { present = Some w; vouched = z.vouched ++ record { challenge = a; boot = boot } ∷ [] }) ez (λ s g.
      subst (λ b. Held c low count (slice_index boots q.node) h.epoch z.attested (z.vouched ++ record { challenge = a; boot = b } ∷ [])
      (view_at c side (ends_of app m) w.ends)) (boot_here k r boot s er eb)
      (subst (λ o. Held c low count (slice_index boots q.node) h.epoch z.attested (z.vouched ++ record { challenge = a; boot = slice_index boots q.node } ∷ []) o)
      (seen z p ep ∙ ap (λ vs. view_at c side (ends_of app m) vs) (sym same))
      (held_vouched c low count (slice_index boots q.node) h.epoch z.attested z.vouched (view_of app m c side z) g a)))

  -- the module does something else
  busy : (k : ℕ) (z : Standing) (p w : Present) → slice_get xs k ≡ Some z → z.present ≡ Some p → w.ends ≡ p.ends
      → Moved app m c side q.node None None low count boots (slice_set xs k (record z { present = Some w })) epochs
  busy k z p w ez ep same = alike k z (record z { present = Some w }) ez (λ s g.
      with_view z (view_of app m c side z) (view_at c side (ends_of app m) w.ends) (seen z p ep ∙ ap (λ vs. view_at c side (ends_of app m) vs) (sym same)) g)

  -- another end is changed
  elsewhere : (change : EndView → Option EndView) (k d : ℕ) (to : Side) (z : Standing) (p w : Present) → slice_get xs k ≡ Some z → z.present ≡ Some p
      → changed_views change d to (ends_of app k) p.ends ≡ Some w.ends → ((k == m) && ((d == c) && same_side to side)) ≡ false
      → Moved app m c side q.node None None low count boots (slice_set xs k (record z { present = Some w })) epochs
  elsewhere change k d to z p w ez ep ev n = alike k z (record z { present = Some w }) ez (λ s g.
      with_view z (view_of app m c side z) (view_at c side (ends_of app m) w.ends)
      (seen z p ep ∙ sym (changed_other change c d side to (ends_of app m) p.ends w.ends (other s) (subst (λ k. changed_views change d to (ends_of app k) p.ends ≡ Some w.ends) s ev))) g)
    where
      other : k ≡ m → ((d == c) && same_side to side) ≡ false
      other s = ap (λ b. b && ((d == c) && same_side to side)) (sym (eq-eqb k m s)) ∙ n

  -- this end is changed
  held_of : (z : Standing) → slice_get xs m ≡ Some z → Is low count h.epoch z
  held_of z e = subst (λ (x : Standing). Is low count h.epoch x) (same_Some h.standing z (sym h.here ∙ e)) h.held

  record Here (change : EndView → Option EndView) (k d : ℕ) (to : Side) (z : Standing) (p w : Present) : Type 0 where
    pub this : k ≡ m
    pub link : d ≡ c
    pub there : slice_get xs m ≡ Some z
    pub old : EndView
    pub new : EndView
    pub was : view_of app m c side z ≡ Some old
    pub made : change old ≡ Some new
    pub is : view_at c side (ends_of app m) w.ends ≡ Some new

  here : (change : EndView → Option EndView) (k d : ℕ) (to : Side) (z : Standing) (p w : Present) → slice_get xs k ≡ Some z → z.present ≡ Some p
      → changed_views change d to (ends_of app k) p.ends ≡ Some w.ends → ((k == m) && ((d == c) && same_side to side)) ≡ true → Here change k d to z p w
  here change k d to z p w ez ep ev t =
      let a = and_parts (k == m) ((d == c) && same_side to side) t in
      let b = and_parts (d == c) (same_side to side) a.1 in
      let s = eqb-true k m a.0 in
      let link = eqb-true d c b.0 in
      let made = subst (λ to. changed_views change c to (ends_of app m) p.ends ≡ Some w.ends) (same_side-true to side b.1)
      (subst (λ d. changed_views change d to (ends_of app m) p.ends ≡ Some w.ends) link (subst (λ k. changed_views change d to (ends_of app k) p.ends ≡ Some w.ends) s ev)) in
      let r = changed_at change c side (ends_of app m) p.ends w.ends made in
      record { this = s; link = link; there = subst (λ k. slice_get xs k ≡ Some z) s ez; old = r.old; new = r.new; was = seen z p ep ∙ r.was; made = r.made; is = r.is }

  opened : (k d : ℕ) (to : Side) (epoch : ℕ) (r : PartTree) (z : Standing) (p w : Present) (boot : ℕ) → slice_get app.parts k ≡ Some r → slice_get xs k ≡ Some z → z.present ≡ Some p
      → slice_get boots r.node ≡ Some boot → changed_views (opens epoch) d to (ends_of app k) p.ends ≡ Some w.ends → may_open z.attested boot d epoch (slice_index epochs d) ≡ true
      → Moved app m c side q.node (opens_at m c side (Open k d to epoch)) None low count boots (slice_set xs k (record z { present = Some w })) epochs
  opened k d to epoch r z p w boot er ez ep eb ev may = go ((k == m) && ((d == c) && same_side to side)) refl
    where
      y : Standing
      y = record z { present = Some w }

      at : Here (opens epoch) k d to z p w → Moved app m c side q.node (Some epoch) None low count boots (slice_set xs k y) epochs
      at e =
          let top : slice_index epochs d ≡ h.epoch = ap (λ d. slice_index epochs d) e.link ∙ get_or_from_slice_get epochs c h.epoch 0 h.there in
          let may : may_open z.attested (slice_index boots q.node) c epoch h.epoch ≡ true =
          subst (λ n. may_open z.attested (slice_index boots q.node) c epoch n ≡ true) top
          (subst (λ c. may_open z.attested (slice_index boots q.node) c epoch (slice_index epochs d) ≡ true) e.link
          (subst (λ b. may_open z.attested b d epoch (slice_index epochs d) ≡ true) (sym (boot_here k r boot e.this er eb)) may)) in
          let o = held_opened c low count (slice_index boots q.node) h.epoch z.attested z.vouched (view_of app m c side z) (held_of z e.there) epoch e.old e.new e.was e.made may in
          record {
            next = epoch + 1;
            number = count;
            opens = (o.0, refl);
            takes = refl;
            held = subst (λ k. In (epoch + 1) count boots (slice_set xs k y) epochs) (sym e.this)
                (own_changed (epoch + 1) count h.epoch epochs z y e.there h.there
                (λ _. subst (λ v. Held c (epoch + 1) count (slice_index boots q.node) h.epoch z.attested z.vouched v) (sym e.is) o.1));
          }

      go : (b : Bool) → ((k == m) && ((d == c) && same_side to side)) ≡ b
          → Moved app m c side q.node (if b then Some epoch else None) None low count boots (slice_set xs k y) epochs
      go true t = at (here (opens epoch) k d to z p w ez ep ev t)
      go false t = elsewhere (opens epoch) k d to z p w ez ep ev t

  took : (k d i v : ℕ) (z : Standing) (p w : Present) → slice_get xs k ≡ Some z → z.present ≡ Some p → changed_views (takes (i / 65536) (i % 65536)) d To (ends_of app k) p.ends ≡ Some w.ends
      → Moved app m c side q.node None (takes_at m c side (Take k d i v)) low count boots (slice_set xs k (record z { present = Some w })) epochs
  took k d i v z p w ez ep ev = go ((k == m) && ((d == c) && same_side To side)) refl
    where
      y : Standing
      y = record z { present = Some w }

      at : Here (takes (i / 65536) (i % 65536)) k d To z p w → Moved app m c side q.node None (Some i) low count boots (slice_set xs k y) epochs
      at e =
          let o = held_taken c low count (slice_index boots q.node) h.epoch z.attested z.vouched (view_of app m c side z) (held_of z e.there) i e.old e.new e.was e.made in
          record {
            next = low;
            number = i + 1;
            opens = refl;
            takes = (o.0, refl);
            held = subst (λ k. In low (i + 1) boots (slice_set xs k y) epochs) (sym e.this)
                (own_changed low (i + 1) h.epoch epochs z y e.there h.there
                (λ _. subst (λ v. Held c low (i + 1) (slice_index boots q.node) h.epoch z.attested z.vouched v) (sym e.is) o.1));
          }

      go : (b : Bool) → ((k == m) && ((d == c) && same_side To side)) ≡ b
          → Moved app m c side q.node None (if b then Some i else None) low count boots (slice_set xs k y) epochs
      go true t = at (here (takes (i / 65536) (i % 65536)) k d To z p w ez ep ev t)
      go false t = elsewhere (takes (i / 65536) (i % 65536)) k d To z p w ez ep ev t

  pub cases : Cases app now (λ item t. Moved app m c side q.node (opens_at m c side item) (takes_at m c side item) low count t.boots t.modules t.epochs)
  cases = record {
    reset = λ n cause boot e. reset n boot e;
    unknown = λ n. same;
    protect = λ n k r z e none. protect k r z e none;
    sense = λ d v. same;
    read = λ k v r z p d w er ez ep ed ew b. busy k z p _ ez (idle_is z p ep) refl;
    drain = λ d r. same;
    ask = λ k a z ez. alike k z _ ez (λ s g. g);
    attested = λ k b a z ez by. attested k b a z ez by;
    denied = λ k. same;
    vouch = λ k a r z p boot er ez ep eb. vouch k a r z p _ boot er ez (idle_is z p ep) eb refl;
    opened = λ k d to epoch r z p boot views er ez ep eb ev may. opened k d to epoch r z p _ boot er ez (idle_is z p ep) eb ev may;
    take = λ k d i v r z p j views er ez ep ej ev. took k d i v z p _ ez (idle_is z p ep) ev;
    out = λ k v z p owed left ez ep eo ew. busy k z p _ ez ep refl;
    raw = λ d v. same;
    done = λ k status n z p ez ep. busy k z p _ ez ep refl;
    refused = λ k status n z p ez ep none. same;
    packet = λ k n. same;
    forged = λ k. same;
    busy = λ n. same;
    skip = λ n. same;
    budget = λ n. same;
  }
