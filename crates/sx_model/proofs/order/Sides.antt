-- A trace that is legal with acts in order is legal: the two states after it go side by side.
use Rattle.std.proofs.Common.{◌≡◌, ℕ, zero, suc, ◌+◌, ◌*◌, ◌/◌, ◌%◌, ◌≤◌, inl, inr, ◌==◌, ◌&&◌, ◌||◌, not, Bool, true, false, if◌then◌else◌, List, [], ◌∷◌, ◌++◌, length, Option, Some, None, refl, sym, ◌∙◌, ap, subst}
use Rattle.std.specs.Prelude.{slice_get, slice_set, slice_index, is_some, is_none, IsSome, map, nat_le, option_and_then}
use Rattle.std.proofs.lemmas.Bool.{and_parts, and_from, cases_eq, eqb-true}
use Rattle.std.proofs.lemmas.Option.{same_Some, get_or_from_slice_get}
use Rattle.sx_lang.specs.declared.sides.Side.{Side}
use Rattle.sx_lang.specs.declared.sides.Side.TheVariants.{From, To}
use Rattle.sx_mean.specs.declared.events.Act.{Act}
use Rattle.sx_mean.specs.declared.events.Act.TheVariants.{Send, Emit}
use Rattle.sx_mean.specs.declared.events.End.{End}
use Rattle.sx_mean.specs.declared.events.SourceEvent.TheVariants as event
use Rattle.sx_mean.specs.Application.{AppTree, PartTree, is_sensor}
use Rattle.sx_mean.specs.Ends.{ends_of, same_side}
use Rattle.sx_mean.specs.React.{react}
use Rattle.sx_trace.specs.declared.items.Cause.{Cause}
use Rattle.sx_trace.specs.declared.items.Item.{Item}
use Rattle.sx_trace.specs.declared.items.Item.TheVariants.{Reset, Protect, Sense, Read, Drain, Ask, Attested, Denied, Vouch, Open, Take, Out, Raw, Done, Packet, Forged, Busy, Skip, Budget}
use Rattle.sx_model.specs.State.{Model as OldModel, Pending as OldPending, Present as OldPresent, Standing as OldStanding, power_on as old_power_on}
use Rattle.sx_model.specs.Reaction.{Flow, all_done, done, field_at}
use Rattle.sx_model.specs.Renewal.{boot_of, may_attest, is_below, may_open, opens, takes}
use Rattle.sx_model.specs.Step.{step as old_step, idle as old_idle, state_if as old_state_if, is_nothing as old_is_nothing, without_first, is_undriven as old_is_undriven}
use Rattle.sx_model.specs.Legal.{Legal, after as old_after}
use Rattle.sx_model.proofs.EndViews.{changed_at, link_of_end, same_side-true, view_at}
use Rattle.sx_model.proofs.EndSteps.{view_of}
use Rattle.sx_model.proofs.HeldEnd.{held_opened}
use Rattle.sx_model.proofs.Written.{get_other}
use Rattle.lemmas.proofs.Lists.{get_same}
use Rattle.sx_model.specs.Sendings.{emits_of}
use Rattle.sx_model.specs.State.{EndView, contains}
use Rattle.sx_model.specs.order.State.{Model, Pending, Present, Standing, power_on}
use Rattle.sx_model.specs.order.Reaction.{sent_first, from_emit, flowing}
use Rattle.sx_model.specs.Step.{◌>>?◌, changed_views, kind_is, is_vouched, waits}
use Rattle.sx_model.specs.order.Step.{step, idle, state_if, behind_emit, is_nothing, is_undriven}
use Rattle.sx_model.specs.order.Legal.{LegalInOrder, after}
use Rattle.sx_model.proofs.order.Fields.{OpenAt, Same, same_all, all_other, first_other, Starting, starting_same, all_starts, split, all_emits, emits_left, decided}
use Rattle.sx_model.proofs.order.Owners.{one_sender}
use Rattle.sx_model.proofs.order.Unsent.{AllUnsent, unsent_first, unsent_on}
use Rattle.sx_model.proofs.order.Views.{Both, both_weaker, changed_open, absent_both, undriven_same, contains_more, empty_same}

abbrev acts_left : Option Pending → List Act
acts_left None = []
acts_left (Some o) = o.acts

abbrev pieces_left : Option Pending → ℕ
pieces_left None = 0
pieces_left (Some o) = o.pieces

-- the old model's module and state
abbrev put : Present → Option OldPending → OldPresent
put p w = record { cells = p.cells; ends = p.ends; pending = w }

abbrev stand : Standing → Option OldPresent → OldStanding
stand x r = record { present = r; asked = x.asked; vouched = x.vouched; attested = x.attested }

abbrev built : Model → List OldStanding → List (List ℕ) → OldModel
built s ys b = record { boots = s.boots; devices = s.devices; modules = ys; epochs = s.epochs; sent = b; asks = s.asks }

-- what is owed, where this many pieces will be made
abbrev Owes : Option Pending → Option OldPending → ℕ → Type 0
Owes None None n = Unit {0}
Owes (Some o) (Some w) n = (emits_of o.acts ≡ w.emits) × (n ≡ w.pieces)
Owes _ _ n = ⊥

-- all that is left to do
abbrev flow_at : List End → List EndView → Option Pending → List (List ℕ) → Flow
flow_at es vs o a = all_done es vs (acts_left o) (flowing a (pieces_left o))

record Alike (es : List End) (a b : List (List ℕ)) (p : Present) (r : OldPresent) : Type 0 where
  pub pending : Option OldPending
  pub is : r ≡ put p pending
  pub owed : Owes p.pending pending (flow_at es p.ends p.pending a).pieces
  pub words : (k : ℕ) → OpenAt es p.ends k → slice_get (flow_at es p.ends p.pending a).sent k ≡ slice_get b k

record Stands (es : List End) (a b : List (List ℕ)) (x : Standing) (y : OldStanding) : Type 0 where
  pub present : Option OldPresent
  pub is : y ≡ stand x present
  pub alike : Both (Alike es a b) x.present present

abbrev Mods : AppTree → List Standing → List (List ℕ) → List OldStanding → List (List ℕ) → Type 0
Mods app xs a ys b = (m : ℕ) → Both (Stands (ends_of app m) a b) (slice_get xs m) (slice_get ys m)

abbrev Starts : List (List ℕ) → List (List ℕ) → Type 0
Starts a b = (k : ℕ) → Starting (slice_get a k) (slice_get b k)

record Sim (app : AppTree) (s : Model) (t : OldModel) : Type 0 where
  pub is : t ≡ built s t.modules t.sent
  pub mods : Mods app s.modules s.sent t.modules t.sent
  pub words : Starts s.sent t.sent

abbrev Next : AppTree → Option Model → Option OldModel → Type 0
Next app None o = Unit {0}
Next app (Some s) None = ⊥
Next app (Some s) (Some t) = Sim app s t

some_same : {A B : Type 0} → (R : A → B → Type 0) (o : Option A) (p : Option B) → Both R o p → is_some o ≡ is_some p
some_same R None None h = refl
some_same R (Some x) (Some y) h = refl
some_same R None (Some y) h = absurd h
some_same R (Some x) None h = absurd h

none_same : {A B : Type 0} → (R : A → B → Type 0) (o : Option A) (p : Option B) → Both R o p → is_none o ≡ is_none p
none_same R None None h = refl
none_same R (Some x) (Some y) h = refl
none_same R None (Some y) h = absurd h
none_same R (Some x) None h = absurd h

none_owed : (v : Option Pending) (w : Option OldPending) (n : ℕ) → Owes v w n → is_none v ≡ is_none w
none_owed None None n h = refl
none_owed (Some o) (Some u) n h = refl
none_owed None (Some u) n h = absurd h
none_owed (Some o) None n h = absurd h

pub nothing_is : (acts : List Act) → is_nothing acts ≡ true → acts ≡ []
nothing_is [] h = refl
nothing_is (a ∷ acts) h = absurd cc

all_closed : (es : List End) (i : ℕ) (v : EndView) → slice_get (map (λ e. record { epoch = None; next = 0 }) es) i ≡ Some v → is_some v.epoch ≡ true → ⊥
all_closed [] i v e h = cc
all_closed (x ∷ es) zero v e h = let s : false ≡ is_some v.epoch = ap (λ (v : EndView). is_some v.epoch) (same_Some _ v e) in let z : false ≡ true = (s ∙ h) in cc
all_closed (x ∷ es) (suc i) v e h = all_closed es i v e h

takes_keeps : (epoch n : ℕ) (v w : EndView) → takes epoch n v ≡ Some w → w.epoch ≡ v.epoch
takes_keeps epoch n v w = by (contains v.epoch epoch && nat_le v.next n)
  where
    by : (b : Bool) → (if b then Some (record { epoch = v.epoch; next = n + 1 }) else None) ≡ Some w → w.epoch ≡ v.epoch
    by true e = sym (ap (λ (z : EndView). z.epoch) (same_Some _ w e))
    by false e = absurd cc

opens_epoch : (epoch : ℕ) (v w : EndView) → opens epoch v ≡ Some w → w.epoch ≡ Some epoch
opens_epoch epoch v w = by (is_below v.epoch epoch)
  where
    by : (b : Bool) → (if b then Some (record { epoch = Some epoch; next = 0 }) else None) ≡ Some w → w.epoch ≡ Some epoch
    by true e = sym (ap (λ (z : EndView). z.epoch) (same_Some _ w e))
    by false e = absurd cc

taken_open : (epoch n c : ℕ) (es : List End) (vs ws : List EndView) (f : ℕ) → changed_views (takes epoch n) c To es vs ≡ Some ws → OpenAt es ws f → OpenAt es vs f
taken_open epoch n c es vs ws f e o = elim (changed_open (takes epoch n) c To es vs ws f e o) [
  | inl z ↦ z
  | inr z ↦
      let k = takes_keeps epoch n z.old z.new z.made in
      record { place = z.place; end = z.end; end_is = z.end_is; view = z.old; view_is = z.old_is; from = z.from; opened = ap (λ o. is_some o) (sym k) ∙ z.opened; at = ap (λ o. field_at z.end.link o) (sym k) ∙ z.at }
]

-- The two flows after the acts of an event, or after an emit.
going : (es : List End) (vs : List EndView) (acts : List Act) (f o : Flow) → Same (OpenAt es vs) f o
    → Same (OpenAt es vs) (all_done es vs (from_emit acts) (flowing (sent_first es vs acts f).sent (sent_first es vs acts f).pieces)) (all_done es vs acts o)
going es vs acts f o h =
    let g = sent_first es vs acts f in
    let a = same_all (OpenAt es vs) es vs (from_emit acts) (flowing g.sent g.pieces) g (λ k o. o) (λ k o. refl, refl) in
    let b = same_all (OpenAt es vs) es vs acts f o (λ k o. o) h in
    let c = split es vs acts f in
    (λ k o. a.0 k o ∙ ap (λ (f : Flow). slice_get f.sent k) (sym c) ∙ b.0 k o, a.1 ∙ ap (λ (f : Flow). f.pieces) (sym c) ∙ b.1)

module _ (app : AppTree) where
  with_same : {A : Type 0} → (o : Option A) (f : A → Option Model) (g : A → Option OldModel) → ((x : A) → o ≡ Some x → Next app (f x) (g x)) → Next app (o >>? f) (o >>? g)
  with_same None f g h = tt
  with_same (Some x) f g h = h x refl

  with_test : (b c : Bool) (s : Model) (t : OldModel) → (b ≡ true → (c ≡ true) × Sim app s t) → Next app (state_if b s) (old_state_if c t)
  with_test false c s t h = tt
  with_test true c s t h = subst (λ c. Next app (Some s) (old_state_if c t)) (sym (h refl).0) (h refl).1

  with_tested : (b : Bool) (s : Model) (t : OldModel) → (b ≡ true → Sim app s t) → Next app (state_if b s) (old_state_if b t)
  with_tested b s t h = with_test b b s t (λ e. (e, h e))

  with_words : (o p : Option (List ℕ)) (f : List ℕ → Option Model) (g : List ℕ → Option OldModel) → Starting o p → ((ws vs more : List ℕ) → vs ≡ ws ++ more → Next app (f ws) (g vs)) → Next app (o >>? f) (p >>? g)
  with_words None p f g s h = tt
  with_words (Some ws) None f g s h = absurd s
  with_words (Some ws) (Some vs) f g s h = h ws vs s.0 s.1

  with_present : (es : List End) (a b : List (List ℕ)) (o : Option Present) (r : Option OldPresent) (f : Present → Option Model) (g : OldPresent → Option OldModel) → Both (Alike es a b) o r
      → ((p : Present) (w : Option OldPending) → o ≡ Some p → Alike es a b p (put p w) → Owes p.pending w (flow_at es p.ends p.pending a).pieces
      → ((k : ℕ) → OpenAt es p.ends k → slice_get (flow_at es p.ends p.pending a).sent k ≡ slice_get b k) → Next app (f p) (g (put p w)))
      → Next app (o >>? f) (r >>? g)
  with_present es a b None r f g al h = tt
  with_present es a b (Some p) None f g al h = absurd al
  with_present es a b (Some p) (Some r) f g al h =
      subst (λ r. Next app (f p) (g r)) (sym al.is) (h p al.pending refl (record { pending = al.pending; is = refl; owed = al.owed; words = al.words }) al.owed al.words)

  with_pending : (v : Option Pending) (w : Option OldPending) (n : ℕ) (f : Pending → Option Model) (g : OldPending → Option OldModel) → Owes v w n
      → ((o : Pending) (u : OldPending) → v ≡ Some o → emits_of o.acts ≡ u.emits → n ≡ u.pieces → Next app (f o) (g u)) → Next app (v >>? f) (w >>? g)
  with_pending None w n f g e h = tt
  with_pending (Some o) None n f g e h = absurd e
  with_pending (Some o) (Some u) n f g e h = h o u refl e.0 e.1

  with_if : (c : Bool) (a b : Option Model) (d e : Option OldModel) → Next app a d → Next app b e → Next app (if c then a else b) (if c then d else e)
  with_if true a b d e h g = h
  with_if false a b d e h g = g

  with_emit : (v : ℕ) (acts : List Act) (emits : List ℕ) (k : ℕ) (f : List Act → Option Model) (g : OldPending → Option OldModel) → emits_of acts ≡ emits
      → ((left : List Act) → acts ≡ Emit v ∷ left → Next app (f left) (g (record { emits = emits_of left; pieces = k })))
      → Next app (behind_emit v acts >>? f) (without_first v emits k >>? g)
  with_emit v [] emits k f g e h = tt
  with_emit v (Send output w ∷ acts) emits k f g e h = tt
  with_emit v (Emit w ∷ acts) emits k f g e h = subst (λ emits. Next app ((if w == v then Some acts else None) >>? f) (without_first v emits k >>? g)) e (by (w == v) refl)
    where
      by : (b : Bool) → (w == v) ≡ b → Next app ((if b then Some acts else None) >>? f) ((if b then Some (record { emits = emits_of acts; pieces = k }) else None) >>? g)
      by true t = h acts (ap (λ z. Emit z ∷ acts) (eqb-true w v t))
      by false t = tt

  with_idle : (es : List End) (a b : List (List ℕ)) (x : Standing) (r : Option OldPresent) (f : Present → Option Model) (g : OldPresent → Option OldModel) → Both (Alike es a b) x.present r
      → ((p : Present) → x.present ≡ Some p → p.pending ≡ None → r ≡ Some (put p None) → ((k : ℕ) → OpenAt es p.ends k → slice_get a k ≡ slice_get b k) → Next app (f p) (g (put p None)))
      → Next app (idle x >>? f) (old_idle (stand x r) >>? g)
  with_idle es a b x r f g = go x.present r
    where
      at : (p : Present) (v : Option Pending) (w : Option OldPending) → p.pending ≡ v → Owes v w (flow_at es p.ends v a).pieces
          → ((k : ℕ) → OpenAt es p.ends k → slice_get (flow_at es p.ends v a).sent k ≡ slice_get b k)
          → (v ≡ None → w ≡ None → ((k : ℕ) → OpenAt es p.ends k → slice_get a k ≡ slice_get b k) → Next app (f p) (g (put p None)))
          → Next app ((if is_none v then Some p else None) >>? f) ((if is_none w then Some (put p w) else None) >>? g)
      at p None None e o ws h = h refl refl ws
      at p None (Some w) e o ws h = absurd o
      at p (Some v) w e o ws h = tt

      go : (o : Option Present) (r : Option OldPresent) → Both (Alike es a b) o r
          → ((p : Present) → o ≡ Some p → p.pending ≡ None → r ≡ Some (put p None) → ((k : ℕ) → OpenAt es p.ends k → slice_get a k ≡ slice_get b k) → Next app (f p) (g (put p None)))
          → Next app ((o >>? (λ (p : Present). if is_none p.pending then Some p else None)) >>? f) ((r >>? (λ (p : OldPresent). if is_none p.pending then Some p else None)) >>? g)
      go None r al h = tt
      go (Some p) None al h = absurd al
      go (Some p) (Some r) al h =
          subst (λ (r : OldPresent). Next app ((if is_none p.pending then Some p else None) >>? f) ((if is_none r.pending then Some r else None) >>? g)) (sym al.is)
          (at p p.pending al.pending refl al.owed al.words (λ v w ws. h p refl v (ap (λ z. Some z) (al.is ∙ ap (λ w. put p w) w)) ws))

module _ (app : AppTree) (few : length app.links ≤ 256) (s : Model) (ys : List OldStanding) (b : List (List ℕ)) (mods : Mods app s.modules s.sent ys b) (words : Starts s.sent b) where
  abbrev t : OldModel
  t = built s ys b

  with_module : (m : ℕ) (f : Standing → Option Model) (g : OldStanding → Option OldModel)
      → ((x : Standing) (r : Option OldPresent) → slice_get s.modules m ≡ Some x → slice_get ys m ≡ Some (stand x r) → Both (Alike (ends_of app m) s.sent b) x.present r → Next app (f x) (g (stand x r)))
      → Next app (slice_get s.modules m >>? f) (slice_get ys m >>? g)
  with_module m f g h = go (slice_get s.modules m) (slice_get ys m) refl refl (mods m)
    where
      go : (o : Option Standing) (p : Option OldStanding) → slice_get s.modules m ≡ o → slice_get ys m ≡ p → Both (Stands (ends_of app m) s.sent b) o p → Next app (o >>? f) (p >>? g)
      go None p e d st = tt
      go (Some x) None e d st = absurd st
      go (Some x) (Some y) e d st = subst (λ y. Next app (f x) (g y)) (sym st.is) (h x st.present e (d ∙ ap (λ z. Some z) st.is) st.alike)

  -- one module is changed
  set_mods : (a2 b2 : List (List ℕ)) (m : ℕ) (x x2 : Standing) (y y2 : OldStanding) → slice_get s.modules m ≡ Some x → slice_get ys m ≡ Some y → Stands (ends_of app m) a2 b2 x2 y2
      → ((k : ℕ) → (m ≡ k → ⊥) → Both (Stands (ends_of app k) a2 b2) (slice_get s.modules k) (slice_get ys k))
      → Mods app (slice_set s.modules m x2) a2 (slice_set ys m y2) b2
  set_mods a2 b2 m x x2 y y2 ex ey st others k = elim (cases_eq m k) [
    | inl e ↦ subst (λ k. Both (Stands (ends_of app k) a2 b2) (slice_get (slice_set s.modules m x2) k) (slice_get (slice_set ys m y2) k)) e
        (subst (λ o. Both (Stands (ends_of app m) a2 b2) o (slice_get (slice_set ys m y2) m)) (sym (get_same s.modules m x2 x ex))
        (subst (λ o. Both (Stands (ends_of app m) a2 b2) (Some x2) o) (sym (get_same ys m y2 y ey)) st))
    | inr n ↦ subst (λ o. Both (Stands (ends_of app k) a2 b2) o (slice_get (slice_set ys m y2) k)) (sym (get_other s.modules m k x2 n))
        (subst (λ o. Both (Stands (ends_of app k) a2 b2) (slice_get s.modules k) o) (sym (get_other ys m k y2 n)) (others k n))
  ]

  set_one : (m : ℕ) (x x2 : Standing) (y y2 : OldStanding) → slice_get s.modules m ≡ Some x → slice_get ys m ≡ Some y → Stands (ends_of app m) s.sent b x2 y2
      → Mods app (slice_set s.modules m x2) s.sent (slice_set ys m y2) b
  set_one m x x2 y y2 ex ey st = set_mods s.sent b m x x2 y y2 ex ey st (λ k _. mods k)

  -- words elsewhere
  frame : (k : ℕ) (a2 b2 : List (List ℕ)) → ((vs : List EndView) (f : ℕ) → OpenAt (ends_of app k) vs f → (slice_get s.sent f ≡ slice_get a2 f) × (slice_get b f ≡ slice_get b2 f))
      → Both (Stands (ends_of app k) a2 b2) (slice_get s.modules k) (slice_get ys k)
  frame k a2 b2 c = both_weaker (Stands es s.sent b) (Stands es a2 b2) (λ x y st. record { present = st.present; is = st.is; alike = both_weaker (Alike es s.sent b) (Alike es a2 b2) (λ p r al. one p r al) x.present st.present st.alike }) (slice_get s.modules k) (slice_get ys k) (mods k)
    where
      es : List End
      es = ends_of app k

      one : (p : Present) (r : OldPresent) → Alike es s.sent b p r → Alike es a2 b2 p r
      one p r al =
          let h = same_all (OpenAt es p.ends) es p.ends (acts_left p.pending) (flowing s.sent (pieces_left p.pending)) (flowing a2 (pieces_left p.pending)) (λ k o. o) (λ k o. (c p.ends k o).0, refl) in
          record {
            pending = al.pending;
            is = al.is;
            owed = subst (λ n. Owes p.pending al.pending n) h.1 al.owed;
            words = λ f o. sym (h.0 f o) ∙ al.words f o ∙ (c p.ends f o).1;
          }

  -- a module goes on with acts, up to the next emit
  module _ (m : ℕ) (x : Standing) (r : Option OldPresent) (ex : slice_get s.modules m ≡ Some x) (ey : slice_get ys m ≡ Some (stand x r))
      (vs : List EndView) (acts : List Act) (n : ℕ) (b2 : List (List ℕ)) where
    abbrev es : List End
    es = ends_of app m

    abbrev f : Flow
    f = sent_first es vs acts (flowing s.sent n)

    abbrev rest : Flow
    rest = all_done es vs (from_emit acts) (flowing f.sent f.pieces)

    module _ (own : (k : ℕ) → OpenAt es vs k → slice_get rest.sent k ≡ slice_get b2 k) (other : (k : ℕ) → (OpenAt es vs k → ⊥) → slice_get b2 k ≡ slice_get b k) where
      went_words : Starts f.sent b2
      went_words k = elim (decided es vs k) [
        | inl o ↦ subst (λ o. Starting (slice_get f.sent k) o) (own k o) (all_starts es vs (from_emit acts) (flowing f.sent f.pieces) k)
        | inr c ↦ subst (λ o. Starting o (slice_get b2 k)) (sym (first_other es vs acts (flowing s.sent n) k c))
            (subst (λ o. Starting (slice_get s.sent k) o) (sym (other k c)) (words k))
      ]

      went_mods : (cells : List ℕ) (w : OldPending) → emits_of (from_emit acts) ≡ w.emits → rest.pieces ≡ w.pieces
          → let p : Present = record { cells = cells; ends = vs; pending = Some (record { acts = from_emit acts; pieces = f.pieces }) } in
          Mods app (slice_set s.modules m (record x { present = Some p })) f.sent (slice_set ys m (stand x (Some (put p (Some w))))) b2
      went_mods cells w e n2 =
          set_mods f.sent b2 m x _ (stand x r) _ ex ey (record { present = Some _; is = refl; alike = record { pending = Some w; is = refl; owed = (e, n2); words = own } }) (λ k ne. frame k f.sent b2 (λ ws g o.
          let no : OpenAt es vs g → ⊥ = λ h. ne (one_sender app few m k vs ws g h o) in
          (sym (first_other es vs acts (flowing s.sent n) g no), sym (other g no))))

  same_state : Sim app s t
  same_state = record { is = refl; mods = mods; words = words }

  undriven_eq : (d : ℕ) → is_undriven app.parts s.modules d ≡ old_is_undriven app.parts ys d
  undriven_eq d = undriven_same d app.parts s.modules ys (λ m. both_weaker (Stands (ends_of app m) s.sent b) _ (λ x y st. some_same (Alike (ends_of app m) s.sent b) x.present st.present st.alike ∙ ap (λ (y : OldStanding). is_some y.present) (sym st.is)) (slice_get s.modules m) (slice_get ys m) (mods m))

  on_reset : (n : ℕ) (cause : Cause) → Next app (step app s (Reset n cause)) (old_step app t (Reset n cause))
  on_reset n cause = with_same app (slice_get s.boots n) _ _ (λ boot e. record {
    is = refl;
    mods = absent_both (λ m. Stands (ends_of app m) s.sent b) (λ m x y st. record { present = None; is = ap (λ (y : OldStanding). record y { present = None }) st.is; alike = tt }) n app.parts s.modules ys mods;
    words = words;
  })

  on_protect : (n m : ℕ) → Next app (step app s (Protect n (Some m))) (old_step app t (Protect n (Some m)))
  on_protect n m = with_same app (slice_get app.parts m) _ _ (λ q eq. with_module m _ _ (λ x r ex ey al.
      with_test app ((q.node == n) && is_none x.present) ((q.node == n) && is_none r) _ _ (λ e. (
        ap (λ z. (q.node == n) && z) (sym (none_same (Alike (ends_of app m) s.sent b) x.present r al)) ∙ e,
        record {
          is = refl;
          mods = set_one m x _ (stand x r) _ ex ey (record { present = _; is = refl; alike = record { pending = None; is = refl; owed = tt; words = λ k o. absurd (all_closed (ends_of app m) o.place o.view o.view_is o.opened) } });
          words = words;
        },
      ))))

  on_sense : (d v : ℕ) → Next app (step app s (Sense d v)) (old_step app t (Sense d v))
  on_sense d v = with_same app (slice_get app.devices d) _ _ (λ w _. with_tested app (is_sensor w.kind) _ _ (λ _. record { is = refl; mods = mods; words = words }))

  on_drain : (d : ℕ) → Next app (step app s (Drain d)) (old_step app t (Drain d))
  on_drain d = with_same app (slice_get s.devices d) _ _ (λ r _.
      with_test app (r.fresh && (kind_is is_sensor (slice_get app.devices d) && is_undriven app.parts s.modules d)) (r.fresh && (kind_is is_sensor (slice_get app.devices d) && old_is_undriven app.parts ys d)) _ _ (λ e. (
        ap (λ z. r.fresh && (kind_is is_sensor (slice_get app.devices d) && z)) (sym (undriven_eq d)) ∙ e,
        record { is = refl; mods = mods; words = words },
      )))

  on_raw : (d v : ℕ) → Next app (step app s (Raw d v)) (old_step app t (Raw d v))
  on_raw d v =
      with_test app (kind_is (λ k. not (is_sensor k)) (slice_get app.devices d) && is_undriven app.parts s.modules d) (kind_is (λ k. not (is_sensor k)) (slice_get app.devices d) && old_is_undriven app.parts ys d) _ _
      (λ e. (ap (λ z. kind_is (λ k. not (is_sensor k)) (slice_get app.devices d) && z) (sym (undriven_eq d)) ∙ e, same_state))

  on_ask : (m a : ℕ) → Next app (step app s (Ask m a)) (old_step app t (Ask m a))
  on_ask m a = with_module m _ _ (λ x r ex ey al. with_tested app (a == s.asks) _ _ (λ _. record {
    is = refl;
    mods = set_one m x _ (stand x r) _ ex ey (record { present = r; is = refl; alike = al });
    words = words;
  }))

  on_attested : (m c : ℕ) → Next app (step app s (Attested m c)) (old_step app t (Attested m c))
  on_attested m c = with_module m _ _ (λ x r ex ey al. with_same app x.asked _ _ (λ a _.
      with_tested app (is_vouched a c x.vouched && may_attest m app.links s.epochs (boot_of x.attested) c) _ _ (λ _. record {
        is = refl;
        mods = set_one m x _ (stand x r) _ ex ey (record { present = r; is = refl; alike = al });
        words = words;
      })))

  on_vouch : (m a : ℕ) → Next app (step app s (Vouch m a)) (old_step app t (Vouch m a))
  on_vouch m a = with_same app (slice_get app.parts m) _ _ (λ q eq. with_module m _ _ (λ x r ex ey al.
      with_idle app (ends_of app m) s.sent b x r _ _ al (λ p ep none er own. with_same app (slice_get s.boots q.node) _ _ (λ boot eb. record {
        is = refl;
        mods = set_one m x _ (stand x r) _ ex ey (record { present = _; is = refl; alike = record { pending = Some (record { emits = []; pieces = 1 }); is = refl; owed = (refl, refl); words = own } });
        words = words;
      }))))

  -- an event
  module _ (m : ℕ) (x : Standing) (r : Option OldPresent) (ex : slice_get s.modules m ≡ Some x) (ey : slice_get ys m ≡ Some (stand x r))
      (vs : List EndView) (acts : List Act) (own : (k : ℕ) → OpenAt (ends_of app m) vs k → slice_get s.sent k ≡ slice_get b k) where
    abbrev o : Flow
    o = record { sent = b; emits = []; pieces = 0 }

    abbrev g : Flow
    g = all_done (ends_of app m) vs acts o

    both_flows : Same (OpenAt (ends_of app m) vs) (rest m x r ex ey vs acts 0 g.sent) g
    both_flows = going (ends_of app m) vs acts (flowing s.sent 0) o (own, refl)

    event_words : Starts (sent_first (ends_of app m) vs acts (flowing s.sent 0)).sent g.sent
    event_words = went_words m x r ex ey vs acts 0 g.sent both_flows.0 (λ k no. all_other (ends_of app m) vs acts o k no)

    event_mods : (cells : List ℕ)
        → let f = sent_first (ends_of app m) vs acts (flowing s.sent 0) in
        let p : Present = record { cells = cells; ends = vs; pending = Some (record { acts = from_emit acts; pieces = f.pieces }) } in
        Mods app (slice_set s.modules m (record x { present = Some p })) f.sent (slice_set ys m (stand x (Some (put p (Some (record { emits = g.emits; pieces = g.pieces })))))) g.sent
    event_mods cells = went_mods m x r ex ey vs acts 0 g.sent both_flows.0 (λ k no. all_other (ends_of app m) vs acts o k no) cells (record { emits = g.emits; pieces = g.pieces })
        (emits_left acts ∙ sym (all_emits (ends_of app m) vs acts o)) both_flows.1

  on_read : (m v : ℕ) → Next app (step app s (Read m v)) (old_step app t (Read m v))
  on_read m v = with_same app (slice_get app.parts m) _ _ (λ q eq. with_module m _ _ (λ x r ex ey al.
      with_idle app (ends_of app m) s.sent b x r _ _ al (λ p ep none er own. with_same app q.device _ _ (λ d ed. with_same app (slice_get s.devices d) _ _ (λ w ew.
      with_tested app (kind_is is_sensor (slice_get app.devices d) && (w.fresh && (w.value == v))) _ _ (λ _. record {
        is = refl;
        mods = event_mods m x r ex ey p.ends (react q.tree (event.Sample v) p.cells).acts own (react q.tree (event.Sample v) p.cells).cells;
        words = event_words m x r ex ey p.ends (react q.tree (event.Sample v) p.cells).acts own;
      }))))))

  on_take : (m c i v : ℕ) → Next app (step app s (Take m c i v)) (old_step app t (Take m c i v))
  on_take m c i v = with_same app (slice_get app.parts m) _ _ (λ q eq. with_module m _ _ (λ x r ex ey al.
      with_idle app (ends_of app m) s.sent b x r _ _ al (λ p ep none er own. with_same app (slice_get app.links c) _ _ (λ l el.
      with_words app (slice_get s.sent (c + 256 * (i / 65536))) (slice_get b (c + 256 * (i / 65536))) _ _ (words (c + 256 * (i / 65536))) (λ ws us more is.
      with_same app (changed_views (takes (i / 65536) (i % 65536)) c To (ends_of app m) p.ends) _ _ (λ views ev.
      let held : (k : ℕ) → OpenAt (ends_of app m) views k → slice_get s.sent k ≡ slice_get b k = λ k o. own k (taken_open (i / 65536) (i % 65536) c (ends_of app m) p.ends views k ev o) in
      with_test app (contains (slice_get ws (i % 65536)) v) (contains (slice_get us (i % 65536)) v) _ _ (λ e. (
        ap (λ us. contains (slice_get us (i % 65536)) v) is ∙ contains_more ws more (i % 65536) v e,
        record {
          is = refl;
          mods = event_mods m x r ex ey views (react q.tree (event.Input l.input v) p.cells).acts held (react q.tree (event.Input l.input v) p.cells).cells;
          words = event_words m x r ex ey views (react q.tree (event.Input l.input v) p.cells).acts held;
        },
      ))))))))

  on_out : (m v : ℕ) → Next app (step app s (Out m v)) (old_step app t (Out m v))
  on_out m v = with_module m _ _ (λ x r ex ey al. with_present app (ends_of app m) s.sent b x.present r _ _ al (λ p w ep _ owes ws.
      with_pending app p.pending w _ _ _ owes (λ o u eo ee en. with_emit app v o.acts u.emits u.pieces _ _ ee (λ left el.
      let fl : flow_at (ends_of app m) p.ends p.pending s.sent ≡ all_done (ends_of app m) p.ends (Emit v ∷ left) (flowing s.sent o.pieces) =
      ap (λ z. flow_at (ends_of app m) p.ends z s.sent) eo ∙ ap (λ acts. all_done (ends_of app m) p.ends acts (flowing s.sent o.pieces)) el in
      let h = going (ends_of app m) p.ends left (flowing s.sent o.pieces) (done (ends_of app m) p.ends (Emit v) (flowing s.sent o.pieces)) (λ k o. refl, refl) in
      let own : (k : ℕ) → OpenAt (ends_of app m) p.ends k → slice_get (rest m x r ex ey p.ends left o.pieces b).sent k ≡ slice_get b k = λ k z. h.0 k z ∙ ap (λ (f : Flow). slice_get f.sent k) (sym fl) ∙ ws k z in
      record {
        is = refl;
        mods = went_mods m x r ex ey p.ends left o.pieces b own (λ k _. refl) p.cells (record { emits = emits_of left; pieces = u.pieces }) (emits_left left) (h.1 ∙ ap (λ (f : Flow). f.pieces) (sym fl) ∙ en);
        words = went_words m x r ex ey p.ends left o.pieces b own (λ k _. refl);
      }))))

  on_done : (m status k : ℕ) → Next app (step app s (Done m status k)) (old_step app t (Done m status k))
  on_done m status k = with_same app (slice_get app.parts m) _ _ (λ q eq. with_module m _ _ (λ x r ex ey al. with_present app (ends_of app m) s.sent b x.present r _ _ al (λ p w ep _ owes ws.
      with_if app (status == 1) _ _ _ _
      (with_pending app p.pending w _ _ _ owes (λ o u eo ee en.
      with_test app (is_nothing o.acts && (k == o.pieces)) (old_is_nothing u.emits && (k == u.pieces)) _ _ (λ e.
      let a = and_parts (is_nothing o.acts) (k == o.pieces) e in
      let no = nothing_is o.acts a.0 in
      let fl : flow_at (ends_of app m) p.ends p.pending s.sent ≡ flowing s.sent o.pieces =
      ap (λ z. flow_at (ends_of app m) p.ends z s.sent) eo ∙ ap (λ acts. all_done (ends_of app m) p.ends acts (flowing s.sent o.pieces)) no in (
        and_from (old_is_nothing u.emits) (k == u.pieces) (ap (λ z. old_is_nothing z) (sym ee ∙ ap (λ z. emits_of z) no)) (ap (λ z. k == z) (sym en ∙ ap (λ (f : Flow). f.pieces) fl) ∙ a.1),
        record {
          is = refl;
          mods = set_one m x _ (stand x r) _ ex ey (record { present = _; is = refl; alike = record { pending = None; is = refl; owed = tt; words = λ j z. ap (λ (f : Flow). slice_get f.sent j) (sym fl) ∙ ws j z } });
          words = words;
        },
      ))))
      (with_test app ((nat_le 2 status && nat_le status 8) && ((k == 0) && (is_none p.pending && (not (status == 8) || waits app s.devices q.device))))
      ((nat_le 2 status && nat_le status 8) && ((k == 0) && (is_none w && (not (status == 8) || waits app s.devices q.device)))) _ _ (λ e. (
        ap (λ z. (nat_le 2 status && nat_le status 8) && ((k == 0) && (z && (not (status == 8) || waits app s.devices q.device)))) (sym (none_owed p.pending w _ owes)) ∙ e,
        same_state,
      ))))))

  -- the field of an end that opens has no words
  module _ (unsent : AllUnsent app t) where
    unsent_field : (m c epoch : ℕ) (q : PartTree) (x : Standing) (r : Option OldPresent) (p : Present) (boot : ℕ) (views : List EndView) → slice_get app.parts m ≡ Some q → slice_get ys m ≡ Some (stand x r)
        → r ≡ Some (put p None) → slice_get s.boots q.node ≡ Some boot → changed_views (opens epoch) c From (ends_of app m) p.ends ≡ Some views
        → may_open x.attested boot c epoch (slice_index s.epochs c) ≡ true → slice_get s.sent (c + 256 * epoch) ≡ slice_get b (c + 256 * epoch)
    unsent_field m c epoch q x r p boot views eq ey er eb ev may =
        let a = changed_at (opens epoch) c From (ends_of app m) p.ends views ev in
        let l = link_of_end app c From m p.ends a.old a.was in
        let h = unsent m c q l.0 eq l.1 l.2 in
        let standing : h.held.standing ≡ stand x r = same_Some h.held.standing (stand x r) (sym h.held.here ∙ ey) in
        let view : view_of app m c From h.held.standing ≡ Some a.old =
        ap (λ x. view_of app m c From x) standing ∙ ap (λ o. o >>? (λ (p : OldPresent). view_at c From (ends_of app m) p.ends)) er ∙ a.was in
        let at : slice_index s.boots q.node ≡ boot = get_or_from_slice_get s.boots q.node boot 0 eb in
        let top : slice_index s.epochs c ≡ h.held.epoch = get_or_from_slice_get s.epochs c h.held.epoch 0 h.held.there in
        let may2 : may_open h.held.standing.attested (slice_index s.boots q.node) c epoch h.held.epoch ≡ true =
        ap (λ (z : OldStanding). may_open z.attested (slice_index s.boots q.node) c epoch h.held.epoch) standing
        ∙ ap (λ n. may_open x.attested n c epoch h.held.epoch) at ∙ ap (λ n. may_open x.attested boot c epoch n) (sym top) ∙ may in
        let o = held_opened c h.next h.number (slice_index s.boots q.node) h.held.epoch h.held.standing.attested h.held.standing.vouched (view_of app m c From h.held.standing) h.held.held epoch a.old a.new view a.made may2 in
        empty_same (slice_get s.sent (c + 256 * epoch)) (slice_get b (c + 256 * epoch)) (words (c + 256 * epoch)) (λ j. h.none epoch j o.0)

    on_open : (m c : ℕ) (side : Side) (epoch : ℕ) → Next app (step app s (Open m c side epoch)) (old_step app t (Open m c side epoch))
    on_open m c side epoch = with_same app (slice_get app.parts m) _ _ (λ q eq. with_module m _ _ (λ x r ex ey al.
        with_idle app (ends_of app m) s.sent b x r _ _ al (λ p ep none er own. with_same app (slice_get s.boots q.node) _ _ (λ boot eb.
        with_same app (changed_views (opens epoch) c side (ends_of app m) p.ends) _ _ (λ views ev.
        with_tested app (may_open x.attested boot c epoch (slice_index s.epochs c)) _ _ (λ may. record {
          is = refl;
          mods = set_one m x _ (stand x r) _ ex ey (record {
            present = _;
            is = refl;
            alike = record {
              pending = Some (record { emits = []; pieces = 0 });
              is = refl;
              owed = (refl, refl);
              words = λ k o. elim (changed_open (opens epoch) c side (ends_of app m) p.ends views k ev o) [
                | inl z ↦ own k z
                | inr z ↦
                    let it = and_parts (z.end.link == c) (same_side z.end.side side) z.it in
                    let is_side : side ≡ From = sym (same_side-true z.end.side side it.1) ∙ same_side-true z.end.side From z.from in
                    let field : k ≡ c + 256 * epoch = sym z.at ∙ ap (λ o. field_at z.end.link o) (opens_epoch epoch z.old z.new z.made) ∙ ap (λ n. n + 256 * epoch) (eqb-true z.end.link c it.0) in
                    let changed : changed_views (opens epoch) c From (ends_of app m) p.ends ≡ Some views =
                    ap (λ d. changed_views (opens epoch) c d (ends_of app m) p.ends) (sym is_side) ∙ ev in
                    subst (λ k. slice_get s.sent k ≡ slice_get b k) (sym field) (unsent_field m c epoch q x r p boot views eq ey er eb changed may)
              ];
            };
          });
          words = words;
        }))))))

    on_item : (i : Item) → Next app (step app s i) (old_step app t i)
    on_item (Reset n cause) = on_reset n cause
    on_item (Protect n None) = same_state
    on_item (Protect n (Some m)) = on_protect n m
    on_item (Sense d v) = on_sense d v
    on_item (Read m v) = on_read m v
    on_item (Drain d) = on_drain d
    on_item (Ask m a) = on_ask m a
    on_item (Attested m c) = on_attested m c
    on_item (Denied m) = same_state
    on_item (Vouch m a) = on_vouch m a
    on_item (Open m c side epoch) = on_open m c side epoch
    on_item (Take m c i v) = on_take m c i v
    on_item (Out m v) = on_out m v
    on_item (Raw d v) = on_raw d v
    on_item (Done m status k) = on_done m status k
    on_item (Packet k n) = same_state
    on_item (Forged m) = same_state
    on_item (Busy n) = same_state
    on_item (Skip n) = same_state
    on_item (Budget n) = same_state

module _ (app : AppTree) (few : length app.links ≤ 256) where
  one_item : (s : Model) (t : OldModel) → Sim app s t → AllUnsent app t → (i : Item) → Next app (step app s i) (old_step app t i)
  one_item s t sim unsent i =
      subst (λ t. Next app (step app s i) (old_step app t i)) (sym sim.is)
      (on_item app few s t.modules t.sent sim.mods sim.words (subst (λ t. AllUnsent app t) sim.is unsent) i)

  along : (items : List Item) (s : Model) (t : OldModel) → Sim app s t → AllUnsent app t → IsSome (after app s items) → IsSome (old_after app t items)
  along [] s t sim unsent h = refl
  along (i ∷ items) s t sim unsent h = go (step app s i) (old_step app t i) refl (one_item s t sim unsent i) h (λ s2 t2 sim2 unsent2 h2. along items s2 t2 sim2 unsent2 h2)
    where
      go : (o : Option Model) (p : Option OldModel) → old_step app t i ≡ p → Next app o p → IsSome (option_and_then (λ s. after app s items) o)
          → ((s : Model) (t : OldModel) → Sim app s t → AllUnsent app t → IsSome (after app s items) → IsSome (old_after app t items))
          → IsSome (option_and_then (λ t. old_after app t items) p)
      go None p e n h more = absurd cc
      go (Some s2) None e n h more = absurd n
      go (Some s2) (Some t2) e n h more = more s2 t2 n (unsent_on app few t t2 i e unsent) h

  sim_first : Sim app (power_on app) (old_power_on app)
  sim_first = record { is = refl; mods = λ m. none_here m app.parts m; words = λ k. starting_same (slice_get (power_on app).sent k) }
    where
      none_here : (k : ℕ) (qs : List PartTree) (m : ℕ)
          → Both (Stands (ends_of app k) (power_on app).sent (power_on app).sent) (slice_get {X = Standing} (map (λ p. record { present = None; asked = None; vouched = []; attested = None }) qs) m)
          (slice_get {X = OldStanding} (map (λ p. record { present = None; asked = None; vouched = []; attested = None }) qs) m)
      none_here k [] m = tt
      none_here k (q ∷ qs) zero = record { present = None; is = refl; alike = tt }
      none_here k (q ∷ qs) (suc m) = none_here k qs m

pub in_order_is_legal : (app : AppTree) (items : List Item) → length app.links ≤ 256 → LegalInOrder app items → Legal app items
in_order_is_legal app items few legal = along app few items (power_on app) (old_power_on app) (sim_first app few) (unsent_first app) legal
