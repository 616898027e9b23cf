-- One step of a node on which a deployed module is under way.
use Rattle.std.proofs.Common.{◌≡◌, ℕ, ◌⊎◌, inl, inr, true, List, [], ◌∷◌, ◌++◌, length, Some, None, refl, sym, ◌∙◌, ap, subst}
use Rattle.std.specs.Prelude.{slice_get, slice_set, slice_index, is_some}
use Rattle.std.proofs.lemmas.List.{append-nil, append_assoc, set-set}
use Rattle.sx_rules.specs.declared.access.Violation.{Violation}
use Rattle.sx_rules.specs.declared.section.Section.{Section}
use Rattle.sx_bus.specs.declared.devices.Window.{Window}
use Rattle.sx_trace.specs.declared.items.Item.{Item}
use Rattle.sx_trace.specs.declared.items.Item.TheVariants as item
use Rattle.sx_tag.specs.Mac.{Mac}
use Rattle.spec_machine.specs.declared.kinds.Event.{Event}
use Rattle.spec_machine.specs.declared.kinds.Seen.{Seen}
use Rattle.spec_machine.specs.State.{State}
use Rattle.spec_machine.specs.Step.{Shown, step, own_of}
use Rattle.sx_image.specs.Reach.{Goes, Comes, Here, Next, Ends}
use Rattle.sx_image.proofs.Reaching.{one_step}
use Rattle.spec_invocation.specs.Setup.{Setup}
use Rattle.spec_invocation.specs.ModuleState.{state_of, link_of, epoch_of}
use Rattle.spec_invocation.specs.Marks.{Mark, Wrapped}
use Rattle.sx_image.specs.Watched.{Watched, watch, violation_of, marks_of}
use Rattle.spec_invocation.specs.Progress.{Invoked, marks_in}
use Rattle.sx_image.specs.Image.{private_bytes, setup_at}
use Rattle.sx_image.specs.Realizes.{Underway, Aborted, Exited}
use Rattle.sx_mean.specs.Application.{PartTree, AppTree}
use Rattle.sx_mean.specs.Ends.{ends_of}
use Rattle.sx_lang.specs.declared.sides.Side.TheVariants.{From}
use Rattle.sx_model.specs.State.{FIELDS}
use Rattle.sx_model.specs.order.State.{Present, Standing, Model}
use Rattle.sx_model.specs.Step.{is_vouched}
use Rattle.spec_run.specs.Setting.{Setting}
use Rattle.spec_run.specs.Ledger.{Made, is_made}
use Rattle.spec_run.specs.Observation.{Observed, observed}
use Rattle.spec_run.proofs.tie.Lists.{some_inj}
use Rattle.spec_run.proofs.tie.Flows.{Flows, flows_same, flows_on}
use Rattle.spec_run.proofs.tie.Verdicts.{judge, Fares, fares_then, fares_map}
use Rattle.spec_run.proofs.tie.Tied.{open_at, AtLeast, Owes, Known, IsSane, IsUnderWay, SameState}
use Rattle.spec_run.proofs.tie.Moves.{IsOwn, Moved, known_moved, sane_moved}
use Rattle.spec_run.proofs.steps.Judged.{Readings, Finished, done_owes}
use Rattle.spec_run.proofs.steps.Events.{left_outside, not_left}
use Rattle.spec_run.proofs.steps.Stretch.{readings_all, marks_seen, Moves, HasMarks, Nexts, marks_fares, IsPlain, done_items, seen_as_marks}
use Rattle.lemmas.proofs.Lists.{get_same}

append_cancel : {X : Type 0} → (xs ys zs : List X) → xs ++ ys ≡ xs ++ zs → ys ≡ zs
append_cancel [] ys zs h = h
append_cancel (x ∷ xs) ys zs h = append_cancel xs ys zs cc

-- the next state that is watched
abbrev pub watched_next : Mac → State → List Mark → Watched
watched_next mac s seen = record { node = (step mac s).state; marks = seen ++ marks_of (step mac s).shown (step mac s).state.exchange; event = (step mac s).shown.event }

watch_goes : (mac : Mac) (s : State) (seen : List Mark) (last : Event) → violation_of (step mac s).shown.event ≡ None
    → watch mac (record { node = s; marks = seen; event = last }) ≡ Goes (watched_next mac s seen)
unfolding watch
watch_goes mac s seen last e = rw e refl

-- where a module is under way, it is so after the step, or it left by it
pub data Behind (setup : Setup) (result : Invoked) (before : State) (w : Watched) : Type 0 where
  Still : (bound : ℕ) → Underway setup result before w → Comes Watched Violation (watch setup.mac) (λ w. 1) (Underway setup result before) (Aborted result) (Exited setup result before) bound w
      → Behind setup result before w
  Out : Exited setup result before w → Behind setup result before w

behind_of : (setup : Setup) (result : Invoked) (before : State) (w : Watched) (bound : ℕ)
    → Comes Watched Violation (watch setup.mac) (λ w. 1) (Underway setup result before) (Aborted result) (Exited setup result before) bound w → Behind setup result before w
behind_of setup result before w bound (Here q) = Out q
behind_of setup result before w bound (Next {k = k} {t = t} p e c r) = Still bound p (Next {k = k} {t = t} p e c r)
behind_of setup result before w bound (Ends {v = v} p e c b) = Still bound p (Ends {v = v} p e c b)

module _ (set : Setting) (m : ℕ) (q : PartTree) (s : State) (sec : Section) (pr : Present) (sent : List (List ℕ)) (u : IsUnderWay set q.node m q s sec pr sent)
    (quiet : violation_of (step set.mac s).shown.event ≡ None) where
  abbrev setup : Setup
  setup = setup_at set.mac q.tree (ends_of set.app m) sec u.before

  abbrev t : Watched
  t = watched_next set.mac s u.seen

  abbrev ms : List Mark
  ms = marks_of (step set.mac s).shown (step set.mac s).state.exchange

  -- what one step of the run gives
  pub stepped_on : (Exited setup u.result u.before (record { node = s; marks = u.seen; event = u.last }) → ⊥)
      → Underway setup u.result u.before (record { node = s; marks = u.seen; event = u.last }) × Behind setup u.result u.before t
  stepped_on runs =
      elim (one_step Watched Violation (watch set.mac) (λ w. 1) (Underway setup u.result u.before) (Aborted u.result) (Exited setup u.result u.before) u.bound
      (record { node = s; marks = u.seen; event = u.last }) t (watch_goes set.mac s u.seen u.last quiet) u.comes) [
        | inl out ↦ absurd (runs out)
        | inr on ↦ (on.2, behind_of setup u.result u.before t on.0 on.3)
      ]

  -- the marks to come are those of the step and then the rest
  pub rest_of : (rest : List Mark) → (u.seen ++ ms) ++ rest ≡ marks_in u.result → u.rest ≡ ms ++ rest
  rest_of rest e = append_cancel u.seen u.rest (ms ++ rest) (u.all ∙ sym e ∙ append_assoc u.seen ms rest)

-- Where the source follows the step: the module is still under way, or it is idle in the state that its private section represents.

pub record StillRuns (set : Setting) (m : ℕ) (q : PartTree) (sec : Section) (t : State) (ms : List Mark) (x : Standing) (mo : Model) (ledger : List Made) (mo' : Model) : Type 0 where
  pub y : Standing
  pub moves : Moves set.app q.node m ms x y mo mo'
  pub pr : Present
  pub present : y.present ≡ Some pr
  pub under : IsUnderWay set q.node m q t sec pr mo'.sent
  pub inside : own_of t ≡ sec.id
  pub sane : IsSane set.app mo'
  pub known : (e : Made) → is_made ledger e ≡ true → Known set.app mo' e.maker e

pub record RestsNow (set : Setting) (m : ℕ) (q : PartTree) (sec : Section) (t : State) (ms : List Mark) (x : Standing) (mo : Model) (ledger : List Made) (mo' : Model) : Type 0 where
  pub y : Standing
  pub moves : Moves set.app q.node m ms x y mo mo'
  pub pr : Present
  pub present : y.present ≡ Some pr
  pub idle : pr.pending ≡ None
  pub cur : t.cur ≡ 0
  pub state : SameState (ends_of set.app m) (state_of q.tree (ends_of set.app m) (private_bytes sec.layout t.mem)) pr.cells pr.ends mo'.sent
  pub sane : IsSane set.app mo'
  pub known : (e : Made) → is_made ledger e ≡ true → Known set.app mo' e.maker e

moves_last : (app : AppTree) (n m : ℕ) (ms : List Mark) (x y z : Standing) (mo mo1 mo2 : Model) → Moves app n m ms x y mo mo1 → Moves app n m [] y z mo1 mo2 → Moves app n m ms x z mo mo2
moves_last app n m ms x y z mo mo1 mo2 f g = record {
  boots = g.boots ∙ f.boots;
  asks = g.asks ∙ f.asks;
  epochs = g.epochs ∙ f.epochs;
  modules = g.modules ∙ ap (λ s. slice_set s m z) f.modules ∙ set-set mo.modules m y z;
  asked = g.asked ∙ f.asked;
  attested = g.attested ∙ f.attested;
  vouched = λ a b t. g.vouched a b (f.vouched a b t);
  devices = g.devices ∙ f.devices;
  sent = flows_on (IsOwn app m) mo.sent mo1.sent mo2.sent f.sent g.sent;
}

no_more : (seen ms : List Mark) (all : List Mark) → seen ++ ms ≡ all → (seen ++ ms) ++ [] ≡ all
no_more seen ms all e = append-nil (seen ++ ms) ∙ e

either_marks : (ms : List Mark) → (ms ≡ []) ⊎ HasMarks ms
either_marks [] = inl refl
either_marks (mark ∷ ms) = inr tt

module _ (set : Setting) (m : ℕ) (q : PartTree) (s : State) (sec : Section) (x : Standing) (pr : Present) (boot : ℕ) (mo : Model) (ledger : List Made)
    (part : slice_get set.app.parts m ≡ Some q) (there : slice_get mo.modules m ≡ Some x) (boots : slice_get mo.boots q.node ≡ Some boot) (present : x.present ≡ Some pr)
    (sane : IsSane set.app mo) (known : (e : Made) → is_made ledger e ≡ true → Known set.app mo e.maker e) (sizes : length mo.sent ≡ FIELDS)
    (readings : Readings set.app m q x pr boot mo ledger part there boots present sane known s.devices)
    (u : IsUnderWay set q.node m q s sec pr mo.sent) (quiet : violation_of (step set.mac s).shown.event ≡ None) where
  abbrev r : Shown Seen
  r = step set.mac s

  abbrev made_marks : List Mark
  made_marks = marks_of r.shown r.state.exchange

  abbrev seen_now : Observed
  seen_now = marks_seen set.app q.node m boot made_marks ledger

  abbrev IsHere : List Window → Type 0
  IsHere d = d ≡ s.devices

  marks_first : (rest : List Mark) → u.rest ≡ made_marks ++ rest
      → Fares (judge set.app mo seen_now.items) (Nexts set.app m q x mo made_marks seen_now.ledger IsHere rest u.result)
  marks_first rest e =
      marks_fares set.app m q boot part u.result rest made_marks x pr mo ledger there boots present sane known sizes IsHere s.devices refl readings
      (λ d h. subst (λ (z : List Window). Owes set.app q.node m q z pr mo.sent (made_marks ++ rest) u.result) (sym h) (subst (λ z. Owes set.app q.node m q s.devices pr mo.sent z u.result) e u.owes))

  -- still under way
  still_fares : (bound : ℕ) (inside : own_of r.state ≡ sec.id) (same : made_marks ≡ [] → r.state.devices ≡ s.devices) → (rest : List Mark) → (u.seen ++ made_marks) ++ rest ≡ marks_in u.result
      → Comes Watched Violation (watch set.mac) (λ w. 1) (Underway (setup_at set.mac q.tree (ends_of set.app m) sec u.before) u.result u.before) (Aborted u.result)
      (Exited (setup_at set.mac q.tree (ends_of set.app m) sec u.before) u.result u.before) bound (watched_next set.mac s u.seen)
      → Fares (judge set.app mo seen_now.items) (StillRuns set m q sec r.state made_marks x mo seen_now.ledger)
  still_fares bound inside same rest e comes =
      fares_map (judge set.app mo seen_now.items) (Nexts set.app m q x mo made_marks seen_now.ledger IsHere rest u.result) (StillRuns set m q sec r.state made_marks x mo seen_now.ledger)
      (λ mo1 h. record {
        y = h.y;
        moves = h.moves;
        pr = h.pr;
        present = h.present;
        under = record {
          before = u.before;
          bound = bound;
          seen = u.seen ++ made_marks;
          last = r.shown.event;
          rest = rest;
          result = u.result;
          comes = comes;
          all = e;
          owes = h.owes r.state.devices (elim (either_marks made_marks) [ inl none ↦ inl (same none) | inr some ↦ inr some ]);
        };
        inside = inside;
        sane = h.sane;
        known = h.known;
      })
      (marks_first rest (rest_of set m q s sec pr mo.sent u quiet rest e))

  -- the module leaves
  leave_fares : Exited (setup_at set.mac q.tree (ends_of set.app m) sec u.before) u.result u.before (watched_next set.mac s u.seen)
      → Fares (judge set.app mo (seen_now.items ++ done_items m r.state r.shown.event)) (RestsNow set m q sec r.state made_marks x mo seen_now.ledger)
  leave_fares out =
      let p = out.progress in
      let done : ℕ → ℕ → List Item = λ a b. item.Done m a b ∷ [] in
      let items : done_items m r.state r.shown.event ≡ item.Done m out.status (length p.pieces) ∷ [] =
      ap (done_items m r.state) out.left
      ∙ ap (λ (g : List ℕ). item.Done m (slice_index g 12) (slice_index g 13) ∷ []) out.registers in
      let all : (u.seen ++ made_marks) ++ [] ≡ marks_in u.result = no_more u.seen made_marks (marks_in u.result) (out.marks ∙ sym (ap marks_in out.returns)) in
      subst (λ is. Fares (judge set.app mo (seen_now.items ++ is)) (RestsNow set m q sec r.state made_marks x mo seen_now.ledger)) (sym items)
      (fares_then set.app mo seen_now.items (item.Done m out.status (length p.pieces) ∷ [])
      (Nexts set.app m q x mo made_marks seen_now.ledger IsHere [] u.result) (RestsNow set m q sec r.state made_marks x mo seen_now.ledger)
      (marks_first [] (rest_of set m q s sec pr mo.sent u quiet [] all))
      (λ mo1 h.
      let there1 : slice_get mo1.modules m ≡ Some h.y = rw h.moves.modules (get_same mo.modules m h.y x there) in
      let boots1 : slice_get mo1.boots q.node ≡ Some boot = rw h.moves.boots boots in
      let Fin = Finished set.app m q h.y h.pr boot mo1 seen_now.ledger part there1 boots1 h.present h.sane h.known p in
      let go : (d : List Window) → Owes set.app q.node m q d h.pr mo1.sent [] u.result → Readings set.app m q h.y h.pr boot mo1 seen_now.ledger part there1 boots1 h.present h.sane h.known d
      → Fares (judge set.app mo1 (item.Done m out.status (length p.pieces) ∷ [])) Fin =
      λ d o rd. done_owes set.app m q h.y h.pr boot mo1 seen_now.ledger part there1 boots1 h.present h.sane h.known d rd out.status p
      (subst (λ z. Owes set.app q.node m q d h.pr mo1.sent [] z) out.returns o) in
      fares_map (judge set.app mo1 (item.Done m out.status (length p.pieces) ∷ [])) Fin (RestsNow set m q sec r.state made_marks x mo seen_now.ledger)
      (λ mo2 f.
      let moved : Moved set.app q.node m (Wrapped [] [] true) h.y f.y mo1 mo2 = record {
        boots = ap (λ (z : Model). z.boots) f.changed;
        asks = ap (λ (z : Model). z.asks) f.changed;
        epochs = ap (λ (z : Model). z.epochs) f.changed;
        modules = ap (λ (z : Model). z.modules) f.changed;
        asked = f.asked;
        attested = f.attested;
        vouched = λ a b t. subst (λ v. is_vouched a b v ≡ true) (sym f.vouched) t;
        devices = ap (λ (z : Model). z.devices) f.changed;
        sent = subst (λ z. Flows (IsOwn set.app m) mo1.sent z) (sym (ap (λ (z : Model). z.sent) f.changed)) (flows_same (IsOwn set.app m) mo1.sent);
      } in
      record {
        y = f.y;
        moves = moves_last set.app q.node m made_marks x h.y f.y mo mo1 mo2 h.moves
            (record {
              boots = moved.boots;
              asks = moved.asks;
              epochs = moved.epochs;
              modules = moved.modules;
              asked = moved.asked;
              attested = moved.attested;
              vouched = moved.vouched;
              devices = moved.devices;
              sent = moved.sent;
            });
        pr = f.pr2;
        present = f.there2;
        idle = f.idle2;
        cur = out.idle;
        state = subst (λ z. SameState (ends_of set.app m) z f.pr2.cells f.pr2.ends mo2.sent) (sym out.state)
            (subst (λ z. SameState (ends_of set.app m) p.state f.pr2.cells f.pr2.ends z) (sym (ap (λ (z : Model). z.sent) f.changed)) f.state);
        sane = sane_moved set.app q.node m (Wrapped [] [] true) h.y f.y mo1 mo2 there1 moved h.sane
            (λ q2 b pk bk.
            let t = h.sane.timely m q2 h.y b pk there1 bk in
            record {
              vouched = λ a k v. elim (t.vouched a k (subst (λ w. is_vouched a k w ≡ true) f.vouched v)) [ inl lt ↦ inl lt | inr g ↦ inr (g.0, ap is_some f.there2) ];
              attested = λ k v. elim (t.attested k (sym f.attested ∙ v)) [ inl lt ↦ inl lt | inr g ↦ inr (g.0, ap is_some f.there2) ];
              opened = λ p2 c side n pe o.
                  let e2 : f.pr2 ≡ p2 = some_inj f.pr2 p2 (sym f.there2 ∙ pe) in
                  let o2 : open_at c side (ends_of set.app m) h.pr.ends ≡ Some n = subst (λ v. open_at c side (ends_of set.app m) v ≡ Some n) (sym (ap (λ (z : Present). z.ends) e2) ∙ f.ends) o in
                  let b2 = t.opened h.pr c side n h.present o2 in (b2.0, f.attested ∙ b2.1, b2.2, b2.3);
            })
            (λ c l q2 b words lk own pk bk wk.
            let wk1 : slice_get mo1.sent c ≡ Some words = subst (λ z. slice_get z c ≡ Some words) (ap (λ (z : Model). z.sent) f.changed) wk in
            elim (h.sane.unsent c l q2 h.y b words lk (subst (λ j. slice_get set.app.parts j ≡ Some q2) (sym own) pk) (subst (λ j. slice_get mo1.modules j ≡ Some h.y) (sym own) there1) bk wk1) [
              | inl none ↦ inl none
              | inr hs ↦ inr (
                hs.0,
                f.attested ∙ hs.1,
                hs.2,
                elim hs.3 [
                  | inl lt ↦ inl lt
                  | inr o ↦ inr (
                    f.pr2,
                    f.there2,
                    subst (λ v. AtLeast (epoch_of c) (open_at (link_of c) From (ends_of set.app m) v))
                        (sym (f.ends ∙ ap (λ (z : Present). z.ends) (some_inj h.pr o.0 (sym h.present ∙ o.1))))
                        (subst (λ j. AtLeast (epoch_of c) (open_at (link_of c) From (ends_of set.app j) o.0.ends)) own o.2),
                  )
                ],
              )
            ]);
        known = λ k w. known_moved set.app q.node m (Wrapped [] [] true) h.y f.y mo1 mo2 there1 moved k.maker k (h.known k w);
      })
      (elim (either_marks made_marks) [
        | inl none ↦ go s.devices (h.owes s.devices (inl refl))
            (λ k w e sensor.
            let g = readings k w e sensor in (
              g.0,
              subst (λ z. slice_get z (Rattle.spec_run.specs.Setting.device_number set.app q.node k) ≡ Some g.0)
                  (sym (h.moves.devices ∙ ap (λ z. readings_all set.app q.node z mo.devices) none)) g.1,
              g.2,
            ))
        | inr some ↦ go [] (h.owes [] (inr some)) (λ k w e sensor. absurd cc)
      ])))

  -- one step of the node, not a reset: what is seen is allowed, or forged, and the module is still under way or rests
  pub under_way_fares : (Exited (setup_at set.mac q.tree (ends_of set.app m) sec u.before) u.result u.before
      (record { node = s; marks = u.seen; event = u.last }) → ⊥) → IsPlain r.shown.event → r.state.boot ≡ boot
      → (made_marks ≡ [] → r.state.devices ≡ s.devices)
      → (let o = observed set q.node (Some m) r.state r.shown ledger in
      Fares (judge set.app mo o.items) (λ mo'. StillRuns set m q sec r.state made_marks x mo o.ledger mo' ⊎ RestsNow set m q sec r.state made_marks x mo o.ledger mo'))
  under_way_fares runs plain same_boot same_devices =
      let seen : observed set q.node (Some m) r.state r.shown ledger ≡ record { items = seen_now.items ++ done_items m r.state r.shown.event; ledger = seen_now.ledger } =
      seen_as_marks set q.node m r.state r.shown ledger plain
      ∙ ap (λ b. record {
        items = (marks_seen set.app q.node m b made_marks ledger).items ++ done_items m r.state r.shown.event;
        ledger =
            (marks_seen set.app q.node m b made_marks ledger).ledger;
      }) same_boot in
      subst (λ (o : Observed). Fares (judge set.app mo o.items)
      (λ mo'. StillRuns set m q sec r.state made_marks x mo o.ledger mo' ⊎ RestsNow set m q sec r.state made_marks x mo o.ledger mo')) (sym seen)
      (elim ((stepped_on set m q s sec pr mo.sent u quiet runs).1) [
        | Out out ↦
            fares_map (judge set.app mo (seen_now.items ++ done_items m r.state r.shown.event)) (RestsNow set m q sec r.state made_marks x mo seen_now.ledger) _ (λ mo' h. inr h) (leave_fares out)
        | Still bound on comes ↦
            let none : done_items m r.state r.shown.event ≡ [] =
            not_left r.shown.event (λ l. left_outside set.mac s l (on.inside ∙ sym ((stepped_on set m q s sec pr mo.sent u quiet runs).0.inside))) m r.state in
            subst (λ is. Fares (judge set.app mo (seen_now.items ++ is))
            (λ mo'. StillRuns set m q sec r.state made_marks x mo seen_now.ledger mo'
            ⊎ RestsNow set m q sec r.state made_marks x mo seen_now.ledger mo')) (sym none)
            (subst (λ is. Fares (judge set.app mo is) (λ mo'. StillRuns set m q sec r.state made_marks x mo seen_now.ledger mo'
            ⊎ RestsNow set m q sec r.state made_marks x mo seen_now.ledger mo')) (sym (append-nil seen_now.items))
            (fares_map (judge set.app mo seen_now.items) (StillRuns set m q sec r.state made_marks x mo seen_now.ledger) _
            (λ mo' h. inl h) (still_fares bound on.inside same_devices on.marks.0 on.marks.1 comes)))
      ])

  -- the sections stay
  pub under_way_sections : (Exited (setup_at set.mac q.tree (ends_of set.app m) sec u.before) u.result u.before
      (record { node = s; marks = u.seen; event = u.last }) → ⊥) → r.state.sections ≡ s.sections
  under_way_sections runs =
      let both = stepped_on set m q s sec pr mo.sent u quiet runs in
      behind_sections both.1 ∙ sym both.0.sections
    where
      behind_sections : Behind (setup_at set.mac q.tree (ends_of set.app m) sec u.before) u.result u.before (watched_next set.mac s u.seen) → r.state.sections ≡ u.before.sections
      behind_sections (Out out) = out.sections
      behind_sections (Still bound on comes) = on.sections
