-- From power-on to the first `forged`, and what it then is.
use Rattle.std.proofs.Common.{◌≡◌, ℕ, zero, suc, ◌+◌, ◌<◌, ◌≤◌, ◌⊎◌, inl, inr, List, [], ◌∷◌, ◌++◌, Option, Some, refl, sym, ◌∙◌, ap, subst, arith, length}
use Rattle.std.specs.Prelude.{slice_get}
use Rattle.sx_trace.specs.declared.items.Item.{Item}
use Rattle.sx_trace.specs.declared.items.Item.TheVariants as item
use Rattle.spec_machine.specs.State.{State}
use Rattle.sx_sched.specs.Lines.{Line}
use Rattle.spec_run.specs.Setting.{Setting}
use Rattle.spec_run.specs.State.{World, switched_on}
use Rattle.spec_run.specs.Law.{IsSoundSetting, LinesInForm}
use Rattle.spec_run.specs.Accepted.{setting_of, sites_of}
use Rattle.spec_run.proofs.accepted.Settled.{settled}
use Rattle.spec_run.proofs.accepted.FormedLines.{lines_in_form}
use Rattle.sx_deploy.proofs.Sound.{sound}
use Rattle.spec_run.specs.Acts.{at_node, after_step}
use Rattle.spec_run.specs.Run.{run}
use Rattle.spec_run.proofs.tie.Lists.{some_inj}
use Rattle.law_isolation.specs.Happening.{Happening, done}
use Rattle.law_isolation.specs.Script.{Script, End, Do, looks, performed}
use Rattle.law_isolation.specs.Lines.{script_of}
use Rattle.law_isolation.proofs.Guarding.{on_placed}
use Rattle.law_isolation.proofs.Performing.{is_performed}
use Rattle.law_forgery.specs.Moments.{Moment, moment_from, moment, shown_at, IsAmong, NoForged, NoneBefore}
use Rattle.law_forgery.specs.Forgery.{ForgedUnmade, ForgedShown, ForgedIsForgery}
use Rattle.law_forgery.specs.Accepted.{AcceptedForged}
use Rattle.law_forgery.specs.Logged.{IsEntered, LedgerTells}
use Rattle.law_forgery.proofs.Turns.{AllTurn}
use Rattle.law_forgery.proofs.Reaching.{InForm, ScriptInForm, done_turns, lines_form, starts_turning}
use Rattle.law_forgery.proofs.Logging.{AllLogged, NextWraps, done_logged, starts_logged}
use Rattle.law_forgery.proofs.Keeping.{AllKeyed, later_all, done_keyed, starts_keyed}
use Rattle.law_forgery.proofs.Boots.{boots_few}
use Rattle.law_forgery.proofs.Forgeries.{Stood, step_forges, step_sends, step_enters}
use Rattle.law_forgery.proofs.Showing.{shows_forgery}
use Rattle.law_forgery.proofs.Keyed.{among_right}

-- What holds at a moment before which no `forged` was shown.
pub record Holds (set : Setting) (lines : List Line) (k : ℕ) (now : Moment) : Type 0 where
  pub form : InForm now.next
  pub turns : AllTurn set now.world
  pub logged : AllLogged set now.world.ledger
  pub keyed : AllKeyed set (Stood set lines k) now.world

module _ (set : Setting) (lines : List Line) (sound : IsSoundSetting set) where
  later : (k n : ℕ) (s : State) → Stood set lines k n s → Stood set lines (k + 1) n s
  later k n s h = let e = h.early in record { j = h.j; past = h.past; early = omega (arith, e); at = h.at; there = h.there }

  reached : (i : ℕ) (script : Script) (w : World) → ((d : ℕ) → moment_from set d script w ≡ moment set lines (i + d)) → ScriptInForm script → AllTurn set w
      → AllLogged set w.ledger → AllKeyed set (Stood set lines i) w
      → (d : ℕ) (now : Moment) → moment_from set d script w ≡ Some now → NoneBefore set lines (i + d) → Holds set lines (i + d) now
  reached i End w same f t l h d now e none = absurd cc
  reached i (Do x rest) w same f t l h zero now e none =
      subst (λ (z : Moment). Holds set lines (i + 0) z) (some_inj (record { next = x; world = w }) now e)
      (subst (λ (z : ℕ). Holds set lines z (record { next = x; world = w })) (omega arith) (record { form = f.0; turns = t; logged = l; keyed = h }))
  reached i (Do x rest) w same f t l h (suc d) now e none =
      let here : Moment = record { next = x; world = w } in
      let at : moment set lines i ≡ Some here = subst (λ (z : ℕ). moment set lines z ≡ Some here) (omega arith) (sym (same 0)) in
      let clean : NoForged (done set x w).items = none i here (omega arith) at in
      let stands : (n : ℕ) (s : State) → slice_get w.nodes n ≡ Some s → Stood set lines i n s = λ n s g. record { j = i; past = here; early = omega arith; at = at; there = g } in
      let wraps : NextWraps set w = λ n s g m id runs ev. step_sends set lines i w n s sound (t n s g) (h n s g) (stands n s g) l g m id runs ev in
      subst (λ (z : ℕ). Holds set lines z now) (omega arith)
      (reached (i + 1) (rest (looks (done set x w).world)) (done set x w).world
      (λ c. same (suc c) ∙ ap (moment set lines) (omega arith))
      (f.1 (looks (done set x w).world)) (done_turns set x w sound f.0 t) (done_logged set w wraps l x)
      (later_all set (Stood set lines i) (Stood set lines (i + 1)) (done set x w).world (later i) (done_keyed set (Stood set lines i) x w sound f.0 t l h stands clean))
      d now e (subst (NoneBefore set lines) (omega arith) none))

  pub holds : (k : ℕ) (now : Moment) → ScriptInForm (script_of set lines) → moment set lines k ≡ Some now → NoneBefore set lines k → Holds set lines k now
  holds k now f e none =
      subst (λ (z : ℕ). Holds set lines z now) (omega arith)
      (reached 0 (script_of set lines) (switched_on set) (λ d. ap (moment set lines) (omega arith)) f (starts_turning set sound) (starts_logged set) (starts_keyed set (Stood set lines 0)) k now e
      (subst (NoneBefore set lines) (omega arith) none))

pub forged_unmade : ForgedUnmade
forged_unmade set sound lines few form k now who f =
    let h = holds set lines sound k now (lines_form set lines sound form) f.at f.first in
    let boots = boots_few set 65536 lines k now few f.at in
    shows_forgery set lines k now who sound h.logged f.at
    (λ n s e g. step_forges set lines k now.world n s sound (h.turns n s e) (h.keyed n s e) (record { j = k; past = now; early = omega arith; at = f.at; there = e }) h.logged e (boots n s e) who g)
    now.next h.form f.shown

pub ledger_tells : LedgerTells
ledger_tells set sound lines form k now at none =
    let h = holds set lines sound k now (lines_form set lines sound form) at none in
    record {
      entries = h.logged;
      wraps = λ n m id s next there runs e.
          let entered = step_enters set lines k now.world n s sound (h.turns n s there) (h.keyed n s there)
          (record { j = k; past = now; early = omega arith; at = at; there = there }) h.logged there m id runs e in
          let ledger : (done set now.next now.world).world.ledger ≡ (after_step set now.world n s).world.ledger =
          ap (λ (y : Happening). (done set y now.world).world.ledger) next
          ∙ ap (λ (o : Option State). (at_node now.world (after_step set now.world n) o).world.ledger) there in
          subst (IsEntered set n s m) (sym ledger) entered;
    }

-- The moment that shows the first `forged` of a run.

record Found (set : Setting) (script : Script) (w : World) (who : Option ℕ) : Type 0 where
  k : ℕ
  now : Moment
  at : moment_from set k script w ≡ Some now
  shown : IsAmong (item.Forged who) (shown_at set now)
  first : (j : ℕ) (past : Moment) → j < k → moment_from set j script w ≡ Some past → NoForged (shown_at set past)

-- where a list with the item is cut in two, the item is in the front part, or the front part has none
split : (xs ys front rest : List Item) (i : Item) → xs ++ ys ≡ front ++ i ∷ rest → IsAmong i xs ⊎ ((front2 : List Item) × (ys ≡ front2 ++ i ∷ rest) × (front ≡ xs ++ front2))
split [] ys front rest i e = inr (front, e, refl)
split (x ∷ xs) ys [] rest i e = inl (inl (cc e))
split (x ∷ xs) ys (y ∷ front) rest i e = elim (split xs ys front rest i (cc e)) [
  | inl a ↦ inl (inr a)
  | inr t ↦ inr (t.0, t.1, both (cc e) t.2)
]
  where
    both : {f : List Item} → x ≡ y → front ≡ f → y ∷ front ≡ x ∷ f
    both e f = cc

pub among_left : (i : Item) (xs ys : List Item) → IsAmong i xs → IsAmong i (xs ++ ys)
among_left i [] ys h = absurd h
among_left i (x ∷ xs) ys (inl e) = inl e
among_left i (x ∷ xs) ys (inr h) = inr (among_left i xs ys h)

find : (set : Setting) (script : Script) (w : World) (front rest : List Item) (who : Option ℕ)
    → (performed set script w).items ≡ front ++ item.Forged who ∷ rest → NoForged front → Found set script w who
find set End w [] rest who e none = absurd (empty (item.Forged who) rest e)
  where
    empty : (i : Item) (r : List Item) → ◌≡◌ {A = List Item} [] (i ∷ r) → ⊥
    empty i r e = cc
find set End w (y ∷ front) rest who e none = absurd (empty y (front ++ item.Forged who ∷ rest) e)
  where
    empty : (i : Item) (r : List Item) → ◌≡◌ {A = List Item} [] (i ∷ r) → ⊥
    empty i r e = cc
find set (Do x next) w front rest who e none =
    let v = (done set x w).world in
    elim (split (done set x w).items (performed set (next (looks v)) v).items front rest (item.Forged who) e) [
      | inl a ↦ record { k = 0; now = record { next = x; world = w }; at = refl; shown = a; first = λ j past lt g. absurd (omega (arith, lt)) }
      | inr t ↦
          let f = find set (next (looks v)) v t.0 rest who t.1 (λ who2 h. none who2 (subst (IsAmong (item.Forged who2)) (sym t.2) (among_right (item.Forged who2) (done set x w).items t.0 h))) in
          record {
            k = suc f.k;
            now = f.now;
            at = f.at;
            shown = f.shown;
            first = λ j past lt g. earlier x next w (done set x w).items (λ who2 h. none who2
                (subst (IsAmong (item.Forged who2)) (sym t.2) (among_left (item.Forged who2) (done set x w).items t.0 h))) refl f j past lt g;
          }
    ]
  where
    earlier : (x : Happening) (next : List Rattle.law_isolation.specs.Script.Look → Script) (w : World) (items : List Item) → NoForged items
        → items ≡ (done set x w).items → (f : Found set (next (looks (done set x w).world)) (done set x w).world who)
        → (j : ℕ) (past : Moment) → j < suc f.k → moment_from set j (Do x next) w ≡ Some past → NoForged (shown_at set past)
    earlier x next w items none is f zero past lt g = subst (λ (z : Moment). NoForged (shown_at set z)) (some_inj (record { next = x; world = w }) past g) (subst NoForged is none)
    earlier x next w items none is f (suc j) past lt g = f.first j past (omega (arith, lt)) g

pub forged_shown : ForgedShown
forged_shown set lines front rest who e none =
    let same : (run set (switched_on set) lines).items ≡ (performed set (script_of set lines) (switched_on set)).items =
    ap (λ (z : Rattle.spec_run.specs.State.Acted). z.items) (is_performed set lines (switched_on set) (on_placed set)) in
    let f = find set (script_of set lines) (switched_on set) front rest who (sym same ∙ e) none in
    (f.k, f.now, record { at = f.at; shown = f.shown; first = f.first })

-- both, of the runs of an accepted deployment
pub forged_is_forgery : (set : Setting) → IsSoundSetting set → (lines : List Line) → length lines ≤ 65536 → LinesInForm set lines → ForgedIsForgery set lines
forged_is_forgery set sound lines few form front rest who e none =
    let f = forged_shown set lines front rest who e none in
    record { k = f.0; now = f.1; first = f.2; forgery = forged_unmade set sound lines few form f.0 f.1 who f.2 }

pub accepted_forged : AcceptedForged
accepted_forged text d read mac texts tag images lines few are =
    forged_is_forgery (setting_of mac d texts) (settled mac d texts (sound text d read) images tag) lines few
    (lines_in_form mac d (sites_of d.app.parts d.layouts d.providers texts) (sound text d read) lines are)
