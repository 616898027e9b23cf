-- What an act on one node leaves of the world that the program shows.
use Rattle.std.proofs.Common.{◌≡◌, ℕ, zero, suc, inl, inr, ◌<◌, List, [], ◌∷◌, ◌++◌, length, Some, Result, Ok, Err, OnOk, OnErr, refl, sym, subst, ap, ◌∙◌}
use Rattle.std.specs.Prelude.{slice_get, slice_set}
use Rattle.std.proofs.lemmas.Bool.{cases_eq}
use Rattle.sx_rules.specs.Placed.{Placed}
use Rattle.sx_tag.specs.Mac.{Mac}
use Rattle.sx_trace.specs.declared.items.Item.{Item}
use Rattle.sx_ledger.specs.declared.entry.Entry.{Entry}
use Rattle.spec_machine.specs.declared.kinds.Refused.{Refused}
use Rattle.spec_machine.specs.State.{State, reset}
use Rattle.spec_machine.specs.Acting.{Act, Restart, acted}
use Rattle.spec_machine.proofs.Sections.{acted_placed}
use Rattle.spec_machine.specs.Step as machine
use Rattle.spec_run.specs.Setting.{Setting}
use Rattle.sx_ledger.specs.Made.{Made}
use Rattle.spec_run.specs.State.{World, Acted}
use Rattle.spec_run.specs.Acts.{at_node, with_node, done_on, or_refused}
use Rattle.sx_world.specs.Held.{Running, Recognizes, Shows, Did, Wanted, ArePlaced, boots_of}
use Rattle.sx_observe.specs.declared.recognized.Recognized.{Recognized}
use Rattle.sx_observe.specs.Recognized.{AreRecognized}
use Rattle.sx_observe.specs.Observing.{Records}
use Rattle.sx_observe.proofs.Recognizing.{all_stay}
use Rattle.sx_observe.proofs.Fronts.{front_same}
use Rattle.spec_run.proofs.tie.Lists.{get_other, some_inj, length_set}
use Rattle.lemmas.proofs.Lists.{get_same, get_some}

-- what is kept, with other nodes, another ledger, and another count of steps
abbrev pub with_nodes : Running → List State → List Entry → ℕ → Running
with_nodes h nodes ledger steps = record { nodes = nodes; packets = h.packets; deployer = h.deployer; ledger = ledger; recognized = h.recognized; steps = steps }

-- with another ledger and other recognized sections
abbrev pub with_seen : Running → List Entry → List Recognized → Running
with_seen h ledger those = record { nodes = h.nodes; packets = h.packets; deployer = h.deployer; ledger = ledger; recognized = those; steps = h.steps }

set_placed : (nodes : List State) (n : ℕ) (s t : State) → slice_get nodes n ≡ Some s → ArePlaced nodes → Placed t.sections → ArePlaced (slice_set nodes n t)
set_placed nodes n s t here all placed k u e = elim (cases_eq k n) [
  | inl same ↦
      let found = sym (get_same nodes n t s here) ∙ ap (λ (i : ℕ). slice_get (slice_set nodes n t) i) (sym same) ∙ e in
      subst (λ (v : State). Placed v.sections) (some_inj t u found) placed
  | inr other ↦ all k u (sym (get_other nodes n k t other) ∙ e)
]

-- something happened to one node
pub node_shown : (set : Setting) (old : Running) (w : World) (n : ℕ) (s : State) (act : Act) (entries : List Entry) (ledger : List Made) (steps : ℕ)
    → Shows set old w → slice_get w.nodes n ≡ Some s → Records entries ledger
    → Shows set (with_nodes old (slice_set old.nodes n (acted set.mac act s).state) entries steps) (with_node w n (acted set.mac act s).state ledger steps)
node_shown set old w n s act entries ledger steps h here records = record {
  nodes = ap (λ ns. slice_set ns n (acted set.mac act s).state) h.nodes;
  packets = h.packets;
  deployer = h.deployer;
  ledger = records;
  steps = refl;
  placed = set_placed w.nodes n s (acted set.mac act s).state here h.placed (acted_placed set.mac act s (h.placed n s here));
  recognized = all_stay set.mac act set.sites w.nodes n s old.recognized here (h.placed n s here) h.recognized;
}

-- those that were recognized are the modules
pub shown_recognizes : (set : Setting) (kept : Running) (w : World) → Shows set kept w → Recognizes set.sites kept
shown_recognizes set kept w h =
    (subst ArePlaced (sym h.nodes) h.placed, subst (λ ns. AreRecognized set.sites ns kept.recognized) (sym h.nodes) h.recognized)

-- other sections were recognized
pub recognized_shown : (set : Setting) (kept : Running) (w : World) (those : List Recognized) → Shows set kept w → AreRecognized set.sites kept.nodes those
    → Shows set (with_seen kept kept.ledger those) w
recognized_shown set kept w those h are = record {
  nodes = h.nodes;
  packets = h.packets;
  deployer = h.deployer;
  ledger = h.ledger;
  steps = h.steps;
  placed = h.placed;
  recognized = subst (λ ns. AreRecognized set.sites ns those) h.nodes are;
}

-- an act that answers nothing was done on a node or refused
pub done_did : {T E : Type 0} (r : Result T E) (old new : Running) (before after : List Item) (n : ℕ) (items : List Item)
    (act : State → machine.Shown (Result (Unit {0}) Refused)) (what : Act) (answer : Result (Unit {0}) Refused) → n < length old.nodes
    → ((s : State) → slice_get old.nodes n ≡ Some s → new ≡ with_nodes old (slice_set old.nodes n (act s).state) old.ledger old.steps)
    → ((s : State) → slice_get old.nodes n ≡ Some s → answer ≡ (act s).shown)
    → ((mac : Mac) (s : State) → (act s).state ≡ (acted mac what s).state)
    → OnOk r (after ≡ before ++ or_refused n items answer)
    → OnOk r ((set : Setting) → Did set old new before after (λ w. at_node w (λ s. done_on w n items (act s)) (slice_get w.nodes n)))
done_did (Ok x) old new before after n items act what answer lt left said is ok = λ set w h.
    let found = get_some old.nodes n lt in
    let s = found.0 in
    let here : slice_get w.nodes n ≡ Some s = ap (λ ns. slice_get ns n) (sym h.nodes) ∙ found.1 in
    let f : State → Acted = λ s. done_on w n items (act s) in
    let steps : Shows set (with_nodes old (slice_set old.nodes n (act s).state) old.ledger old.steps) (with_node w n (act s).state w.ledger w.steps) =
    subst (λ k. Shows set (with_nodes old (slice_set old.nodes n (act s).state) old.ledger k) (with_node w n (act s).state w.ledger w.steps)) (sym h.steps)
    (subst (λ (t : State). Shows set (with_nodes old (slice_set old.nodes n t) old.ledger w.steps) (with_node w n t w.ledger w.steps)) (sym (is set.mac s))
    (node_shown set old w n s what old.ledger w.ledger w.steps h here h.ledger)) in
    subst (λ o. Shows set new (at_node w f o).world × (after ≡ before ++ (at_node w f o).items)) (sym here)
    (subst (λ x. Shows set x (with_node w n (act s).state w.ledger w.steps)) (sym (left s found.1)) steps, ok ∙ ap (λ a. before ++ or_refused n items a) (said s found.1))
done_did (Err e) old new before after n items act what answer lt left said is ok = tt

-- memory ran out before an item was added
pub wanted_same : {T E : Type 0} (r : Result T E) (old : Running) (before after : List Item) (act : World → Acted)
    → OnErr r (after ≡ before) → OnErr r ((set : Setting) → Wanted set old before after act)
wanted_same (Ok x) old before after act err = tt
wanted_same (Err e) old before after act err = λ set w h. front_same after before (act w).items err

-- so for one setting
pub wanted_here : {T E : Type 0} (r : Result T E) (set : Setting) (old : Running) (before after : List Item) (act : World → Acted)
    → OnErr r (after ≡ before) → OnErr r (Wanted set old before after act)
wanted_here (Ok x) set old before after act err = tt
wanted_here (Err e) set old before after act err = λ w h. front_same after before (act w).items err

-- a node was reset
pub reset_did : {T E : Type 0} (r : Result T E) (old new : Running) (before after : List Item) (n : ℕ) (items : List Item) → n < length old.nodes
    → ((s : State) → slice_get old.nodes n ≡ Some s → new ≡ with_nodes old (slice_set old.nodes n (reset s)) old.ledger old.steps)
    → OnOk r (after ≡ before ++ items)
    → OnOk r ((set : Setting) → Did set old new before after (λ w. at_node w (λ s. record { world = with_node w n (reset s) w.ledger w.steps; items = items }) (slice_get w.nodes n)))
reset_did (Ok x) old new before after n items lt left ok = λ set w h.
    let found = get_some old.nodes n lt in
    let s = found.0 in
    let here : slice_get w.nodes n ≡ Some s = ap (λ ns. slice_get ns n) (sym h.nodes) ∙ found.1 in
    let f : State → Acted = λ s. record { world = with_node w n (reset s) w.ledger w.steps; items = items } in
    let steps : Shows set (with_nodes old (slice_set old.nodes n (reset s)) old.ledger old.steps) (with_node w n (reset s) w.ledger w.steps) =
    subst (λ k. Shows set (with_nodes old (slice_set old.nodes n (reset s)) old.ledger k) (with_node w n (reset s) w.ledger w.steps)) (sym h.steps)
    (node_shown set old w n s Restart old.ledger w.ledger w.steps h here h.ledger) in
    subst (λ o. Shows set new (at_node w f o).world × (after ≡ before ++ (at_node w f o).items)) (sym here)
    (subst (λ x. Shows set x (with_node w n (reset s) w.ledger w.steps)) (sym (left s found.1)) steps, ok)
reset_did (Err e) old new before after n items lt left ok = tt

set_boots : (nodes : List State) (n : ℕ) (s t : State) → slice_get nodes n ≡ Some s → t.boot ≡ s.boot → boots_of (slice_set nodes n t) ≡ boots_of nodes
set_boots [] n s t here e = refl
set_boots (x ∷ nodes) zero s t here e = ap (λ b. b ∷ boots_of nodes) (e ∙ sym (ap (λ (u : State). u.boot) (some_inj x s here)))
set_boots (x ∷ nodes) (suc n) s t here e = ap (λ r. x.boot ∷ r) (set_boots nodes n s t here e)

-- an act on a node that keeps its boot keeps all boots
pub boots_kept : (old new : List State) (n : ℕ) (act : State → State) → n < length old → ((s : State) → slice_get old n ≡ Some s → new ≡ slice_set old n (act s))
    → ((s : State) → (act s).boot ≡ s.boot) → boots_of new ≡ boots_of old
boots_kept old new n act lt left kept =
    let found = get_some old n lt in
    ap boots_of (left found.0 found.1) ∙ set_boots old n found.0 (act found.0) found.1 (kept found.0)

-- what is kept of a struct whose view it is, with another list of nodes
pub as_kept : (old view : Running) (nodes : List State) (n : ℕ) (t : State) → view ≡ old → nodes ≡ slice_set old.nodes n t
    → with_nodes view nodes view.ledger view.steps ≡ with_nodes old (slice_set old.nodes n t) old.ledger old.steps
as_kept old view nodes n t v e = ap (λ ns. with_nodes view ns view.ledger view.steps) e ∙ ap (λ k. with_nodes k (slice_set old.nodes n t) k.ledger k.steps) v

-- a list that was lent, with another element
pub lent_set : (lent old new : List State) (n : ℕ) (s : State) (act : State → State) → lent ≡ old → slice_get old n ≡ Some s
    → ((s : State) → slice_get lent n ≡ Some s → new ≡ slice_set lent n (act s)) → new ≡ slice_set old n (act s)
lent_set lent old new n s act e there f = f s (ap (λ ns. slice_get ns n) e ∙ there) ∙ ap (λ ns. slice_set ns n (act s)) e

-- it stays as long
pub lent_long : (lent old new : List State) (n : ℕ) (s : State) (act : State → State) → lent ≡ old → slice_get old n ≡ Some s
    → ((s : State) → slice_get lent n ≡ Some s → new ≡ slice_set lent n (act s)) → length new ≡ length lent
lent_long lent old new n s act e there f = ap length (f s (ap (λ ns. slice_get ns n) e ∙ there)) ∙ length_set lent n (act s)
