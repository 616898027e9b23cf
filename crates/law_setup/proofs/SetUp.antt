-- The whole set-up, from power-on.
use Rattle.std.proofs.Common.{◌≡◌, ℕ, zero, suc, ◌+◌, ◌-◌, List, [], ◌∷◌, ◌++◌, length, length-append, map, Some, refl, sym, ◌∙◌, ap, subst, arith}
use Rattle.std.specs.Prelude.{slice_get, slice_index_or}
use Rattle.std.proofs.lemmas.List.{append-nil}
use Rattle.sx_lang.specs.declared.sides.Side.{Side}
use Rattle.sx_lang.specs.declared.sides.Side.TheVariants.{From, To}
use Rattle.sx_mean.specs.declared.events.End.{End}
use Rattle.sx_mean.specs.Application.{PartTree}
use Rattle.sx_mean.specs.Ends.{ends_of}
use Rattle.sx_mean.specs.Places.{initial_cells}
use Rattle.sx_trace.specs.declared.items.Item.{Item}
use Rattle.spec_machine.specs.State.{State, power_on}
use Rattle.spec_machine.specs.NodeLaws.{shapes}
use Rattle.spec_invocation.specs.ModuleState.{EndState}
use Rattle.spec_run.specs.Setting.{Site, Setting, windows_at}
use Rattle.spec_run.specs.Deployer.{connection_key}
use Rattle.spec_run.specs.State.{World, Acted, nodes_from, switched_on}
use Rattle.spec_run.specs.Acts.{then_}
use Rattle.spec_run.specs.Run.{run}
use Rattle.spec_run.specs.Law.{IsLawfulSetting, devices_of}
use Rattle.spec_run.proofs.steps.Entry.{shapes_on}
use Rattle.spec_run.proofs.tie.Lists.{some_inj, list_at_is}
use Rattle.spec_run.proofs.tie.Start.{nodes_long, on_is_node}
use Rattle.spec_honest.specs.Plain.{Waiting}
use Rattle.spec_honest.specs.Course.{course_start, packets_so_far, part_items, parts_items, parts_packets}
use Rattle.law_setup.specs.Schedule.{part_lines, parts_schedule, setup_schedule}
use Rattle.law_setup.specs.Laws.{HasRoom, SetUp}
use Rattle.law_setup.proofs.forms.ByLine.{part_shown, parts_shown, setup_shown, shown_by}
use Rattle.law_setup.proofs.forms.Settled.{IsSetUp, Settled, module_as, number_at, open_end}
use Rattle.law_setup.proofs.forms.Acting.{first_end}
use Rattle.law_setup.proofs.forms.PartDone.{first_state}
use Rattle.law_setup.proofs.Runs.{run_append, shown_append}
use Rattle.law_setup.proofs.Answering.{append_more}
use Rattle.law_setup.proofs.Sites.{stale_windows}
use Rattle.law_setup.proofs.SoFar.{NodeSoFar, SoFar, done_next, far_next, marks_all, marks_none, packets_next, s_there}

-- modules from the m-th on were set up
record Result (set : Setting) (m number : ℕ) (qs : List PartTree) (w : World) : Type 0 where
  pub world : World
  pub is : run set w (parts_schedule set.app m number qs) ≡ record { world = world; items = parts_items set.app m number qs }
  pub each : shown_by set w (parts_schedule set.app m number qs) ≡ parts_shown set.app m number qs
  pub far : SoFar set (length set.app.parts) set.sites world
  pub packets : length world.packets ≡ number + parts_packets set.app m qs

no_more : {X : Type 0} → (xs ys : List X) → xs ≡ ys ++ [] → xs ≡ ys
no_more xs ys e = e ∙ append-nil ys

loop : (set : Setting) → IsLawfulSetting set → HasRoom set → (qs : List PartTree) (ss : List Site) (before : List PartTree) (sb : List Site) (w : World)
    → set.app.parts ≡ before ++ qs → set.sites ≡ sb ++ ss → length sb ≡ length before → SoFar set (length before) sb w → Result set (length before) (length w.packets) qs w
loop set sound room [] [] before sb w parts sites len far = record {
  world = w;
  is = refl;
  each = refl;
  far =
      subst (λ (xs : List Site). SoFar set (length set.app.parts) xs w) (sym (no_more set.sites sb sites))
      (subst (λ (xs : List PartTree). SoFar set (length xs) sb w) (sym (no_more set.app.parts before parts)) far);
  packets = plus_none (length w.packets);
}
  where
    plus_none : (a : ℕ) → a ≡ a + 0
    plus_none a = omega arith
loop set sound room [] (site ∷ ss) before sb w parts sites len far =
    let a = sound.sound.sites in
    let b = ap (λ (x : List Site). length x) sites ∙ length-append sb (site ∷ ss) in
    let c = ap (λ (x : List PartTree). length x) parts ∙ length-append before [] in
    absurd (omega (arith, a, b, c, len))
loop set sound room (q ∷ qs) [] before sb w parts sites len far =
    let a = sound.sound.sites in
    let b = ap (λ (x : List Site). length x) sites ∙ length-append sb [] in
    let c = ap (λ (x : List PartTree). length x) parts ∙ length-append before (q ∷ qs) in
    absurd (omega (arith, a, b, c, len))
loop set sound room (q ∷ qs) (site ∷ ss) before sb w parts sites len far =
    let k = length before in
    let number = length w.packets in
    let es = ends_of set.app k in
    let got = s_there set sound room before qs q sb ss site w parts sites len far in
    let z = done_next set sound room before qs q sb ss site w parts sites len far got.0 got.1 in
    let v = z.moves.world in
    let next_k : length (before ++ q ∷ []) ≡ k + 1 = length-append before (q ∷ []) in
    let next_len : length (sb ++ site ∷ []) ≡ length (before ++ q ∷ []) = let a = length-append sb (site ∷ []) in omega (arith, a, next_k, len) in
    let one : suc k ≡ length (before ++ q ∷ []) = omega (arith, next_k) in
    let far2 = subst (λ (i : ℕ). SoFar set i (sb ++ site ∷ []) v) one (far_next set sound room before qs q sb ss site w parts sites len far got.0 got.1 z) in
    let rest0 = loop set sound room qs ss (before ++ q ∷ []) (sb ++ site ∷ []) v (parts ∙ sym (append_more before q qs)) (sites ∙ sym (append_more sb site ss)) next_len far2 in
    let count = packets_next set sound room before qs q sb ss site w parts sites len far got.0 got.1 z in
    let rest : Result set (k + 1) (number + 2 + length es) qs v =
    subst (λ (i : ℕ). Result set i (number + 2 + length es) qs v) next_k (subst (λ (i : ℕ). Result set (length (before ++ q ∷ [])) i qs v) count rest0) in
    let others = parts_schedule set.app (k + 1) (number + 2 + length es) qs in
    let mine = part_items k number q es in
    let sum = rest.packets in
    let total : length rest.world.packets ≡ number + (2 + length es + parts_packets set.app (k + 1) qs) = omega (arith, sum) in
    record {
      world = rest.world;
      is =
          run_append set (part_lines k number q es) others w
          ∙ ap (λ (a : Acted). then_ a (λ u. run set u others)) z.moves.is
          ∙ ap (λ (a : Acted). record { world = a.world; items = mine ++ a.items }) rest.is;
      each =
          shown_append set (part_lines k number q es) others w
          ∙ ap (λ (zs : List (List Item)). zs ++ shown_by set (run set w (part_lines k number q es)).world others) z.moves.each
          ∙ ap (λ (a : Acted). part_shown k number q es ++ shown_by set a.world others) z.moves.is
          ∙ ap (λ (zs : List (List Item)). part_shown k number q es ++ zs) rest.each;
      far = rest.far;
      packets = total;
    }

-- Power-on.

node_on : (set : Setting) (i : ℕ) (keys : List (List ℕ)) (n : ℕ) (s : State) → slice_get (nodes_from set i keys) n ≡ Some s
    → (key : List ℕ) × (slice_get keys n ≡ Some key) × (s ≡ power_on key (devices_of set (i + n)))
node_on set i [] n s e = absurd cc
node_on set i (key ∷ keys) zero s e =
    let here : i ≡ i + 0 = omega arith in
    (key, refl, sym (some_inj _ s e) ∙ ap (λ (j : ℕ). power_on key (devices_of set j)) here)
node_on set i (key ∷ keys) (suc n) s e =
    let r = node_on set (i + 1) keys n s e in
    let next : i + 1 + n ≡ i + suc n = omega arith in
    (r.0, r.1, r.2 ∙ ap (λ (j : ℕ). power_on r.0 (devices_of set j)) next)

first_far : (set : Setting) → IsLawfulSetting set → SoFar set 0 [] (switched_on set)
first_far set sound = record {
  as_many = nodes_long set 0 set.keys;
  nodes = λ n s e.
      let r = node_on set 0 set.keys n s e in
      let same : s ≡ power_on r.0 (devices_of set n) = r.2 ∙ ap (λ (j : ℕ). power_on r.0 (devices_of set j)) (zero_on n) in
      subst (λ y. NodeSoFar set n [] y) (sym same) (record {
        node = on_is_node set n r.0 sound.sound;
        idle = refl;
        boot = refl;
        key = sym (list_at_is set.keys n r.0 r.1);
        devices = refl;
        sections = refl;
      });
  modules = λ m q site s lt. absurd (omega (arith, lt));
  asks = refl;
  open_asks = refl;
  attested = marks_none set.app.parts;
  epochs = refl;
}
  where
    zero_on : (n : ℕ) → 0 + n ≡ n
    zero_on n = omega arith

-- The course at its start.

number_zero : (set : Setting) (side : Side) (link : ℕ) → number_at [] [] side link ≡ 0
number_zero set From link = refl
number_zero set To link = refl

ends_start : (set : Setting) (es : List End) → map (first_end set) es ≡ map (open_end set [] []) es
ends_start set [] = refl
ends_start set (e ∷ es) =
    ap (λ (i : ℕ). record { is_open = Rattle.std.proofs.Common.true; field = e.link; number = i; key = connection_key set e.link 0 } ∷ map (first_end set) es) (sym (number_zero set e.side e.link))
    ∙ ap (λ r. open_end set [] [] e ∷ r) (ends_start set es)

cells_start : (qs : List PartTree) (m : ℕ) (q : PartTree) → slice_get qs m ≡ Some q → initial_cells q.tree.decls ≡ slice_index_or (map (λ (x : PartTree). initial_cells x.tree.decls) qs) m []
cells_start [] m q e = absurd cc
cells_start (x ∷ qs) zero q e = ap (λ (y : PartTree). initial_cells y.tree.decls) (sym (some_inj x q e))
cells_start (x ∷ qs) (suc m) q e = cells_start qs m q e

state_start : (set : Setting) (m : ℕ) (q : PartTree) → slice_get set.app.parts m ≡ Some q → first_state set m q ≡ module_as set (course_start set.app) m
state_start set m q e =
    ap (λ (c : List ℕ). record { cells = c; ends = map (first_end set) (ends_of set.app m) }) (cells_start set.app.parts m q e)
    ∙ ap (λ (x : List EndState). record { cells = slice_index_or (map (λ (x : PartTree). initial_cells x.tree.decls) set.app.parts) m []; ends = x }) (ends_start set (ends_of set.app m))

none_waits : (x : Waiting) (before after : List Waiting) → [] ≡ before ++ x ∷ after → ⊥
none_waits x [] after e = cc
none_waits x (y ∷ before) after e = cc

settles : (set : Setting) (w : World) → SoFar set (length set.app.parts) set.sites w → length w.packets ≡ 0 + parts_packets set.app 0 set.app.parts
    → IsLawfulSetting set → Settled set w (course_start set.app)
settles set w far count sound = record {
  as_many = far.as_many;
  nodes = λ n s e.
      let o = far.nodes n s e in
      record {
        node = o.node;
        idle = o.idle;
        boot = o.boot;
        key = o.key;
        sections = o.sections;
        devices = ap shapes o.devices ∙ shapes_on (windows_at n set.app.devices set.places);
        stale = subst (λ y. Rattle.std.specs.Prelude.All (λ d. d.fresh ≡ Rattle.std.proofs.Common.false) y) (sym o.devices) (stale_windows (windows_at n set.app.devices set.places));
      };
  modules = λ m q site s p t e.
      let inside = Rattle.spec_run.proofs.tie.Lists.get_within set.app.parts m q p in
      let o = far.modules m q site s inside p t e in
      record { text = o.text; state = o.state ∙ state_start set m q p };
  deployer = record {
    asks = far.asks;
    open_asks = far.open_asks;
    attested = far.attested ∙ marks_all set.app.parts;
    epochs = far.epochs;
  };
  packets = total;
  waiting = λ x before after e. absurd (none_waits x before after e);
}
  where
    total : length w.packets ≡ packets_so_far set.app (course_start set.app)
    total = plus (parts_packets set.app 0 set.app.parts) (length w.packets) count
      where
        plus : (a b : ℕ) → b ≡ 0 + a → b ≡ a + 0 + 0
        plus a b e = omega (arith, e)

from_power_on : (set : Setting) → IsLawfulSetting set → HasRoom set → Result set 0 0 set.app.parts (switched_on set)
from_power_on set sound room = loop set sound room set.app.parts set.sites [] [] (switched_on set) refl refl refl (first_far set sound)

pub is_set_up : (set : Setting) → IsLawfulSetting set → HasRoom set → IsSetUp set
is_set_up set sound room =
    let r = from_power_on set sound room in
    record {
      items = ap (λ (a : Acted). a.items) r.is;
      settled = subst (λ (v : World). Settled set v (course_start set.app)) (sym (ap (λ (a : Acted). a.world) r.is)) (settles set r.world r.far r.packets sound);
    }

-- line by line
pub set_up_shown : (set : Setting) → IsLawfulSetting set → HasRoom set → shown_by set (switched_on set) (setup_schedule set.app) ≡ setup_shown set.app
set_up_shown set sound room = (from_power_on set sound room).each

pub set_up : SetUp
set_up set sound room = (is_set_up set sound room).items
