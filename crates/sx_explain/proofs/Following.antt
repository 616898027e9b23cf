-- What a judge keeps goes on to stand for the items so far.
use Rattle.std.proofs.Common.{◌≡◌, ℕ, zero, suc, ◌+◌, ◌*◌, ◌/◌, ◌%◌, ◌<◌, ◌≤◌, inl, inr, ◌⊎◌, ◌==◌, ◌||◌, ◌&&◌, Bool, true, false, if◌then◌else◌, List, []}
use Rattle.std.proofs.Common.{◌∷◌, ◌++◌, length, replicate, nat_lt, Option, Some, None, slice_get, add-zero, refl, sym, ap, ◌∙◌, subst, arith}
use Rattle.std.specs.Prelude.{is_none, is_some, slice_set}
use Rattle.std.specs.List.{list_any}
use Rattle.std.proofs.lemmas.Bool.{cases_eq, cases_lt, eq-eqb, eqb-true, ne_eqb, and_parts}
use Rattle.std.proofs.lemmas.List.{append-nil, length-append, length-replicate, length-set}
use Rattle.std.proofs.lemmas.Option.{same_Some, slice_get_past, slice_get_within}
use Rattle.lemmas.proofs.Truths.{or_none}
use Rattle.sx_mean.specs.declared.events.Act.{Act}
use Rattle.sx_mean.specs.declared.events.Act.TheVariants.{Send, Emit}
use Rattle.sx_mean.specs.declared.events.End.{End}
use Rattle.sx_mean.specs.declared.events.SourceEvent.TheVariants as event
use Rattle.sx_mean.specs.Application.{AppTree}
use Rattle.sx_mean.specs.Ends.{ends_of}
use Rattle.sx_mean.specs.React.{react}
use Rattle.sx_trace.specs.declared.items.Item.{Item}
use Rattle.sx_trace.specs.declared.items.Item.TheVariants.{Sense, Read, Take, Out, Forged}
use Rattle.sx_model.specs.State.{EndView, FIELDS, Model, power_on}
use Rattle.sx_model.specs.Step.{device_of, ◌>>?◌, step}
use Rattle.sx_model.specs.Reaction.{Flow, MOST_SENT, all_done, field_of, sends, sent_over, sent_to}
use Rattle.sx_model.specs.Legal.{after, before, is_forged}
use Rattle.sx_model.specs.Consequences.{begins_event}
use Rattle.sx_model.proofs.Along.{some_of}
use Rattle.sx_model.proofs.Steps.{Cases, by_step}
use Rattle.lemmas.proofs.Lists.{get_same, get_some}
use Rattle.sx_model.proofs.Written.{get_other}
use Rattle.sx_model.specs.Changes.{is_from}
use Rattle.sx_model.proofs.order.Owners.{field_low}
use Rattle.sx_explain.specs.Causes.{appended, cause, gives, latest, or_else, word_of}
use Rattle.sx_explain.specs.Filling.{IsFullAt, at_field, full}
use Rattle.sx_explain.specs.declared.judge.Judged.TheVariants as verdict
use Rattle.sx_explain.specs.declared.numbers.Latest.{Latest}
use Rattle.sx_explain.specs.Judging.{judged, said}
use Rattle.sx_explain.specs.Followed.{items_after}
use Rattle.sx_explain.specs.Followed.{FillsFor, Follows, HasAll, IsFullFor, IsOf, Seen, Stands, answered, found, noted, numbers_of, taken_in, taken_of}
use Rattle.sx_explain.proofs.Filled.{field_word, full_all, get_full, length_full, length_under, none_at}
use Rattle.sx_explain.proofs.After.{after_more, some_next}
use Rattle.sx_explain.proofs.Caused.{step_grows}
use Rattle.sx_explain.specs.Wants.{IsBehindEvent}

-- One item more.

pub latest_more : (test : Item → Bool) (n : ℕ) (items : List Item) (item : Item) → latest test n (items ++ item ∷ []) ≡ (if test item then Some (n + length items) else latest test n items)
latest_more test n [] item = ap (λ (k : ℕ). if test item then Some k else None) (sym (add-zero n))
latest_more test n (i ∷ is) item =
    ap (λ o. or_else o (if test i then Some n else None)) (latest_more test (n + 1) is item) ∙ at (test item)
  where
    at : (b : Bool) → or_else (if b then Some (n + 1 + length is) else latest test (n + 1) is) (if test i then Some n else None)
        ≡ (if b then Some (n + suc (length is)) else or_else (latest test (n + 1) is) (if test i then Some n else None))
    at true = let m : n + 1 + length is ≡ n + suc (length is) = omega arith in ap (λ (k : ℕ). Some k) m
    at false = refl

pub any_more : (test : Item → Bool) (items : List Item) (item : Item) → list_any test items ≡ false → list_any test (items ++ item ∷ []) ≡ test item
any_more test [] item h = or_none (test item)
any_more test (i ∷ is) item h = at (test i) h (any_more test is item)
  where
    at : (b : Bool) → (b || list_any test is) ≡ false → (list_any test is ≡ false → list_any test (is ++ item ∷ []) ≡ test item) → (b || list_any test (is ++ item ∷ [])) ≡ test item
    at true h more = absurd cc
    at false h more = more h

pub any_still : (test : Item → Bool) (items : List Item) (item : Item) → list_any test items ≡ true → list_any test (items ++ item ∷ []) ≡ true
any_still test [] item h = absurd cc
any_still test (i ∷ is) item h = at (test i) h (any_still test is item)
  where
    at : (b : Bool) → (b || list_any test is) ≡ true → (list_any test is ≡ true → list_any test (is ++ item ∷ []) ≡ true) → (b || list_any test (is ++ item ∷ [])) ≡ true
    at true h more = refl
    at false h more = more h

-- the items before the first that is forged
pub before_front : (front rest : List Item) → list_any is_forged front ≡ false → before (front ++ rest) ≡ front ++ before rest
before_front [] rest h = refl
before_front (i ∷ is) rest h = at (is_forged i) h (before_front is rest)
  where
    at : (b : Bool) → (b || list_any is_forged is) ≡ false → (list_any is_forged is ≡ false → before (is ++ rest) ≡ is ++ before rest)
        → (if b then [] else i ∷ before (is ++ rest)) ≡ i ∷ (is ++ before rest)
    at true h more = absurd cc
    at false h more = ap (λ (xs : List Item). i ∷ xs) (more h)

before_still : (items : List Item) (item : Item) → list_any is_forged items ≡ true → before (items ++ item ∷ []) ≡ before items
before_still [] item h = absurd cc
before_still (i ∷ is) item h = at (is_forged i) h (before_still is item)
  where
    at : (b : Bool) → (b || list_any is_forged is) ≡ true → (list_any is_forged is ≡ true → before (is ++ item ∷ []) ≡ before is)
        → (if b then [] else i ∷ before (is ++ item ∷ [])) ≡ (if b then [] else i ∷ before is)
    at true h more = refl
    at false h more = ap (λ (xs : List Item). i ∷ xs) (more h)

-- how many items are taken
pub taken_more : (items : List Item) (item : Item) → list_any is_forged items ≡ false → taken_of (items ++ item ∷ []) ≡ length items + 1
taken_more items item h =
    let a = before_front items (item ∷ []) h in
    let b = any_more is_forged items item h in
    rw (a, b) (at (is_forged item))
  where
    at : (b : Bool) → length (items ++ (if b then [] else item ∷ [])) + (if b then 1 else 0) ≡ length items + 1
    at true = ap (λ (xs : List Item). length xs + 1) (append-nil items)
    at false = let l = length-append items (item ∷ []) in omega (arith, l)

taken_still : (items : List Item) (item : Item) → list_any is_forged items ≡ true → taken_of (items ++ item ∷ []) ≡ taken_of items
taken_still items item h =
    let a = before_still items item h in
    let b = any_still is_forged items item h in
    rw (a, b, h) refl

pub few_taken : (items : List Item) → taken_of items ≤ length items
few_taken [] = omega arith
few_taken (i ∷ is) = at (is_forged i) (few_taken is)
  where
    at : (b : Bool) → taken_of is ≤ length is → length (if b then [] else i ∷ before is) + (if b || list_any is_forged is then 1 else 0) ≤ suc (length is)
    at true h = omega arith
    at false h = omega (arith, h)

pub appended_more : (app : AppTree) (field place n : ℕ) (items : List Item) (s t u : Model) (item : Item) → after app s items ≡ Some t → step app t item ≡ Some u
    → appended app field place n s (items ++ item ∷ []) ≡ or_else (appended app field place n s items) (if is_some (word_of u.sent field place) then Some (n + length items) else None)
appended_more app field place n [] s t u item ran is =
    let here : step app s item ≡ Some u = (ap (λ s. step app s item) (same_Some s t ran) ∙ is) in
    rw here (ap (λ (k : ℕ). if is_some (word_of u.sent field place) then Some k else None) (sym (add-zero n)))
appended_more app field place n (i ∷ is) s t u item ran here =
    let x = some_next (step app s i) (λ t. after app t is) t ran in
    let first = x.1 in
    rw first (at (appended app field place (n + 1) x.0 (is ++ item ∷ [])) (appended app field place (n + 1) x.0 is) (is_some (word_of x.0.sent field place))
    (appended_more app field place (n + 1) is x.0 t u item x.2 here))
  where
    at : (new old : Option ℕ) (b : Bool) → new ≡ or_else old (if is_some (word_of u.sent field place) then Some (n + 1 + length is) else None)
        → (if b then Some n else new) ≡ or_else (if b then Some n else old) (if is_some (word_of u.sent field place) then Some (n + suc (length is)) else None)
    at new old true e = refl
    at new old false e =
        let m : n + 1 + length is ≡ n + suc (length is) = omega arith in
        e ∙ ap (λ (k : ℕ). or_else old (if is_some (word_of u.sent field place) then Some k else None)) m

-- What a step sends, and where.

width_over : (c v : ℕ) (o : Option (List ℕ)) (f : Flow) → length (sent_over c v o f).sent ≡ length f.sent
width_over c v None f = refl
width_over c v (Some ws) f = at (nat_lt (length ws) MOST_SENT)
  where
    at : (b : Bool) → length (if b then (record f { sent = slice_set f.sent c (ws ++ v ∷ []); pieces = f.pieces + 1 }) else f).sent ≡ length f.sent
    at true = length-set f.sent c (ws ++ v ∷ [])
    at false = refl

width_to : (es : List End) (views : List EndView) (output v : ℕ) (f : Flow) → length (sent_to es views output v f).sent ≡ length f.sent
width_to [] views output v f = refl
width_to (e ∷ es) [] output v f = refl
width_to (e ∷ es) (view ∷ views) output v f =
    width_to es views output v (if sends output e view then sent_over (field_of e view) v (slice_get f.sent (field_of e view)) f else f) ∙ at (sends output e view)
  where
    at : (b : Bool) → length (if b then sent_over (field_of e view) v (slice_get f.sent (field_of e view)) f else f).sent ≡ length f.sent
    at true = width_over (field_of e view) v (slice_get f.sent (field_of e view)) f
    at false = refl

width_acts : (es : List End) (views : List EndView) (acts : List Act) (f : Flow) → length (all_done es views acts f).sent ≡ length f.sent
width_acts es views [] f = refl
width_acts es views (Send output v ∷ acts) f = width_acts es views acts (sent_to es views output v f) ∙ width_to es views output v f
width_acts es views (Emit v ∷ acts) f = width_acts es views acts (record f { emits = f.emits ++ v ∷ [] })

width_cases : (app : AppTree) (s : Model) → Cases app s (λ item t. length t.sent ≡ length s.sent)
width_cases app s = record {
  reset = λ n cause boot _. refl;
  unknown = λ n. refl;
  protect = λ n k q x _ _. refl;
  sense = λ d v. refl;
  read = λ m v q x p d r eq ex ep ed er b. width_acts (ends_of app m) p.ends (react q.tree (event.Sample v) p.cells).acts (record { sent = s.sent; emits = []; pieces = 0 });
  drain = λ d r. refl;
  ask = λ k a x e. refl;
  attested = λ k b a x e _. refl;
  denied = λ k. refl;
  vouch = λ k a q x p boot _ _ _ _. refl;
  opened = λ k c side epoch q x p boot views _ _ _ _ _ _. refl;
  take = λ m c i v q x p l views eq ex ep el ev. width_acts (ends_of app m) views (react q.tree (event.Input l.input v) p.cells).acts (record { sent = s.sent; emits = []; pieces = 0 });
  out = λ k v x p owed left e ep eo el. refl;
  raw = λ d v. refl;
  done = λ k status n x p _ _. refl;
  refused = λ k status n x p e ep none. refl;
  packet = λ k n. refl;
  forged = λ k. refl;
  busy = λ n. refl;
  skip = λ n. refl;
  budget = λ n. refl;
}

pub step_width : (app : AppTree) (s t : Model) (item : Item) → step app s item ≡ Some t → length t.sent ≡ length s.sent
step_width app s t item e = some_of (step app s item) t (λ t. length t.sent ≡ length s.sent) (by_step app s (λ item t. length t.sent ≡ length s.sent) (width_cases app s) item) e

-- no words are lost
pub step_stays : (app : AppTree) (s t : Model) (item : Item) (field : ℕ) → step app s item ≡ Some t → length (at_field s.sent field) ≤ length (at_field t.sent field)
step_stays app s t item field e =
    elim (cases_lt (length (at_field t.sent field)) (length (at_field s.sent field))) [
      | inl lt ↦
          let k = length (at_field t.sent field) in
          let w = get_some (at_field s.sent field) k lt in
          let there = (step_grows app s item t e).stays field k w.0 (sym (field_word s.sent field k) ∙ w.1) in
          let short = slice_get_within (at_field t.sent field) k w.0 (field_word t.sent field k ∙ there) in
          absurd (omega (arith, short))
      | inr le ↦ le
    ]

-- where there are more, the item is an event of a module that sends there
pub record Comes (app : AppTree) (t : Model) (item : Item) (field : ℕ) : Type 0 where
  pub part : ℕ
  pub begins : begins_event part item ≡ true
  pub of : IsOf app t part field

pub step_comes : (app : AppTree) (s t : Model) (item : Item) (field : ℕ) → length s.sent ≡ FIELDS → step app s item ≡ Some t
    → length (at_field s.sent field) < length (at_field t.sent field) → Comes app t item field
step_comes app s t item field wide e lt =
    let k = length (at_field s.sent field) in
    let w = get_some (at_field t.sent field) k lt in
    let new : word_of t.sent field k ≡ Some w.0 = (sym (field_word t.sent field k) ∙ w.1) in
    let old : word_of s.sent field k ≡ None = (sym (field_word s.sent field k) ∙ slice_get_past (at_field s.sent field) k (omega arith)) in
    let x = (step_grows app s item t e).comes field k w.0 old new in
    let at = x.sent.sends_at in
    let a = and_parts (is_from at.end.side) ((at.end.port == x.sent.output) && is_some at.view.epoch) at.sends_to in
    let b = and_parts (at.end.port == x.sent.output) (is_some at.view.epoch) a.1 in
    let f = field_low at.end.link at.view.epoch b.1 in
    let words = some_next (slice_get t.sent field) (λ ws. slice_get ws k) w.0 new in
    let within = slice_get_within t.sent field words.0 words.1 in
    let width = step_width app s t item e in
    record {
      part = x.part;
      begins = x.begins;
      of = record {
        place = at.place;
        end = at.end;
        there = at.end_is;
        sends = a.0;
        epoch = f.0;
        opened = x.epochs at.place ∙ ap (λ o. o >>? (λ (e : EndView). e.epoch)) at.view_is ∙ f.2;
        at = sym at.at ∙ f.1;
        low = omega (arith, within, width, wide);
      };
    }

-- The latest items.

abbrev pub IsLatest : (ℕ → Item → Bool) → List (Option ℕ) → List Item → Type 0
IsLatest test xs items = (k : ℕ) → (slice_get xs k >>? (λ o. o)) ≡ latest (test k) 1 items

pub keep_latest : (test : ℕ → Item → Bool) (xs : List (Option ℕ)) (items : List Item) (item : Item) → ((k : ℕ) → test k item ≡ false) → IsLatest test xs items → IsLatest test xs (items ++ item ∷ [])
keep_latest test xs items item not old k =
    old k ∙ sym (latest_more (test k) 1 items item ∙ ap (λ b. if b then Some (1 + length items) else latest (test k) 1 items) (not k))

pub put_latest : (test : ℕ → Item → Bool) (xs : List (Option ℕ)) (items : List Item) (item : Item) (at n : ℕ) → ((k : ℕ) → test k item ≡ (at == k)) → n ≡ 1 + length items → at < length xs
    → IsLatest test xs items → IsLatest test (slice_set xs at (Some n)) (items ++ item ∷ [])
put_latest test xs items item at n is number within old k =
    elim (cases_eq at k) [
      | inl s ↦
          let there = get_some xs at within in
          let new : latest (test k) 1 (items ++ item ∷ []) ≡ Some n =
          (latest_more (test k) 1 items item ∙ ap (λ b. if b then Some (1 + length items) else latest (test k) 1 items) (is k ∙ eq-eqb at k s) ∙ ap (λ (n : ℕ). Some n) (sym number)) in
          let here : slice_get (slice_set xs at (Some n)) k ≡ Some (Some n) =
          subst (λ k. slice_get (slice_set xs at (Some n)) k ≡ Some (Some n)) s (get_same xs at (Some n) there.0 there.1) in
          ap (λ o. o >>? (λ o. o)) here ∙ sym new
      | inr a ↦
          ap (λ o. o >>? (λ o. o)) (get_other xs at k (Some n) a) ∙ old k
          ∙ sym (latest_more (test k) 1 items item ∙ ap (λ b. if b then Some (1 + length items) else latest (test k) 1 items) (is k ∙ ne_eqb at k a))
    ]

-- The numbers of what the latest event sent are written.

-- causes are written beside what was sent; all else stays
with_causes : (app : AppTree) (items : List Item) (j : Seen) (causes : List (List ℕ)) (o : Option Latest) → Stands app items j → length causes ≡ FIELDS
    → ((f p : ℕ) → slice_get (numbers_of o (length (at_field j.model.sent f)) (at_field causes f)) p ≡ appended app f p 1 (power_on app) items)
    → ((f : ℕ) → length (at_field causes f) ≤ length (at_field j.model.sent f))
    → ((f : ℕ) → HasAll app j.model o f (length (at_field j.model.sent f)) (length (at_field causes f)))
    → (is_some o ≡ true → IsBehindEvent items) → Stands app items (record j { causes = causes; behind = o })
with_causes app items j causes o h width sent few all late = record {
  ran = h.ran;
  taken = h.taken;
  devices = h.devices;
  senses = h.senses;
  parts = h.parts;
  events = h.events;
  wide = h.wide;
  width = width;
  sent = sent;
  few = few;
  all = all;
  late = late;
}

pub tried : (app : AppTree) (items : List Item) (j : Seen) (o : Option Latest) (causes : List (List ℕ)) → j.behind ≡ o → Stands app items j → FillsFor o j.model.sent j.causes causes
    → Stands app items (record j { causes = causes })
tried app items j None causes e h fills =
    let at : (f : ℕ) → at_field causes f ≡ at_field j.causes f = (λ f. ap (λ cs. at_field cs f) fills) in
    with_causes app items j causes j.behind h (ap (λ (cs : List (List ℕ)). length cs) fills ∙ h.width)
    (λ f p. ap (λ (cs : List ℕ). slice_get (numbers_of j.behind (length (at_field j.model.sent f)) cs) p) (at f) ∙ h.sent f p)
    (λ f. (let l = ap (λ (cs : List ℕ). length cs) (at f) in let m = h.few f in omega (arith, l, m)))
    (λ f. subst (λ n. HasAll app j.model j.behind f (length (at_field j.model.sent f)) n) (sym (ap (λ (cs : List ℕ). length cs) (at f))) (h.all f))
    h.late
tried app items j (Some l) causes e h fills =
    with_causes app items j causes j.behind h (fills.width ∙ h.width)
    (λ f p. subst (λ o. slice_get (numbers_of o (length (at_field j.model.sent f)) (at_field causes f)) p ≡ appended app f p 1 (power_on app) items) (sym e)
    (ap (λ (cs : List ℕ). slice_get cs p) (fills.keeps f)
    ∙ subst (λ o. slice_get (numbers_of o (length (at_field j.model.sent f)) (at_field j.causes f)) p ≡ appended app f p 1 (power_on app) items) e (h.sent f p)))
    few
    (λ f. subst (λ o. HasAll app j.model o f (length (at_field j.model.sent f)) (length (at_field causes f))) (sym e)
    (at f (subst (λ o. HasAll app j.model o f (length (at_field j.model.sent f)) (length (at_field j.causes f))) e (h.all f))))
    h.late
  where
    few : (f : ℕ) → length (at_field causes f) ≤ length (at_field j.model.sent f)
    few f =
        let a = length_under l.number (length (at_field j.model.sent f)) (at_field causes f) in
        let b = ap (λ (cs : List ℕ). length cs) (fills.keeps f) in
        let c = length_full l.number (length (at_field j.model.sent f)) (at_field j.causes f) (h.few f) in
        omega (arith, a, b, c)

    at : (f : ℕ) → (length (at_field j.causes f) ≡ length (at_field j.model.sent f)) ⊎ IsOf app j.model l.part f
        → (length (at_field causes f) ≡ length (at_field j.model.sent f)) ⊎ IsOf app j.model l.part f
    at f (inl s) = inl (let g = fills.grows f in let m = few f in omega (arith, s, g, m))
    at f (inr o) = inr o

pub caught : (app : AppTree) (items : List Item) (j : Seen) (o : Option Latest) (causes : List (List ℕ)) → j.behind ≡ o → Stands app items j
    → FillsFor o j.model.sent j.causes causes → IsFullFor o app.links j.model causes → Stands app items (record j { causes = causes; behind = None })
caught app items j None causes e h fills all =
    let at : (f : ℕ) → at_field causes f ≡ at_field j.causes f = (λ f. ap (λ cs. at_field cs f) fills) in
    with_causes app items j causes None h (ap (λ (cs : List (List ℕ)). length cs) fills ∙ h.width)
    (λ f p. ap (λ (cs : List ℕ). slice_get cs p) (at f)
    ∙ subst (λ o. slice_get (numbers_of o (length (at_field j.model.sent f)) (at_field j.causes f)) p ≡ appended app f p 1 (power_on app) items) e (h.sent f p))
    (λ f. (let l = ap (λ (cs : List ℕ). length cs) (at f) in let m = h.few f in omega (arith, l, m)))
    (λ f. ap (λ (cs : List ℕ). length cs) (at f) ∙ subst (λ o. HasAll app j.model o f (length (at_field j.model.sent f)) (length (at_field j.causes f))) e (h.all f))
    (λ w. absurd (cc w))
caught app items j (Some l) causes e h fills all =
    with_causes app items j causes None h (fills.width ∙ h.width)
    (λ f p. ap (λ (cs : List ℕ). slice_get cs p) (sym (full_all l.number (length (at_field j.model.sent f)) (at_field causes f) (enough f)) ∙ fills.keeps f)
    ∙ subst (λ o. slice_get (numbers_of o (length (at_field j.model.sent f)) (at_field j.causes f)) p ≡ appended app f p 1 (power_on app) items) e (h.sent f p))
    (λ f. (let s = same f in omega (arith, s)))
    same
    (λ w. absurd (cc w))
  where
    under : (f : ℕ) → (length (at_field j.causes f) ≡ length (at_field j.model.sent f)) ⊎ IsOf app j.model l.part f → length (at_field j.model.sent f) ≤ length (at_field causes f)
    under f (inl s) = let g = fills.grows f in omega (arith, s, g)
    under f (inr o) =
        let wide : length causes ≡ FIELDS = (fills.width ∙ h.width) in
        let within : o.end.link + 256 * o.epoch < length causes = (let at = o.at in let low = o.low in omega (arith, at, low, wide)) in
        let full = subst (λ z. IsFullAt j.model.sent causes o.end.link z) o.opened (all o.place o.end o.there o.sends) in
        subst (λ f. length (at_field j.model.sent f) ≤ length (at_field causes f)) (sym o.at) (full within)

    enough : (f : ℕ) → length (at_field j.model.sent f) ≤ length (at_field causes f)
    enough f = under f (subst (λ o. HasAll app j.model o f (length (at_field j.model.sent f)) (length (at_field j.causes f))) e (h.all f))

    same : (f : ℕ) → length (at_field causes f) ≡ length (at_field j.model.sent f)
    same f =
        let a = ap (λ (cs : List ℕ). length cs) (full_all l.number (length (at_field j.model.sent f)) (at_field causes f) (enough f)) in
        let b = ap (λ (cs : List ℕ). length cs) (fills.keeps f) in
        let c = length_full l.number (length (at_field j.model.sent f)) (at_field j.causes f) (h.few f) in
        omega (arith, a, b, c)

-- An item that the source allows.

module _ (app : AppTree) (items : List Item) (j : Seen) (h : Stands app items j) (e : j.behind ≡ None) where
  held : (f : ℕ) → length (at_field j.causes f) ≡ length (at_field j.model.sent f)
  held f = subst (λ o. HasAll app j.model o f (length (at_field j.model.sent f)) (length (at_field j.causes f))) e (h.all f)

  wrote : (f p : ℕ) → slice_get (at_field j.causes f) p ≡ appended app f p 1 (power_on app) items
  wrote f p = subst (λ o. slice_get (numbers_of o (length (at_field j.model.sent f)) (at_field j.causes f)) p ≡ appended app f p 1 (power_on app) items) e (h.sent f p)

  pub found_cause : (item : Item) → found app j item ≡ cause app items item
  found_cause (Read m v) = at (device_of app m)
    where
      at : (o : Option ℕ) → (o >>? (λ d. slice_get j.senses d >>? (λ o. o))) ≡ (o >>? (λ d. latest (gives d) 1 items))
      at None = refl
      at (Some d) = h.senses d
  found_cause (Take m c i v) = sym (field_word j.causes (c + 256 * (i / 65536)) (i % 65536)) ∙ wrote (c + 256 * (i / 65536)) (i % 65536)
  found_cause (Out m v) = h.events m
  found_cause _ = refl

  module _ (item : Item) (t : Model) (is : step app j.model item ≡ Some t) (n : ℕ) (number : n ≡ length items + 1) where
    ran : after app (power_on app) (items ++ item ∷ []) ≡ Some t
    ran = after_more app items (power_on app) j.model item h.ran ∙ is

    counted : n ≡ length (items ++ item ∷ [])
    counted = let l = length-append items (item ∷ []) in omega (arith, l, number)

    one : n ≡ 1 + length items
    one = omega (arith, number)

    stays : (f : ℕ) → length (at_field j.model.sent f) ≤ length (at_field t.sent f)
    stays f = step_stays app j.model t item f is

    under : (f : ℕ) → length (at_field j.causes f) ≤ length (at_field t.sent f)
    under f = let a = held f in let b = stays f in omega (arith, a, b)

    fresh : (f p : ℕ) → slice_get (full n (length (at_field t.sent f)) (at_field j.causes f)) p ≡ appended app f p 1 (power_on app) (items ++ item ∷ [])
    fresh f p =
        get_full n (at_field j.causes f) (at_field t.sent f) p (under f)
        ∙ ap (λ o. or_else o (if is_some (slice_get (at_field t.sent f) p) then Some n else None)) (wrote f p)
        ∙ ap (λ (o : Option ℕ). or_else (appended app f p 1 (power_on app) items) (if is_some o then Some n else None)) (field_word t.sent f p)
        ∙ ap (λ (k : ℕ). or_else (appended app f p 1 (power_on app) items) (if is_some (word_of t.sent f p) then Some k else None)) one
        ∙ sym (appended_more app f p 1 items (power_on app) j.model t item h.ran is)

    quiet : ((k : ℕ) → begins_event k item ≡ false) → (f : ℕ) → length (at_field j.causes f) ≡ length (at_field t.sent f)
    quiet not f =
        elim (cases_lt (length (at_field j.model.sent f)) (length (at_field t.sent f))) [
          | inl lt ↦ let c = step_comes app j.model t item f h.wide is lt in absurd (let z : true ≡ false = (sym c.begins ∙ not c.part) in cc)
          | inr le ↦ (let a = held f in let b = stays f in omega (arith, a, b, le))
        ]

    event_all : (m : ℕ) → ((k : ℕ) → begins_event k item ≡ (m == k)) → (f : ℕ) → (length (at_field j.causes f) ≡ length (at_field t.sent f)) ⊎ IsOf app t m f
    event_all m only f =
        elim (cases_lt (length (at_field j.model.sent f)) (length (at_field t.sent f))) [
          | inl lt ↦
              let c = step_comes app j.model t item f h.wide is lt in
              let same : m ≡ c.part = eqb-true m c.part (sym (only c.part) ∙ c.begins) in
              inr (subst (λ m. IsOf app t m f) (sym same) c.of)
          | inr le ↦ inl (let a = held f in let b = stays f in omega (arith, a, b, le))
        ]

    quiet_stands : (senses : List (Option ℕ)) (b : Bool) → length senses ≡ length app.devices → IsLatest gives senses (items ++ item ∷ []) → ((k : ℕ) → begins_event k item ≡ false)
        → Stands app (items ++ item ∷ []) (record { model = t; taken = n; senses = senses; events = j.events; causes = j.causes; behind = j.behind; has_forged = b })
    quiet_stands senses b many given not = record {
      ran = ran;
      taken = counted;
      devices = many;
      senses = given;
      parts = h.parts;
      events = keep_latest begins_event j.events items item not h.events;
      wide = step_width app j.model t item is ∙ h.wide;
      width = h.width;
      sent = λ f p. subst (λ o. slice_get (numbers_of o (length (at_field t.sent f)) (at_field j.causes f)) p ≡ appended app f p 1 (power_on app) (items ++ item ∷ [])) (sym e)
          (ap (λ (cs : List ℕ). slice_get cs p) (sym (full_all n (length (at_field t.sent f)) (at_field j.causes f) (let q = quiet not f in omega (arith, q)))) ∙ fresh f p);
      few = under;
      all = λ f. subst (λ o. HasAll app t o f (length (at_field t.sent f)) (length (at_field j.causes f))) (sym e) (quiet not f);
      late = λ w. absurd (let z : false ≡ true = sym (ap (λ (o : Option Latest). is_some o) e) ∙ w in cc z);
    }

    event_stands : (m : ℕ) → m < length app.parts → ((k : ℕ) → begins_event k item ≡ (m == k)) → ((k : ℕ) → gives k item ≡ false)
        → Stands app (items ++ item ∷ []) (record {
          model = t;
          taken = n;
          senses = j.senses;
          events = slice_set j.events m (Some n);
          causes = j.causes;
          behind = Some (record { part = m; number = n });
          has_forged = j.has_forged;
        })
    event_stands m within only not = record {
      ran = ran;
      taken = counted;
      devices = h.devices;
      senses = keep_latest gives j.senses items item not h.senses;
      parts = length-set j.events m (Some n) ∙ h.parts;
      events = put_latest begins_event j.events items item m n only one (let l = h.parts in omega (arith, l, within)) h.events;
      wide = step_width app j.model t item is ∙ h.wide;
      width = h.width;
      sent = fresh;
      few = under;
      all = event_all m only;
      late = λ w. (items, item, m, refl, only m ∙ eq-eqb m m refl);
    }

  pub kept : (item : Item) (t : Model) → step app j.model item ≡ Some t → (n : ℕ) → n ≡ length items + 1 → Stands app (items ++ item ∷ []) (noted n item (record j { model = t; taken = n }))
  kept (Sense d v) t is n number =
      let w = some_next (slice_get app.devices d) _ t is in
      let within = slice_get_within app.devices d w.0 w.1 in
      quiet_stands (Sense d v) t is n number (slice_set j.senses d (Some n)) j.has_forged (length-set j.senses d (Some n) ∙ h.devices)
      (put_latest gives j.senses items (Sense d v) d n (λ k. refl) (omega (arith, number)) (let l = h.devices in omega (arith, l, within)) h.senses) (λ k. refl)
  kept (Read m v) t is n number =
      let w = some_next (slice_get app.parts m) _ t is in
      event_stands (Read m v) t is n number m (slice_get_within app.parts m w.0 w.1) (λ k. refl) (λ k. refl)
  kept (Take m c i v) t is n number =
      let w = some_next (slice_get app.parts m) _ t is in
      event_stands (Take m c i v) t is n number m (slice_get_within app.parts m w.0 w.1) (λ k. refl) (λ k. refl)
  kept (Forged m) t is n number =
      quiet_stands (Forged m) t is n number j.senses true h.devices (keep_latest gives j.senses items (Forged m) (λ k. refl) h.senses) (λ k. refl)
  kept _ t is n number =
      quiet_stands _ t is n number j.senses j.has_forged h.devices (keep_latest gives j.senses items _ (λ k. refl) h.senses) (λ k. refl)

-- What is said.

noted_forged : (n : ℕ) (item : Item) (j : Seen) → j.has_forged ≡ false → (noted n item j).has_forged ≡ is_forged item
noted_forged n (Forged m) j e = refl
noted_forged n (Sense d v) j e = e
noted_forged n (Read m v) j e = e
noted_forged n (Take m c i v) j e = e
noted_forged n _ j e = e

noted_taken : (n : ℕ) (item : Item) (j : Seen) → (noted n item j).taken ≡ j.taken
noted_taken n (Forged m) j = refl
noted_taken n (Sense d v) j = refl
noted_taken n (Read m v) j = refl
noted_taken n (Take m c i v) j = refl
noted_taken n _ j = refl

said_after : (items : List Item) (o : Option ℕ) (item : Item) → items_after items item (said o item) ≡ items ++ item ∷ []
said_after items (Some n) item = refl
said_after items None item = at (is_forged item)
  where
    at : (b : Bool) → items_after items item (if b then verdict.Forged else verdict.Fine) ≡ items ++ item ∷ []
    at true = refl
    at false = refl

pub unjudged_follows : (app : AppTree) (items : List Item) (item : Item) (j : Seen) → Follows app items j → j.has_forged ≡ true → Follows app (items ++ item ∷ []) j
unjudged_follows app items item j h e =
    let f : list_any is_forged items ≡ true = (sym h.forged ∙ e) in
    record {
      forged = e ∙ sym (any_still is_forged items item f);
      taken = h.taken ∙ sym (taken_still items item f);
      stands = λ n. absurd (let z : true ≡ false = (sym e ∙ n) in cc);
    }

-- an item after items none of which was forged
judged_now : (app : AppTree) (items : List Item) (item : Item) (o : Option Model) → list_any is_forged items ≡ false → after app (power_on app) (items ++ item ∷ []) ≡ o
    → judged app items item ≡ (if is_none o then verdict.Illegal else said (cause app items item) item)
judged_now app items item o f a = rw (f, a) refl

pub answers : (app : AppTree) (items : List Item) (item : Item) (j : Seen) → Follows app items j → j.has_forged ≡ false → Stands app items j → j.behind ≡ None
    → judged app items item ≡ answered app item j (step app j.model item)
answers app items item j h e s none =
    let f : list_any is_forged items ≡ false = (sym h.forged ∙ e) in
    judged_now app items item (step app j.model item) f (after_more app items (power_on app) j.model item s.ran) ∙ at (step app j.model item)
  where
    at : (o : Option Model) → (if is_none o then verdict.Illegal else said (cause app items item) item) ≡ answered app item j o
    at None = refl
    at (Some t) = ap (λ o. said o item) (sym (found_cause app items j s none item))

pub follows : (app : AppTree) (items : List Item) (item : Item) (j : Seen) → Follows app items j → j.has_forged ≡ false → Stands app items j → j.behind ≡ None
    → Follows app (items_after items item (answered app item j (step app j.model item))) (taken_in item j (step app j.model item))
follows app items item j h e s none = at (step app j.model item) refl
  where
    at : (o : Option Model) → step app j.model item ≡ o → Follows app (items_after items item (answered app item j o)) (taken_in item j o)
    at None is = h
    at (Some t) is =
        let f : list_any is_forged items ≡ false = (sym h.forged ∙ e) in
        let n = j.taken + 1 in
        let number : n ≡ length items + 1 = ap (λ k. k + 1) s.taken in
        let place : items_after items item (said (found app j item) item) ≡ items ++ item ∷ [] = said_after items (found app j item) item in
        let done : Follows app (items ++ item ∷ []) (noted n item (record j { model = t; taken = n })) = record {
          forged = noted_forged n item (record j { model = t; taken = n }) e ∙ sym (any_more is_forged items item f);
          taken = noted_taken n item (record j { model = t; taken = n }) ∙ number ∙ sym (taken_more items item f);
          stands = λ _. kept app items j s none item t is n number;
        } in
        subst (λ xs. Follows app xs (noted n item (record j { model = t; taken = n }))) (sym place) done

-- from what the judge was before its lists were filled
pub caught_up : (app : AppTree) (items : List Item) (old new : Seen) → Follows app items old → old.has_forged ≡ false → new ≡ record old { causes = new.causes; behind = None }
    → FillsFor old.behind old.model.sent old.causes new.causes → IsFullFor old.behind app.links old.model new.causes → Stands app items new
caught_up app items old new h e is fills all =
    subst (λ j. Stands app items j) (sym is) (caught app items old old.behind new.causes refl (h.stands e) fills all)

pub tried_up : (app : AppTree) (items : List Item) (old new : Seen) → Follows app items old → old.has_forged ≡ false → new ≡ record old { causes = new.causes }
    → FillsFor old.behind old.model.sent old.causes new.causes → Follows app items new
tried_up app items old new h e is fills = record {
  forged = ap (λ (j : Seen). j.has_forged) is ∙ h.forged;
  taken = ap (λ (j : Seen). j.taken) is ∙ h.taken;
  stands = λ _. subst (λ j. Stands app items j) (sym is) (tried app items old old.behind new.causes refl (h.stands e) fills);
}

pub same_forged : (app : AppTree) (items : List Item) (old new : Seen) → Follows app items old → new.has_forged ≡ old.has_forged → new.taken ≡ old.taken → Stands app items new → Follows app items new
same_forged app items old new h e n s = record { forged = e ∙ h.forged; taken = n ∙ h.taken; stands = λ _. s }

-- Before the first item.

pub begins : (app : AppTree) (j : Seen) → j.model ≡ power_on app → j.taken ≡ 0 → j.senses ≡ replicate (length app.devices) None → j.events ≡ replicate (length app.parts) None
    → j.causes ≡ replicate FIELDS [] → j.behind ≡ None → j.has_forged ≡ false → Follows app [] j
begins app j model taken senses events causes behind forged =
    let is : j ≡ first = (
    ap (λ m. record j { model = m }) model
    ∙ ap (λ n. record j { model = power_on app; taken = n }) taken
    ∙ ap (λ ss. record j { model = power_on app; taken = 0; senses = ss }) senses
    ∙ ap (λ es. record j { model = power_on app; taken = 0; senses = replicate (length app.devices) None; events = es }) events
    ∙ ap (λ cs. record j { model = power_on app; taken = 0; senses = replicate (length app.devices) None; events = replicate (length app.parts) None; causes = cs }) causes
    ∙ ap (λ b. record j { model = power_on app; taken = 0; senses = replicate (length app.devices) None; events = replicate (length app.parts) None; causes = replicate FIELDS []; behind = b }) behind
    ∙ ap (λ b. record {
      model = power_on app;
      taken = 0;
      senses = replicate (length app.devices) None;
      events = replicate (length app.parts) None;
      causes = replicate FIELDS [];
      behind = None;
      has_forged = b;
    }) forged
    ) in
    subst (λ j. Follows app [] j) (sym is) (record { forged = refl; taken = refl; stands = λ _. stands })
  where
    first : Seen
    first = record {
      model = power_on app;
      taken = 0;
      senses = replicate (length app.devices) None;
      events = replicate (length app.parts) None;
      causes = replicate FIELDS [];
      behind = None;
      has_forged = false;
    }

    none : (n k : ℕ) → (slice_get (replicate n None) k >>? (λ (o : Option ℕ). o)) ≡ None
    none zero k = refl
    none (suc n) zero = refl
    none (suc n) (suc k) = none n k

    stands : Stands app [] first
    stands = record {
      ran = refl;
      taken = refl;
      devices = length-replicate (length app.devices) None;
      senses = none (length app.devices);
      parts = length-replicate (length app.parts) None;
      events = none (length app.parts);
      wide = length-replicate FIELDS [];
      width = length-replicate FIELDS [];
      sent = λ f p. ap (λ (cs : List ℕ). slice_get cs p) (none_at FIELDS f);
      few = λ f. omega arith;
      all = λ f. refl;
      late = λ w. absurd (cc w);
    }
