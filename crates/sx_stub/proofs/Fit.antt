-- Each operation of the stub has the stub's form.
use Rattle.std.proofs.Common.{◌≡◌, ℕ, suc, ◌+◌, ◌*◌, ◌%◌, ◌<◌, ◌≤◌, Bool, true, false, ◌&&◌, cond, List, [], ◌∷◌, ◌++◌, length, length-append, Option, Some, None, refl, ap, ◌∙◌, arith}
use Rattle.std.specs.Prelude.{if◌then◌else◌, nat_le, nat_lt, ◌==◌, All}
use Rattle.std.specs.List.{list_all, position_from}
use Rattle.std.proofs.lemmas.List.Folds.{list_all-append}
use Rattle.std.proofs.lemmas.List.Elements.{All-head, All-tail}
use Rattle.std.proofs.lemmas.Bool.{le-leb, lt-ltb, eq-eqb, and_from, or_right}
use Rattle.std.proofs.lemmas.Option.{none-some, same_Some}
use Rattle.sx_mean.specs.Offsets.{end_at, end_key_at, end_number_at}
use Rattle.sx_lang.specs.declared.sides.Side.{Side}
use Rattle.sx_lang.specs.declared.sides.Side.TheVariants.{From, To}
use Rattle.sx_lang.specs.Tree.{HandlerTree, ModuleTree}
use Rattle.sx_check.specs.Names.{same_input}
use Rattle.sx_mean.specs.declared.events.End.{End}
use Rattle.sx_mean.specs.declared.events.SourceEvent.{SourceEvent}
use Rattle.sx_mean.specs.declared.events.SourceEvent.TheVariants as event
use Rattle.sx_mean.specs.Application.{declared_kind}
use Rattle.sx_mean.specs.React.{input_names, nth}
use Rattle.spec_invocation.specs.Protocol.{entry_register, input_register, output_register, other_tag, set_key_kind, ask_kind, event_kind}
use Rattle.spec_invocation.specs.Windows.{in_window_size, out_window_size}
use Rattle.spec_invocation.specs.Invocation.{is_sensor_driver}
use Rattle.sx_ir.specs.declared.ir.Ir.{Ir}
use Rattle.sx_ir.specs.declared.ir.Ir.TheVariants as ir
use Rattle.sx_ir.specs.declared.ir.IrOp.TheVariants as op
use Rattle.sx_mean.specs.Handlers.{number_of, number_of_name}
use Rattle.sx_stub.specs.Stub.{Cases, answer_code, attest_code, case_of, cases, entries, find_any, found_code, handled_by, input_code, input_found}
use Rattle.sx_stub.specs.Stub.{is_above_last, is_fresh_code, is_keyed_code, has_number_above, is_open_code, is_other_epoch, is_past_number}
use Rattle.sx_stub.specs.Stub.{is_to, jump_on, key_found, key_place, named_end, open_any, refuse_if, refuse_kind, refuse_unless, returns, sample_code}
use Rattle.sx_stub.specs.Stub.{sampled_code, search_code, set_key_code, slot_word, stub_code, stub_ops, take_event, take_receiving, tests}
use Rattle.sx_stub.proofs.Plain.{is_fit, is_low}
use Rattle.lemmas.specs.Truth.{truth}

-- The handler that is named is there.

position_below : (t : HandlerTree → Bool) (i : ℕ) (hs : List HandlerTree) (r : ℕ) → position_from t i hs ≡ Some r → r < i + length hs
position_below t i [] r h = absurd (none-some r h)
position_below t i (x ∷ hs) r h = go (t x) h (position_below t (i + 1) hs r)
  where
    go : (b : Bool) → cond b (Some i) (position_from t (i + 1) hs) ≡ Some r → (position_from t (i + 1) hs ≡ Some r → r < (i + 1) + length hs) → r < i + suc (length hs)
    go true e more = let s = same_Some i r e in omega (arith, s)
    go false e more = let l = more e in omega (arith, l)

pub number_below : (tree : ModuleTree) (e : SourceEvent) (r : ℕ) → number_of tree e ≡ Some r → r < length tree.handlers
number_below tree (event.Input j v) r h = named (nth (input_names tree.decls) j) h
  where
    named : (x : Option (List ℕ)) → number_of_name tree.handlers x ≡ Some r → r < length tree.handlers
    named None e = absurd (none-some r e)
    named (Some x) e = let l = position_below (λ g. same_input (Some x) g.input) 0 tree.handlers r e in omega (arith, l)
number_below tree (event.Sample v) r h = let l = position_below (λ g. same_input None g.input) 0 tree.handlers r h in omega (arith, l)

-- the operations of a search for an end
pub length-find : (found place k : ℕ) (es : List End) → length (cases (find_any found) place k es) ≡ 4 * length es
length-find found place k [] = omega arith
length-find found place k (e ∷ es) = let r = length-find found (place + 4) (k + 1) es in omega (arith, r)

module _ (n ops parts : ℕ) (few : n ≤ 16) where
  abbrev Fit : List Ir → Type 0
  Fit code = list_all (is_fit n ops parts) code ≡ true

  both : (xs ys : List Ir) → Fit xs → Fit ys → Fit (xs ++ ys)
  both xs ys p q = list_all-append (is_fit n ops parts) xs ys ∙ ap (λ (b : Bool). b && list_all (is_fit n ops parts) ys) p ∙ q

  one : (i : Ir) → is_fit n ops parts i ≡ true → Fit (i ∷ [])
  one i h = ap (λ (b : Bool). b && true) h

  refuse_fit : (place : ℕ) (test : List Ir) (status : ℕ) → nat_lt status 65536 ≡ true → place + length test + 4 < ops → Fit test → Fit (refuse_if place test status)
  refuse_fit place test status small lt h = both test (ir.JumpZero (place + length test + 4) ∷ returns status) h (and_from _ _ (lt-ltb (place + length test + 4) ops lt) (and_from _ _ small refl))

  unless_fit : (place : ℕ) (test : List Ir) (status : ℕ) → nat_lt status 65536 ≡ true → place + length test + 5 < ops → Fit test → Fit (refuse_unless place test status)
  unless_fit place test status small lt h =
      let here = place + length test in
      both test (ir.JumpZero (here + 2) ∷ ir.Jump (here + 5) ∷ returns status) h
      (and_from _ _ (lt-ltb (here + 2) ops (omega (arith, lt))) (and_from _ _ (lt-ltb (here + 5) ops lt) (and_from _ _ small refl)))

  kind_fit : (place kind : ℕ) → nat_lt kind 65536 ≡ true → place + 4 < ops → Fit (refuse_kind place kind)
  kind_fit place kind small lt = and_from _ _ (and_from _ _ small (lt-ltb (place + 4) ops lt)) refl

  jump_fit : (entry place : ℕ) → nat_lt entry 65536 ≡ true → place < ops → Fit (jump_on entry place)
  jump_fit entry place small lt = one (ir.JumpEqual 6 entry place) (and_from _ _ small (lt-ltb place ops lt))

  cases_fit : (cs : Cases) → is_fit n ops parts (ir.Load cs.offset) ≡ true → ((k : ℕ) (e : End) → k < n → e.link < 256 → nat_lt (cs.number k e) 65536 ≡ true)
      → ((place k : ℕ) (e : End) → k < n → place + length (cs.body place k e) < ops → Fit (cs.body place k e))
      → (place k : ℕ) (es : List End) → k + length es ≤ n → All (λ e. e.link < 256) es → place + length (cases cs place k es) < ops → Fit (cases cs place k es)
  cases_fit cs load number f place k [] le links lt = refl
  cases_fit cs load number f place k (e ∷ es) le links lt =
      let first = case_of cs place k e in
      let rest = cases cs (place + length first) (k + 1) es in
      let long = length-append first rest in
      both first rest (here (cs.has e) (omega (arith, lt, long)))
      (cases_fit cs load number f (place + length first) (k + 1) es (omega (arith, le)) (All-tail (λ e. e.link < 256) e es links) (omega (arith, lt, long)))
    where
      here : (b : Bool) → place + length (if b then ir.JumpEqual cs.offset (cs.number k e) (place + 2) ∷ ir.Jump (place + 2 + length (cs.body (place + 2) k e))
          ∷ cs.body (place + 2) k e else []) < ops
          → Fit (if b then ir.JumpEqual cs.offset (cs.number k e) (place + 2) ∷ ir.Jump (place + 2 + length (cs.body (place + 2) k e)) ∷ cs.body (place + 2) k e else [])
      here true h =
          let body = cs.body (place + 2) k e in
          and_from _ _ (and_from _ _ load (and_from _ _ (number k e (omega (arith, le)) (All-head (λ e. e.link < 256) e es links)) (lt-ltb (place + 2) ops (omega (arith, h)))))
          (and_from _ _ (lt-ltb (place + 2 + length body) ops (omega (arith, h))) (f (place + 2) k e (omega (arith, le)) (omega (arith, h))))
      here false h = refl

  handled_fit : (h : Option ℕ) → ((r : ℕ) → h ≡ Some r → r < parts) → Fit (handled_by h)
  handled_fit None f = refl
  handled_fit (Some r) f = and_from _ _ (lt-ltb r parts (f r refl)) refl

  slot_fit : (k : ℕ) → nat_lt k 65536 ≡ true → Fit (slot_word n k)
  slot_fit k small = and_from _ _ small (one (ir.LoadAt 512 (12 * n)) (le-leb (12 * n) (12 * n) (omega arith)))

  key_fits : (k : ℕ) → k < n → Fit (ir.Open (end_key_at k) 16 6 2 2 ∷ [])
  key_fits k lt =
      ap (λ (b : Bool). (b && true) && true)
      (or_right ((end_key_at k) == 0) _ (and_from _ _ (le-leb 512 (end_key_at k) (omega arith)) (le-leb (end_key_at k + 16) (end_at n) (omega (arith, lt)))))

  number_fits : (k : ℕ) → k < n → Fit (ir.Store (end_number_at k) ∷ [])
  number_fits k lt =
      let o = end_number_at k in
      one (ir.Store o) (and_from _ _ (eq-eqb (o % 2) 0 (omega arith))
      (and_from _ _ (or_right (is_low o 2) _ (and_from _ _ (le-leb 512 o (omega arith)) (le-leb (o + 2) (end_at n) (omega (arith, lt)))))
      (or_right (nat_le (o + 2) 6) _ (le-leb 14 o (omega arith)))))

  keyed_fit : Fit (is_keyed_code n)
  keyed_fit =
      let back = ir.Push 0xFF00 ∷ ir.Op op.And ∷ ir.Load 18 ∷ ir.Push 0xFF00 ∷ ir.Op op.And ∷ ir.Op op.Lt ∷ ir.Op op.Not ∷ ir.Op op.And ∷ [] in
      both (slot_word n 2) (ir.Push 0 ∷ ir.Op op.Eq ∷ ir.Op op.Not ∷ (slot_word n 0 ++ back)) (slot_fit 2 refl) (both (slot_word n 0) back (slot_fit 0 refl) refl)

  index_small : (k : ℕ) → k < n → nat_lt (12 * k) 65536 ≡ true
  index_small k lt = lt-ltb (12 * k) 65536 (omega (arith, lt, few))

  named_small : (k : ℕ) (e : End) → e.link < 256 → nat_lt (named_end k e) 65536 ≡ true
  named_small k e lt = go e.side
    where
      go : (s : Side) → nat_lt (e.link + 256 * truth (is_to s)) 65536 ≡ true
      go From = lt-ltb (e.link + 0) 65536 (omega (arith, lt))
      go To = lt-ltb (e.link + 256) 65536 (omega (arith, lt))

-- of a module, in code with this many operations
module _ (tree : ModuleTree) (ends : List End) (ops : ℕ) (few : length ends ≤ 16) (links : All (λ e. e.link < 256) ends) where
  abbrev Fits : List Ir → Type 0
  Fits = Fit (length ends) ops (length tree.handlers) few

  abbrev join : (xs ys : List Ir) → Fits xs → Fits ys → Fits (xs ++ ys)
  join = both (length ends) ops (length tree.handlers) few

  abbrev refuses : (place : ℕ) (test : List Ir) (status : ℕ) → nat_lt status 65536 ≡ true → place + length test + 4 < ops → Fits test → Fits (refuse_if place test status)
  refuses = refuse_fit (length ends) ops (length tree.handlers) few

  abbrev needs : (place : ℕ) (test : List Ir) (status : ℕ) → nat_lt status 65536 ≡ true → place + length test + 5 < ops → Fits test → Fits (refuse_unless place test status)
  needs = unless_fit (length ends) ops (length tree.handlers) few

  abbrev kinds : (place kind : ℕ) → nat_lt kind 65536 ≡ true → place + 4 < ops → Fits (refuse_kind place kind)
  kinds = kind_fit (length ends) ops (length tree.handlers) few

  abbrev slots : (k : ℕ) → nat_lt k 65536 ≡ true → Fits (slot_word (length ends) k)
  slots = slot_fit (length ends) ops (length tree.handlers) few

  handled : (e : SourceEvent) → Fits (handled_by (number_of tree e))
  handled e = handled_fit (length ends) ops (length tree.handlers) few (number_of tree e) (number_below tree e)

  take_fit : (place k : ℕ) (e : End) → k < length ends → place + length (take_event tree place k e) < ops → Fits (take_event tree place k e)
  take_fit place k e lt short =
      let rest = handled_by (number_of tree (event.Input e.port 0)) in
      let store = ir.Store (end_number_at k) ∷ [] in
      let raise = ir.Load 20 ∷ ir.Push 1 ∷ ir.Op op.Add ∷ [] in
      let refuse = refuse_unless (place + 1) [] other_tag in
      join (ir.Open (end_key_at k) 16 6 2 2 ∷ []) (refuse ++ (raise ++ (store ++ rest))) (key_fits (length ends) ops (length tree.handlers) few k lt)
      (join refuse (raise ++ (store ++ rest)) (needs (place + 1) [] other_tag refl (omega (arith, short)) refl)
      (join raise (store ++ rest) refl (join store rest (number_fits (length ends) ops (length tree.handlers) few k lt) (handled (event.Input e.port 0)))))

  input_fit : (place : ℕ) → place + length (input_found tree ends place) < ops → Fits (input_found tree ends place)
  input_fit place short =
      let n = length ends in
      let last = cases (take_receiving tree) (place + 41) 0 ends in
      let fourth = refuse_unless (place + 33) has_number_above 6 ++ last in
      let third = refuse_if (place + 23) (is_past_number n) 6 ++ fourth in
      let second = refuse_if (place + 9) (is_other_epoch n) 5 ++ third in
      join (refuse_unless place (is_open_code n) 5) second (needs place (is_open_code n) 5 refl (omega (arith, short)) (slots 2 refl))
      (join (refuse_if (place + 9) (is_other_epoch n) 5) third
      (refuses (place + 9) (is_other_epoch n) 5 refl (omega (arith, short)) (join (slot_word n 0) (ir.Push 0xFF00 ∷ ir.Op op.And ∷ ir.Load 18 ∷ ir.Push 0xFF00 ∷ ir.Op op.And ∷ ir.Op op.Sub ∷ [])
      (slots 0 refl) refl))
      (join (refuse_if (place + 23) (is_past_number n) 6) fourth
      (refuses (place + 23) (is_past_number n) 6 refl (omega (arith, short))
      (join (ir.Load 20 ∷ []) (slot_word n 1 ++ ir.Op op.Lt ∷ []) refl (join (slot_word n 1) (ir.Op op.Lt ∷ []) (slots 1 refl) refl)))
      (join (refuse_unless (place + 33) has_number_above 6) last (needs (place + 33) has_number_above 6 refl (omega (arith, short)) refl)
      (cases_fit n ops (length tree.handlers) few (take_receiving tree) refl (λ k e lt link. index_small n ops (length tree.handlers) few k lt) take_fit (place + 41) 0 ends (omega arith) links
      (omega (arith, short))))))

  key_fit : (place : ℕ) → place + length (key_found ends place) < ops → Fits (key_found ends place)
  key_fit place short =
      let n = length ends in
      let last = cases open_any (place + 29) 0 ends in
      let opened = refuse_unless (place + 24) [] other_tag in
      let unwrap = ir.Open 0 16 6 56 16 ∷ [] in
      join (refuse_if place (is_keyed_code n) 5) (unwrap ++ (opened ++ last)) (refuses place (is_keyed_code n) 5 refl (omega (arith, short)) (keyed_fit n ops (length tree.handlers) few))
      (join unwrap (opened ++ last) refl (join opened last (needs (place + 24) [] other_tag refl (omega (arith, short)) refl)
      (cases_fit n ops (length tree.handlers) few open_any refl (λ k e lt link. index_small n ops (length tree.handlers) few k lt) (λ p k e lt s. and_from _ _ (lt-ltb k n lt) refl)
      (place + 29) 0 ends (omega arith) links (omega (arith, short)))))

  found_fit : (place : ℕ) → place + length (found_code tree ends place) < ops → Fits (found_code tree ends place)
  found_fit place short =
      let first = input_found tree ends (place + 3) in
      let key = key_place tree ends place in
      let second = key_found ends key in
      let long = length-append first second in
      and_from _ _ (lt-ltb key ops (omega (arith, short, long)))
      (join first second (input_fit (place + 3) (omega (arith, short, long))) (key_fit key (omega (arith, short, long))))

  search_fit : (place : ℕ) → place + length (search_code tree ends place) < ops → Fits (search_code tree ends place)
  search_fit place short =
      let n = length ends in
      let found = place + 4 * n + 3 in
      let find = cases (find_any found) place 0 ends in
      let rest = returns 5 ++ found_code tree ends found in
      let long = length-append find rest in
      let count = length-find found place 0 ends in
      join find rest
      (cases_fit n ops (length tree.handlers) few (find_any found) refl (λ k e lt link. named_small n ops (length tree.handlers) few k e link)
      (λ p k e lt s. and_from _ _ (index_small n ops (length tree.handlers) few k lt) (one n ops (length tree.handlers) few (ir.Jump found) (lt-ltb found ops (omega (arith, short, long, count)))))
      place 0 ends (omega arith) links (omega (arith, short, long)))
      (found_fit found (omega (arith, short, long, count)))

  sample_fit : (place : ℕ) → place + length (sample_code tree place) < ops → Fits (sample_code tree place)
  sample_fit place short =
      join (refuse_unless (place + 2) is_fresh_code 8) (sampled_code tree) (needs (place + 2) is_fresh_code 8 refl (omega (arith, short)) refl) (handled (event.Sample 0))

  set_key_fit : (search place : ℕ) → search < ops → place + 21 < ops → Fits (set_key_code search place)
  set_key_fit search place lt short =
      let last = ir.Load 18 ∷ ir.Push 255 ∷ ir.Op op.And ∷ ir.Load 20 ∷ ir.Push 256 ∷ ir.Op op.Mul ∷ ir.Op op.Add ∷ ir.Store 72 ∷ ir.Jump search ∷ [] in
      let sides = refuse_if (place + 5) (ir.Push 1 ∷ ir.Load 20 ∷ ir.Op op.Lt ∷ []) 5 in
      join (refuse_kind (place + 1) set_key_kind) (sides ++ last) (kinds (place + 1) set_key_kind refl (omega (arith, short)))
      (join sides last (refuses (place + 5) (ir.Push 1 ∷ ir.Load 20 ∷ ir.Op op.Lt ∷ []) 5 refl (omega (arith, short)) refl)
      (one (length ends) ops (length tree.handlers) few (ir.Jump search) (lt-ltb search ops lt)))

  attest_fit : (place : ℕ) → place + 11 < ops → Fits (attest_code place)
  attest_fit place short = join (refuse_kind (place + 1) ask_kind) answer_code (kinds (place + 1) ask_kind refl (omega (arith, short))) refl

  asked_fit : (place : ℕ) → place + 11 < ops → Fits (input_code place)
  asked_fit place short =
      let last = ir.Load 18 ∷ ir.Push 255 ∷ ir.Op op.And ∷ ir.Push 256 ∷ ir.Op op.Add ∷ ir.Store 72 ∷ [] in
      join (refuse_kind (place + 1) event_kind) last (kinds (place + 1) event_kind refl (omega (arith, short))) refl

  above_fit : Fits (is_above_last tree)
  above_fit = go (is_sensor_driver (declared_kind tree.decls))
    where
      go : (b : Bool) → Fits (ir.Push (if b then 3 else 2) ∷ ir.Saved entry_register ∷ ir.Op op.Lt ∷ [])
      go true = refl
      go false = refl

  tests_fit : 18 < ops → Fits (tests tree)
  tests_fit short =
      let last = refuse_if 13 (ir.Meets output_register out_window_size ∷ []) 3 in
      let second = refuse_if 8 (ir.Meets input_register in_window_size ∷ []) 3 in
      join (refuse_if 1 (is_above_last tree) 2) (second ++ last) (refuses 1 (is_above_last tree) 2 refl (omega (arith, short)) above_fit)
      (join second last (refuses 8 (ir.Meets input_register in_window_size ∷ []) 3 refl (omega (arith, short)) refl)
      (refuses 13 (ir.Meets output_register out_window_size ∷ []) 3 refl (omega (arith, short)) refl))

  entries_fit : 18 + length (entries tree ends) < ops → Fits (entries tree ends)
  entries_fit short =
      let set_key = 21 + length (sample_code tree 21) in
      let attest = set_key + 21 in
      let input = attest + 11 in
      let search = input + 11 in
      let l8 = search_code tree ends search in
      let l7 = input_code input ++ l8 in
      let l6 = attest_code attest ++ l7 in
      let l5 = set_key_code search set_key ++ l6 in
      let l4 = sample_code tree 21 ++ l5 in
      let long = length-append (sample_code tree 21) l5 in
      let jumps = jump_fit (length ends) ops (length tree.handlers) few in
      join (jump_on 2 input) (jump_on 0 set_key ++ (jump_on 1 attest ++ l4)) (jumps 2 input refl (omega (arith, short, long)))
      (join (jump_on 0 set_key) (jump_on 1 attest ++ l4) (jumps 0 set_key refl (omega (arith, short, long)))
      (join (jump_on 1 attest) l4 (jumps 1 attest refl (omega (arith, short, long)))
      (join (sample_code tree 21) l5 (sample_fit 21 (omega (arith, short, long)))
      (join (set_key_code search set_key) l6 (set_key_fit search set_key (omega (arith, short, long)) (omega (arith, short, long)))
      (join (attest_code attest) l7 (attest_fit attest (omega (arith, short, long)))
      (join (input_code input) l8 (asked_fit input (omega (arith, short, long)))
      (search_fit search (omega (arith, short, long)))))))))

  -- the whole stub
  pub stub_fit : length (stub_ops tree ends) ≤ ops → Fits (stub_ops tree ends)
  unfolding stub_code
  stub_fit short =
      let long = length-append (stub_code tree ends) (returns 5) in
      join (stub_code tree ends) (returns 5) (join (tests tree) (entries tree ends) (tests_fit (omega (arith, short, long))) (entries_fit (omega (arith, short, long)))) refl
