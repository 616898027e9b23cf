-- The code of statements and blocks does what they do.
use Rattle.std.proofs.Common.{◌≡◌, ℕ, zero, suc, ◌+◌, ◌-◌, ◌*◌, ◌%◌, ◌<◌, ◌≤◌, ◌==◌, ◌&&◌, Bool, true, false, if◌then◌else◌, List, [], ◌∷◌, ◌++◌, length, max, take}
use Rattle.std.proofs.Common.{Option, Some, nat_lt, refl, sym, ap, ◌∙◌, subst, arith, length-append, append_assoc}
use Rattle.std.specs.Prelude.{slice_get}
use Rattle.std.proofs.Math.Nat.{suc-mul}
use Rattle.std.proofs.Math.Dec.{eqb-suc-zero}
use Rattle.std.proofs.Math.Seq.{take-append_seam}
use Rattle.std.proofs.lemmas.List.{append-nil}
use Rattle.std.proofs.lemmas.Bool.{and_from, ltb-true}
use Rattle.sx_lang.specs.declared.tree.Decl.{Decl}
use Rattle.sx_lang.specs.Tree.{Expression, Statement, Defines, Assigns, Stores, Chooses, Repeats, Sends, Emits, Block, Done, Then}
use Rattle.sx_lang.specs.Sizes.{expression_cost, statement_cost, block_cost}
use Rattle.sx_check.specs.Names.{defined, statement_lets, block_lets}
use Rattle.sx_check.specs.Scopes.{definitions}
use Rattle.sx_check.specs.Bounds.{height, statement_height, block_height, statement_depth, inner_depth}
use Rattle.sx_mean.specs.declared.events.Act.{Act}
use Rattle.sx_mean.specs.declared.events.Act.TheVariants.{Send, Emit}
use Rattle.sx_mean.specs.Application.{block_packets}
use Rattle.sx_mean.specs.Packets.{statement_packets}
use Rattle.sx_mean.specs.Places.{place, array_length, output_number}
use Rattle.sx_mean.specs.Meaning.{HandlerState, value, define, assign, assign_element, act, times, after_statement, after_block, in_block}
use Rattle.sx_rules.specs.declared.access.Violation.{Violation}
use Rattle.sx_bus.specs.declared.devices.Kind.TheVariants as kind
use Rattle.sx_bus.specs.declared.devices.Window.{Window}
use Rattle.sx_image.specs.Reach.{Goes, Here}
use Rattle.spec_machine.specs.Memory.{word, put_word}
use Rattle.spec_invocation.specs.Marks.{Mark, Actuated}
use Rattle.spec_invocation.specs.Setup.{Setup, Call}
use Rattle.sx_mean.specs.Offsets.{cell_at}
use Rattle.sx_mean.specs.Working.{event_at, local_at, stack_words}
use Rattle.spec_invocation.specs.Windows.{is_bad_window, out_window_size}
use Rattle.spec_invocation.specs.Progress.{Progress, Course, Going, Broken, and_on}
use Rattle.spec_invocation.specs.Acts.{own_window, actuated, with_act, with_acts}
use Rattle.sx_ir.specs.Conf.{Conf}
use Rattle.sx_ir.specs.Counts.{count_of}
use Rattle.sx_ir.specs.Meaning.{OperationResult, do_at, do_op, is_shown, is_shown_element, spares_slots, handler_count, emit, emitted}
use Rattle.sx_ir.specs.Invoking.{CourseBreaks}
use Rattle.sx_ir.specs.declared.ir.Ir.{Ir}
use Rattle.sx_ir.specs.declared.ir.Ir.TheVariants as ir
use Rattle.sx_ir.specs.declared.ir.IrOp.TheVariants as op
use Rattle.sx_lower.specs.Lowered.{turns_at, assign_code, define_code, element_code, packets_code, send_code, expression_code, choice_code, loop_code, statement_code, block_code}
use Rattle.sx_mean.specs.Variables.{first_value, IsKnown, FineExpression, FineStatement, FineBlock}
use Rattle.sx_mean.specs.Scope.{index_of}
use Rattle.sx_mean.specs.EndLaws.{senders}
use Rattle.sx_lower.proofs.Bytes.{word-put_same}
use Rattle.sx_mean.specs.Acts.{AddsActs}
use Rattle.sx_mean.proofs.ActsGrow.{grows_on, assign_stays, element_stays, times_grow, block_grows}
use Rattle.sx_mean.proofs.Scope.{length-names}
use Rattle.sx_lower.proofs.Holds.{Holds, value_word, holds_turns, holds_define, holds_assign_local, holds_assign_cell, holds_element, holds_forget}
use Rattle.sx_ir.proofs.Shown.{cell_shown, cell_spared, element_shown, low_spared, middle_shown, unkeyed_more}
use Rattle.sx_lower.proofs.Run.{HasAt, has_front, has_back, at, do_one, then_so, after, weaker, to, room, passed, Comes_to, expression_reach}
use Rattle.spec_invocation.proofs.PiecesMarked.{made_more}
use Rattle.sx_lower.proofs.Packets.{Shows, shows_other, packets_reach}
use Rattle.sx_lower.proofs.Puts.{lets_defined}

-- Acts done one after the other

pub acts_append : (s : Setup) (call : Call) (xs ys : List Act) (p : Progress) → with_acts s call (xs ++ ys) p ≡ and_on (with_acts s call xs p) (with_acts s call ys)
acts_append s call [] ys p = refl
acts_append s call (a ∷ xs) ys p = go (with_act s call a p) (λ q. acts_append s call xs ys q)
  where
    go : (r : Course) → ((q : Progress) → with_acts s call (xs ++ ys) q ≡ and_on (with_acts s call xs q) (with_acts s call ys))
        → and_on r (with_acts s call (xs ++ ys)) ≡ and_on (and_on r (with_acts s call xs)) (with_acts s call ys)
    go (Going q) more = more q
    go (Broken v q) more = refl

one_act : (s : Setup) (call : Call) (xs : List Act) (a : Act) (p q : Progress) (r : Course) → with_acts s call xs p ≡ Going q → with_act s call a q ≡ r → with_acts s call (xs ++ a ∷ []) p ≡ r
one_act s call xs a p q r did next = acts_append s call xs (a ∷ []) p ∙ ap (λ c. and_on c (with_acts s call (a ∷ []))) did ∙ ap (λ c. and_on c (λ q. Going q)) next ∙ go r
  where
    go : (r : Course) → and_on r (λ q. Going q) ≡ r
    go (Going q) = refl
    go (Broken v q) = refl

-- a device for `emit`
pub record Actuates (s : Setup) (devices : List Window) : Type 0 where
  pub device : ℕ
  pub window : Window
  pub found : own_window s devices ≡ Some (device, window)
  pub kind : window.kind ≡ kind.Actuator

module _ (s : Setup) (call : Call) (p0 : Progress) (devs : List Window) where
  -- a configuration in mid-run stands for a source state, whose acts so far gave its progress
  pub record Tied (names : List (List ℕ)) (st : HandlerState) (priv mem : List ℕ) (devices : List Window) (marks : List Mark) : Type 0 where
    pub holds : Holds s.tree.decls (length s.ends) names st priv
    pub progress : Progress
    pub did : with_acts s call st.acts p0 ≡ Going progress
    pub shown : Shows s call progress priv mem devices marks
    pub same : devices ≡ devs

  -- a run has come to this place with this stack, and at most this many pieces
  pub record Ended (names : List (List ℕ)) (q : ℕ) (stack : List ℕ) (back : Option ℕ) (st : HandlerState) (most : ℕ) (t : Conf) : Type 0 where
    pub placed : t.place ≡ q
    pub stacked : t.stack ≡ stack
    pub returns : t.back ≡ back
    pub tied : Tied names st t.priv t.mem t.devices t.marks
    pub few : length tied.progress.pieces ≤ most

module _ (s : Setup) (handle : ℕ → Conf → OperationResult) (given : ℕ
    → ℕ) (code : List Ir) (call : Call) (p0 : Progress) (devs : List Window) (fin : HandlerState) (window : is_bad_window s call.output out_window_size ≡ false) (few_ends : length s.ends ≤ 16)
    (smalls : (x : List ℕ) → first_value s.tree.decls x < 65536) where
  abbrev ds : List Decl
  ds = s.tree.decls

  abbrev n : ℕ
  n = length s.ends

  abbrev pub Ends_so : Violation → List Mark → Type 0
  Ends_so v marks = CourseBreaks (with_acts s call fin.acts p0) v marks

  abbrev pub Reach : (Conf → Type 0) → ℕ → Conf → Type 0
  Reach Q k c = Comes_to s handle given code Ends_so Q k c

  -- goes on from where a stretch ended
  and_so : (Q : Conf → Type 0) (names : List (List ℕ)) (q : ℕ) (stack : List ℕ) (back : Option ℕ) (st : HandlerState) (most k m j : ℕ) (c : Conf) → k + m ≤ j
      → Reach (Ended s call p0 devs names q stack back st most) k c
      → ((u : Conf) → u.back ≡ back → (t : Tied s call p0 devs names st u.priv u.mem u.devices u.marks) → length t.progress.pieces ≤ most → Reach Q m (at q stack u)) → Reach Q j c
  and_so Q names q stack back st most k m j c le r f =
      then_so s handle given code Ends_so (Ended s call p0 devs names q stack back st most) Q c k m j le r
      (λ u e. subst (λ p. Reach Q m (at p u.stack u)) (sym e.placed) (subst (λ l. Reach Q m (at q l u)) (sym e.stacked) (f u e.returns e.tied e.few)))

  -- one operation that writes the private section, and ends a statement
  write_reach : (i : Ir) (names2 : List (List ℕ)) (st st2 : HandlerState) (names : List (List ℕ)) (priv2 : List ℕ) (p : ℕ) (before stack : List ℕ) (c : Conf) → slice_get code p ≡ Some i
      → do_at s handle (Some i) (at p before c) ≡ Goes (at (p + 1) stack (record c { priv = priv2 })) → count_of i + handler_count given i ≤ 8
      → (t : Tied s call p0 devs names st c.priv c.mem c.devices c.marks) → Holds ds n names2 st2 priv2 → Shows s call t.progress priv2 c.mem c.devices c.marks → st2.acts ≡ st.acts
      → (most : ℕ) → length t.progress.pieces ≤ most → Reach (Ended s call p0 devs names2 (p + 1) stack c.back st2 most) 8 (at p before c)
  write_reach i names2 st st2 names priv2 p before stack c has does cheap t holds shows acts most few =
      do_one s handle given code Ends_so _ i (at p before c) (at (p + 1) stack (record c { priv = priv2 })) 0 8 has does (omega (arith, cheap))
      (Here (record {
        placed = refl;
        stacked = refl;
        returns = refl;
        tied = record { holds = holds; progress = t.progress; did = ap (λ l. with_acts s call l p0) acts ∙ t.did; shown = shows; same = t.same };
        few = few;
      }))

  -- the end of a stretch, at a place that is named otherwise
  ended_at : (names names2 : List (List ℕ)) (q q2 : ℕ) (stack : List ℕ) (back : Option ℕ) (st : HandlerState) (most most2 k k2 : ℕ) (c : Conf) → q ≡ q2 → names ≡ names2 → most ≤ most2 → k ≤ k2
      → Reach (Ended s call p0 devs names q stack back st most) k c → Reach (Ended s call p0 devs names2 q2 stack back st most2) k2 c
  ended_at names names2 q q2 stack back st most most2 k k2 c e en le lk r =
      weaker s handle given code Ends_so _ _ c k k2 lk (λ t h. record {
        placed = h.placed ∙ e;
        stacked = h.stacked;
        returns = h.returns;
        tied = record { holds = subst (λ ns. Holds ds n ns st t.priv) en h.tied.holds; progress = h.tied.progress; did = h.tied.did; shown = h.tied.shown; same = h.tied.same };
        few = omega (arith, h.few, le);
      }) r

  -- Locals lie apart from what an invocation keeps, and so do cells.

  shows_local : (i v : ℕ) (p : Progress) (priv mem : List ℕ) (devices : List Window) (marks : List Mark) → i < 16 → Shows s call p priv mem devices marks
      → Shows s call p (put_word priv (local_at i) v) mem devices marks
  shows_local i v p priv mem devices marks l h = shows_other s call p priv mem devices marks (local_at i) v (λ b x y. omega (arith, y)) (λ b x y. omega (arith, l, x)) h

  shows_cell : (i v : ℕ) (p : Progress) (priv mem : List ℕ) (devices : List Window) (marks : List Mark) → Shows s call p priv mem devices marks
      → Shows s call p (put_word priv (cell_at n i) v) mem devices marks
  shows_cell i v p priv mem devices marks h = shows_other s call p priv mem devices marks (cell_at n i) v (λ b x y. omega (arith, y)) (λ b x y. omega (arith, y)) h

  shows_turns : (v : ℕ) (p : Progress) (priv mem : List ℕ) (devices : List Window) (marks : List Mark) → Shows s call p priv mem devices marks
      → Shows s call p (put_word priv event_at v) mem devices marks
  shows_turns v p priv mem devices marks h = shows_other s call p priv mem devices marks event_at v (λ b x y. omega (arith, x)) (λ b x y. omega (arith, x)) h

  -- What it is that code from p to q does f: it takes this many instructions, makes this many packets, and needs so much of the stack.
  abbrev pub Does : List (List ℕ) → List (List ℕ) → ℕ → ℕ → ℕ → ℕ → ℕ → (HandlerState → HandlerState) → Type 0
  Does names names2 p q cost packets deep f =
      (st : HandlerState) (stack : List ℕ) (c : Conf) (t : Tied s call p0 devs names st c.priv c.mem c.devices c.marks)
      → length stack + deep + 40 ≤ stack_words → length t.progress.pieces + packets ≤ 16 → AddsActs (f st) fin
      → Reach (Ended s call p0 devs names2 q stack c.back (f st) (length t.progress.pieces + packets)) cost (at p stack c)

  -- an expression, and what follows it
  value_then : (Q : Conf → Type 0) (names : List (List ℕ)) (st : HandlerState) (e : Expression) (p k j : ℕ) (stack : List ℕ) (c : Conf) → Holds ds n names st c.priv → FineExpression ds names e
      → height e ≤ 32 → length stack + 40 ≤ stack_words → HasAt code p (expression_code ds n names e) → expression_cost e + k ≤ j
      → Reach Q k (at (p + length (expression_code ds n names e)) (value ds st e ∷ stack) c) → Reach Q j (at p stack c)
  value_then Q names st e p k j stack c h fine high space has le r =
      after s handle given code Ends_so Q (at p stack c) _ (expression_cost e) k j le (expression_reach s handle given code Ends_so ds n names st refl e p stack c h fine (omega (arith, high, space)) has) r

  -- locals and cells hold no key, and lie in no slot

  local_stored : (i : ℕ) → i < 16 → (spares_slots n (local_at i) 2 && is_shown n (local_at i) 2) ≡ true
  local_stored i lt = and_from _ _ (low_spared n (local_at i) 2 (omega (arith, lt))) (middle_shown n (local_at i) 2 (omega arith) (omega (arith, lt)))

  cell_stored : (i : ℕ) → (spares_slots n (cell_at n i) 2 && is_shown n (cell_at n i) 2) ≡ true
  cell_stored i = and_from _ _ (cell_spared n (cell_at n i) 2 (omega arith)) (cell_shown n (cell_at n i) 2 (omega arith))

  element_stored : (i m k : ℕ) → (spares_slots n (cell_at n i) (2 * m) && is_shown_element n (cell_at n i) m k) ≡ true
  element_stored i m k =
      and_from _ _ (cell_spared n (cell_at n i) (2 * m) (omega arith)) (element_shown n (cell_at n i) m k (cell_shown n (cell_at n i + 2 * k) 2 (omega arith)))

  define_does : (x : List ℕ) (e : Expression) (p : ℕ) (names : List (List ℕ)) → FineExpression ds names e → height e ≤ 32 → length names < 16 → HasAt code p (define_code ds n names e)
      → Does names (names ++ x ∷ []) p (p + length (define_code ds n names e)) (64 + expression_cost e) 0 0 (λ st. define x (value ds st e) st)
  define_does x e p names fine high few has st stack c t space room grows =
      let ce = expression_code ds n names e in
      let v = value ds st e in
      let small = value_word ds n names st c.priv t.holds e fine in
      let len : p + length ce + 1 ≡ p + length (define_code ds n names e) = omega (arith, length-append ce (ir.Store (local_at (length names)) ∷ [])) in
      value_then _ names st e p 8 _ stack c t.holds fine high (omega (arith, space)) (has_front code p ce _ has) (omega arith)
      (ended_at (names ++ x ∷ []) (names ++ x ∷ []) _ _ stack c.back _ _ _ 8 8 _ len refl (omega arith) (omega arith)
      (write_reach (ir.Store (local_at (length names))) (names ++ x ∷ []) st (define x v st) names (put_word c.priv (local_at (length names)) v) (p + length ce) (v ∷ stack) stack c
      (has_back code p ce _ has).0 (passed s handle given code Ends_so _ _ (local_stored (length names) few)) (omega arith) t
      (holds_define ds n names st c.priv t.holds x v small few) (shows_local (length names) v t.progress c.priv c.mem c.devices c.marks few t.shown) refl (length t.progress.pieces) (omega arith)))

  -- a value on the stack goes into a local or a variable
  assign_reach : (x : List ℕ) (v p : ℕ) (names : List (List ℕ)) (st : HandlerState) (stack : List ℕ) (c : Conf) → v < 65536 → IsKnown ds names x → length stack + 40 ≤ stack_words
      → HasAt code p (assign_code ds n names x) → (t : Tied s call p0 devs names st c.priv c.mem c.devices c.marks)
      → Reach (Ended s call p0 devs names (p + length (assign_code ds n names x)) stack c.back (assign ds x v st) (length t.progress.pieces)) 24 (at p (v ∷ stack) c)
  assign_reach x v p names st stack c small known space has t = go (nat_lt (index_of names x) (length names)) refl has
    where
      acts : (assign ds x v st).acts ≡ st.acts
      acts = assign_stays ds x v st

      go : (b : Bool) → nat_lt (index_of names x) (length names) ≡ b
          → HasAt code p (if b then ir.Store (local_at (index_of names x)) ∷ [] else ir.Push (first_value ds x) ∷ ir.Op op.Sub ∷ ir.Store (cell_at n (place ds x)) ∷ [])
          → Reach (Ended s call p0 devs names
          (p + length (if b then ir.Store (local_at (index_of names x)) ∷ [] else ir.Push (first_value ds x) ∷ ir.Op op.Sub ∷ ir.Store (cell_at n (place ds x)) ∷ [])) stack c.back
          (assign ds x v st) (length t.progress.pieces)) 24 (at p (v ∷ stack) c)
      go true is has =
          let i = index_of names x in
          let inside = ltb-true i (length names) is in
          ended_at names names (p + 1) _ stack c.back _ _ _ 8 24 _ (omega arith) refl (omega arith) (omega arith)
          (write_reach (ir.Store (local_at i)) names st (assign ds x v st) names (put_word c.priv (local_at i) v) p (v ∷ stack) stack c has.0
          (passed s handle given code Ends_so _ _ (local_stored i (omega (arith, inside, t.holds.few)))) (omega arith) t
          (holds_assign_local ds n names st c.priv t.holds x v small is) (shows_local i v t.progress c.priv c.mem c.devices c.marks (omega (arith, inside, t.holds.few)) t.shown) acts
          (length t.progress.pieces) (omega arith))
      go false is has =
          let f = first_value ds x in
          let w = (v + (65536 - f)) % 65536 in
          let o = cell_at n (place ds x) in
          do_one s handle given code Ends_so _ (ir.Push f) (at p (v ∷ stack) c) (at (p + 1) (f ∷ v ∷ stack) c) 16 24 has.0 (room s handle given code Ends_so (v ∷ stack) _ (omega (arith, space)))
          (omega arith)
          (do_one s handle given code Ends_so _ (ir.Op op.Sub) _ (at (p + 1 + 1) (w ∷ stack) c) 8 16 has.1.0 refl (omega arith)
          (ended_at names names (p + 1 + 1 + 1) _ stack c.back _ _ _ 8 8 _ (omega arith) refl (omega arith) (omega arith)
          (write_reach (ir.Store o) names st (assign ds x v st) names (put_word c.priv o w) (p + 1 + 1) (w ∷ stack) stack c has.1.1.0
          (passed s handle given code Ends_so _ _ (cell_stored (place ds x))) (omega arith) t
          (holds_assign_cell ds n names st c.priv t.holds x v small is (known is) (smalls x)) (shows_cell (place ds x) w t.progress c.priv c.mem c.devices c.marks t.shown) acts
          (length t.progress.pieces) (omega arith))))

  assign_does : (x : List ℕ) (e : Expression) (p : ℕ) (names : List (List ℕ)) → IsKnown ds names x → FineExpression ds names e → height e ≤ 32
      → HasAt code p (expression_code ds n names e ++ assign_code ds n names x)
      → Does names names p (p + length (expression_code ds n names e ++ assign_code ds n names x)) (64 + expression_cost e) 0 0 (λ st. assign ds x (value ds st e) st)
  assign_does x e p names known fine high has st stack c t space room grows =
      let ce = expression_code ds n names e in
      let v = value ds st e in
      let small = value_word ds n names st c.priv t.holds e fine in
      let len : p + length ce + length (assign_code ds n names x) ≡ p + length (ce ++ assign_code ds n names x) = omega (arith, length-append ce (assign_code ds n names x)) in
      value_then _ names st e p 24 _ stack c t.holds fine high (omega (arith, space)) (has_front code p ce _ has) (omega arith)
      (ended_at names names _ _ stack c.back _ _ _ 24 24 _ len refl (omega arith) (omega arith)
      (assign_reach x v (p + length ce) names st stack c small known (omega (arith, space)) (has_back code p ce _ has) t))

  shows_element : (x : List ℕ) (i v : ℕ) (p : Progress) (priv mem : List ℕ) (devices : List Window) (marks : List Mark) → Shows s call p priv mem devices marks
      → Shows s call p (if nat_lt i (array_length ds x) then put_word priv (cell_at n (place ds x) + 2 * i) v else priv) mem devices marks
  shows_element x i v p priv mem devices marks h = go (nat_lt i (array_length ds x))
    where
      go : (b : Bool) → Shows s call p (if b then put_word priv (cell_at n (place ds x) + 2 * i) v else priv) mem devices marks
      go false = h
      go true =
          let e : cell_at n (place ds x + i) ≡ cell_at n (place ds x) + 2 * i = omega arith in
          subst (λ o. Shows s call p (put_word priv o v) mem devices marks) e (shows_cell (place ds x + i) v p priv mem devices marks h)

  element_does : (x : List ℕ) (i e : Expression) (p : ℕ) (names : List (List ℕ)) → FineExpression ds names i → FineExpression ds names e → height i ≤ 32 → height e ≤ 32
      → HasAt code p (element_code ds n names x i e)
      → Does names names p (p + length (element_code ds n names x i e)) (96 + expression_cost i + expression_cost e) 0 0 (λ st. assign_element ds x (value ds st i) (value ds st e) st)
  element_does x i e p names fi fe hi he has st stack c t space room grows =
      let ci = expression_code ds n names i in
      let ce = expression_code ds n names e in
      let store = ir.StoreAt (cell_at n (place ds x)) (array_length ds x) in
      let k = value ds st i in
      let v = value ds st e in
      let small = value_word ds n names st c.priv t.holds e fe in
      let rest = has_back code p ci _ has in
      let len : p + length ci + length ce + 1 ≡ p + length (element_code ds n names x i e) = omega (arith, length-append ci (ce ++ store ∷ []), length-append ce (store ∷ [])) in
      value_then _ names st i p (expression_cost e + 8) _ stack c t.holds fi hi (omega (arith, space)) (has_front code p ci _ has) (omega arith)
      (after s handle given code Ends_so _ (at (p + length ci) (k ∷ stack) c) _ (expression_cost e) 8 _ (omega arith) (expression_reach s handle given code Ends_so ds n names st refl e (p + length ci)
      (k ∷ stack) c t.holds fe (omega (arith, he, space)) (has_front code (p + length ci) ce _ rest))
      (ended_at names names _ _ stack c.back _ _ _ 8 8 _ len refl (omega arith) (omega arith)
      (write_reach store names st (assign_element ds x k v st) names (if nat_lt k (array_length ds x) then put_word c.priv (cell_at n (place ds x) + 2 * k) v else c.priv) (p + length ci + length ce)
      (v ∷ k ∷ stack) stack c (has_back code (p + length ci) ce _ rest).0
      (passed s handle given code Ends_so _ _ (element_stored (place ds x) (array_length ds x) k)) (omega arith) t
      (holds_element ds n names st c.priv t.holds x k v small) (shows_element x k v t.progress c.priv c.mem c.devices c.marks t.shown) (element_stays ds x k v st) (length t.progress.pieces)
      (omega arith))))

  -- a mark, and an emit
  emit_does : (e : Expression) (p : ℕ) (names : List (List ℕ)) → Actuates s devs → FineExpression ds names e → height e ≤ 32 → HasAt code p (expression_code ds n names e ++ ir.Emit ∷ [])
      → Does names names p (p + length (expression_code ds n names e ++ ir.Emit ∷ [])) (64 + expression_cost e) 0 0 (λ st. act (Emit (value ds st e)) st)
  emit_does e p names device fine high has st stack c t space room grows =
      let ce = expression_code ds n names e in
      let v = value ds st e in
      let len : p + length ce + 1 ≡ p + length (ce ++ ir.Emit ∷ []) = omega (arith, length-append ce (ir.Emit ∷ [])) in
      let own : own_window s c.devices ≡ Some (device.device, device.window) = ap (own_window s) t.same ∙ device.found in
      let does : do_op s handle ir.Emit (at (p + length ce) (v ∷ stack) c) ≡ Goes (at (p + length ce + 1) stack (record c { marks = c.marks ++ Actuated device.device v ∷ [] })) =
      ap (emit (at (p + length ce) (v ∷ stack) c) v stack) own
      ∙ ap (λ k. emitted (at (p + length ce) (v ∷ stack) c) v stack k device.device) device.kind in
      let q = record t.progress { marks = t.progress.marks ++ Actuated device.device v ∷ [] } in
      let own2 : own_window s t.progress.devices ≡ Some (device.device, device.window) = ap (own_window s) (sym t.shown.windows) ∙ own in
      let did : with_acts s call (st.acts ++ Emit v ∷ []) p0 ≡ Going q = one_act s call st.acts (Emit v) p0 t.progress (Going q) t.did (ap (λ w. Going (actuated v w t.progress)) own2) in
      value_then _ names st e p 8 _ stack c t.holds fine high (omega (arith, space)) (has_front code p ce _ has) (omega arith)
      (do_one s handle given code Ends_so _ ir.Emit (at (p + length ce) (v ∷ stack) c) _ 0 8 (has_back code p ce _ has).0 does (omega arith)
      (Here (record {
        placed = len;
        stacked = refl;
        returns = refl;
        tied = record {
          holds = record { named = t.holds.named; few = t.holds.few; locals = t.holds.locals; cells = t.holds.cells; size = t.holds.size; bytes = t.holds.bytes };
          progress = q;
          did = did;
          shown = record {
            size = t.shown.size;
            ends = t.shown.ends;
            outside = t.shown.outside;
            windows = t.shown.windows;
            marked = ap (λ l. l ++ Actuated device.device v ∷ []) t.shown.marked;
            count = t.shown.count;
            entry = t.shown.entry;
            input = t.shown.input;
            output = t.shown.output;
            back = t.shown.back;
            told = omega (arith, t.shown.told, made_more t.progress.marks (Actuated device.device v));
            unkeyed = unkeyed_more c.marks (Actuated device.device v) t.shown.unkeyed refl;
          };
          same = t.same;
        };
        few = omega arith;
      })))

  -- an act that breaks the course so far breaks the whole
  breaks_whole : (st : HandlerState) (a : Act) (progress q : Progress) (w : Violation) → with_acts s call st.acts p0 ≡ Going progress → with_act s call a progress ≡ Broken w q
      → AddsActs (act a st) fin → Ends_so w q.marks
  breaks_whole st a progress q w did broke grows =
      let whole : with_acts s call fin.acts p0 ≡ Broken w q =
      ap (λ l. with_acts s call l p0) (sym grows.all)
      ∙ acts_append s call (st.acts ++ a ∷ []) grows.more p0
      ∙ ap (λ r. and_on r (with_acts s call grows.more)) (one_act s call st.acts a p0 progress (Broken w q) did broke) in
      subst (λ r. CourseBreaks r w q.marks) (sym whole) (refl, refl)

  send_does : (x : List ℕ) (e : Expression) (p : ℕ) (names : List (List ℕ)) → FineExpression ds names e → height e ≤ 32 → HasAt code p (send_code ds s.ends names x e)
      → Does names names p (p + length (send_code ds s.ends names x e)) (8192 + expression_cost e) (senders s.ends (output_number ds x)) 0 (λ st. act (Send (output_number ds x) (value ds st e)) st)
  send_does x e p names fine high has st stack c t space room grows =
      let ce = expression_code ds n names e in
      let o = output_number ds x in
      let v = value ds st e in
      let cp = packets_code 0 s.ends o in
      let rest = has_back code p ce _ has in
      let len : p + length ce + length cp + 1 ≡ p + length (send_code ds s.ends names x e) = omega (arith, length-append ce (cp ++ ir.Drop ∷ []), length-append cp (ir.Drop ∷ [])) in
      value_then _ names st e p 8192 _ stack c t.holds fine high (omega (arith, space)) (has_front code p ce _ has) (omega arith)
      (packets_reach s handle given code Ends_so call ds names st window s.ends _ o v 0 (p + length ce) 8 8192 stack c t.progress (has_front code (p + length ce) cp _ rest) (omega arith)
      (omega (arith, few_ends)) room t.holds t.shown
      (λ q priv mem marks did few holds shows.
      do_one s handle given code Ends_so _ ir.Drop _ (at (p + length ce + length cp + 1) stack (record c { priv = priv; mem = mem; marks = marks })) 0 8
      (has_back code (p + length ce) cp _ rest).0 refl (omega arith)
      (Here (record {
        placed = len;
        stacked = refl;
        returns = refl;
        tied = record {
          holds = record { named = holds.named; few = holds.few; locals = holds.locals; cells = holds.cells; size = holds.size; bytes = holds.bytes };
          progress = q;
          did = one_act s call st.acts (Send o v) p0 t.progress (Going q) t.did did;
          shown = shows;
          same = t.same;
        };
        few = few;
      })))
      (λ w q broke. breaks_whole st (Send o v) t.progress q w t.did broke grows))

  -- the names of a block's locals go at its end
  in_block_does : (names more : List (List ℕ)) (p q cost packets deep : ℕ) (b : Block) → length names ≤ 16 → Does names (names ++ more) p q cost packets deep (after_block ds b)
      → Does names names p q cost packets deep (in_block ds b)
  in_block_does names more p q cost packets deep b few does st stack c t space few_more grows =
      let k : length st.locals ≡ length names = sym (length-names st.locals) ∙ ap length t.holds.named in
      let cut : take (length st.locals) (names ++ more) ≡ names = ap (λ i. take i (names ++ more)) k ∙ take-append_seam names more in
      weaker s handle given code Ends_so _ _ (at p stack c) cost cost (omega arith) (λ u h. record {
        placed = h.placed;
        stacked = h.stacked;
        returns = h.returns;
        tied = record {
          holds = holds_forget ds n names (names ++ more) (after_block ds b st) u.priv (length st.locals) h.tied.holds cut few;
          progress = h.tied.progress;
          did = h.tied.did;
          shown = h.tied.shown;
          same = h.tied.same;
        };
        few = h.few;
      }) (does st stack c t space few_more (record { more = grows.more; all = grows.all }))

  choice_does : (e : Expression) (ca cb : List Ir) (p : ℕ) (names : List (List ℕ)) (ka kb na nb da db : ℕ) (f g : HandlerState → HandlerState) → FineExpression ds names e → height e ≤ 32
      → HasAt code p (choice_code (p + length (expression_code ds n names e) + 1) (expression_code ds n names e) ca cb)
      → Does names names (p + length (expression_code ds n names e) + 1) (p + length (expression_code ds n names e) + 1 + length ca) ka na da f
      → Does names names (p + length (expression_code ds n names e) + 1 + length ca + 1) (p + length (expression_code ds n names e) + 1 + length ca + 1 + length cb) kb nb db g
      → Does names names p (p + length (choice_code (p + length (expression_code ds n names e) + 1) (expression_code ds n names e) ca cb)) (64 + expression_cost e + max ka kb) (max na nb) (max da db)
      (λ st. if value ds st e == 0 then g st else f st)
  choice_does e ca cb p names ka kb na nb da db f g fine high has ra rb st stack c t space few grows =
      let ce = expression_code ds n names e in
      let pa = p + length ce + 1 in
      let pb = pa + length ca + 1 in
      let pe = pb + length cb in
      let h1 = has_back code p ce _ has in
      let h2 = has_back code pa ca _ h1.1 in
      let len : pe ≡ p + length (choice_code pa ce ca cb) = omega (arith, length-append ce (ir.JumpZero pb ∷ (ca ++ (ir.Jump pe ∷ cb))), length-append ca (ir.Jump pe ∷ cb)) in
      value_then _ names st e p (64 + max ka kb) _ stack c t.holds fine high (omega (arith, space)) (has_front code p ce _ has) (omega arith)
      (branch (value ds st e) pb pe h1.0 h2.0 len grows)
    where
      branch : (v pb pe : ℕ) → slice_get code (p + length (expression_code ds n names e)) ≡ Some (ir.JumpZero (p + length (expression_code ds n names e) + 1 + length ca + 1))
          → slice_get code (p + length (expression_code ds n names e) + 1 + length ca) ≡ Some (ir.Jump (p + length (expression_code ds n names e) + 1 + length ca + 1 + length cb))
          → p + length (expression_code ds n names e) + 1 + length ca + 1 + length cb ≡ p + length (choice_code (p + length (expression_code ds n names e) + 1) (expression_code ds n names e) ca cb)
          → AddsActs (if v == 0 then g st else f st) fin
          → Reach (Ended s call p0 devs names (p + length (choice_code (p + length (expression_code ds n names e) + 1) (expression_code ds n names e) ca cb)) stack c.back
          (if v == 0 then g st else f st) (length t.progress.pieces + max na nb)) (64 + max ka kb) (at (p + length (expression_code ds n names e)) (v ∷ stack) c)
      branch zero pb pe hz hj len grows =
          let ce = expression_code ds n names e in
          do_one s handle given code Ends_so _ (ir.JumpZero (p + length ce + 1 + length ca + 1)) _ (at (p + length ce + 1 + length ca + 1) stack c) (56 + max ka kb) _ hz refl (omega arith)
          (ended_at names names _ _ stack c.back _ _ _ kb _ _ len refl (omega arith) (omega arith)
          (rb st stack c t (omega (arith, space)) (omega (arith, few)) grows))
      branch (suc v) pb pe hz hj len grows =
          let ce = expression_code ds n names e in
          let z = eqb-suc-zero v in
          let first : AddsActs (f st) fin = subst (λ b. AddsActs (if b then g st else f st) fin) z grows in
          subst (λ b. Reach (Ended s call p0 devs names (p + length (choice_code (p + length ce + 1) ce ca cb)) stack c.back (if b then g st else f st) (length t.progress.pieces + max na nb))
          (64 + max ka kb) (at (p + length ce) (suc v ∷ stack) c)) (sym z)
          (do_one s handle given code Ends_so _ (ir.JumpZero (p + length ce + 1 + length ca + 1)) _ (at (p + length ce + 1) stack c) (56 + max ka kb) _ hz refl (omega arith)
          (and_so _ names (p + length ce + 1 + length ca) stack c.back (f st) (length t.progress.pieces + na) ka 8 _ _ (omega arith) (ra st stack c t (omega (arith, space)) (omega (arith, few)) first)
          (λ u back t2 some.
          do_one s handle given code Ends_so _ (ir.Jump (p + length ce + 1 + length ca + 1 + length cb)) _ (at (p + length ce + 1 + length ca + 1 + length cb) stack u) 0 8 hj refl (omega arith)
          (Here (record {
            placed = len;
            stacked = refl;
            returns = back;
            tied = record { holds = t2.holds; progress = t2.progress; did = t2.did; shown = t2.shown; same = t2.same };
            few = omega
                (arith, some);
          })))))

  -- a loop's code after its first operation, with p the place of the loop
  abbrev loop_ops : ℕ → List Ir → List Ir
  loop_ops p ca = ir.Store turns_at ∷ ir.Load turns_at ∷ ir.Load turns_at ∷ ir.JumpZero (p + 5 + length ca + 3) ∷ (ca ++ (ir.Push 1 ∷ ir.Op op.Sub ∷ ir.Jump (p + 1) ∷ ir.Drop ∷ []))

  -- the number of turns is looked at: it stays on the stack, and lies in its place too
  look_reach : (Q : Conf → Type 0) (k p m j : ℕ) (names : List (List ℕ)) (ca : List Ir) (st : HandlerState) (stack : List ℕ) (c : Conf) → k < 65536 → HasAt code (p + 1) (loop_ops p ca)
      → (t : Tied s call p0 devs names st c.priv c.mem c.devices c.marks) → length stack + 41 ≤ stack_words → 24 + m ≤ j
      → ((c2 : Conf) → c2.back ≡ c.back → (u : Tied s call p0 devs names st c2.priv c2.mem c2.devices c2.marks) → length u.progress.pieces ≤ length t.progress.pieces
      → Reach Q m (at (p + 4) (k ∷ k ∷ stack) c2)) → Reach Q j (at (p + 1) (k ∷ stack) c)
  look_reach Q k p m j names ca st stack c small has t space le go =
      let priv2 = put_word c.priv turns_at k in
      let c2 = record c { priv = priv2 } in
      let now : word priv2 turns_at ≡ k = word-put_same c.priv turns_at k (omega (arith, t.holds.size)) in
      let p4 : p + 1 + 1 + 1 + 1 ≡ p + 4 = omega arith in
      do_one s handle given code Ends_so Q (ir.Store turns_at) (at (p + 1) (k ∷ stack) c) (at (p + 1 + 1) stack c2) (16 + m) j has.0 refl (omega (arith, le))
      (do_one s handle given code Ends_so Q (ir.Load turns_at) _ (at (p + 1 + 1 + 1) (word priv2 turns_at ∷ stack) c2) (8 + m) _ has.1.0
      (room s handle given code Ends_so stack _ (omega (arith, space))) (omega arith)
      (do_one s handle given code Ends_so Q (ir.Load turns_at) _ (at (p + 1 + 1 + 1 + 1) (word priv2 turns_at ∷ word priv2 turns_at ∷ stack) c2) m _ has.1.1.0
      (room s handle given code Ends_so (word priv2 turns_at ∷ stack) _ (omega (arith, space))) (omega arith)
      (subst (λ w. Reach Q m (at (p + 1 + 1 + 1 + 1) (w ∷ w ∷ stack) c2)) (sym now)
      (to s handle given code Ends_so Q m (p + 1 + 1 + 1 + 1) (p + 4) (k ∷ k ∷ stack) c2 p4
      (go c2 refl (record {
        holds = holds_turns ds n names st c.priv t.holds k small;
        progress = t.progress;
        did = t.did;
        shown =
            shows_turns k t.progress c.priv c.mem c.devices c.marks t.shown;
        same = t.same;
      }) (omega arith))))))

  -- the turns of a loop: this many are the word on top of the stack
  loop_reach : (k p : ℕ) (names : List (List ℕ)) (ca : List Ir) (cost packets deep : ℕ) (f : HandlerState → HandlerState) → k < 65536 → HasAt code (p + 1) (loop_ops p ca)
      → Does names names (p + 5) (p + 5 + length ca) cost packets deep f → ((a : HandlerState) → AddsActs a (f a))
      → (st : HandlerState) (stack : List ℕ) (c : Conf) (t : Tied s call p0 devs names st c.priv c.mem c.devices c.marks) → length stack + (1 + deep) + 40 ≤ stack_words
      → length t.progress.pieces + k * packets ≤ 16 → AddsActs (times k f st) fin
      → (most : ℕ) → length t.progress.pieces + k * packets ≤ most
      → Reach (Ended s call p0 devs names (p + 5 + length ca + 4) stack c.back (times k f st) most) (40 + k * (64 + cost)) (at (p + 1) (k ∷ stack) c)
  loop_reach zero p names ca cost packets deep f small has body grow st stack c t space few grows most le =
      let p4 : p + 1 + 1 + 1 + 1 ≡ p + 4 = omega arith in
      let jump = subst (λ p4. slice_get code p4 ≡ Some (ir.JumpZero (p + 5 + length ca + 3))) p4 has.1.1.1.0 in
      let tail = has_back code (p + 1 + 1 + 1 + 1 + 1) ca _ has.1.1.1.1 in
      let d : p + 1 + 1 + 1 + 1 + 1 + length ca + 1 + 1 + 1 ≡ p + 5 + length ca + 3 = omega arith in
      let drop = subst (λ p. slice_get code p ≡ Some ir.Drop) d tail.1.1.1.0 in
      look_reach _ 0 p 16 _ names ca st stack c small has t (omega (arith, space)) (omega arith) (λ c2 back2 t2 some.
      do_one s handle given code Ends_so _ (ir.JumpZero (p + 5 + length ca + 3)) (at (p + 4) (0 ∷ 0 ∷ stack) c2) (at (p + 5 + length ca + 3) (0 ∷ stack) c2) 8 16 jump refl (omega arith)
      (do_one s handle given code Ends_so _ ir.Drop _ (at (p + 5 + length ca + 3 + 1) stack c2) 0 8 drop refl (omega arith)
      (Here (record {
        placed = omega arith;
        stacked = refl;
        returns = back2;
        tied = record { holds = t2.holds; progress = t2.progress; did = t2.did; shown = t2.shown; same = t2.same };
        few = omega
            (arith, some, le);
      }))))
  loop_reach (suc k) p names ca cost packets deep f small has body grow st stack c t space few grows most le =
      let p4 : p + 1 + 1 + 1 + 1 ≡ p + 4 = omega arith in
      let p5 : p + 4 + 1 ≡ p + 5 = omega arith in
      let q = p + 5 + length ca in
      let jump = subst (λ p4. slice_get code p4 ≡ Some (ir.JumpZero (p + 5 + length ca + 3))) p4 has.1.1.1.0 in
      let d : p + 1 + 1 + 1 + 1 + 1 + length ca ≡ q = omega arith in
      let tail = subst (λ p2. HasAt code p2 (ir.Push 1 ∷ ir.Op op.Sub ∷ ir.Jump (p + 1) ∷ ir.Drop ∷ [])) d (has_back code (p + 1 + 1 + 1 + 1 + 1) ca _ has.1.1.1.1) in
      let less : (suc k + (65536 - 1)) % 65536 ≡ k = omega (arith, small) in
      let rest = 40 + k * (64 + cost) in
      let mul = suc-mul k (64 + cost) in
      let mulp = suc-mul k packets in
      let again = loop_reach k p names ca cost packets deep f (omega (arith, small)) has body grow in
      look_reach _ (suc k) p (8 + (cost + (24 + rest))) _ names ca st stack c small has t (omega (arith, space)) (omega (arith, mul)) (λ c2 back2 t2 some.
      do_one s handle given code Ends_so _ (ir.JumpZero (p + 5 + length ca + 3)) (at (p + 4) (suc k ∷ suc k ∷ stack) c2) (at (p + 4 + 1) (suc k ∷ stack) c2) (cost + (24 + rest)) _ jump refl
      (omega arith)
      (to s handle given code Ends_so _ _ (p + 4 + 1) (p + 5) (suc k ∷ stack) c2 p5
      (and_so _ names q (suc k ∷ stack) c2.back (f st) (length t2.progress.pieces + packets) cost (24 + rest) _ _ (omega arith)
      (body st (suc k ∷ stack) c2 t2 (omega (arith, space)) (omega (arith, some, few, mulp)) (grows_on (f st) (times k f (f st)) fin (times_grow k f (f st) grow) grows))
      (λ u back3 t3 fewer.
      do_one s handle given code Ends_so _ (ir.Push 1) (at q (suc k ∷ stack) u) (at (q + 1) (1 ∷ suc k ∷ stack) u) (16 + rest) _ tail.0
      (room s handle given code Ends_so (suc k ∷ stack) _ (omega (arith, space))) (omega arith)
      (do_one s handle given code Ends_so _ (ir.Op op.Sub) _ (at (q + 1 + 1) (k ∷ stack) u) (8 + rest) _ tail.1.0 (ap (λ w. Goes (at (q + 1 + 1) (w ∷ stack) u)) less) (omega arith)
      (do_one s handle given code Ends_so _ (ir.Jump (p + 1)) _ (at (p + 1) (k ∷ stack) u) rest _ tail.1.1.0 refl (omega arith)
      (subst (λ b. Reach (Ended s call p0 devs names (p + 5 + length ca + 4) stack b (times k f (f st)) most) rest (at (p + 1) (k ∷ stack) u)) (back3 ∙ back2)
      (again (f st) stack u t3 space (omega (arith, fewer, some, few, mulp)) grows most (omega (arith, fewer, some, le, mulp))))))))))

  -- the same code, with its end and its bounds said otherwise
  does_as : (names names2 names3 : List (List ℕ)) (p q q2 cost cost2 packets deep deep2 : ℕ) (f : HandlerState → HandlerState) → q ≡ q2 → names2 ≡ names3 → cost ≤ cost2 → deep ≤ deep2
      → Does names names2 p q cost packets deep f → Does names names3 p q2 cost2 packets deep2 f
  does_as names names2 names3 p q q2 cost cost2 packets deep deep2 f e en lc ld does st stack c t space few grows =
      ended_at names2 names3 q q2 stack c.back (f st) _ _ cost cost2 (at p stack c) e en (omega arith) lc (does st stack c t (omega (arith, space, ld)) few grows)

  -- a loop
  repeat_does : (k p : ℕ) (names : List (List ℕ)) (ca : List Ir) (cost packets deep : ℕ) (f : HandlerState → HandlerState) → k < 65536 → HasAt code p (loop_code p k ca)
      → Does names names (p + 5) (p + 5 + length ca) cost packets deep f → ((a : HandlerState) → AddsActs a (f a))
      → Does names names p (p + length (loop_code p k ca)) (64 + k * (64 + cost)) (k * packets) (1 + deep) (times k f)
  repeat_does k p names ca cost packets deep f small has body grow st stack c t space few grows =
      let len : p + 5 + length ca + 4 ≡ p + length (loop_code p k ca) = omega (arith, length-append ca (ir.Push 1 ∷ ir.Op op.Sub ∷ ir.Jump (p + 1) ∷ ir.Drop ∷ [])) in
      do_one s handle given code Ends_so _ (ir.Push k) (at p stack c) (at (p + 1) (k ∷ stack) c) (40 + k * (64 + cost)) _ has.0 (room s handle given code Ends_so stack _ (omega (arith, space)))
      (omega arith)
      (ended_at names names (p + 5 + length ca + 4) _ stack c.back _ _ _ (40 + k * (64 + cost)) _ _ len refl (omega arith) (omega arith)
      (loop_reach k p names ca cost packets deep f small has.1 body grow st stack c t (omega (arith, space)) few grows (length t.progress.pieces + k * packets) (omega arith)))

  -- one stretch and then another
  and_does : (names names2 names3 : List (List ℕ)) (p q r ka kb na nb da db : ℕ) (f g : HandlerState → HandlerState) → ((a : HandlerState) → AddsActs a (g a)) → Does names names2 p q ka na da f
      → Does names2 names3 q r kb nb db g → Does names names3 p r (ka + kb) (na + nb) (max da db) (λ st. g (f st))
  and_does names names2 names3 p q r ka kb na nb da db f g grow ra rb st stack c t space few grows =
      and_so _ names2 q stack c.back (f st) (length t.progress.pieces + na) ka kb _ (at p stack c) (omega arith)
      (ra st stack c t (omega (arith, space)) (omega (arith, few)) (grows_on (f st) (g (f st)) fin (grow (f st)) grows))
      (λ u back t2 some.
      subst (λ b. Reach (Ended s call p0 devs names3 r stack b (g (f st)) (length t.progress.pieces + (na + nb))) kb (at q stack u)) back
      (ended_at names3 names3 r r stack u.back _ _ _ kb kb (at q stack u) refl refl (omega (arith, some)) (omega arith)
      (rb (f st) stack u t2 (omega (arith, space)) (omega (arith, some, few)) grows)))

  done_does : (p : ℕ) (names : List (List ℕ)) → Does names (names ++ []) p (p + 0) 0 0 0 (λ st. st)
  done_does p names st stack c t space few grows =
      Here (record {
        placed = omega arith;
        stacked = refl;
        returns = refl;
        tied = record { holds = subst (λ ns. Holds ds n ns st c.priv) (sym (append-nil names)) t.holds; progress = t.progress; did = t.did; shown = t.shown; same = t.same };
        few = omega arith;
      })

  mutual
    pub statement_reach : (t : Statement) (p : ℕ) (names : List (List ℕ)) → FineStatement ds (Actuates s devs) names t → statement_height t ≤ 32 → length names + length (statement_lets t) ≤ 16
        → HasAt code p (statement_code ds s.ends p names t)
        → Does names (names ++ defined t) p (p + length (statement_code ds s.ends p names t)) (statement_cost t) (statement_packets (senders s.ends) ds t) (statement_depth t) (after_statement ds t)
    statement_reach (Defines x e) p names fine high lets has = define_does x e p names fine high (omega (arith, lets)) has
    statement_reach (Assigns x e) p names fine high lets has =
        does_as names names _ p _ _ _ _ _ _ _ _ refl (sym (append-nil names)) (omega arith) (omega arith) (assign_does x e p names fine.0 fine.1 high has)
    statement_reach (Stores x i e) p names fine high lets has =
        does_as names names _ p _ _ _ _ _ _ _ _ refl (sym (append-nil names)) (omega arith) (omega arith) (element_does x i e p names fine.0 fine.1 (omega (arith, high)) (omega (arith, high)) has)
    statement_reach (Sends x e) p names fine high lets has =
        does_as names names _ p _ _ _ _ _ _ _ _ refl (sym (append-nil names)) (omega arith) (omega arith) (send_does x e p names fine high has)
    statement_reach (Emits e) p names fine high lets has =
        does_as names names _ p _ _ _ _ _ _ _ _ refl (sym (append-nil names)) (omega arith) (omega arith) (emit_does e p names fine.1 fine.0 high has)
    statement_reach (Chooses e a b) p names fine high lets has =
        let ce = expression_code ds (length s.ends) names e in
        let pa = p + length ce + 1 in
        let ca = block_code ds s.ends pa names a in
        let pb = pa + length ca + 1 in
        let cb = block_code ds s.ends pb names b in
        let h1 = has_back code p ce _ has in
        let h2 = has_back code pa ca _ h1.1 in
        let few = length-append (block_lets a) (block_lets b) in
        let ra = in_block_does names (definitions a) pa (pa + length ca) _ _ _ a (omega (arith, lets)) (block_reach a pa names fine.1 (omega (arith, high)) (omega (arith, lets, few))
        (has_front code pa ca _ h1.1)) in
        let rb = in_block_does names (definitions b) pb (pb + length cb) _ _ _ b (omega (arith, lets)) (block_reach b pb names fine.2 (omega (arith, high)) (omega (arith, lets, few)) h2.1) in
        does_as names names _ p _ _ _ _ _ (max (inner_depth a) (inner_depth b)) _ _ refl (sym (append-nil names)) (omega arith) (omega arith)
        (choice_does e ca cb p names (block_cost a) (block_cost b) (block_packets (senders s.ends) ds a) (block_packets (senders s.ends) ds b) (inner_depth a) (inner_depth b) (in_block ds a)
        (in_block ds b) fine.0 (omega (arith, high)) has ra rb)
    statement_reach (Repeats k a) p names fine high lets has =
        let ca = block_code ds s.ends (p + 5) names a in
        let p5 : p + 1 + 1 + 1 + 1 + 1 ≡ p + 5 = omega arith in
        let ha = subst (λ q. HasAt code q ca) p5 (has_front code (p + 1 + 1 + 1 + 1 + 1) ca _ has.1.1.1.1.1) in
        let ra = in_block_does names (definitions a) (p + 5) (p + 5 + length ca) _ _ _ a (omega (arith, lets)) (block_reach a (p + 5) names fine.1 high lets ha) in
        does_as names names _ p _ _ _ _ _ _ _ _ refl (sym (append-nil names)) (omega arith) (omega arith)
        (repeat_does k p names ca (block_cost a) (block_packets (senders s.ends) ds a) (inner_depth a) (in_block ds a) fine.0 has ra
        (λ st. grows_on st (after_block ds a st) _ (block_grows ds a st) (record { more = []; all = append-nil _ })))

    pub block_reach : (b : Block) (p : ℕ) (names : List (List ℕ)) → FineBlock ds (Actuates s devs) names b → block_height b ≤ 32 → length names + length (block_lets b) ≤ 16
        → HasAt code p (block_code ds s.ends p names b)
        → Does names (names ++ definitions b) p (p + length (block_code ds s.ends p names b)) (block_cost b) (block_packets (senders s.ends) ds b) (inner_depth b) (after_block ds b)
    block_reach Done p names fine high lets has = done_does p names
    block_reach (Then t b) p names fine high lets has =
        let first = statement_code ds s.ends p names t in
        let q = p + length first in
        let rest = block_code ds s.ends q (names ++ defined t) b in
        let len : q + length rest ≡ p + length (first ++ rest) = omega (arith, length-append first rest) in
        let some = length-append (statement_lets t) (block_lets b) in
        let own = lets_defined t in
        does_as names ((names ++ defined t) ++ definitions b) (names ++ (defined t ++ definitions b)) p (q + length rest) _ _ _ _ _ _ _ len (append_assoc names (defined t) (definitions b))
        (omega arith) (omega arith)
        (and_does names (names ++ defined t) ((names ++ defined t) ++ definitions b) p q (q + length rest) (statement_cost t) (block_cost b) (statement_packets (senders s.ends) ds t)
        (block_packets (senders s.ends) ds b) (statement_depth t) (inner_depth b) (after_statement ds t) (after_block ds b) (block_grows ds b)
        (statement_reach t p names fine.0 (omega (arith, high)) (omega (arith, lets, some)) (has_front code p first rest has))
        (block_reach b q (names ++ defined t) fine.1 (omega (arith, high)) (omega (arith, lets, some, own, length-append names (defined t))) (has_back code p first rest has)))
