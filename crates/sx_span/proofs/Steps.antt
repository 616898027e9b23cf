-- A statement, a block and a reaction follow one of their paths.
use Rattle.std.proofs.Common.{◌≡◌, ◌≤◌, ◌<◌, ℕ, zero, suc, ◌+◌, ◌-◌, ◌==◌, Bool, true, false, cond, not, if◌then◌else◌, List, [], ◌∷◌, ◌++◌, take, min, Option}
use Rattle.std.proofs.Common.{Some, None, nat_lt, length, refl, ap, ◌∙◌, subst, arith}
use Rattle.std.proofs.Common.{Result, Ok, Err, IfOk, Vec, Global, sym}
use Rattle.std.specs.Prelude.{slice_set}
use Rattle.sx_span.specs.declared.pieces.Trail.{Trail}
use Rattle.sx_span.specs.View.{paths_in}
use Rattle.std.specs.List.{AllZip, flat_map}
use Rattle.std.proofs.lemmas.Bool.{eqb-false, eqb-true, ltb-false, ltb-true}
use Rattle.sx_lang.specs.declared.tree.Decl.{Decl}
use Rattle.sx_lang.specs.Tree.{Statement, Defines, Assigns, Stores, Chooses, Repeats, Sends, Emits, Block, Done, Then, HandlerTree, ModuleTree}
use Rattle.sx_check.specs.Names.{same}
use Rattle.sx_mean.specs.declared.events.Act.{Act}
use Rattle.sx_mean.specs.declared.events.Act.TheVariants.{Send, Emit}
use Rattle.sx_mean.specs.declared.events.SourceEvent.{SourceEvent}
use Rattle.sx_mean.specs.declared.events.SourceEvent.TheVariants as event
use Rattle.sx_mean.specs.declared.moments.Local.{Local}
use Rattle.sx_mean.specs.Places.{place, array_length, output_number}
use Rattle.sx_mean.specs.Meaning.{HandlerState, act, after_block, after_statement, assign, assign_element, define, forget, local_place, new_local, times, value}
use Rattle.sx_mean.specs.React.{handler_at, react, run, start, handler_of_name, nth, input_names}
use Rattle.sx_span.specs.Intervals.{Interval, Lies}
use Rattle.sx_span.specs.Ranges.{ActLies, ActRange, EmitIn, Follows, LocalLies, LocalRange, Path, SendIn, range_of}
use Rattle.sx_span.specs.Paths.{EventLies, EventRange, InputIn, SampleIn, act_range, assign_element_range, assign_range, define_range, forget_range, forgotten}
use Rattle.sx_span.specs.Paths.{new_range, paths_after_block, paths_after_statement, paths_of, range_place, react_within, start_range, turns, ways, widened}
use Rattle.sx_span.specs.Narrow.{narrow}
use Rattle.sx_span.specs.Sound.{EachFollows, FollowsOne}
use Rattle.sx_span.proofs.Arithmetic.{lies_left, lies_right}
use Rattle.sx_span.proofs.Followed.{one, one_flat, one_left, one_map, one_right}
use Rattle.sx_span.proofs.Narrows.{narrows}
use Rattle.sx_span.proofs.Values.{ranges_hold}
use Rattle.sx_span.proofs.Zips.{zip_length, zip_push, zip_set, zip_take}

turns_follow : (n : ℕ) (f : HandlerState → HandlerState) (g : Path → List Path) (st : HandlerState) (p : Path)
    → ((a : HandlerState) (q : Path) → Follows a q → FollowsOne (f a) (g q)) → Follows st p → FollowsOne (times n f st) (turns n g p)
turns_follow zero f g st p h w = one st p w
turns_follow (suc n) f g st p h w = one_flat (f st) (times n f (f st)) (turns n g) (g p) (λ q v. turns_follow n f g (f st) q h v) (h st p w)

-- Places

same_place : (ls : List Local) (rs : List LocalRange) (x : List ℕ) → AllZip LocalLies ls rs → local_place ls x ≡ range_place rs x
same_place [] [] x z = refl
same_place [] (r ∷ rs) x z = absurd z
same_place (l ∷ ls) [] x z = absurd z
same_place (l ∷ ls) (r ∷ rs) x z = go (same x l.name) (same x r.name) (ap (λ n. same x n) z.0.0) (same_place ls rs x z.1)
  where
    go : (s t : Bool) → s ≡ t → local_place ls x ≡ range_place rs x
        → cond (not s) (1 + local_place ls x) 0 ≡ cond (not t) (1 + range_place rs x) 0
    go true true e more = refl
    go true false e more = absurd (cc)
    go false true e more = absurd (cc)
    go false false e more = ap (λ n. 1 + n) more

widened_keeps : (cells : List ℕ) (box : List Interval) (k n : ℕ) (i : Interval) → AllZip Lies cells box → AllZip Lies cells (widened box k n i)
widened_keeps [] [] k n i z = tt
widened_keeps [] (b ∷ box) k n i z = absurd z
widened_keeps (c ∷ cells) [] k n i z = absurd z
widened_keeps (c ∷ cells) (b ∷ box) zero zero i z = z
widened_keeps (c ∷ cells) (b ∷ box) zero (suc n) i z = (lies_left c b i z.0, widened_keeps cells box zero n i z.1)
widened_keeps (c ∷ cells) (b ∷ box) (suc k) n i z = (z.0, widened_keeps cells box k n i z.1)

widened_sets : (cells : List ℕ) (box : List Interval) (k n q v : ℕ) (i : Interval) → AllZip Lies cells box → k ≤ q → q < k + n → Lies v i
    → AllZip Lies (slice_set cells q v) (widened box k n i)
widened_sets [] [] k n q v i z l m h = tt
widened_sets [] (b ∷ box) k n q v i z l m h = absurd z
widened_sets (c ∷ cells) [] k n q v i z l m h = absurd z
widened_sets (c ∷ cells) (b ∷ box) zero zero q v i z l m h = absurd (omega (arith, m))
widened_sets (c ∷ cells) (b ∷ box) zero (suc n) zero v i z l m h = (lies_right v b i h, widened_keeps cells box zero n i z.1)
widened_sets (c ∷ cells) (b ∷ box) zero (suc n) (suc q) v i z l m h =
    (lies_left c b i z.0, widened_sets cells box zero n q v i z.1 (omega arith) (omega (arith, m)) h)
widened_sets (c ∷ cells) (b ∷ box) (suc k) n zero v i z l m h = absurd (omega (arith, l))
widened_sets (c ∷ cells) (b ∷ box) (suc k) n (suc q) v i z l m h =
    (z.0, widened_sets cells box k n q v i z.1 (omega (arith, l)) (omega (arith, m)) h)

-- Changes

defines : (x : List ℕ) (v : ℕ) (i : Interval) (st : HandlerState) (p : Path) → Lies v i → Follows st p → Follows (define x v st) (define_range x i p)
defines x v i st p l f = record {
  locals = zip_push LocalLies st.locals p.locals (new_local x v) (new_range x i) f.locals (refl, l);
  cells = f.cells;
  acts = f.acts;
}

acts_on : (a : Act) (r : ActRange) (st : HandlerState) (p : Path) → ActLies a r → Follows st p → Follows (act a st) (act_range r p)
acts_on a r st p l f = record { locals = f.locals; cells = f.cells; acts = zip_push ActLies st.acts p.acts a r f.acts l }

forgets : (m n : ℕ) (st : HandlerState) (p : Path) → m ≡ n → Follows st p → Follows (forget m st) (forget_range n p)
forgets m n st p e f = record {
  locals = subst (λ k. AllZip LocalLies (take m st.locals) (take k p.locals)) e (zip_take LocalLies m st.locals p.locals f.locals);
  cells = f.cells;
  acts = f.acts;
}

assigns : (ds : List Decl) (x : List ℕ) (v : ℕ) (i : Interval) (st : HandlerState) (p : Path) → Lies v i → Follows st p
    → Follows (assign ds x v st) (assign_range ds x i p)
assigns ds x v i st p l f =
    go (nat_lt (local_place st.locals x) (length st.locals)) (nat_lt (range_place p.locals x) (length p.locals))
    (ap (λ n. nat_lt n (length st.locals)) (same_place st.locals p.locals x f.locals) ∙ ap (λ n. nat_lt (range_place p.locals x) n) (zip_length LocalLies st.locals p.locals f.locals))
  where
    go : (s t : Bool) → s ≡ t
        → Follows (if s then record st { locals = slice_set st.locals (local_place st.locals x) (new_local x v) } else record st { cells = slice_set st.cells (place ds x) v })
        (if t then record p { locals = slice_set p.locals (range_place p.locals x) (new_range x i) } else record p { cells = slice_set p.cells (place ds x) i })
    go true true e = record {
      locals = subst (λ n. AllZip LocalLies (slice_set st.locals (local_place st.locals x) (new_local x v)) (slice_set p.locals n (new_range x i)))
          (same_place st.locals p.locals x f.locals)
          (zip_set LocalLies st.locals p.locals (local_place st.locals x) (new_local x v) (new_range x i) f.locals (refl, l));
      cells = f.cells;
      acts = f.acts;
    }
    go true false e = absurd (cc)
    go false true e = absurd (cc)
    go false false e = record { locals = f.locals; cells = zip_set Lies st.cells p.cells (place ds x) v i f.cells l; acts = f.acts }

stores : (ds : List Decl) (x : List ℕ) (k v : ℕ) (j i : Interval) (st : HandlerState) (p : Path) → Lies k j → Lies v i → Follows st p
    → Follows (assign_element ds x k v st) (assign_element_range ds x j i p)
stores ds x k v j i st p lk lv f = go (nat_lt k (array_length ds x)) (nat_lt j.low (array_length ds x)) (j.low == j.high) refl refl refl
  where
    more : ℕ
    more = min (j.high + 1) (array_length ds x) - j.low

    go : (a b c : Bool) → nat_lt k (array_length ds x) ≡ a → nat_lt j.low (array_length ds x) ≡ b → (j.low == j.high) ≡ c
        → Follows (if a then record st { cells = slice_set st.cells (place ds x + k) v } else st)
        (if b then if c then record p { cells = slice_set p.cells (place ds x + j.low) i } else record p { cells = widened p.cells (place ds x + j.low) more i } else p)
    go true true true q r s =
        let e = eqb-true j.low j.high s in
        let h : k ≡ j.low = omega arith in
        record {
          locals = f.locals;
          cells = subst (λ n. AllZip Lies (slice_set st.cells (place ds x + k) v) (slice_set p.cells (place ds x + n) i)) h
              (zip_set Lies st.cells p.cells (place ds x + k) v i f.cells lv);
          acts = f.acts;
        }
    go true true false q r s =
        let u = ltb-true k (array_length ds x) q in
        record {
          locals = f.locals;
          cells = widened_sets st.cells p.cells (place ds x + j.low) more (place ds x + k) v i f.cells (omega arith) (omega arith) lv;
          acts = f.acts;
        }
    go true false c q r s =
        let u = ltb-true k (array_length ds x) q in
        let w = ltb-false j.low (array_length ds x) r in
        absurd (omega arith)
    go false true true q r s =
        let u = ltb-false k (array_length ds x) q in
        let w = ltb-true j.low (array_length ds x) r in
        let e = eqb-true j.low j.high s in
        absurd (omega arith)
    go false true false q r s = record { locals = f.locals; cells = widened_keeps st.cells p.cells (place ds x + j.low) more i f.cells; acts = f.acts }
    go false false c q r s = f

-- Statements

chooses : (v : ℕ) (i : Interval) (a b : HandlerState) (taken left : List Path) → Lies v i → ((v == 0) ≡ false → FollowsOne a taken) → ((v == 0) ≡ true → FollowsOne b left)
    → FollowsOne (if v == 0 then b else a) (ways i taken left)
chooses v i a b taken left l f g = go (v == 0) (i.high == 0) (nat_lt 0 i.low) refl refl refl
  where
    go : (z h m : Bool) → (v == 0) ≡ z → (i.high == 0) ≡ h → nat_lt 0 i.low ≡ m
        → FollowsOne (if z then b else a) (if h then left else if m then taken else taken ++ left)
    go true true m p q r = g p
    go false true m p q r = let n = eqb-true i.high 0 q in absurd (eqb-false v 0 p (omega arith))
    go true false true p q r = let n = eqb-true v 0 p in let o = ltb-true 0 i.low r in absurd (omega arith)
    go false false true p q r = f p
    go true false false p q r = one_right b taken left (g p)
    go false false false p q r = one_left a taken left (f p)

inner : (st to : HandlerState) (p : Path) (ps : List Path) → Follows st p → FollowsOne to ps
    → FollowsOne (forget (length st.locals) to) (forgotten p ps)
inner st to p ps f h =
    one_map to (forget (length st.locals) to) (forget_range (length p.locals)) ps
    (λ q g. forgets (length st.locals) (length p.locals) to q (zip_length LocalLies st.locals p.locals f.locals) g) h

mutual
  pub statement_follows : (ds : List Decl) (s : Statement) (st : HandlerState) (p : Path) → Follows st p
      → FollowsOne (after_statement ds s st) (paths_after_statement ds s p)
  statement_follows ds (Defines x e) st p f =
      one _ (define_range x (range_of ds p e) p) (defines x (value ds st e) (range_of ds p e) st p (ranges_hold ds st p e f) f)
  statement_follows ds (Assigns x e) st p f =
      one _ (assign_range ds x (range_of ds p e) p) (assigns ds x (value ds st e) (range_of ds p e) st p (ranges_hold ds st p e f) f)
  statement_follows ds (Stores x k e) st p f =
      one _ (assign_element_range ds x (range_of ds p k) (range_of ds p e) p)
      (stores ds x (value ds st k) (value ds st e) (range_of ds p k) (range_of ds p e) st p (ranges_hold ds st p k f) (ranges_hold ds st p e f) f)
  statement_follows ds (Chooses e a b) st p f =
      chooses (value ds st e) (range_of ds p e) (forget (length st.locals) (after_block ds a st)) (forget (length st.locals) (after_block ds b st))
      (flat_map (λ q. forgotten q (paths_after_block ds a q)) (narrow ds e true p)) (flat_map (λ q. forgotten q (paths_after_block ds b q)) (narrow ds e false p))
      (ranges_hold ds st p e f)
      (λ z. one_flat st (forget (length st.locals) (after_block ds a st)) (λ q. forgotten q (paths_after_block ds a q)) (narrow ds e true p)
      (λ q g. inner st (after_block ds a st) q (paths_after_block ds a q) g (block_follows ds a st q g)) (narrows ds e true st p f z))
      (λ z. one_flat st (forget (length st.locals) (after_block ds b st)) (λ q. forgotten q (paths_after_block ds b q)) (narrow ds e false p)
      (λ q g. inner st (after_block ds b st) q (paths_after_block ds b q) g (block_follows ds b st q g)) (narrows ds e false st p f z))
  statement_follows ds (Repeats n a) st p f =
      turns_follow n (λ st. forget (length st.locals) (after_block ds a st)) (λ q. forgotten q (paths_after_block ds a q)) st p
      (λ st p f. inner st (after_block ds a st) p (paths_after_block ds a p) f (block_follows ds a st p f)) f
  statement_follows ds (Sends x e) st p f =
      one _ (act_range (SendIn (output_number ds x) (range_of ds p e)) p)
      (acts_on (Send (output_number ds x) (value ds st e)) (SendIn (output_number ds x) (range_of ds p e)) st p (refl, ranges_hold ds st p e f) f)
  statement_follows ds (Emits e) st p f =
      one _ (act_range (EmitIn (range_of ds p e)) p) (acts_on (Emit (value ds st e)) (EmitIn (range_of ds p e)) st p (ranges_hold ds st p e f) f)

  pub block_follows : (ds : List Decl) (b : Block) (st : HandlerState) (p : Path) → Follows st p → FollowsOne (after_block ds b st) (paths_after_block ds b p)
  block_follows ds Done st p f = one st p f
  block_follows ds (Then s b) st p f =
      one_flat (after_statement ds s st) (after_block ds b (after_statement ds s st)) (λ q. paths_after_block ds b q) (paths_after_statement ds s p)
      (λ q g. block_follows ds b (after_statement ds s st) q g) (statement_follows ds s st p f)

-- Reactions

run_follows : (ds : List Decl) (h : Option HandlerTree) (v : ℕ) (i : Interval) (cells : List ℕ) (box : List Interval) → Lies v i → AllZip Lies cells box
    → FollowsOne (run ds h v cells) (paths_of ds h i box)
run_follows ds None v i cells box l z = one _ _ (record { locals = tt; cells = z; acts = tt })
run_follows ds (Some h) v i cells box l z =
    let f : Follows (start h v cells) (start_range h i box) = record { locals = ((refl, l), tt); cells = z; acts = tt } in
    inner (start h v cells) (after_block ds h.body (start h v cells)) (start_range h i box) (paths_after_block ds h.body (start_range h i box)) f
    (block_follows ds h.body (start h v cells) (start_range h i box) f)

pub react_sound : (m : ModuleTree) (e : SourceEvent) (r : EventRange) (cells : List ℕ) (box : List Interval)
    → EventLies e r → AllZip Lies cells box → FollowsOne (react m e cells) (react_within m r box)
react_sound m (event.Input j v) (InputIn k i) cells box l z =
    subst (λ n. FollowsOne (react m (event.Input j v) cells) (react_within m (InputIn n i) box)) l.0
    (run_follows m.decls (handler_of_name (nth (input_names m.decls) j) m.handlers) v i cells box l.1 z)
react_sound m (event.Input j v) (SampleIn i) cells box l z = absurd l
react_sound m (event.Sample v) (InputIn k i) cells box l z = absurd l
react_sound m (event.Sample v) (SampleIn i) cells box l z = run_follows m.decls (handler_at m (event.Sample v)) v i cells box l z

pub each_follows : {E : Type 0} (r : Result (Vec Trail Global) E) (m : ModuleTree) (e : EventRange) (box : List Interval)
    → IfOk r (λ v. paths_in v.items ≡ react_within m e box) → IfOk r (λ v. EachFollows m e box (paths_in v.items))
each_follows (Ok v) m e box h = subst (λ (l : List Path). EachFollows m e box l) (sym h) (λ x cells l z. react_sound m x e cells box l z)
each_follows (Err x) m e box h = h
