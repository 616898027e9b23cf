-- Values, cells and acts are words.
use Rattle.std.specs.Prelude.{unwrap_or}
use Rattle.std.proofs.Common.{◌≡◌, ℕ, zero, suc, ◌+◌, ◌<◌, ◌==◌, Bool, true, false, if◌then◌else◌, List, [], ◌∷◌, length, get_or, nat_lt, nat_le}
use Rattle.std.proofs.Common.{replicate, Option, Some, None, refl, ◌∙◌, subst, arith, length-append}
use Rattle.std.specs.Prelude.{All, slice_set}
use Rattle.std.specs.List.{find}
use Rattle.std.proofs.lemmas.Bool.{eqb-false, eqb-true, ltb-false, ltb-true}
use Rattle.std.proofs.lemmas.Bool.Decides.{nat_tests}
use Rattle.std.proofs.lemmas.List.{length-replicate, length-set}
use Rattle.std.proofs.lemmas.List.Elements.{All-append, All-cons, All-head, All-nil, All-push, All-replicate, All-tail, All-take}
use Rattle.std.proofs.lemmas.Nat.{or_lt, xor_lt, and_le_l}
use Rattle.sx_lang.specs.declared.tree.Decl.{Decl}
use Rattle.sx_lang.specs.declared.tree.Decl.TheVariants.{Device, Input, Output, Var, Array}
use Rattle.sx_lang.specs.declared.tree.UnOp.{UnOp}
use Rattle.sx_lang.specs.declared.tree.UnOp.TheVariants.{Neg, Inv, Not}
use Rattle.sx_lang.specs.declared.tree.BinOp.{BinOp}
use Rattle.sx_lang.specs.declared.tree.BinOp.TheVariants.{Add, Sub, Or, Xor, Mul, And, Eq, Ne, Lt, Le, Gt, Ge}
use Rattle.sx_lang.specs.Tree.{Expression, Constant, Variable, Indexed, Applied, Combined, Statement, Defines, Assigns, Stores, Chooses, Repeats, Sends, Emits}
use Rattle.sx_lang.specs.Tree.{Block, Done, Then, HandlerTree, ModuleTree}
use Rattle.sx_lang.specs.Sizes.{declared_cells}
use Rattle.sx_lang.specs.Words.{AreWords, BlockHasWords, DeclsHaveWords, HandlersHaveWords, HasWords, IsWord, TreeHasWords}
use Rattle.sx_check.specs.Names.{same, same_input}
use Rattle.sx_mean.specs.declared.events.SourceEvent.{SourceEvent}
use Rattle.sx_mean.specs.declared.events.SourceEvent.TheVariants as event
use Rattle.sx_mean.specs.declared.moments.Local.{Local}
use Rattle.sx_mean.specs.Places.{place, array_length, initial_cells}
use Rattle.sx_mean.specs.Meaning.{HandlerState, apply, combine, look_up, value, local_place, new_local, act, assign, assign_element, define, forget, times, after_statement, after_block}
use Rattle.sx_mean.specs.React.{handler_at, handler_of_name, input_names, nth, run, start, value_of}
use Rattle.sx_mean.specs.Words.{ActsOnWord, AreCells, IsLocalWord, ReactsInWords, StateHasWords}
use Rattle.lemmas.specs.Truth.{truth}
use Rattle.lemmas.proofs.Truths.{truth_small}

-- Operators

pub apply_word : (o : UnOp) (a : ℕ) → apply o a < 65536
apply_word Neg a = omega arith
apply_word Inv a = omega arith
apply_word Not a = let t = truth_small (a == 0) in omega (arith, t)

pub combine_word : (o : BinOp) (a b : ℕ) → a < 65536 → b < 65536 → combine o a b < 65536
combine_word Add a b p q = omega arith
combine_word Sub a b p q = omega arith
combine_word Or a b p q = or_lt 16 a b p q
combine_word Xor a b p q = xor_lt 16 a b p q
combine_word Mul a b p q = omega arith
combine_word And a b p q = let l = and_le_l a b in omega (arith, l, p)
combine_word Eq a b p q = let t = truth_small (a == b) in omega (arith, t)
combine_word Ne a b p q = let t = truth_small (nat_lt a b) in let u = truth_small (nat_lt b a) in omega (arith, t, u)
combine_word Lt a b p q = let t = truth_small (nat_lt a b) in omega (arith, t)
combine_word Le a b p q = let t = truth_small (nat_le a b) in omega (arith, t)
combine_word Gt a b p q = let t = truth_small (nat_lt b a) in omega (arith, t)
combine_word Ge a b p q = let t = truth_small (nat_le b a) in omega (arith, t)

-- comparisons by the others

pub not_equal : (a b : ℕ) → apply Not (combine Eq a b) ≡ combine Ne a b
not_equal a b = go (a == b) (nat_lt a b) (nat_lt b a) refl refl refl
  where
    go : (e l g : Bool) → (a == b) ≡ e → nat_lt a b ≡ l → nat_lt b a ≡ g → truth (truth e == 0) ≡ truth l + truth g
    go true true g p q r = let m = ltb-true a b q in absurd (omega (arith, eqb-true a b p, m))
    go true false true p q r = let m = ltb-true b a r in absurd (omega (arith, eqb-true a b p, m))
    go true false false p q r = refl
    go false true true p q r = let m = ltb-true a b q in let n = ltb-true b a r in absurd (omega (arith, m, n))
    go false true false p q r = refl
    go false false true p q r = refl
    go false false false p q r = let m = ltb-false a b q in let n = ltb-false b a r in absurd (eqb-false a b p (omega (arith, m, n)))

pub at_most : (a b : ℕ) → apply Not (combine Lt b a) ≡ combine Le a b
at_most a b = go (nat_lt b a) (nat_le a b) refl refl
  where
    go : (l m : Bool) → nat_lt b a ≡ l → nat_le a b ≡ m → truth (truth l == 0) ≡ truth m
    go true true p q = absurd (grind (arith, nat_tests))
    go true false p q = refl
    go false true p q = refl
    go false false p q = absurd (grind (arith, nat_tests))

-- Cells

pub length-initial : (ds : List Decl) → length (initial_cells ds) ≡ declared_cells ds
length-initial [] = refl
length-initial (Device k ∷ ds) = omega (arith, length-initial ds)
length-initial (Input y ∷ ds) = omega (arith, length-initial ds)
length-initial (Output y ∷ ds) = omega (arith, length-initial ds)
length-initial (Var y n ∷ ds) = omega (arith, length-initial ds)
length-initial (Array y n ∷ ds) = omega (arith, length-append (replicate n 0) (initial_cells ds), length-replicate {A = ℕ} n 0, length-initial ds)

initial_words : (ds : List Decl) → DeclsHaveWords ds → All IsWord (initial_cells ds)
initial_words [] w = All-nil IsWord
initial_words (Device kind ∷ ds) w = initial_words ds w.1
initial_words (Input x ∷ ds) w = initial_words ds w.1
initial_words (Output x ∷ ds) w = initial_words ds w.1
initial_words (Var x n ∷ ds) w = All-cons IsWord n (initial_cells ds) w.0 (initial_words ds w.1)
initial_words (Array x n ∷ ds) w = All-append IsWord (replicate n 0) (initial_cells ds) (All-replicate IsWord n 0 (omega arith)) (initial_words ds w.1)

pub cells_begin : (ds : List Decl) → DeclsHaveWords ds → AreCells ds (initial_cells ds)
cells_begin ds w = record { count = length-initial ds; words = initial_words ds w }

pub all-slice_set : {A : Type 0} (P : A → Type 0) (xs : List A) (i : ℕ) (v : A) → P v → All P xs → All P (slice_set xs i v)
all-slice_set P [] i v p h = h
all-slice_set P (x ∷ xs) zero v p h = All-cons P v xs p (All-tail P x xs h)
all-slice_set P (x ∷ xs) (suc i) v p h = All-cons P x (slice_set xs i v) (All-head P x xs h) (all-slice_set P xs i v p (All-tail P x xs h))

cell_word : (cells : List ℕ) (i : ℕ) → All IsWord cells → IsWord (get_or cells i 0)
cell_word [] i h = omega arith
cell_word (c ∷ cells) zero h = All-head IsWord c cells h
cell_word (c ∷ cells) (suc i) h = cell_word cells i (All-tail IsWord c cells h)

-- Values

found_word : (ls : List Local) (x : List ℕ) (c : ℕ) → All IsLocalWord ls → IsWord c → IsWord (unwrap_or (look_up ls x) c)
found_word [] x c s h = h
found_word (l ∷ ls) x c s h = go (same x l.name) (found_word ls x c (All-tail IsLocalWord l ls s) h)
  where
    go : (t : Bool) → IsWord (unwrap_or (look_up ls x) c) → IsWord (unwrap_or (if t then Some l.value else look_up ls x) c)
    go true more = All-head IsLocalWord l ls s
    go false more = more

zero_or : (b : Bool) (c : ℕ) → IsWord c → IsWord (if b then c else 0)
zero_or true c h = h
zero_or false c h = omega arith

pub values_are_words : (ds : List Decl) (st : HandlerState) (e : Expression) → StateHasWords st → AreWords e → IsWord (value ds st e)
values_are_words ds st (Constant n) s w = w
values_are_words ds st (Variable x) s w = found_word st.locals x (get_or st.cells (place ds x) 0) s.locals (cell_word st.cells (place ds x) s.cells)
values_are_words ds st (Indexed x e) s w = zero_or (nat_lt (value ds st e) (array_length ds x)) _ (cell_word st.cells (place ds x + value ds st e) s.cells)
values_are_words ds st (Applied op e) s w = apply_word op (value ds st e)
values_are_words ds st (Combined op a b) s w = combine_word op _ _ (values_are_words ds st a s w.0) (values_are_words ds st b s w.1)

-- Statements: each keeps words, and the number of cells

pub record Keeps (a b : HandlerState) : Type 0 where
  pub words : StateHasWords b
  pub count : length b.cells ≡ length a.cells

same_state : (a : HandlerState) → StateHasWords a → Keeps a a
same_state a s = record { words = s; count = refl }

on : (a b c : HandlerState) → Keeps a b → Keeps b c → Keeps a c
on a b c p q = record { words = q.words; count = q.count ∙ p.count }

either : (t : Bool) (a x y : HandlerState) → Keeps a x → Keeps a y → Keeps a (if t then x else y)
either true a x y p q = p
either false a x y p q = q

defines : (x : List ℕ) (v : ℕ) (st : HandlerState) → IsWord v → StateHasWords st → Keeps st (define x v st)
defines x v st h s = record { words = record { locals = All-push IsLocalWord st.locals (new_local x v) s.locals h; cells = s.cells; acts = s.acts }; count = refl }

assigns : (ds : List Decl) (x : List ℕ) (v : ℕ) (st : HandlerState) → IsWord v → StateHasWords st → Keeps st (assign ds x v st)
assigns ds x v st h s =
    either (nat_lt (local_place st.locals x) (length st.locals)) st (record st { locals = slice_set st.locals (local_place st.locals x) (new_local x v) })
    (record st { cells = slice_set st.cells (place ds x) v })
    (record { words = record { locals = all-slice_set IsLocalWord st.locals (local_place st.locals x) (new_local x v) h s.locals; cells = s.cells; acts = s.acts }; count = refl })
    (record { words = record { locals = s.locals; cells = all-slice_set IsWord st.cells (place ds x) v h s.cells; acts = s.acts }; count = length-set st.cells (place ds x) v })

stores : (ds : List Decl) (x : List ℕ) (i v : ℕ) (st : HandlerState) → IsWord v → StateHasWords st → Keeps st (assign_element ds x i v st)
stores ds x i v st h s =
    either (nat_lt i (array_length ds x)) st (record st { cells = slice_set st.cells (place ds x + i) v }) st
    (record { words = record { locals = s.locals; cells = all-slice_set IsWord st.cells (place ds x + i) v h s.cells; acts = s.acts }; count = length-set st.cells (place ds x + i) v })
    (same_state st s)

acts_on : (a : _) (st : HandlerState) → ActsOnWord a → StateHasWords st → Keeps st (act a st)
acts_on a st h s = record { words = record { locals = s.locals; cells = s.cells; acts = All-push ActsOnWord st.acts a s.acts h }; count = refl }

forgets : (n : ℕ) (a b : HandlerState) → Keeps a b → Keeps a (forget n b)
forgets n a b k = record { words = record { locals = All-take IsLocalWord n b.locals k.words.locals; cells = k.words.cells; acts = k.words.acts }; count = k.count }

turns : (n : ℕ) (f : HandlerState → HandlerState) (st : HandlerState) → ((a : HandlerState) → StateHasWords a → Keeps a (f a)) → StateHasWords st → Keeps st (times n f st)
turns zero f st h s = same_state st s
turns (suc n) f st h s = let k = h st s in on st (f st) _ k (turns n f (f st) h k.words)

mutual
  pub statement_keeps : (ds : List Decl) (s : Statement) (st : HandlerState) → HasWords s → StateHasWords st → Keeps st (after_statement ds s st)
  statement_keeps ds (Defines x e) st w h = defines x (value ds st e) st (values_are_words ds st e h w) h
  statement_keeps ds (Assigns x e) st w h = assigns ds x (value ds st e) st (values_are_words ds st e h w) h
  statement_keeps ds (Stores x i e) st w h = stores ds x (value ds st i) (value ds st e) st (values_are_words ds st e h w.1) h
  statement_keeps ds (Chooses e a b) st w h =
      either (value ds st e == 0) st (forget (length st.locals) (after_block ds b st)) (forget (length st.locals) (after_block ds a st))
      (forgets (length st.locals) st (after_block ds b st) (block_keeps ds b st w.2 h))
      (forgets (length st.locals) st (after_block ds a st) (block_keeps ds a st w.1 h))
  statement_keeps ds (Repeats n a) st w h =
      turns n (λ st. forget (length st.locals) (after_block ds a st)) st (λ st h. forgets (length st.locals) st (after_block ds a st) (block_keeps ds a st w.1 h)) h
  statement_keeps ds (Sends x e) st w h = acts_on _ st (values_are_words ds st e h w) h
  statement_keeps ds (Emits e) st w h = acts_on _ st (values_are_words ds st e h w) h

  pub block_keeps : (ds : List Decl) (b : Block) (st : HandlerState) → BlockHasWords b → StateHasWords st → Keeps st (after_block ds b st)
  block_keeps ds Done st w h = same_state st h
  block_keeps ds (Then s b) st w h =
      let k = statement_keeps ds s st w.0 h in
      on st (after_statement ds s st) _ k (block_keeps ds b (after_statement ds s st) w.1 k.words)

-- Reactions

words_found : (q : HandlerTree → Bool) (h : HandlerTree) (hs : List HandlerTree) → HandlersHaveWords hs → find q hs ≡ Some h → BlockHasWords h.body
words_found q h [] w e = absurd (cc)
words_found q h (x ∷ hs) w e = go (q x) e (words_found q h hs w.1)
  where
    go : (b : Bool) → (if b then Some x else find q hs) ≡ Some h → (find q hs ≡ Some h → BlockHasWords h.body) → BlockHasWords h.body
    go true e more = let same : x ≡ h = cc in subst (λ (g : HandlerTree). BlockHasWords g.body) same w.0
    go false e more = more e

words_named : (x : Option (List ℕ)) (h : HandlerTree) (hs : List HandlerTree) → HandlersHaveWords hs → handler_of_name x hs ≡ Some h → BlockHasWords h.body
words_named None h hs w e = absurd (cc)
words_named (Some x) h hs w e = words_found (λ h. same_input (Some x) h.input) h hs w e

words_handled : (m : ModuleTree) (e : SourceEvent) (h : HandlerTree) → HandlersHaveWords m.handlers → handler_at m e ≡ Some h → BlockHasWords h.body
words_handled m (event.Input j v) h w e = words_named (nth (input_names m.decls) j) h m.handlers w e
words_handled m (event.Sample v) h w e = words_found (λ h. same_input None h.input) h m.handlers w e

runs_keep : (ds : List Decl) (found : Option HandlerTree) (v : ℕ) (cells : List ℕ) → ((h : HandlerTree) → found ≡ Some h → BlockHasWords h.body) → IsWord v → AreCells ds cells
    → AreCells ds (run ds found v cells).cells × All ActsOnWord (run ds found v cells).acts
runs_keep ds None v cells w i c = (c, All-nil ActsOnWord)
runs_keep ds (Some h) v cells w i c =
    let begun : StateHasWords (start h v cells) = record { locals = All-cons IsLocalWord (new_local h.param v) [] i (All-nil IsLocalWord); cells = c.words; acts = All-nil ActsOnWord } in
    let k = forgets 1 (start h v cells) _ (block_keeps ds h.body (start h v cells) (w h refl) begun) in
    (record { count = k.count ∙ c.count; words = k.words.cells }, k.words.acts)

pub reactions_keep_words : (m : ModuleTree) (e : SourceEvent) (cells : List ℕ) → TreeHasWords m → IsWord (value_of e) → AreCells m.decls cells → ReactsInWords m e cells
reactions_keep_words m e cells w i c =
    let r = runs_keep m.decls (handler_at m e) (value_of e) cells (λ h q. words_handled m e h w.handlers q) i c in
    record { cells_stay = r.0; acts = r.1 }
