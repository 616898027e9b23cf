-- Acts only grow.
use Rattle.std.proofs.Common.{◌≡◌, ℕ, zero, suc, ◌+◌, ◌==◌, Bool, true, false, if◌then◌else◌, List, [], ◌++◌, length, nat_lt, refl, sym, ap, ◌∙◌, append_assoc}
use Rattle.std.specs.Prelude.{slice_set}
use Rattle.std.proofs.lemmas.List.{append-nil}
use Rattle.sx_lang.specs.declared.tree.Decl.{Decl}
use Rattle.sx_lang.specs.Tree.{Statement, Defines, Assigns, Stores, Chooses, Repeats, Sends, Emits, Block, Done, Then}
use Rattle.sx_mean.specs.Places.{place, array_length}
use Rattle.sx_mean.specs.Meaning.{HandlerState, value, local_place, new_local, assign, assign_element, forget, times, after_statement, after_block}
use Rattle.sx_mean.specs.Acts.{ActsGrow, AddsActs}

stays : (a b : HandlerState) → b.acts ≡ a.acts → AddsActs a b
stays a b e = record { more = []; all = append-nil a.acts ∙ sym e }

pub grows_on : (a b c : HandlerState) → AddsActs a b → AddsActs b c → AddsActs a c
grows_on a b c p q = record { more = p.more ++ q.more; all = sym (append_assoc a.acts p.more q.more) ∙ ap (λ l. l ++ q.more) p.all ∙ q.all }

pub assign_stays : (ds : List Decl) (x : List ℕ) (v : ℕ) (st : HandlerState) → (assign ds x v st).acts ≡ st.acts
assign_stays ds x v st = go (nat_lt (local_place st.locals x) (length st.locals))
  where
    go : (b : Bool) → (if b then record st { locals = slice_set st.locals (local_place st.locals x) (new_local x v) } else record st { cells = slice_set st.cells (place ds x) v }).acts ≡ st.acts
    go true = refl
    go false = refl

pub element_stays : (ds : List Decl) (x : List ℕ) (i v : ℕ) (st : HandlerState) → (assign_element ds x i v st).acts ≡ st.acts
element_stays ds x i v st = go (nat_lt i (array_length ds x))
  where
    go : (b : Bool) → (if b then record st { cells = slice_set st.cells (place ds x + i) v } else st).acts ≡ st.acts
    go true = refl
    go false = refl

chosen : (b : Bool) (st x y : HandlerState) → AddsActs st x → AddsActs st y → AddsActs st (if b then x else y)
chosen true st x y p q = p
chosen false st x y p q = q

pub times_grow : (n : ℕ) (f : HandlerState → HandlerState) (st : HandlerState) → ((a : HandlerState) → AddsActs a (f a)) → AddsActs st (times n f st)
times_grow zero f st h = stays st st refl
times_grow (suc n) f st h = grows_on st (f st) (times n f (f st)) (h st) (times_grow n f (f st) h)

mutual
  pub statement_grows : (ds : List Decl) (s : Statement) (st : HandlerState) → AddsActs st (after_statement ds s st)
  statement_grows ds (Defines x e) st = stays st _ refl
  statement_grows ds (Assigns x e) st = stays st _ (assign_stays ds x (value ds st e) st)
  statement_grows ds (Stores x i e) st = stays st _ (element_stays ds x (value ds st i) (value ds st e) st)
  statement_grows ds (Chooses e a b) st =
      chosen (value ds st e == 0) st _ _
      (grows_on st (after_block ds b st) _ (block_grows ds b st) (stays _ _ refl))
      (grows_on st (after_block ds a st) _ (block_grows ds a st) (stays _ _ refl))
  statement_grows ds (Repeats n a) st =
      times_grow n (λ st. forget (length st.locals) (after_block ds a st)) st
      (λ st. grows_on st (after_block ds a st) _ (block_grows ds a st) (stays _ _ refl))
  statement_grows ds (Sends x e) st = record { more = _; all = refl }
  statement_grows ds (Emits e) st = record { more = _; all = refl }

  pub block_grows : (ds : List Decl) (b : Block) (st : HandlerState) → AddsActs st (after_block ds b st)
  block_grows ds Done st = stays st st refl
  block_grows ds (Then s b) st = grows_on st (after_statement ds s st) _ (statement_grows ds s st) (block_grows ds b (after_statement ds s st))

pub acts_grow : ActsGrow
acts_grow ds b st = block_grows ds b st
