-- Locals by their index in scope, and the scope that a run keeps.
use Rattle.std.proofs.Common.{◌≡◌, ℕ, zero, suc, ◌+◌, ◌==◌, Bool, true, false, ◌||◌, not, cond, if◌then◌else◌, List, [], ◌∷◌, ◌++◌, length, take, nat_lt, Some}
use Rattle.std.proofs.Common.{None, refl, sym, ap, ◌∙◌, arith, append_assoc}
use Rattle.std.specs.Prelude.{option_map, slice_get, slice_set}
use Rattle.std.proofs.Math.Seq.{take-append_seam}
use Rattle.std.proofs.lemmas.Bool.{lt-ltb, ltb-false}
use Rattle.std.proofs.lemmas.List.{append-nil}
use Rattle.sx_lang.specs.declared.tree.Decl.{Decl}
use Rattle.sx_lang.specs.Tree.{Statement, Defines, Assigns, Stores, Chooses, Repeats, Sends, Emits, Block, Done, Then}
use Rattle.sx_check.specs.Names.{same, defined}
use Rattle.sx_check.specs.Scopes.{definitions}
use Rattle.sx_check.specs.Uses.{is_seen}
use Rattle.sx_check.proofs.Distinct.{same-true}
use Rattle.sx_mean.specs.declared.moments.Local.{Local}
use Rattle.sx_mean.specs.Places.{place, array_length}
use Rattle.sx_mean.specs.Meaning.{HandlerState, after_block, after_statement, assign, assign_element, forget, local_place, look_up, new_local, times, value}
use Rattle.sx_mean.specs.Scope.{IsIndexed, KeepsScope, index_of, names_of}
use Rattle.lemmas.proofs.Numbers.{less_by_one}

pub length-names : (ls : List Local) → length (names_of ls) ≡ length ls
length-names [] = refl
length-names (l ∷ ls) = ap suc (length-names ls)

one_more : (i n : ℕ) → nat_lt i n ≡ nat_lt (1 + i) (suc n)
one_more i n = sym (less_by_one i n)

-- a name is seen where its index is one of the names'
pub seen_index : (names : List (List ℕ)) (x : List ℕ) → is_seen names x ≡ nat_lt (index_of names x) (length names)
seen_index [] x = refl
seen_index (y ∷ names) x = go (same x y) (seen_index names x)
  where
    go : (t : Bool) → is_seen names x ≡ nat_lt (index_of names x) (length names) → (t || is_seen names x) ≡ nat_lt (cond (not t) (1 + index_of names x) 0) (suc (length names))
    go true h = sym (lt-ltb 0 (suc (length names)) (omega arith))
    go false h = h ∙ one_more (index_of names x) (length names)

pub place_of_local : (ls : List Local) (x : List ℕ) → local_place ls x ≡ index_of (names_of ls) x
place_of_local [] x = refl
place_of_local (l ∷ ls) x = ap (λ n. cond (not (same x l.name)) (1 + n) 0) (place_of_local ls x)

-- the local of a name is the one at its index
pub look_up_at : (ls : List Local) (x : List ℕ) → look_up ls x ≡ option_map (λ l. l.value) (slice_get ls (index_of (names_of ls) x))
look_up_at [] x = refl
look_up_at (l ∷ ls) x = go (same x l.name) (look_up_at ls x)
  where
    go : (t : Bool) → look_up ls x ≡ option_map (λ l. l.value) (slice_get ls (index_of (names_of ls) x))
        → (if t then Some l.value else look_up ls x) ≡ option_map (λ l. l.value) (slice_get (l ∷ ls) (cond (not t) (1 + index_of (names_of ls) x) 0))
    go true h = refl
    go false h = let n : suc (index_of (names_of ls) x) ≡ 1 + index_of (names_of ls) x = omega arith in h ∙ ap (λ k. option_map (λ l. l.value) (slice_get (l ∷ ls) k)) n

-- a name that isn't in scope is no local
pub look_past : (ls : List Local) (x : List ℕ) → nat_lt (index_of (names_of ls) x) (length (names_of ls)) ≡ false → look_up ls x ≡ None
look_past [] x h = refl
look_past (l ∷ ls) x h = go (same x l.name) h (look_past ls x)
  where
    go : (t : Bool) → nat_lt (cond (not t) (1 + index_of (names_of ls) x) 0) (suc (length (names_of ls))) ≡ false
        → (nat_lt (index_of (names_of ls) x) (length (names_of ls)) ≡ false → look_up ls x ≡ None) → (if t then Some l.value else look_up ls x) ≡ None
    go true h more = let l = ltb-false 0 (suc (length (names_of ls))) h in absurd (omega (arith, l))
    go false h more = more (sym (less_by_one (index_of (names_of ls) x) (length (names_of ls))) ∙ h)

pub locals_indexed : (ls : List Local) (x : List ℕ) → IsIndexed ls x
locals_indexed ls x = record { place = place_of_local ls x; value = look_up_at ls x }

-- What statements do to the names

pub names_push : (ls : List Local) (l : Local) → names_of (ls ++ l ∷ []) ≡ names_of ls ++ l.name ∷ []
names_push [] l = refl
names_push (x ∷ ls) l = ap (λ ns. x.name ∷ ns) (names_push ls l)

pub names_take : (ls : List Local) (n : ℕ) → names_of (take n ls) ≡ take n (names_of ls)
names_take ls zero = refl
names_take [] (suc n) = refl
names_take (x ∷ ls) (suc n) = ap (λ ns. x.name ∷ ns) (names_take ls n)

-- a local of the name at its place keeps the names
pub names_set : (ls : List Local) (x : List ℕ) (v : ℕ) → names_of (slice_set ls (local_place ls x) (new_local x v)) ≡ names_of ls
names_set [] x v = refl
names_set (l ∷ ls) x v = go (same x l.name) refl (names_set ls x v)
  where
    go : (t : Bool) → same x l.name ≡ t → names_of (slice_set ls (local_place ls x) (new_local x v)) ≡ names_of ls
        → names_of (slice_set (l ∷ ls) (cond (not t) (1 + local_place ls x) 0) (new_local x v)) ≡ l.name ∷ names_of ls
    go true e more = ap (λ n. n ∷ names_of ls) (same-true x l.name e)
    go false e more =
        let q : 1 + local_place ls x ≡ suc (local_place ls x) = omega arith in
        ap (λ n. names_of (slice_set (l ∷ ls) n (new_local x v))) q ∙ ap (λ ns. l.name ∷ ns) more

assign_names : (ds : List Decl) (x : List ℕ) (v : ℕ) (st : HandlerState) → names_of (assign ds x v st).locals ≡ names_of st.locals
assign_names ds x v st = go (nat_lt (local_place st.locals x) (length st.locals))
  where
    go : (b : Bool) → names_of (if b then record st { locals = slice_set st.locals (local_place st.locals x) (new_local x v) } else
        record st { cells = slice_set st.cells (place ds x) v }).locals ≡ names_of st.locals
    go true = names_set st.locals x v
    go false = refl

element_names : (ds : List Decl) (x : List ℕ) (i v : ℕ) (st : HandlerState) → names_of (assign_element ds x i v st).locals ≡ names_of st.locals
element_names ds x i v st = go (nat_lt i (array_length ds x))
  where
    go : (b : Bool) → names_of (if b then record st { cells = slice_set st.cells (place ds x + i) v } else st).locals ≡ names_of st.locals
    go true = refl
    go false = refl

-- what a block defines is forgotten
forget_names : (st r : HandlerState) (more : List (List ℕ)) → names_of r.locals ≡ names_of st.locals ++ more → names_of (forget (length st.locals) r).locals ≡ names_of st.locals
forget_names st r more h =
    names_take r.locals (length st.locals)
    ∙ ap (λ ns. take (length st.locals) ns) h
    ∙ ap (λ n. take n (names_of st.locals ++ more)) (sym (length-names st.locals))
    ∙ take-append_seam (names_of st.locals) more

chosen : (b : Bool) (st x y : HandlerState) → names_of x.locals ≡ names_of st.locals → names_of y.locals ≡ names_of st.locals → names_of (if b then x else y).locals ≡ names_of st.locals
chosen true st x y p q = p
chosen false st x y p q = q

times_names : (n : ℕ) (f : HandlerState → HandlerState) (st : HandlerState) → ((a : HandlerState) → names_of (f a).locals ≡ names_of a.locals) → names_of (times n f st).locals ≡ names_of st.locals
times_names zero f st h = refl
times_names (suc n) f st h = times_names n f (f st) h ∙ h st

mutual
  pub statement_names : (ds : List Decl) (s : Statement) (st : HandlerState) → names_of (after_statement ds s st).locals ≡ names_of st.locals ++ defined s
  statement_names ds (Defines x e) st = names_push st.locals (new_local x (value ds st e))
  statement_names ds (Assigns x e) st = assign_names ds x (value ds st e) st ∙ sym (append-nil (names_of st.locals))
  statement_names ds (Stores x i e) st = element_names ds x (value ds st i) (value ds st e) st ∙ sym (append-nil (names_of st.locals))
  statement_names ds (Chooses e a b) st =
      chosen (value ds st e == 0) st (forget (length st.locals) (after_block ds b st)) (forget (length st.locals) (after_block ds a st)) (forget_names st
      (after_block ds b st) (definitions b) (block_names ds b st)) (forget_names st (after_block ds a st) (definitions a) (block_names ds a st))
      ∙ sym (append-nil (names_of st.locals))
  statement_names ds (Repeats n a) st =
      times_names n (λ st. forget (length st.locals) (after_block ds a st)) st (λ st. forget_names st (after_block ds a st) (definitions a) (block_names ds a st))
      ∙ sym (append-nil (names_of st.locals))
  statement_names ds (Sends x e) st = sym (append-nil (names_of st.locals))
  statement_names ds (Emits e) st = sym (append-nil (names_of st.locals))

  pub block_names : (ds : List Decl) (b : Block) (st : HandlerState) → names_of (after_block ds b st).locals ≡ names_of st.locals ++ definitions b
  block_names ds Done st = sym (append-nil (names_of st.locals))
  block_names ds (Then s b) st =
      block_names ds b (after_statement ds s st)
      ∙ ap (λ ns. ns ++ definitions b) (statement_names ds s st)
      ∙ append_assoc (names_of st.locals) (defined s) (definitions b)

pub scopes_kept : (ds : List Decl) (st : HandlerState) → KeepsScope ds st
scopes_kept ds st = record {
  statement = λ s. statement_names ds s st;
  within_block = λ b. block_names ds b st;
  block = λ b. forget_names st (after_block ds b st) (definitions b) (block_names ds b st);
}
