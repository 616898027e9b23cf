-- What a handler sends is no more than its source says.
use Rattle.std.proofs.Common.{◌≡◌, ℕ, zero, suc, ◌+◌, ◌*◌, ◌≤◌, max, Bool, true, false, ◌==◌, List, [], ◌∷◌, ◌++◌, length, refl, arith}
use Rattle.std.specs.Prelude.{if◌then◌else◌, nat_lt, slice_set}
use Rattle.std.proofs.Math.Nat.{suc-mul}
use Rattle.sx_lang.specs.declared.tree.Decl.{Decl}
use Rattle.sx_lang.specs.Tree.{Statement, Defines, Assigns, Stores, Chooses, Repeats, Sends, Emits, Block, Done, Then}
use Rattle.sx_mean.specs.declared.events.Act.{Act}
use Rattle.sx_mean.specs.declared.events.Act.TheVariants.{Send, Emit}
use Rattle.sx_mean.specs.Application.{block_packets}
use Rattle.sx_mean.specs.Packets.{statement_packets}
use Rattle.sx_mean.specs.Places.{place, array_length, output_number}
use Rattle.sx_mean.specs.Meaning.{HandlerState, assign, assign_element, after_statement, after_block, times, forget, value, local_place, new_local}

-- sends count as their outputs do
abbrev pub sent_by : (ℕ → ℕ) → Act → ℕ
sent_by f (Send output v) = f output
sent_by f (Emit v) = 0

abbrev pub sends_by : (ℕ → ℕ) → List Act → ℕ
sends_by f [] = 0
sends_by f (a ∷ acts) = sent_by f a + sends_by f acts

sends-append : (f : ℕ → ℕ) (xs ys : List Act) → sends_by f (xs ++ ys) ≡ sends_by f xs + sends_by f ys
sends-append f [] ys = omega arith
sends-append f (x ∷ xs) ys = let e = sends-append f xs ys in omega (arith, e)

module _ (ds : List Decl) (f : ℕ → ℕ) where
  abbrev pub Sent : HandlerState → ℕ
  Sent st = sends_by f st.acts

  assign_sent : (x : List ℕ) (v : ℕ) (st : HandlerState) → Sent (assign ds x v st) ≡ Sent st
  assign_sent x v st = go (nat_lt (local_place st.locals x) (length st.locals))
    where
      go : (b : Bool) → Sent (if b then record st { locals = slice_set st.locals (local_place st.locals x) (new_local x v) } else record st { cells = slice_set st.cells (place ds x) v }) ≡ Sent st
      go true = refl
      go false = refl

  element_sent : (x : List ℕ) (i v : ℕ) (st : HandlerState) → Sent (assign_element ds x i v st) ≡ Sent st
  element_sent x i v st = go (nat_lt i (array_length ds x))
    where
      go : (b : Bool) → Sent (if b then record st { cells = slice_set st.cells (place ds x + i) v } else st) ≡ Sent st
      go true = refl
      go false = refl

  times_sent : (n k : ℕ) (g : HandlerState → HandlerState) (st : HandlerState) → ((a : HandlerState) → Sent (g a) ≤ Sent a + k) → Sent (times n g st) ≤ Sent st + n * k
  times_sent zero k g st h = omega arith
  times_sent (suc n) k g st h =
      let a = h st in
      let b = times_sent n k g (g st) h in
      let e : suc n * k ≡ n * k + k = suc-mul n k in
      omega (arith, a, b, e)

  mutual
    statement_sent : (t : Statement) (st : HandlerState) → Sent (after_statement ds t st) ≤ Sent st + statement_packets f ds t
    statement_sent (Defines x e) st = omega arith
    statement_sent (Assigns x e) st = let a = assign_sent x (value ds st e) st in omega (arith, a)
    statement_sent (Stores x i e) st = let a = element_sent x (value ds st i) (value ds st e) st in omega (arith, a)
    statement_sent (Chooses e a b) st = go (value ds st e == 0) (block_sent a st) (block_sent b st)
      where
        go : (c : Bool) → Sent (after_block ds a st) ≤ Sent st + block_packets f ds a → Sent (after_block ds b st) ≤ Sent st + block_packets f ds b
            → Sent (if c then forget (length st.locals) (after_block ds b st) else forget (length st.locals) (after_block ds a st)) ≤ Sent st + max (block_packets f ds a) (block_packets f ds b)
        go true p q = omega (arith, q)
        go false p q = omega (arith, p)
    statement_sent (Repeats n a) st = times_sent n (block_packets f ds a) (λ x. forget (length x.locals) (after_block ds a x)) st (λ x. block_sent a x)
    statement_sent (Sends x e) st = let a = sends-append f st.acts (Send (output_number ds x) (value ds st e) ∷ []) in omega (arith, a)
    statement_sent (Emits e) st = let a = sends-append f st.acts (Emit (value ds st e) ∷ []) in omega (arith, a)

    pub block_sent : (b : Block) (st : HandlerState) → Sent (after_block ds b st) ≤ Sent st + block_packets f ds b
    block_sent Done st = omega arith
    block_sent (Then t b) st = let x = statement_sent t st in let y = block_sent b (after_statement ds t st) in omega (arith, x, y)
