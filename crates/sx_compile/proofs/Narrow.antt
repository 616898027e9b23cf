-- The operands of a module's code are words: the text has them, and memory has bytes.
use Rattle.std.proofs.Common.{◌≡◌, ℕ, zero, suc, ◌+◌, ◌<◌, ◌≤◌, inl, inr, ◌⊎◌, true, List, [], ◌∷◌, ◌++◌, length, Option, Some, None, refl, ap, ◌∙◌, subst, arith}
use Rattle.std.specs.Prelude.{slice_get, slice_index}
use Rattle.std.specs.List.{list_all}
use Rattle.std.proofs.lemmas.Bool.{false≢true, ltb-true}
use Rattle.std.proofs.lemmas.Option.{slice_get_within}
use Rattle.sx_lang.specs.Tree.{ModuleTree}
use Rattle.sx_mean.specs.declared.events.End.{End}
use Rattle.sx_rules.specs.declared.section.Layout.{Layout}
use Rattle.spec_machine.specs.Memory.{bytes_from}
use Rattle.sx_ir.specs.declared.ir.Ir.{Ir}
use Rattle.sx_ir.specs.declared.ir.Ir.TheVariants as ir
use Rattle.sx_lower.specs.Lowered.{handlers_code}
use Rattle.sx_lower.specs.Lowering.{AreHandlerOps, IsHandlerOp, IsLowerable}
use Rattle.sx_lower.proofs.Reacts.{lowered_fits}
use Rattle.sx_stub.specs.Sound.{is_plain}
use Rattle.sx_stub.specs.Stub.{stub_ops}
use Rattle.sx_tmpl.specs.Performs.{IsNarrow}
use Rattle.sx_tmpl.specs.Template.{Addresses, entry_words, template}
use Rattle.sx_tmpl.specs.Text.{addresses_of, bytes_of, text_words_of, words_of}
use Rattle.sx_tmpl.proofs.Texts.SoundOps.{one_of}
use Rattle.sx_compile.specs.Compiled.{compiled_ops}

-- each is below a bound
abbrev pub AreBelow : ℕ → List ℕ → Type 0
AreBelow n [] = Unit {0}
AreBelow n (x ∷ xs) = (x < n) × AreBelow n xs

below_both : (n : ℕ) (xs ys : List ℕ) → AreBelow n xs → AreBelow n ys → AreBelow n (xs ++ ys)
below_both n [] ys p q = q
below_both n (x ∷ xs) ys p q = (p.0, below_both n xs ys p.1 q)

below_front : (n : ℕ) (xs ys : List ℕ) → AreBelow n (xs ++ ys) → AreBelow n xs
below_front n [] ys h = tt
below_front n (x ∷ xs) ys h = (h.0, below_front n xs ys h.1)

below_back : (n : ℕ) (xs ys : List ℕ) → AreBelow n (xs ++ ys) → AreBelow n ys
below_back n [] ys h = h
below_back n (x ∷ xs) ys h = below_back n xs ys h.1

-- what memory has are bytes
pub bytes_below : (m : List ℕ) (at n : ℕ) → ((k : ℕ) → slice_index m k < 256) → AreBelow 256 (bytes_from m at n)
unfolding bytes_from
bytes_below m at zero h = tt
bytes_below m at (suc n) h = below_both 256 (bytes_from m at n) (slice_index m (at + n) ∷ []) (bytes_below m at n h) (h (at + n), tt)

-- a word whose bytes are bytes is one
words_below : (ws rest : List ℕ) → AreBelow 256 (bytes_of ws ++ rest) → AreBelow 65536 ws
words_below [] rest h = tt
words_below (w ∷ ws) rest h = let high = h.1.0 in (omega (arith, high), words_below ws rest h.1.1)

-- a pushed word is in its template
pub push_below : (l : Layout) (a : Addresses) (q p n : ℕ) (ops : List Ir) → AreBelow 65536 (words_of l a q ops) → slice_get ops p ≡ Some (ir.Push n) → n < 65536
push_below l a q p n [] h e = absurd (none_some e)
  where
    none_some : ◌≡◌ {A = Option Ir} None (Some (ir.Push n)) → ⊥
    none_some e = cc
push_below l a q zero n (i ∷ ops) h e =
    let here = subst (λ (j : Ir). AreBelow 65536 (template l a q j)) (some_same e) (below_front 65536 (template l a q i) (words_of l a (q + 1) ops) h) in here.1.0
  where
    some_same : ◌≡◌ {A = Option Ir} (Some i) (Some (ir.Push n)) → i ≡ ir.Push n
    some_same e = cc
push_below l a q (suc p) n (i ∷ ops) h e = push_below l a (q + 1) p n ops (below_back 65536 (template l a q i) (words_of l a (q + 1) ops) h) e

-- an operation of two codes is one of the first or of the second
either_code : (xs ys : List Ir) (p : ℕ) (i : Ir) → slice_get (xs ++ ys) p ≡ Some i → (slice_get xs p ≡ Some i) ⊎ ((q : ℕ) × (slice_get ys q ≡ Some i))
either_code [] ys p i e = inr (p, e)
either_code (x ∷ xs) ys zero i e = inl e
either_code (x ∷ xs) ys (suc p) i e = either_code xs ys p i e

pub handler_op : (ends : List End) (ops : List Ir) (p : ℕ) (i : Ir) → AreHandlerOps ends ops → slice_get ops p ≡ Some i → IsHandlerOp ends i
handler_op ends [] p i h e = absurd (none_some e)
  where
    none_some : ◌≡◌ {A = Option Ir} None (Some i) → ⊥
    none_some e = cc
handler_op ends (x ∷ ops) zero i h e = subst (IsHandlerOp ends) (some_same e) h.0
  where
    some_same : ◌≡◌ {A = Option Ir} (Some x) (Some i) → x ≡ i
    some_same e = cc
handler_op ends (x ∷ ops) (suc p) i h e = handler_op ends ops p i h.1 e

plain_narrow : (i : Ir) → is_plain i ≡ true → IsNarrow i
plain_narrow (ir.Push x) e = ltb-true x 65536 e
plain_narrow (ir.Meets r x) e = ltb-true x 65536 e
plain_narrow (ir.Packet k) e = absurd (false≢true e)
plain_narrow (ir.Load o) e = tt
plain_narrow (ir.Store o) e = tt
plain_narrow (ir.LoadAt o x) e = tt
plain_narrow (ir.StoreAt o x) e = tt
plain_narrow (ir.Op f) e = tt
plain_narrow (ir.Jump q) e = tt
plain_narrow (ir.JumpZero q) e = tt
plain_narrow (ir.JumpEqual o x q) e = ltb-true x 65536 e
plain_narrow ir.Drop e = tt
plain_narrow ir.Emit e = tt
plain_narrow ir.Stop e = tt
plain_narrow (ir.Saved r) e = tt
plain_narrow ir.Inside e = tt
plain_narrow (ir.CopyIn x o) e = tt
plain_narrow (ir.CopyOut x o) e = tt
plain_narrow (ir.Seal x y z u v) e = tt
plain_narrow (ir.Open x y z u v) e = tt
plain_narrow (ir.SetEnd x) e = tt
plain_narrow ir.Sense e = tt
plain_narrow (ir.Handler x) e = tt
plain_narrow ir.Leave e = tt

pub handler_narrow : (ends : List End) (i : Ir) → length ends ≤ 16 → ((n : ℕ) → i ≡ ir.Push n → n < 65536) → IsHandlerOp ends i → IsNarrow i
handler_narrow ends (ir.Push x) few push h = push x refl
handler_narrow ends (ir.Packet k) few push h = let lt = slice_get_within ends k h.0 h.1 in omega (arith, lt, few)
handler_narrow ends (ir.Meets r x) few push h = absurd h
handler_narrow ends (ir.Load o) few push h = tt
handler_narrow ends (ir.Store o) few push h = tt
handler_narrow ends (ir.LoadAt o x) few push h = tt
handler_narrow ends (ir.StoreAt o x) few push h = tt
handler_narrow ends (ir.Op f) few push h = tt
handler_narrow ends (ir.Jump q) few push h = tt
handler_narrow ends (ir.JumpZero q) few push h = tt
handler_narrow ends (ir.JumpEqual o x q) few push h = absurd h
handler_narrow ends ir.Drop few push h = tt
handler_narrow ends ir.Emit few push h = tt
handler_narrow ends ir.Stop few push h = tt
handler_narrow ends (ir.Saved r) few push h = tt
handler_narrow ends ir.Inside few push h = tt
handler_narrow ends (ir.CopyIn x o) few push h = tt
handler_narrow ends (ir.CopyOut x o) few push h = tt
handler_narrow ends (ir.Seal x y z u v) few push h = tt
handler_narrow ends (ir.Open x y z u v) few push h = tt
handler_narrow ends (ir.SetEnd x) few push h = tt
handler_narrow ends ir.Sense few push h = tt
handler_narrow ends (ir.Handler x) few push h = tt
handler_narrow ends ir.Leave few push h = tt

-- the operands of a module's code are narrow, where its text is made of bytes
pub all_narrow : (tree : ModuleTree) (ends : List End) (l : Layout) (a : Addresses) → list_all is_plain (stub_ops tree ends) ≡ true → IsLowerable tree ends
    → AreBelow 65536 (words_of l a 0 (compiled_ops tree ends)) → (p : ℕ) (i : Ir) → slice_get (compiled_ops tree ends) p ≡ Some i → IsNarrow i
unfolding compiled_ops
all_narrow tree ends l a plain able below p i e =
    let stub = stub_ops tree ends in
    let bodies = handlers_code tree.decls ends (length stub) tree.handlers in
    let fits = lowered_fits tree ends (length stub) (length stub + length bodies) 0 able (omega arith) in
    elim (either_code stub bodies p i e) [
      | inl here ↦ plain_narrow i (one_of is_plain stub p i plain here)
      | inr there ↦ handler_narrow ends i able.few_ends (λ n is. push_below l a 0 p n (stub ++ bodies) below (e ∙ ap (λ (j : Ir). Some j) is)) (handler_op ends bodies there.0 i fits.plain there.1)
    ]

-- the words of the operations among those of a text
pub ops_below : (l : Layout) (ops : List Ir) (parts : List (ℕ × ℕ)) (rest : List ℕ) → AreBelow 256 (bytes_of (text_words_of l ops parts) ++ rest)
    → AreBelow 65536 (words_of l (addresses_of l ops parts) 0 ops)
ops_below l ops parts rest h =
    below_front 65536 (words_of l (addresses_of l ops parts) 0 ops) _ (below_back 65536 (entry_words l.priv_from) _ (words_below (text_words_of l ops parts) rest h))
