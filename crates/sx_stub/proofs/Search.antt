-- The search for the end that a packet is for, which set-key and input share.
use Rattle.std.proofs.Common.{◌≡◌, ◌≢◌, ℕ, ◌+◌, ◌*◌, ◌%◌, ◌<◌, ◌≤◌, inl, inr, List, [], ◌∷◌, ◌++◌, length, Option, Some, None, refl, sym, ap, subst, arith}
use Rattle.sx_stub.proofs.Fit.{length-find}
use Rattle.sx_lang.specs.Tree.{ModuleTree}
use Rattle.sx_mean.specs.declared.events.End.{End}
use Rattle.spec_machine.specs.Memory.{word, put_word}
use Rattle.spec_invocation.specs.Protocol.{no_end}
use Rattle.spec_invocation.specs.Setup.{Setup, Call}
use Rattle.spec_invocation.specs.Progress.{Progress, Invoked, Returns}
use Rattle.sx_ir.specs.Conf.{Conf}
use Rattle.sx_ir.specs.Meaning.{OperationResult}
use Rattle.sx_ir.specs.declared.ir.Ir.{Ir}
use Rattle.sx_ir.specs.declared.ir.Ir.TheVariants as ir
use Rattle.sx_stub.specs.Stub.{search_code, found_code, input_found, key_found, key_place, returns, cases, find_any}
use Rattle.sx_stub.specs.Invokes.{ShowsCall, Invokes}
use Rattle.sx_stub.proofs.Mem.{word-put_same, get-put_other, AllBytes-put_word}
use Rattle.sx_stub.proofs.Straight.{At, at, at_front, at_back}
use Rattle.sx_stub.proofs.Slots.{IsKept, with_priv, shows_priv}
use Rattle.sx_stub.proofs.Refuse.{returns_does, goes_on, runs_on, within}
use Rattle.sx_stub.proofs.Chain.{found_by, case_test, chain_does}
use Rattle.sx_stub.proofs.Packets.{Holds, holds_put}
use Rattle.sx_stub.proofs.Ends.{FewLinks, found_in}
use Rattle.spec_machine.proofs.Lengths.{length-put_word}

pub some_place : (a b : ℕ) (x y : End) → ◌≡◌ {A = Option (ℕ × End)} (Some (a, x)) (Some (b, y)) → a ≡ b
some_place a b x y h = ap (λ (o : Option (ℕ × End)). place_of o) h
  where
    place_of : Option (ℕ × End) → ℕ
    place_of None = 0
    place_of (Some x) = x.0

pub some_none : (x : ℕ × End) → ◌≡◌ {A = Option (ℕ × End)} (Some x) None → ⊥
some_none x h = cc

-- a word kept for the stub itself
pub shows_kept_word : (s : Setup) (call : Call) (p : Progress) (c : Conf) (a v q : ℕ) (stack : List ℕ)
    → ShowsCall s call p c → a % 2 ≡ 0 → 14 ≤ a → a + 1 < 512 → v < 65536
    → ShowsCall s call p (with_priv c (put_word c.priv a v) q stack)
shows_kept_word s call p c a v q stack h e lo hi small =
    shows_priv s call p c (put_word c.priv a v) q stack h (length-put_word c.priv a v) (AllBytes-put_word c.priv a v small h.bytes)
    (λ i kept. get-put_other c.priv a v i e (ne i kept 0 a (omega arith) (omega arith)) (ne i kept 1 (a + 1) refl (omega arith)))
  where
    ne : (i : ℕ) → IsKept i → (d b : ℕ) → b ≡ a + d → d < 2 → i ≢ b
    ne i (inl k) d b e lt = omega (arith, k.1, e, lo)
    ne i (inr k) d b e lt = omega (arith, k, e, hi, lt)

-- where the found end's code is
pub found_at : (tree : ModuleTree) (ends : List End) (code : List Ir) (q : ℕ) → At code q (search_code tree ends q)
    → At code (q + 4 * length ends + 3) (found_code tree ends (q + 4 * length ends + 3))
found_at tree ends code q a =
    let found = q + 4 * length ends + 3 in
    let search = cases (find_any found) q 0 ends in
    let l = length-find found q 0 ends in
    at_back code (q + length search) found (returns 5) (found_code tree ends found) (omega (arith, l)) (at_back code q (q + length search) search (returns 5 ++ found_code tree ends found) refl a)

pub both_at : (tree : ModuleTree) (ends : List End) (code : List Ir) (q : ℕ) → At code q (search_code tree ends q)
    → At code (q + 4 * length ends + 3 + 3) (input_found tree ends (q + 4 * length ends + 3 + 3) ++ key_found ends (key_place tree ends (q + 4 * length ends + 3)))
both_at tree ends code q a =
    let found = q + 4 * length ends + 3 in
    let all = input_found tree ends (found + 3) ++ key_found ends (key_place tree ends found) in
    subst (λ (x : ℕ). At code x all) (omega arith) (found_at tree ends code q a).1.1.1

pub key_at : (tree : ModuleTree) (ends : List End) (code : List Ir) (q : ℕ) → At code q (search_code tree ends q)
    → At code (key_place tree ends (q + 4 * length ends + 3)) (key_found ends (key_place tree ends (q + 4 * length ends + 3)))
key_at tree ends code q a =
    let found = q + 4 * length ends + 3 in
    at_back code (found + 3) (key_place tree ends found) (input_found tree ends (found + 3)) (key_found ends (key_place tree ends found)) refl (both_at tree ends code q a)

module _ (s : Setup) (call : Call) (handle : ℕ → Conf → OperationResult) (given : ℕ
    → ℕ) (code : List Ir) (p : Progress) (none : p.pieces ≡ []) (few : length s.ends ≤ 16) (links : FewLinks s.ends) where
  -- the end that is looked for is found, and its index kept; or it is refused
  pub search_does : (r : Invoked) (v : ℕ) (c : Conf) → ShowsCall s call p c → word c.priv 72 ≡ v → (q n m : ℕ)
      → At code q (search_code s.tree s.ends q) → 700 + m ≤ n
      → ((j : ℕ) (e : End) → found_by (case_test (find_any (q + 4 * length s.ends + 3)) v) 0 s.ends ≡ Some (j, e) → j < length s.ends → (c3 : Conf) → ShowsCall s call p c3 → c3.back ≡ c.back
      → word c3.priv 74 ≡ 12 * j
      → ((packet : List ℕ) → 16 + length packet ≤ 74 → Holds c.priv packet → Holds c3.priv packet)
      → Invokes s call handle given code r m (at c3 (q + 4 * length s.ends + 3 + 1) []))
      → (found_by (case_test (find_any (q + 4 * length s.ends + 3)) v) 0 s.ends ≡ None → r ≡ Returns no_end p)
      → Invokes s call handle given code r n (at c q [])
  search_does r v c shows here q n m a le hit miss =
      let found = q + 4 * length s.ends + 3 in
      let search = cases (find_any found) q 0 s.ends in
      let rest = returns 5 ++ found_code s.tree s.ends found in
      let a1 = at_back code q (q + length search) search rest refl a in
      let a2 = found_at s.tree s.ends code q a in
      let size = shows.size in
      within s call handle given code r n (700 + m) (at c q []) le
      (chain_does s call handle given code r (find_any found) v c here refl s.ends 0 q (q + length search) (700 + m) (40 + m) (at_front code q search rest a) refl
      (omega (arith, few))
      (λ j e place f a3.
      let inside = found_in (case_test (find_any found) v) s.ends 0 j e f in
      let lt : j < length s.ends = omega (arith, inside.1) in
      let c3 = with_priv c (put_word c.priv 74 (12 * j)) (found + 1) [] in
      let shows3 = shows_kept_word s call p c 74 (12 * j) (found + 1) [] shows refl (omega arith) (omega arith) (omega (arith, few, lt)) in
      let index3 : word c3.priv 74 ≡ 12 * j = word-put_same c.priv 74 (12 * j) refl (omega (arith, size)) in
      runs_on s call handle given code r (ir.Push (12 * j) ∷ []) c place (place + 1) [] (12 * j ∷ []) (40 + m) (32 + m) (a3.0, tt) refl refl (omega arith)
      (goes_on s call handle given code r (ir.Jump found) (at c (place + 1) (12 * j ∷ [])) (at c found (12 * j ∷ [])) (32 + m) (24 + m) a3.1.0 refl refl (omega arith)
      (goes_on s call handle given code r (ir.Store 74) (at c found (12 * j ∷ [])) c3 (24 + m) m a2.0 refl refl (omega arith)
      (hit j e f lt c3 shows3 refl index3 (λ packet far holds. holds_put c.priv packet 74 (12 * j) refl far holds)))))
      (λ f. subst (λ (x : Invoked). Invokes s call handle given code x (40 + m) (at c (q + length search) [])) (sym (miss f))
      (returns_does s call handle given code 5 p c (q + length search) (40 + m) (at_front code (q + length search) (returns 5) (found_code s.tree s.ends found) a1) shows none (omega arith))))
