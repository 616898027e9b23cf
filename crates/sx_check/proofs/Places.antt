-- One statement further in a block, its own name can be seen too.
use Rattle.std.proofs.Common.{◌≡◌, ℕ, ◌+◌, ◌<◌, Bool, false, ◌||◌, List, [], ◌∷◌, ◌++◌, length, get_or, take, drop, sym, ap, ◌∙◌, subst, append_assoc}
use Rattle.std.proofs.lemmas.List.{append-nil, take_more}
use Rattle.std.proofs.lemmas.List.Folds.{list_any-append}
use Rattle.std.specs.List.{list_any}
use Rattle.sx_lang.specs.declared.tree.Stmt.{Stmt}
use Rattle.sx_lang.specs.View.{statement_of, block_of}
use Rattle.sx_check.specs.Names.{defined}
use Rattle.sx_check.specs.Scopes.{definitions}
use Rattle.sx_check.specs.Seen.{Knows}
use Rattle.sx_check.specs.Uses.{Use, statement_uses, block_uses}
use Rattle.sx_check.specs.declared.seen.Seen.{Seen}
use Rattle.lemmas.proofs.Lists.{rest_is}

definitions-push : (xs : List Stmt) (s : Stmt) → definitions (block_of (xs ++ s ∷ [])) ≡ definitions (block_of xs) ++ defined (statement_of s)
definitions-push [] s = append-nil (defined (statement_of s))
definitions-push (x ∷ xs) s =
    ap (λ d. defined (statement_of x) ++ d) (definitions-push xs s)
    ∙ sym (append_assoc (defined (statement_of x)) (definitions (block_of xs)) (defined (statement_of s)))

seen_next : (seen : List (List ℕ)) (items : List Stmt) (i : ℕ) (s : Stmt) → i < length items → s ≡ get_or items i s
    → seen ++ definitions (block_of (take (i + 1) items)) ≡ (seen ++ definitions (block_of (take i items))) ++ defined (statement_of s)
seen_next seen items i s h e =
    ap (λ xs. seen ++ definitions (block_of xs)) (take_more items i s h ∙ ap (λ x. take i items ++ x ∷ []) (sym e))
    ∙ ap (λ d. seen ++ d) (definitions-push (take i items) s)
    ∙ sym (append_assoc seen (definitions (block_of (take i items))) (defined (statement_of s)))

pub one_further : (F : Use → Bool) (seen : List (List ℕ)) (items : List Stmt) (i : ℕ) (s : Stmt) (x : Bool) → i < length items → s ≡ get_or items i s
    → list_any F (statement_uses (seen ++ definitions (block_of (take i items))) (statement_of s)) ≡ false
    → list_any F (block_uses (seen ++ definitions (block_of (take i items))) (block_of (drop i items))) ≡ x
    → list_any F (block_uses (seen ++ definitions (block_of (take (i + 1) items))) (block_of (drop (i + 1) items))) ≡ x
one_further F seen items i s x h e none all =
    let N = seen ++ definitions (block_of (take i items)) in
    let rest = block_of (drop (i + 1) items) in
    ap (λ n. list_any F (block_uses n rest)) (seen_next seen items i s h e)
    ∙ ap (λ b. b || list_any F (block_uses (N ++ defined (statement_of s)) rest)) (sym none)
    ∙ sym (list_any-append F (statement_uses N (statement_of s)) (block_uses (N ++ defined (statement_of s)) rest))
    ∙ ap (λ xs. list_any F (block_uses N (block_of xs))) (sym (rest_is items i s h e))
    ∙ all

-- the same in the names of the loop, where the block is read through two slices
pub loop_further : (F : Use → Bool) (seen : List (List ℕ)) (items left right earlier : List Stmt) (i : ℕ) (s : Stmt) (x r : Bool)
    → left ≡ items → right ≡ items → i < length left → s ≡ get_or left i s → earlier ≡ take i right
    → r ≡ list_any F (statement_uses (seen ++ definitions (block_of earlier)) (statement_of s)) → r ≡ false
    → list_any F (block_uses (seen ++ definitions (block_of (take i items))) (block_of (drop i items))) ≡ x
    → list_any F (block_uses (seen ++ definitions (block_of (take (i + 1) items))) (block_of (drop (i + 1) items))) ≡ x
loop_further F seen items left right earlier i s x r l k h e f given none all =
    let n : i < length items = subst (λ xs. i < length xs) l h in
    let g : s ≡ get_or items i s = e ∙ ap (λ xs. get_or xs i s) l in
    let p : earlier ≡ take i items = f ∙ ap (λ xs. take i xs) k in
    one_further F seen items i s x n g
    (ap (λ xs. list_any F (statement_uses (seen ++ definitions (block_of xs)) (statement_of s))) (sym p) ∙ sym given ∙ none) all

-- and the set of the locals in sight takes its name in
pub known_further : (set : Seen) (seen : List (List ℕ)) (items left right earlier : List Stmt) (i : ℕ) (s : Stmt)
    → left ≡ items → right ≡ items → i < length left → s ≡ get_or left i s → earlier ≡ take i right
    → Knows set ((seen ++ definitions (block_of earlier)) ++ defined (statement_of s)) → Knows set (seen ++ definitions (block_of (take (i + 1) items)))
known_further set seen items left right earlier i s l k h e f known =
    let n : i < length items = subst (λ xs. i < length xs) l h in
    let g : s ≡ get_or items i s = e ∙ ap (λ xs. get_or xs i s) l in
    let p : earlier ≡ take i items = f ∙ ap (λ xs. take i xs) k in
    let names : (seen ++ definitions (block_of earlier)) ++ defined (statement_of s) ≡ seen ++ definitions (block_of (take (i + 1) items)) =
    ap (λ xs. (seen ++ definitions (block_of xs)) ++ defined (statement_of s)) p ∙ sym (seen_next seen items i s n g) in
    subst (λ (names : List (List ℕ)). Knows set names) names known
