-- Code that is appended piece by piece.
use Rattle.std.proofs.Common.{◌≡◌, ℕ, ◌+◌, ◌*◌, ◌<◌, true, List, [], ◌∷◌, ◌++◌, length, drop, get_or, Result, OnOk, refl, sym, ap, ◌∙◌, add-one, append_assoc, length-append}
use Rattle.std.specs.Prelude.{if◌then◌else◌}
use Rattle.std.proofs.Math.Seq.{drop-cons}
use Rattle.std.proofs.lemmas.Result.{on_ok_weaker}
use Rattle.sx_lang.specs.Tree.{ModuleTree}
use Rattle.sx_mean.specs.declared.events.End.{End}
use Rattle.sx_ir.specs.declared.ir.Ir.{Ir}
use Rattle.sx_ir.specs.declared.ir.Ir.TheVariants as ir
use Rattle.sx_stub.specs.Stub.{Cases, case_of, cases, is_receiving, take_event, take_receiving}

pub grown : (x y a : List Ir) → y ≡ x ++ a → length y ≡ length x + length a
grown x y a e = ap length e ∙ length-append x a

-- a piece, and then the next at the place after it
pub behind : {E : Type 0} (r : Result (Unit {0}) E) (x y z a : List Ir) (g : ℕ → List Ir) (q : ℕ) → y ≡ x ++ a → length x + length a ≡ q → OnOk r (z ≡ y ++ g (length y)) → OnOk r (z ≡ x ++ (a ++ g q))
behind r x y z a g q e long h = on_ok_weaker r go h
  where
    go : z ≡ y ++ g (length y) → z ≡ x ++ (a ++ g q)
    go h = h ∙ ap (λ n. y ++ g n) (grown x y a e ∙ long) ∙ ap (λ y. y ++ g q) e ∙ append_assoc x a (g q)

-- the case of one end, and then those of the others
pub cases_turn : (cs : Cases) (ends : List End) (i k : ℕ) (d : End) (x y whole : List Ir) → i < length ends → y ≡ x ++ case_of cs (length x) k (get_or ends i d)
    → x ++ cases cs (length x) k (drop i ends) ≡ whole → y ++ cases cs (length y) (k + 1) (drop (i + 1) ends) ≡ whole
cases_turn cs ends i k d x y whole l put inv =
    let e = get_or ends i d in
    let here = case_of cs (length x) k e in
    let rest = cases cs (length x + length here) (k + 1) (drop (i + 1) ends) in
    let is : drop i ends ≡ e ∷ drop (i + 1) ends = drop-cons ends i d l ∙ ap (λ n. e ∷ drop n ends) (sym (add-one i)) in
    ap (λ n. y ++ cases cs n (k + 1) (drop (i + 1) ends)) (grown x y here put) ∙ ap (λ y. y ++ rest) put ∙ append_assoc x here rest
    ∙ sym (ap (λ es. x ++ cases cs (length x) k es) is) ∙ inv

module _ (tree : ModuleTree) where
  -- the choice of an end and what is done then are its case
  pub taken : {E : Type 0} (r : Result (Unit {0}) E) (x y z : List Ir) (k next : ℕ) (e : End) → is_receiving e ≡ true → next ≡ length x + 2 + length (take_event tree 0 0 e)
      → y ≡ x ++ ir.JumpEqual 74 (12 * k) (length x + 2) ∷ ir.Jump next ∷ [] → OnOk r (z ≡ y ++ take_event tree (length y) k e)
      → OnOk r (z ≡ x ++ case_of (take_receiving tree) (length x) k e)
  taken r x y z k next e has to put h =
      let chosen = ir.JumpEqual 74 (12 * k) (length x + 2) ∷ ir.Jump (length x + 2 + length (take_event tree (length x + 2) k e)) ∷ [] in
      let put2 : y ≡ x ++ chosen = put ∙ ap (λ n. x ++ ir.JumpEqual 74 (12 * k) (length x + 2) ∷ ir.Jump n ∷ []) to in
      on_ok_weaker r (λ h. h ∙ ap (λ b. x ++ (if b then chosen ++ take_event tree (length x + 2) k e else [])) (sym has))
      (behind r x y z chosen (λ p. take_event tree p k e) (length x + 2) put2 refl h)
