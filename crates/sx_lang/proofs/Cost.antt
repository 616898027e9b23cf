-- The cost of the statements that hold blocks.
use Rattle.std.proofs.Common.{◌≡◌, ℕ, zero, suc, ◌+◌, ◌*◌, ◌≤◌, Bool, true, false, nat_le, min, max, ◌∙◌, Vec, Global, ap, refl, arith}
use Rattle.std.proofs.Math.Nat.{suc-mul}
use Rattle.std.proofs.lemmas.Bool.Decides.{nat_tests}
use Rattle.sx_lang.specs.declared.tree.Expr.{Expr}
use Rattle.sx_lang.specs.declared.tree.Stmt.{Stmt}
use Rattle.sx_lang.specs.declared.tree.Stmt.TheViews.{If, Repeat}
use Rattle.sx_lang.specs.Sizes.{statement_cost, expression_cost, block_cost}
use Rattle.sx_lang.specs.View.{statement_of, block_of, expression_of}
use Rattle.sx_lang.proofs.Rows.{if_is, repeat_is}

pub if_cost : (s : Stmt) (e : Expr) (v w : Vec Stmt Global) → s ≡ If e v w
    → statement_cost (statement_of s) ≡ 64 + expression_cost (expression_of e) + max (block_cost (block_of v.items)) (block_cost (block_of w.items))
if_cost s e v w i = ap (λ x. statement_cost (statement_of x)) i ∙ ap statement_cost (if_is e v w)

pub repeat_cost : (s : Stmt) (n : ℕ) (v : Vec Stmt Global) → s ≡ Repeat n v → statement_cost (statement_of s) ≡ 64 + n * (64 + block_cost (block_of v.items))
repeat_cost s n v i = ap (λ x. statement_cost (statement_of x)) i ∙ ap statement_cost (repeat_is n v)

within : (b : ℕ) → nat_le b 262145 ≡ true → min b 262145 ≡ b
within b h = grind (arith, nat_tests)

above : (b : ℕ) → nat_le b 262145 ≡ false → 262145 ≤ b
above b h = grind (arith, nat_tests)

-- a block's cost may be cut before its turns are counted
pub turns_cut : (n b : ℕ) → min (64 + n * (64 + min b 262145)) 262145 ≡ min (64 + n * (64 + b)) 262145
turns_cut zero b = omega arith
turns_cut (suc n) b = go (nat_le b 262145) refl
  where
    go : (t : Bool) → nat_le b 262145 ≡ t → min (64 + suc n * (64 + min b 262145)) 262145 ≡ min (64 + suc n * (64 + b)) 262145
    go true h = rw (within b h) refl
    go false h = omega (arith, suc-mul n (64 + min b 262145), suc-mul n (64 + b), above b h)
