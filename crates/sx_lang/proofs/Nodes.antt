-- The nodes of the statements that hold blocks.
use Rattle.std.proofs.Common.{◌≡◌, ℕ, ◌+◌, ◌∙◌, Vec, Global, ap}
use Rattle.sx_lang.specs.declared.tree.Expr.{Expr}
use Rattle.sx_lang.specs.declared.tree.Stmt.{Stmt}
use Rattle.sx_lang.specs.declared.tree.Stmt.TheViews.{If, Repeat}
use Rattle.sx_lang.specs.Sizes.{statement_nodes, expression_nodes, block_nodes}
use Rattle.sx_lang.specs.View.{statement_of, block_of, expression_of}
use Rattle.sx_lang.proofs.Rows.{if_is, repeat_is}

pub if_nodes : (s : Stmt) (e : Expr) (v w : Vec Stmt Global) → s ≡ If e v w
    → statement_nodes (statement_of s) ≡ 1 + expression_nodes (expression_of e) + block_nodes (block_of v.items) + block_nodes (block_of w.items)
if_nodes s e v w i = ap (λ x. statement_nodes (statement_of x)) i ∙ ap statement_nodes (if_is e v w)

pub repeat_nodes : (s : Stmt) (n : ℕ) (v : Vec Stmt Global) → s ≡ Repeat n v → statement_nodes (statement_of s) ≡ 1 + block_nodes (block_of v.items)
repeat_nodes s n v i = ap (λ x. statement_nodes (statement_of x)) i ∙ ap statement_nodes (repeat_is n v)
