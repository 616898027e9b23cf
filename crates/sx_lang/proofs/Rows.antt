-- A statement over vectors is seen as one over blocks.
use Rattle.std.proofs.Common.{◌≡◌, ℕ, Vec, Global, refl, ap, rules, ◌∙◌}
use Rattle.sx_lang.specs.declared.tree.Expr.{Expr}
use Rattle.sx_lang.specs.declared.tree.Stmt.{Stmt, Row_of-Stmt, end_of-Stmt, more_of-Stmt, items-the_row-Stmt}
use Rattle.sx_lang.specs.declared.tree.Stmt.TheViews.{If, Repeat, the_lemmas}
use Rattle.sx_lang.specs.Tree.{Chooses, Repeats, Then}
use Rattle.sx_lang.specs.View.{statement_of, block_of_row, block_of, expression_of}

row_items : {shape : _} (row : Row_of-Stmt shape) → block_of_row row ≡ block_of (items-the_row-Stmt shape row)
row_items end_of-Stmt = refl
row_items (more_of-Stmt s rest) = ap (λ b. Then (statement_of s) b) (row_items rest)

pub if_is : (e : Expr) (v w : Vec Stmt Global) → statement_of (If e v w) ≡ Chooses (expression_of e) (block_of v.items) (block_of w.items)
if_is e v w = search (rules, the_lemmas, row_items)

pub repeat_is : (n : ℕ) (v : Vec Stmt Global) → statement_of (Repeat n v) ≡ Repeats n (block_of v.items)
repeat_is n v = search (rules, the_lemmas, row_items)

pub if_seen : (s : Stmt) (e : Expr) (v w : Vec Stmt Global) → s ≡ If e v w → statement_of s ≡ Chooses (expression_of e) (block_of v.items) (block_of w.items)
if_seen s e v w i = ap statement_of i ∙ if_is e v w

pub repeat_seen : (s : Stmt) (n : ℕ) (v : Vec Stmt Global) → s ≡ Repeat n v → statement_of s ≡ Repeats n (block_of v.items)
repeat_seen s n v i = ap statement_of i ∙ repeat_is n v
