-- What the statements that hold blocks do.
use Rattle.std.proofs.Common.{◌≡◌, ℕ, zero, suc, ◌+◌, ◌-◌, ◌<◌, ◌==◌, true, false, Vec, Global, refl, sym, ap, ◌∙◌, arith, subst}
use Rattle.std.proofs.lemmas.Bool.Decides.{nat_tests}
use Rattle.sx_lang.specs.declared.tree.Decl.{Decl}
use Rattle.sx_lang.specs.declared.tree.Expr.{Expr}
use Rattle.sx_lang.specs.declared.tree.Stmt.{Stmt}
use Rattle.sx_lang.specs.declared.tree.Stmt.TheViews.{If, Repeat}
use Rattle.sx_lang.specs.View.{statement_of, block_of, expression_of}
use Rattle.sx_lang.proofs.Rows.{if_is, repeat_is}
use Rattle.std.proofs.Common.{List, Result, Ok, Err, OnOk}
use Rattle.std.proofs.lemmas.Bool.{ne_eqb}
use Rattle.sx_mean.specs.Meaning.{HandlerState, after_statement, in_block, times, value}

is_zero : (n : ℕ) → n ≡ 0 → (n == 0) ≡ true
is_zero n h = grind (arith, nat_tests)

pub takes_then : (ds : List Decl) (s : Stmt) (e : Expr) (v w : Vec Stmt Global) (st r : HandlerState) (t : ℕ) → s ≡ If e v w → t ≡ value ds st (expression_of e)
    → (t ≡ 0 → ⊥) → r ≡ in_block ds (block_of v.items) st → r ≡ after_statement ds (statement_of s) st
takes_then ds s e v w st r t i a n h =
    let z : (value ds st (expression_of e) == 0) ≡ false = ne_eqb (value ds st (expression_of e)) 0 (λ q. n (a ∙ q)) in
    h ∙ sym (ap (λ s. after_statement ds s st) (ap statement_of i ∙ if_is e v w) ∙ rw z refl)

pub takes_else : (ds : List Decl) (s : Stmt) (e : Expr) (v w : Vec Stmt Global) (st r : HandlerState) (t : ℕ) → s ≡ If e v w → t ≡ value ds st (expression_of e)
    → t ≡ 0 → r ≡ in_block ds (block_of w.items) st → r ≡ after_statement ds (statement_of s) st
takes_else ds s e v w st r t i a n h =
    let z : (value ds st (expression_of e) == 0) ≡ true = is_zero (value ds st (expression_of e)) (sym a ∙ n) in
    h ∙ sym (ap (λ s. after_statement ds s st) (ap statement_of i ∙ if_is e v w) ∙ rw z refl)

pub repeats : {E : Type 0} (ds : List Decl) (s : Stmt) (n : ℕ) (v : Vec Stmt Global) (st now : HandlerState) (r : Result (Unit {0}) E) → s ≡ Repeat n v
    → OnOk r (now ≡ times n (λ st. in_block ds (block_of v.items) st) st) → OnOk r (now ≡ after_statement ds (statement_of s) st)
repeats ds s n v st now (Ok u) i h = h ∙ sym (ap (λ s. after_statement ds s st) (ap statement_of i ∙ repeat_is n v))
repeats ds s n v st now (Err e) i h = h

pub no_more : (k : ℕ) (f : HandlerState → HandlerState) (now whole : HandlerState) → k ≡ 0 → times k f now ≡ whole → now ≡ whole
no_more k f now whole z h = subst (λ k. times k f now ≡ whole) z h

pub one_more : (n i : ℕ) (f : HandlerState → HandlerState) (st r : HandlerState) → i < n → r ≡ f st → times (n - i) f st ≡ times (n - (i + 1)) f r
one_more n i f st r h e = go (n - i) (n - (i + 1)) (omega arith)
  where
    go : (a b : ℕ) → a ≡ b + 1 → times a f st ≡ times b f r
    go zero b q = absurd (omega (arith, q))
    go (suc a) b q = let s : a ≡ b = omega (arith, q) in rw (s, e) refl
