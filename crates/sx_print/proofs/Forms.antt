-- The parts of each form, written one after the other, are the form.
use Rattle.std.proofs.Common.{◌≡◌, ℕ, ◌<◌, List, [], ◌∷◌, length, Option, Some, Result, Ok, Err, OnOk, subst, arith}
use Rattle.sx_lang.specs.declared.tree.BinOp.{BinOp}
use Rattle.sx_lang.specs.declared.tree.Decl.{Decl}
use Rattle.sx_lang.specs.declared.tree.Stmt.{Stmt}
use Rattle.sx_lang.specs.Tree.{Expression, Indexed, Combined, Statement, Defines, Assigns, Stores, Chooses, Repeats, Sends, Block, HandlerTree}
use Rattle.sx_lang.specs.View.{block_of}
use Rattle.sx_lex.specs.declared.tokens.Kind.{Kind}
use Rattle.sx_lex.specs.declared.tokens.Kind.TheVariants.{Input, Output, Var, Array, On, Let, If, Else, Repeat, Send, Semicolon, Equals, Open, Close, OpenSquare, CloseSquare, CloseBrace}
use Rattle.sx_print.specs.declared.words.Gap.{Gap}
use Rattle.sx_print.specs.declared.words.Gap.TheVariants.{Nothing, Space, Line}
use Rattle.sx_print.specs.Pieces.{Piece, name, number, quoted, binary_sign, expression_pieces, value_pieces, statement_pieces, block_pieces, else_pieces, declared_pieces, event_pieces, handler_pieces}
use Rattle.sx_print.specs.Written.{Wrote}
use Rattle.sx_print.proofs.Parts.{both}

abbrev one : Kind → Gap → List Piece → List Piece
one k g rest = quoted k g ∷ rest

-- one part and then the next
infixl 5 ◌⟫◌
◌⟫◌ : {before middle after : List ℕ} {first second : List Piece → List Piece} → Wrote before first middle → Wrote middle second after → Wrote before (λ rest. first (second rest)) after
◌⟫◌ {before = before} {middle = middle} {after = after} {first = first} {second = second} a b = both before middle after first second a b

-- the same where the next may fail
ends : {E : Type 0} {before middle : List ℕ} {first : List Piece → List Piece} (r : Result (Unit {0}) E) (second : List Piece → List Piece) (after : List ℕ)
    → Wrote before first middle → OnOk r (Wrote middle second after) → OnOk r (Wrote before (λ rest. first (second rest)) after)
ends (Ok u) second after a b = a ⟫ b
ends (Err e) second after a b = b

pub indexed_written : {E : Type 0} {before a b c x : List ℕ} {e whole : Expression} (g : Gap) (r : Result (Unit {0}) E) (after : List ℕ) → whole ≡ Indexed x e
    → Wrote before (λ rest. name x Nothing ∷ rest) a → Wrote a (one OpenSquare Nothing) b → Wrote b (expression_pieces Nothing e) c → OnOk r (Wrote c (one CloseSquare g) after)
    → OnOk r (Wrote before (expression_pieces g whole) after)
indexed_written g r after i p q s t = rw i (ends r (one CloseSquare g) after (p ⟫ q ⟫ s) t)

pub combined_written : {E : Type 0} {before a b c d : List ℕ} {op : BinOp} {l m whole : Expression} {k : Kind} (g : Gap) (r : Result (Unit {0}) E)
    (after : List ℕ) → whole ≡ Combined op l m → k ≡ binary_sign op
    → Wrote before (one Open Nothing) a → Wrote a (expression_pieces Space l) b → Wrote b (one k Space) c → Wrote c (expression_pieces Nothing m) d → OnOk r (Wrote d (one Close g) after)
    → OnOk r (Wrote before (expression_pieces g whole) after)
combined_written {b = b} {c = c} g r after i j p q s t u = rw i (ends r (one Close g) after (p ⟫ q ⟫ subst (λ (k : Kind). Wrote b (one k Space) c) j s ⟫ t) u)

pub defined_written : {E : Type 0} {before a b x : List ℕ} {whole : Statement} (e : Expression) (depth : ℕ) (r : Result (Unit {0}) E) (after : List ℕ) → whole ≡ Defines x e
    → Wrote before (one Let Space) a → Wrote a (λ rest. name x Space ∷ rest) b → OnOk r (Wrote b (value_pieces e) after) → OnOk r (Wrote before (statement_pieces depth whole) after)
defined_written e depth r after i p q s = rw i (ends r (value_pieces e) after (p ⟫ q) s)

pub stored_written : {E : Type 0} {before a b c d x : List ℕ} {i : Expression} {whole : Statement} (e : Expression) (depth : ℕ) (r : Result (Unit {0}) E) (after : List ℕ) → whole ≡ Stores x i e
    → Wrote before (λ rest. name x Nothing ∷ rest) a → Wrote a (one OpenSquare Nothing) b → Wrote b (expression_pieces Nothing i) c
    → Wrote c (one CloseSquare Space) d → OnOk r (Wrote d (value_pieces e) after)
    → OnOk r (Wrote before (statement_pieces depth whole) after)
stored_written e depth r after i p q s t u = rw i (ends r (value_pieces e) after (p ⟫ q ⟫ s ⟫ t) u)

pub chosen_written : {E : Type 0} {before a b c : List ℕ} {e : Expression} {x : Block} {whole : Statement} (y : Block) (depth : ℕ) (r : Result (Unit {0}) E) (after : List ℕ) → whole ≡ Chooses e x y
    → Wrote before (one If Space) a → Wrote a (expression_pieces Space e) b → Wrote b (block_pieces depth x) c → OnOk r (Wrote c (else_pieces depth y) after)
    → OnOk r (Wrote before (statement_pieces depth whole) after)
chosen_written y depth r after i p q s t = rw i (ends r (else_pieces depth y) after (p ⟫ q ⟫ s) t)

pub repeated_written : {E : Type 0} {before a b c : List ℕ} {n : ℕ} {x : Block} {whole : Statement} (depth : ℕ) (r : Result (Unit {0}) E) (after : List ℕ) → whole ≡ Repeats n x
    → Wrote before (one Repeat Space) a → Wrote a (λ rest. number n Space ∷ rest) b → Wrote b (block_pieces depth x) c
    → OnOk r (Wrote c (one CloseBrace Line) after) → OnOk r (Wrote before (statement_pieces depth whole) after)
repeated_written depth r after i p q s t = rw i (ends r (one CloseBrace Line) after (p ⟫ q ⟫ s) t)

pub sent_written : {E : Type 0} {before a b c d f x : List ℕ} {e : Expression} {whole : Statement} (depth : ℕ) (r : Result (Unit {0}) E) (after : List ℕ) → whole ≡ Sends x e
    → Wrote before (one Send Space) a → Wrote a (λ rest. name x Nothing ∷ rest) b → Wrote b (one Open Nothing) c → Wrote c (expression_pieces Nothing e) d → Wrote d (one Close Nothing) f
    → OnOk r (Wrote f (one Semicolon Line) after) → OnOk r (Wrote before (statement_pieces depth whole) after)
sent_written depth r after i p q s t u v = rw i (ends r (one Semicolon Line) after (p ⟫ q ⟫ s ⟫ t ⟫ u) v)

pub assigned_written : {E : Type 0} {before a x : List ℕ} {whole : Statement} (e : Expression) (depth : ℕ) (r : Result (Unit {0}) E) (after : List ℕ) → whole ≡ Assigns x e
    → Wrote before (λ rest. name x Space ∷ rest) a → OnOk r (Wrote a (value_pieces e) after) → OnOk r (Wrote before (statement_pieces depth whole) after)
assigned_written e depth r after i p q = rw i (ends r (value_pieces e) after p q)

-- a statement that is known to be this one
pub seen_written : {E : Type 0} (before : List ℕ) (s whole : Statement) (depth : ℕ) (r : Result (Unit {0}) E) (after : List ℕ) → whole ≡ s
    → OnOk r (Wrote before (statement_pieces depth s) after) → OnOk r (Wrote before (statement_pieces depth whole) after)
seen_written before s whole depth r after i p = rw i p

pub else_written : {E : Type 0} {before a b c : List ℕ} (items : List Stmt) (depth : ℕ) (r : Result (Unit {0}) E) (after : List ℕ) → 0 < length items
    → Wrote before (one CloseBrace Space) a → Wrote a (one Else Space) b → Wrote b (block_pieces depth (block_of items)) c → OnOk r (Wrote c (one CloseBrace Line) after)
    → OnOk r (Wrote before (else_pieces depth (block_of items)) after)
else_written [] depth r after h p q s t = absurd (omega (arith, h))
else_written (x ∷ items) depth r after h p q s t = ends r (one CloseBrace Line) after (p ⟫ q ⟫ s) t

pub input_written : {E : Type 0} {before a x : List ℕ} {d : Decl} (r : Result (Unit {0}) E) (after : List ℕ) → d ≡ Decl.Input x
    → Wrote before (one Input Space) a → OnOk r (Wrote a (λ rest. name x Nothing ∷ rest) after) → OnOk r (Wrote before (declared_pieces d) after)
input_written {x = x} r after i p q = rw i (ends r (λ rest. name x Nothing ∷ rest) after p q)

pub output_written : {E : Type 0} {before a x : List ℕ} {d : Decl} (r : Result (Unit {0}) E) (after : List ℕ) → d ≡ Decl.Output x
    → Wrote before (one Output Space) a → OnOk r (Wrote a (λ rest. name x Nothing ∷ rest) after) → OnOk r (Wrote before (declared_pieces d) after)
output_written {x = x} r after i p q = rw i (ends r (λ rest. name x Nothing ∷ rest) after p q)

pub variable_written : {E : Type 0} {before a b c x : List ℕ} {n : ℕ} {d : Decl} (r : Result (Unit {0}) E) (after : List ℕ) → d ≡ Decl.Var x n
    → Wrote before (one Var Space) a → Wrote a (λ rest. name x Space ∷ rest) b → Wrote b (one Equals Space) c → OnOk r (Wrote c (λ rest. number n Nothing ∷ rest) after)
    → OnOk r (Wrote before (declared_pieces d) after)
variable_written {n = n} r after i p q s t = rw i (ends r (λ rest. number n Nothing ∷ rest) after (p ⟫ q ⟫ s) t)

pub array_written : {E : Type 0} {before a b c f x : List ℕ} {n : ℕ} {d : Decl} (r : Result (Unit {0}) E) (after : List ℕ) → d ≡ Decl.Array x n
    → Wrote before (one Array Space) a → Wrote a (λ rest. name x Nothing ∷ rest) b → Wrote b (one OpenSquare Nothing) c
    → Wrote c (λ rest. number n Nothing ∷ rest) f → OnOk r (Wrote f (one CloseSquare Nothing) after)
    → OnOk r (Wrote before (declared_pieces d) after)
array_written r after i p q s t u = rw i (ends r (one CloseSquare Nothing) after (p ⟫ q ⟫ s ⟫ t) u)

pub event_written : {E : Type 0} {before a x : List ℕ} {input : Option (List ℕ)} (r : Result (Unit {0}) E) (after : List ℕ) → input ≡ Some x
    → Wrote before (one On Space) a → OnOk r (Wrote a (λ rest. name x Nothing ∷ rest) after) → OnOk r (Wrote before (event_pieces input) after)
event_written {x = x} r after i p q = rw i (ends r (λ rest. name x Nothing ∷ rest) after p q)

pub handler_written : {E : Type 0} {before a b c d f : List ℕ} (h : HandlerTree) (r : Result (Unit {0}) E) (after : List ℕ)
    → Wrote before (event_pieces h.input) a → Wrote a (one Open Nothing) b → Wrote b (λ rest. name h.param Nothing ∷ rest) c → Wrote c (one Close Space) d
    → Wrote d (block_pieces 0 h.body) f → OnOk r (Wrote f (one CloseBrace Line) after)
    → OnOk r (Wrote before (handler_pieces h) after)
handler_written h r after p q s t u v = ends r (one CloseBrace Line) after (p ⟫ q ⟫ s ⟫ t ⟫ u) v
