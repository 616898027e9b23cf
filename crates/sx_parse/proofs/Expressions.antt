-- What one turn of reading an expression does to the machine.
use Rattle.std.proofs.Common.{◌≡◌, ℕ, ◌+◌, ◌<◌, nat_lt, List, [], ◌∷◌, true, Option, Some, None, refl, ap, ◌∙◌, length, arith}
use Rattle.std.proofs.lemmas.List.{nil_from_length}
use Rattle.sx_lang.specs.Tree.{Expression, Indexed, Applied, Combined}
use Rattle.sx_lang.specs.declared.tree.UnOp.{UnOp}
use Rattle.sx_lang.specs.declared.tree.BinOp.{BinOp}
use Rattle.sx_lex.specs.declared.tokens.Kind.{Kind}
use Rattle.sx_lex.specs.declared.tokens.Kind.TheVariants.{Minus, Tilde, Bang, OpenSquare}
use Rattle.sx_lex.specs.declared.tokens.Placed.{Placed}
use Rattle.spec_grammar.specs.Tokens.{unary_operator, factor_operator, addend_operator, comparison_operator}
use Rattle.spec_grammar.specs.Machine.{Reduction, Do_index, Do_combine, Symbol, Value, Of_expression, Want, Say, Operand, Factors, Addends, Comparison, Index_of}
use Rattle.spec_grammar.specs.Machine.{An_expression, Unary_of, A_close_square, A_semicolon, opens, read, apply, reduce}
use Rattle.sx_parse.specs.Wanted.{sum_wanted, value_wanted}
use Rattle.sx_parse.specs.Reading.{ReadsValue, Stops, TakesSign, Misses, done}

pub said : (a : Reduction) (st : List Symbol) (vs : List Value) (r : List Placed) → read (Say a ∷ st) vs r ≡ read st (reduce a vs) r
said a st vs [] = refl
said a st vs (t ∷ r) = refl

applied : (op : UnOp) (st : List Symbol) (vs : List Value) (r : List Placed) → read (Unary_of op ∷ st) vs r ≡ read st (apply op vs) r
applied op st vs [] = refl
applied op st vs (t ∷ r) = refl

expression_is : (st : List Symbol) (vs : List Value) (r : List Placed) → read (An_expression ∷ st) vs r ≡ read (Operand ∷ Factors 0 ∷ Addends 0 ∷ Comparison ∷ st) vs r
expression_is st vs [] = refl
expression_is st vs (t ∷ r) = refl

pub room : (d : ℕ) → d < 48 → nat_lt d 48 ≡ true
room d h = grind arith

pub expression_stops : (d : ℕ) (ts : List Placed) (t : Option Placed) → Stops sum_wanted d ts t → Stops (λ st. An_expression ∷ st) d ts t
expression_stops d ts t s = record { stops = λ st vs o. expression_is st vs ts ∙ s.stops (Comparison ∷ st) vs o }

pub expression_ends : (d : ℕ) (ts r : List Placed) (v : Value) → ReadsValue sum_wanted d ts v done r → length r ≡ 0 → ReadsValue (λ st. An_expression ∷ st) d ts v done r
expression_ends d ts r v s h = record { reads = λ st vs o. expression_is st vs ts ∙ s.reads (Comparison ∷ st) vs o ∙ rw (nil_from_length r h) refl }

pub expression_alone : (d : ℕ) (ts r a : List Placed) (f : Placed) (v : Value) → ReadsValue sum_wanted d ts v done r → r ≡ f ∷ a
    → comparison_operator f.kind ≡ None → ReadsValue (λ st. An_expression ∷ st) d ts v done r
expression_alone d ts r a f v s h n = record { reads = λ st vs o. expression_is st vs ts ∙ s.reads (Comparison ∷ st) vs o ∙ rw (h, n) refl }

pub expression_compares : (d : ℕ) (ts r a m : List Placed) (f : Placed) (op : BinOp) (x y z : Expression) → ReadsValue sum_wanted d ts (Of_expression x) done r
    → r ≡ f ∷ a → comparison_operator f.kind ≡ Some op
    → ReadsValue sum_wanted d a (Of_expression y) done m → z ≡ Combined op x y → ReadsValue (λ st. An_expression ∷ st) d ts (Of_expression z) done m
expression_compares d ts r a m f op x y z s h n q same = rw same (record {
  reads = λ st vs o. expression_is st vs ts ∙ s.reads (Comparison ∷ st) vs o
      ∙ rw (h, n) (q.reads (Say (Do_combine op) ∷ st) (Of_expression x ∷ vs) o ∙ said (Do_combine op) st (Of_expression y ∷ Of_expression x ∷ vs) m);
})

pub expression_breaks : (d : ℕ) (ts r a : List Placed) (f : Placed) (op : BinOp) (v : Value) (t : Option Placed) → ReadsValue sum_wanted d ts v done r
    → r ≡ f ∷ a → comparison_operator f.kind ≡ Some op
    → Stops sum_wanted d a t → Stops (λ st. An_expression ∷ st) d ts t
expression_breaks d ts r a f op v t s h n q = record { stops = λ st vs o. expression_is st vs ts ∙ s.reads (Comparison ∷ st) vs o ∙ rw (h, n) (q.stops (Say (Do_combine op) ∷ st) (v ∷ vs) o) }

pub name_indexed : (d : ℕ) (x : List ℕ) (ts a r m : List Placed) (f : Placed) (e z : Expression) → ts ≡ f ∷ a → f.kind ≡ OpenSquare → d < 48
    → ReadsValue (λ st. An_expression ∷ st) (d + 1) a (Of_expression e) done r → TakesSign A_close_square r m → z ≡ Indexed x e
    → ReadsValue (λ st. Index_of x ∷ st) d ts (Of_expression z) done m
name_indexed d x ts a r m f e z h k l s c same = rw same (record {
  reads = λ st vs o. (let g : nat_lt (opens st) 48 ≡ true = ap (λ n. nat_lt n 48) o ∙ room d l in
      rw (h, k, g) (s.reads (Want A_close_square ∷ Say (Do_index x) ∷ st) vs (ap (λ n. n + 1) o) ∙ c.takes (Say (Do_index x) ∷ st) (Of_expression e ∷ vs)
      ∙ said (Do_index x) st (Of_expression e ∷ vs) m));
})

unary_read : (k : Kind) (op : UnOp) (t : Placed) (st : List Symbol) (vs : List Value) (ts : List Placed) → t.kind ≡ k → unary_operator k ≡ Some op
    → nat_lt (opens st) 48 ≡ true → read (Operand ∷ st) vs (t ∷ ts) ≡ read (Operand ∷ Unary_of op ∷ st) vs ts
unary_read Minus op t st vs ts i e h = let f : op ≡ UnOp.Neg = cc in rw (i, h, f) refl
unary_read Tilde op t st vs ts i e h = let f : op ≡ UnOp.Inv = cc in rw (i, h, f) refl
unary_read Bang op t st vs ts i e h = let f : op ≡ UnOp.Not = cc in rw (i, h, f) refl
unary_read _ op t st vs ts i e h = absurd (cc)

pub unary_operand : (d : ℕ) (ts a r : List Placed) (f : Placed) (op : UnOp) (e z : Expression) → ts ≡ f ∷ a → unary_operator f.kind ≡ Some op → d < 48
    → ReadsValue (λ st. Operand ∷ st) (d + 1) a (Of_expression e) done r → z ≡ Applied op e → ReadsValue (λ st. Operand ∷ st) d ts (Of_expression z) done r
unary_operand d ts a r f op e z h u l s same = rw same (record {
  reads = λ st vs o. (let g : nat_lt (opens st) 48 ≡ true = ap (λ n. nat_lt n 48) o ∙ room d l in
      ap (λ ts. read (Operand ∷ st) vs ts) h ∙ unary_read f.kind op f st vs a refl u g ∙ s.reads (Unary_of op ∷ st) vs (ap (λ n. n + 1) o) ∙ applied op st (Of_expression e ∷ vs) r);
})

pub one_factor : (d n : ℕ) (ts r a m : List Placed) (f : Placed) (op : BinOp) (x y z : Expression)
    → ReadsValue (λ st. Operand ∷ Factors 0 ∷ st) d ts (Of_expression x) (λ st. Factors n ∷ st) r → r ≡ f ∷ a → factor_operator f.kind ≡ Some op → n < 48
    → ReadsValue (λ st. Operand ∷ st) d a (Of_expression y) done m → z ≡ Combined op x y → ReadsValue (λ st. Operand ∷ Factors 0 ∷ st) d ts (Of_expression z) (λ st. Factors (n + 1) ∷ st) m
one_factor d n ts r a m f op x y z s h u l q same = rw same (record {
  reads = λ st vs o. (let g : nat_lt n 48 ≡ true = room n l in
      s.reads st vs o ∙ rw (h, u, g) (q.reads (Say (Do_combine op) ∷ Factors (n + 1) ∷ st) (Of_expression x ∷ vs) o
      ∙ said (Do_combine op) (Factors (n + 1) ∷ st) (Of_expression y ∷ Of_expression x ∷ vs) m));
})

pub one_addend : (d n : ℕ) (ts r a m : List Placed) (f : Placed) (op : BinOp) (x y z : Expression)
    → ReadsValue sum_wanted d ts (Of_expression x) (λ st. Addends n ∷ st) r → r ≡ f ∷ a → addend_operator f.kind ≡ Some op → n < 48
    → ReadsValue (λ st. Operand ∷ Factors 0 ∷ st) d a (Of_expression y) done m → z ≡ Combined op x y → ReadsValue sum_wanted d ts (Of_expression z) (λ st. Addends (n + 1) ∷ st) m
one_addend d n ts r a m f op x y z s h u l q same = rw same (record {
  reads = λ st vs o. (let g : nat_lt n 48 ≡ true = room n l in
      s.reads st vs o ∙ rw (h, u, g) (q.reads (Say (Do_combine op) ∷ Addends (n + 1) ∷ st) (Of_expression x ∷ vs) o
      ∙ said (Do_combine op) (Addends (n + 1) ∷ st) (Of_expression y ∷ Of_expression x ∷ vs) m));
})

pub shorter_by : (n : ℕ) (r a m : List Placed) (f : Placed) → length r < n → r ≡ f ∷ a → length m < length a → length m < n
shorter_by n r a m f h e l = let g : length r ≡ length (f ∷ a) = ap length e in omega (arith, g)

pub value_ends : (d : ℕ) (ts r m : List Placed) (v : Value) → ReadsValue (λ st. An_expression ∷ st) d ts v done r → TakesSign A_semicolon r m → ReadsValue value_wanted d ts v done m
value_ends d ts r m v s c = record { reads = λ st vs o. s.reads (Want A_semicolon ∷ st) vs o ∙ c.takes st (v ∷ vs) }

pub value_breaks : (d : ℕ) (ts r : List Placed) (v : Value) (t : Option Placed) → ReadsValue (λ st. An_expression ∷ st) d ts v done r → Misses A_semicolon r t → Stops value_wanted d ts t
value_breaks d ts r v t s c = record { stops = λ st vs o. s.reads (Want A_semicolon ∷ st) vs o ∙ c.misses st (v ∷ vs) }
