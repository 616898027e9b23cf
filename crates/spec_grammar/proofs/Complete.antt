-- An expression of the grammar is read by the machine.
use Rattle.std.proofs.Common.{◌≡◌, ℕ, ◌+◌, List, [], ◌∷◌, Bool, true, false, Some, None, refl, ap, ◌∙◌}
use Rattle.sx_lang.specs.Tree.{Expression, Variable}
use Rattle.sx_lang.specs.declared.tree.UnOp.{UnOp}
use Rattle.sx_lang.specs.declared.tree.BinOp.{BinOp}
use Rattle.sx_lex.specs.declared.tokens.Kind.{Kind}
use Rattle.sx_lex.specs.declared.tokens.Kind.TheVariants.{OpenSquare, Star, Ampersand, Plus, Minus, Bar, Caret, Tilde, Bang}
use Rattle.spec_grammar.specs.Tokens.{Token, token, fits, unary_operator, factor_operator, addend_operator, comparison_operator}
use Rattle.spec_grammar.specs.Grammar.{Form, Primary, Unary, Term, Factors, Sum, Addends, Whole, IsExpression, number, name, element, brackets, plain, unary}
use Rattle.spec_grammar.specs.Grammar.{term, no_factor, factor, sum, no_addend, addend, whole, comparison}
use Rattle.spec_grammar.specs.Machine as machine
use Rattle.spec_grammar.specs.Machine.{Symbol, Value, Of_expression, Want, Say, Reduction, Do_index, Do_combine, Operand, Comparison, Index_of, An_expression}
use Rattle.spec_grammar.specs.Machine.{Unary_of, A_close, A_close_square, opens, reads, is_square, apply, reduce}

-- what is required where a form begins
abbrev pub wanted : Form → List Symbol → List Symbol
wanted Primary st = Operand ∷ st
wanted Unary st = Operand ∷ st
wanted Term st = Operand ∷ machine.Factors 0 ∷ st
wanted (Factors n l) st = machine.Factors n ∷ st
wanted Sum st = Operand ∷ machine.Factors 0 ∷ machine.Addends 0 ∷ st
wanted (Addends n l) st = machine.Addends n ∷ st
wanted Whole st = An_expression ∷ st

abbrev pub held : Form → List Value → List Value
held (Factors n l) vs = Of_expression l ∷ vs
held (Addends n l) vs = Of_expression l ∷ vs
held _ vs = vs

abbrev pub NoSquare : List Token → Type 0
NoSquare [] = Unit {0}
NoSquare (token k c ∷ r) = is_square k ≡ false

abbrev pub NoFactor : List Token → Type 0
NoFactor [] = Unit {0}
NoFactor (token k c ∷ r) = factor_operator k ≡ None

abbrev pub NoAddend : List Token → Type 0
NoAddend [] = Unit {0}
NoAddend (token k c ∷ r) = addend_operator k ≡ None

abbrev pub NoComparison : List Token → Type 0
NoComparison [] = Unit {0}
NoComparison (token k c ∷ r) = comparison_operator k ≡ None

-- what follows can't belong to the form
abbrev pub Ends : Form → List Token → Type 0
Ends Primary r = NoSquare r
Ends Unary r = NoSquare r
Ends Term r = NoSquare r × NoFactor r
Ends (Factors n l) r = NoSquare r × NoFactor r
Ends Sum r = NoSquare r × NoFactor r × NoAddend r
Ends (Addends n l) r = NoSquare r × NoFactor r × NoAddend r
Ends Whole r = NoSquare r × NoFactor r × NoAddend r × NoComparison r

factor_no_square : (k : Kind) (op : BinOp) → factor_operator k ≡ Some op → is_square k ≡ false
factor_no_square OpenSquare op e = absurd (cc)
factor_no_square _ op e = refl

addend_quiet : (k : Kind) (op : BinOp) → addend_operator k ≡ Some op → (is_square k ≡ false) × (factor_operator k ≡ None)
addend_quiet OpenSquare op e = absurd (cc)
addend_quiet Star op e = absurd (cc)
addend_quiet Ampersand op e = absurd (cc)
addend_quiet _ op e = (refl, refl)

comparison_quiet : (k : Kind) (op : BinOp) → comparison_operator k ≡ Some op → (is_square k ≡ false) × (factor_operator k ≡ None) × (addend_operator k ≡ None)
comparison_quiet OpenSquare op e = absurd (cc)
comparison_quiet Star op e = absurd (cc)
comparison_quiet Ampersand op e = absurd (cc)
comparison_quiet Bar op e = absurd (cc)
comparison_quiet Caret op e = absurd (cc)
comparison_quiet Plus op e = absurd (cc)
comparison_quiet Minus op e = absurd (cc)
comparison_quiet _ op e = (refl, refl, refl)

after_factors : {n d : ℕ} {l e : Expression} {us r : List Token} → IsExpression (Factors n l) d us e r → NoSquare r → NoSquare us
after_factors no_factor q = q
after_factors (factor {k = k} {op = op} o h a f) q = factor_no_square k op o

after_addends : {n d : ℕ} {l e : Expression} {us r : List Token} → IsExpression (Addends n l) d us e r → NoSquare r × NoFactor r → NoSquare us × NoFactor us
after_addends no_addend q = q
after_addends (addend {k = k} {op = op} o h a f) q = addend_quiet k op o

-- a part that may be left out is passed
skip_index : (x : List ℕ) (st : List Symbol) (vs : List Value) (r : List Token) → NoSquare r → reads (Index_of x ∷ st) vs r ≡ reads st (Of_expression (Variable x) ∷ vs) r
skip_index x st vs [] q = refl
skip_index x st vs (token k c ∷ r) q = rw q refl

skip_factors : (n : ℕ) (st : List Symbol) (vs : List Value) (r : List Token) → NoFactor r → reads (machine.Factors n ∷ st) vs r ≡ reads st vs r
skip_factors n st vs [] q = refl
skip_factors n st vs (token k c ∷ r) q = rw q refl

skip_addends : (n : ℕ) (st : List Symbol) (vs : List Value) (r : List Token) → NoAddend r → reads (machine.Addends n ∷ st) vs r ≡ reads st vs r
skip_addends n st vs [] q = refl
skip_addends n st vs (token k c ∷ r) q = rw q refl

skip_comparison : (st : List Symbol) (vs : List Value) (r : List Token) → NoComparison r → reads (Comparison ∷ st) vs r ≡ reads st vs r
skip_comparison st vs [] q = refl
skip_comparison st vs (token k c ∷ r) q = rw q refl

pub said : (a : Reduction) (st : List Symbol) (vs : List Value) (r : List Token) → reads (Say a ∷ st) vs r ≡ reads st (reduce a vs) r
said a st vs [] = refl
said a st vs (token k c ∷ r) = refl

applied : (op : UnOp) (st : List Symbol) (vs : List Value) (r : List Token) → reads (Unary_of op ∷ st) vs r ≡ reads st (apply op vs) r
applied op st vs [] = refl
applied op st vs (token k c ∷ r) = refl

expression_is : (st : List Symbol) (vs : List Value) (r : List Token) → reads (An_expression ∷ st) vs r ≡ reads (Operand ∷ machine.Factors 0 ∷ machine.Addends 0 ∷ Comparison ∷ st) vs r
expression_is st vs [] = refl
expression_is st vs (token k c ∷ r) = refl

-- a token that is a unary operator is read as one
unary_read : (k : Kind) (b : Bool) (op : UnOp) (st : List Symbol) (vs : List Value) (ts : List Token) → unary_operator k ≡ Some op → fits b (opens st) ≡ true
    → reads (Operand ∷ st) vs (token k b ∷ ts) ≡ reads (Operand ∷ Unary_of op ∷ st) vs ts
unary_read Minus b op st vs ts e h = let f : op ≡ UnOp.Neg = cc in rw (h, f) refl
unary_read Tilde b op st vs ts e h = let f : op ≡ UnOp.Inv = cc in rw (h, f) refl
unary_read Bang b op st vs ts e h = let f : op ≡ UnOp.Not = cc in rw (h, f) refl
unary_read _ b op st vs ts e h = absurd (cc)

pub complete : {f : Form} {d : ℕ} {ts r : List Token} {e : Expression} → IsExpression f d ts e r → Ends f r → (st : List Symbol) (vs : List Value)
    → opens st ≡ d → reads (wanted f st) (held f vs) ts ≡ reads st (Of_expression e ∷ vs) r
complete number q st vs o = refl
complete (name {x = x} {rest = r}) q st vs o = skip_index x st vs r q
complete (element {x = x} {b = b} {rest = r} {e = e} h s) q st vs o =
    let h' : fits b (opens st) ≡ true = ap (fits b) o ∙ h in
    rw h' (complete s (refl, refl, refl, refl) (Want A_close_square ∷ Say (Do_index x) ∷ st) vs (ap (λ n. n + 1) o) ∙ said (Do_index x) st (Of_expression e ∷ vs) r)
complete (brackets {a = a} {rest = r} {e = e} h s) q st vs o =
    let h' : fits a (opens st) ≡ true = ap (fits a) o ∙ h in
    rw h' (complete s (refl, refl, refl, refl) (Want A_close ∷ st) vs (ap (λ n. n + 1) o))
complete (plain s) q st vs o = complete s q st vs o
complete (unary {k = k} {a = a} {op = op} {ts = ts} {rest = r} {e = e} u h s) q st vs o =
    unary_read k a op st vs ts u (ap (fits a) o ∙ h) ∙ complete s q (Unary_of op ∷ st) vs (ap (λ n. n + 1) o) ∙ applied op st (Of_expression e ∷ vs) r
complete (term {l = l} s t) q st vs o = complete s (after_factors t q.0) (machine.Factors 0 ∷ st) vs o ∙ complete t q st vs o
complete (no_factor {n = n} {rest = r} {e = e}) q st vs o = skip_factors n st (Of_expression e ∷ vs) r q.1
complete (factor {n = n} {a = a} {op = op} {us = us} {l = l} {r = r} u h s t) q st vs o =
    rw (u, h) (complete s (after_factors t q.0) (Say (Do_combine op) ∷ machine.Factors (n + 1) ∷ st) (Of_expression l ∷ vs) o
    ∙ said (Do_combine op) (machine.Factors (n + 1) ∷ st) (Of_expression r ∷ Of_expression l ∷ vs) us ∙ complete t q st vs o)
complete (sum s t) q st vs o = complete s (after_addends t (q.0, q.1)) (machine.Addends 0 ∷ st) vs o ∙ complete t q st vs o
complete (no_addend {n = n} {rest = r} {e = e}) q st vs o = skip_addends n st (Of_expression e ∷ vs) r q.2
complete (addend {n = n} {a = a} {op = op} {us = us} {l = l} {r = r} u h s t) q st vs o =
    rw (u, h) (complete s (after_addends t (q.0, q.1)) (Say (Do_combine op) ∷ machine.Addends (n + 1) ∷ st) (Of_expression l ∷ vs) o
    ∙ said (Do_combine op) (machine.Addends (n + 1) ∷ st) (Of_expression r ∷ Of_expression l ∷ vs) us ∙ complete t q st vs o)
complete (whole {ts = ts} {rest = r} {e = e} s) q st vs o =
    expression_is st vs ts ∙ complete s (q.0, q.1, q.2) (Comparison ∷ st) vs o ∙ skip_comparison st (Of_expression e ∷ vs) r q.3
complete (comparison {k = k} {op = op} {ts = ts} {rest = rest} {l = l} {r = r} u s t) q st vs o =
    expression_is st vs ts ∙ complete s (comparison_quiet k op u) (Comparison ∷ st) vs o ∙ rw u
    (complete t (q.0, q.1, q.2) (Say (Do_combine op) ∷ st) (Of_expression l ∷ vs) o ∙ said (Do_combine op) st (Of_expression r ∷ Of_expression l ∷ vs) rest)
