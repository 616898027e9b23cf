-- Tokens as the grammar sees them: what their kinds are for, and which bounds are asked of them.
use Rattle.std.specs.Prelude.{ℕ, List, [], ◌∷◌, Bool, true, false, Option, Some, None, nat_lt}
use Rattle.sx_lang.specs.declared.tree.UnOp.{UnOp}
use Rattle.sx_lang.specs.declared.tree.BinOp.{BinOp}
use Rattle.sx_lang.specs.declared.tree.UnOp.TheVariants.{Neg, Inv, Not}
use Rattle.sx_lang.specs.declared.tree.BinOp.TheVariants.{Add, Sub, Or, Xor, Mul, And, Eq, Ne, Lt}
use Rattle.sx_lang.specs.declared.tree.BinOp.TheVariants.{Le, Gt, Ge}
use Rattle.sx_lex.specs.declared.tokens.Kind.{Kind}
use Rattle.sx_lex.specs.declared.tokens.Kind.TheVariants.{EqualsEquals, NotEquals, Less, LessEquals}
use Rattle.sx_lex.specs.declared.tokens.Kind.TheVariants.{Greater, GreaterEquals, Plus, Minus, Bar}
use Rattle.sx_lex.specs.declared.tokens.Kind.TheVariants.{Caret, Star, Ampersand, Tilde, Bang}
use Rattle.sx_lex.specs.declared.tokens.Placed.{Placed}

-- the unary operator that a token is
abbrev pub unary_operator : Kind → Option UnOp
unary_operator Minus = Some Neg
unary_operator Tilde = Some Inv
unary_operator Bang = Some Not
unary_operator _ = None

-- the operator between factors that a token is
abbrev pub factor_operator : Kind → Option BinOp
factor_operator Star = Some Mul
factor_operator Ampersand = Some And
factor_operator _ = None

-- the operator between addends that a token is
abbrev pub addend_operator : Kind → Option BinOp
addend_operator Plus = Some Add
addend_operator Minus = Some Sub
addend_operator Bar = Some Or
addend_operator Caret = Some Xor
addend_operator _ = None

-- the comparison that a token is
abbrev pub comparison_operator : Kind → Option BinOp
comparison_operator EqualsEquals = Some Eq
comparison_operator NotEquals = Some Ne
comparison_operator Less = Some Lt
comparison_operator LessEquals = Some Le
comparison_operator Greater = Some Gt
comparison_operator GreaterEquals = Some Ge
comparison_operator _ = None

-- A token and whether the bounds are asked of it: they are asked of a text's own tokens, and not of
-- those that are added to tell whether a prefix of a text can be continued. (Which names and
-- numbers those are makes no difference to the grammar.)
pub data Token : Type 0 where
  token : Kind → Bool → Token

-- a text's own tokens, of which the bounds are asked
abbrev pub given_tokens : List Placed → List Token
given_tokens [] = []
given_tokens (t ∷ ts) = token t.kind true ∷ given_tokens ts

-- tokens that are added to a prefix of a text, of which no bound is asked
abbrev pub added : List Kind → List Token
added [] = []
added (k ∷ ks) = token k false ∷ added ks

-- The bound: where it is asked, one more of these may be where n are already only if n is
-- below 48. It is the same for brackets and unary operators that are open at a time, and for
-- operators in one sum and in one term.
abbrev pub fits : Bool → ℕ → Bool
fits true n = nat_lt n 48
fits false n = true
