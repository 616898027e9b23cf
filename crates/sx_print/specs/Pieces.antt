-- The printed text of a module: words, what follows each, and four spaces for each block that a
-- line is in. Each function puts its part before the rest.
use Rattle.std.specs.Prelude.{ℕ, zero, suc, ◌+◌, min, List, [], ◌∷◌, ◌++◌, Option, Some, None}
use Rattle.std.specs.Prelude.{codes, decimal}
use Rattle.sx_lang.specs.declared.tree.UnOp.{UnOp}
use Rattle.sx_lang.specs.declared.tree.UnOp.TheVariants.{Neg, Inv, Not}
use Rattle.sx_lang.specs.declared.tree.BinOp.{BinOp}
use Rattle.sx_lang.specs.declared.tree.BinOp.TheVariants.{Add, Sub, Or, Xor, Mul, And, Eq, Ne, Lt}
use Rattle.sx_lang.specs.declared.tree.BinOp.TheVariants.{Le, Gt, Ge}
use Rattle.sx_lang.specs.declared.tree.Decl.{Decl}
use Rattle.sx_lang.specs.declared.tree.DeviceKind.{DeviceKind}
use Rattle.sx_lang.specs.Tree.{Expression, Constant, Variable, Indexed, Applied, Combined}
use Rattle.sx_lang.specs.Tree.{Statement, Defines, Assigns, Stores, Chooses, Repeats, Sends, Emits}
use Rattle.sx_lang.specs.Tree.{Block, Done, Then, HandlerTree, ModuleTree}
use Rattle.sx_lex.specs.declared.tokens.Kind.{Kind}
use Rattle.sx_lex.specs.declared.tokens.Kind.TheVariants.{Number, Name, Sensor, Actuator, Input}
use Rattle.sx_lex.specs.declared.tokens.Kind.TheVariants.{Output, Var, Array, On, Sample, Let, If}
use Rattle.sx_lex.specs.declared.tokens.Kind.TheVariants.{Else, Repeat, Send, Emit, Semicolon}
use Rattle.sx_lex.specs.declared.tokens.Kind.TheVariants.{Equals, Open, Close, OpenSquare}
use Rattle.sx_lex.specs.declared.tokens.Kind.TheVariants.{CloseSquare, OpenBrace, CloseBrace}
use Rattle.sx_lex.specs.declared.tokens.Kind.TheVariants.{EqualsEquals, NotEquals, Less, LessEquals}
use Rattle.sx_lex.specs.declared.tokens.Kind.TheVariants.{Greater, GreaterEquals, Plus, Minus, Bar}
use Rattle.sx_lex.specs.declared.tokens.Kind.TheVariants.{Caret, Star, Ampersand, Tilde, Bang, Bad}
use Rattle.sx_print.specs.declared.words.Gap.{Gap}
use Rattle.sx_print.specs.declared.words.Gap.TheVariants.{Nothing, Space, Line}

-- a part of a printed text: a name, a number or a word of the language, with what follows it, or a
-- margin
pub data Piece : Type 0 where
  name : List ℕ → Gap → Piece
  number : ℕ → Gap → Piece
  quoted : Kind → Gap → Piece  -- one of the language's own words or signs
  indent : Piece

-- the text of a token that is neither a number nor a name
abbrev pub spelling : Kind → List ℕ
spelling (Number n) = []
spelling (Name x) = []
spelling Sensor = codes "sensor"
spelling Actuator = codes "actuator"
spelling Input = codes "input"
spelling Output = codes "output"
spelling Var = codes "var"
spelling Array = codes "array"
spelling On = codes "on"
spelling Sample = codes "sample"
spelling Let = codes "let"
spelling If = codes "if"
spelling Else = codes "else"
spelling Repeat = codes "repeat"
spelling Send = codes "send"
spelling Emit = codes "emit"
spelling Semicolon = codes ";"
spelling Equals = codes "="
spelling Open = codes "("
spelling Close = codes ")"
spelling OpenSquare = codes "["
spelling CloseSquare = codes "]"
spelling OpenBrace = codes "{"
spelling CloseBrace = codes "}"
spelling EqualsEquals = codes "=="
spelling NotEquals = codes "!="
spelling Less = codes "<"
spelling LessEquals = codes "<="
spelling Greater = codes ">"
spelling GreaterEquals = codes ">="
spelling Plus = codes "+"
spelling Minus = codes "-"
spelling Bar = codes "|"
spelling Caret = codes "^"
spelling Star = codes "*"
spelling Ampersand = codes "&"
spelling Tilde = codes "~"
spelling Bang = codes "!"
spelling Bad = []

-- the text that follows a word
abbrev pub gap_bytes : Gap → List ℕ
gap_bytes Nothing = []
gap_bytes Space = codes " "
gap_bytes Line = 10 ∷ []

-- the text of a piece
abbrev pub piece_bytes : Piece → List ℕ
piece_bytes (name x g) = x ++ gap_bytes g
piece_bytes (number n g) = decimal n ++ gap_bytes g
piece_bytes (quoted k g) = spelling k ++ gap_bytes g
piece_bytes indent = codes "    "

-- the text of pieces one after the other
abbrev pub text_of : List Piece → List ℕ
text_of [] = []
text_of (p ∷ ps) = piece_bytes p ++ text_of ps

-- the token of a unary operator
abbrev pub unary_sign : UnOp → Kind
unary_sign Neg = Minus
unary_sign Inv = Tilde
unary_sign Not = Bang

-- the token of an operator between two operands
abbrev pub binary_sign : BinOp → Kind
binary_sign Add = Plus
binary_sign Sub = Minus
binary_sign Or = Bar
binary_sign Xor = Caret
binary_sign Mul = Star
binary_sign And = Ampersand
binary_sign Eq = EqualsEquals
binary_sign Ne = NotEquals
binary_sign Lt = Less
binary_sign Le = LessEquals
binary_sign Gt = Greater
binary_sign Ge = GreaterEquals

-- a binary expression is in brackets, and no other does
abbrev pub expression_pieces : Gap → Expression → List Piece → List Piece
expression_pieces g (Constant n) rest = number n g ∷ rest
expression_pieces g (Variable x) rest = name x g ∷ rest
expression_pieces g (Indexed x e) rest = name x Nothing ∷ quoted OpenSquare Nothing
    ∷ expression_pieces Nothing e (quoted CloseSquare g ∷ rest)
expression_pieces g (Applied op e) rest =
    quoted (unary_sign op) Nothing ∷ expression_pieces g e rest
expression_pieces g (Combined op a b) rest = quoted Open Nothing
    ∷ expression_pieces Space a (quoted (binary_sign op) Space
    ∷ expression_pieces Nothing b (quoted Close g ∷ rest))

-- the margin of a line that is in this many blocks
abbrev pub margin : ℕ → List Piece → List Piece
margin zero rest = rest
margin (suc n) rest = indent ∷ margin n rest

-- one block deeper; no more than 48 are ever open
abbrev pub deeper : ℕ → ℕ
deeper depth = min (depth + 1) 48

-- `= e;`
abbrev pub value_pieces : Expression → List Piece → List Piece
value_pieces e rest =
    quoted Equals Space ∷ expression_pieces Nothing e (quoted Semicolon Line ∷ rest)

-- the pieces of statements, each on lines of its own inside this many blocks
abbrev mutual
  pub statement_pieces : ℕ → Statement → List Piece → List Piece
  statement_pieces depth (Defines x e) rest = quoted Let Space ∷ name x Space ∷ value_pieces e rest
  statement_pieces depth (Assigns x e) rest = name x Space ∷ value_pieces e rest
  statement_pieces depth (Stores x i e) rest = name x Nothing ∷ quoted OpenSquare Nothing
      ∷ expression_pieces Nothing i (quoted CloseSquare Space ∷ value_pieces e rest)
  statement_pieces depth (Chooses e a b) rest =
      quoted If Space ∷ expression_pieces Space e
      (quoted OpenBrace Line ∷ statements_pieces (deeper depth) a
      (margin depth (else_pieces depth b rest)))
  statement_pieces depth (Repeats n a) rest = quoted Repeat Space ∷ number n Space
      ∷ quoted OpenBrace Line ∷ statements_pieces (deeper depth) a
      (margin depth (quoted CloseBrace Line ∷ rest))
  statement_pieces depth (Sends x e) rest = quoted Send Space ∷ name x Nothing ∷ quoted Open Nothing
      ∷ expression_pieces Nothing e (quoted Close Nothing ∷ quoted Semicolon Line ∷ rest)
  statement_pieces depth (Emits e) rest =
      quoted Emit Space ∷ expression_pieces Nothing e (quoted Semicolon Line ∷ rest)

  -- one a line
  pub statements_pieces : ℕ → Block → List Piece → List Piece
  statements_pieces depth Done rest = rest
  statements_pieces depth (Then s b) rest =
      margin depth (statement_pieces depth s (statements_pieces depth b rest))

  -- from the brace that ends the first block; an empty second block isn't written
  pub else_pieces : ℕ → Block → List Piece → List Piece
  else_pieces depth Done rest = quoted CloseBrace Line ∷ rest
  else_pieces depth (Then s b) rest = quoted CloseBrace Space ∷ quoted Else Space
      ∷ quoted OpenBrace Line ∷ margin (deeper depth)
      (statement_pieces (deeper depth) s (statements_pieces (deeper depth) b
      (margin depth (quoted CloseBrace Line ∷ rest))))

-- a block in a line of this depth, up to the margin of the brace that ends it
abbrev pub block_pieces : ℕ → Block → List Piece → List Piece
block_pieces depth b rest =
    quoted OpenBrace Line ∷ statements_pieces (deeper depth) b (margin depth rest)

-- the word of a kind of device
abbrev pub device_word : DeviceKind → Kind
device_word DeviceKind.Sensor = Sensor
device_word DeviceKind.Actuator = Actuator

-- without the semicolon
abbrev pub declared_pieces : Decl → List Piece → List Piece
declared_pieces (Decl.Device kind) rest = quoted (device_word kind) Nothing ∷ rest
declared_pieces (Decl.Input x) rest = quoted Input Space ∷ name x Nothing ∷ rest
declared_pieces (Decl.Output x) rest = quoted Output Space ∷ name x Nothing ∷ rest
declared_pieces (Decl.Var x n) rest =
    quoted Var Space ∷ name x Space ∷ quoted Equals Space ∷ number n Nothing ∷ rest
declared_pieces (Decl.Array x n) rest = quoted Array Space ∷ name x Nothing
    ∷ quoted OpenSquare Nothing ∷ number n Nothing ∷ quoted CloseSquare Nothing ∷ rest

-- the pieces of declarations, one on a line
abbrev pub declarations_pieces : List Decl → List Piece → List Piece
declarations_pieces [] rest = rest
declarations_pieces (d ∷ ds) rest =
    declared_pieces d (quoted Semicolon Line ∷ declarations_pieces ds rest)

-- the pieces of a handler's event
abbrev pub event_pieces : Option (List ℕ) → List Piece → List Piece
event_pieces None rest = quoted Sample Nothing ∷ rest
event_pieces (Some x) rest = quoted On Space ∷ name x Nothing ∷ rest

-- the pieces of a handler
abbrev pub handler_pieces : HandlerTree → List Piece → List Piece
handler_pieces h rest = event_pieces h.input (quoted Open Nothing ∷ name h.param Nothing
    ∷ quoted Close Space ∷ block_pieces 0 h.body (quoted CloseBrace Line ∷ rest))

-- the pieces of all handlers
abbrev pub handlers_pieces : List HandlerTree → List Piece → List Piece
handlers_pieces [] rest = rest
handlers_pieces (h ∷ hs) rest = handler_pieces h (handlers_pieces hs rest)

-- the pieces of a module
abbrev pub module_pieces : ModuleTree → List Piece
module_pieces m = declarations_pieces m.decls (handlers_pieces m.handlers [])
