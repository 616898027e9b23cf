-- The grammar. `IsExpression form d ts e rest` says: an expression e of this form is at the
-- start of the tokens ts, inside d open brackets and unary operators, and rest follows it. The
-- other relations say the same of their parts.
use Rattle.std.specs.Prelude.{◌≡◌, ℕ, ◌+◌, List, [], ◌∷◌, ◌++◌, Bool, true, Option, Some, None}
use Rattle.sx_lang.specs.Tree.{Expression, Constant, Variable, Indexed, Applied, Combined}
use Rattle.sx_lang.specs.Tree.{Statement, Defines, Assigns, Stores, Chooses, Repeats, Sends, Emits}
use Rattle.sx_lang.specs.Tree.{Block, Done, Then, HandlerTree, ModuleTree}
use Rattle.sx_lang.specs.declared.tree.UnOp.{UnOp}
use Rattle.sx_lang.specs.declared.tree.BinOp.{BinOp}
use Rattle.sx_lang.specs.declared.tree.Decl.{Decl}
use Rattle.sx_lang.specs.declared.tree.DeviceKind.{DeviceKind}
use Rattle.sx_lex.specs.declared.tokens.Kind.{Kind}
use Rattle.sx_lex.specs.declared.tokens.Kind.TheVariants.{Number, Name, Sensor, Actuator, Input}
use Rattle.sx_lex.specs.declared.tokens.Kind.TheVariants.{Output, Var, Array, On, Sample, Let, If}
use Rattle.sx_lex.specs.declared.tokens.Kind.TheVariants.{Else, Repeat, Send, Emit, Semicolon}
use Rattle.sx_lex.specs.declared.tokens.Kind.TheVariants.{Equals, Open, Close, OpenSquare}
use Rattle.sx_lex.specs.declared.tokens.Kind.TheVariants.{CloseSquare, OpenBrace, CloseBrace}
use Rattle.sx_lex.specs.declared.tokens.Placed.{Placed}
use Rattle.spec_grammar.specs.Tokens.{Token, token, given_tokens, added, fits, unary_operator}
use Rattle.spec_grammar.specs.Tokens.{factor_operator, addend_operator, comparison_operator}

-- the forms of expressions, from the smallest to the largest
pub data Form : Type 0 where
  Primary : Form
  Unary : Form
  Term : Form
  -- what follows a term's first operand: n operators so far, and the tree so far
  Factors : ℕ → Expression → Form
  Sum : Form
  -- the same of a sum
  Addends : ℕ → Expression → Form
  Whole : Form

-- tokens are an expression of a form, inside this many open brackets and unary operators, with a
-- rest after it
pub data IsExpression : Form → ℕ → List Token → Expression → List Token → Type 0 where
  number : {d n : ℕ} {a : Bool} {rest : List Token}
      → IsExpression Primary d (token (Number n) a ∷ rest) (Constant n) rest
  name : {d : ℕ} {x : List ℕ} {a : Bool} {rest : List Token}
      → IsExpression Primary d (token (Name x) a ∷ rest) (Variable x) rest
  element : {d : ℕ} {x : List ℕ} {a b c : Bool} {ts rest : List Token} {e : Expression}
      → fits b d ≡ true → IsExpression Whole (d + 1) ts e (token CloseSquare c ∷ rest)
      → IsExpression Primary d (token (Name x) a ∷ token OpenSquare b ∷ ts) (Indexed x e) rest
  brackets : {d : ℕ} {a b : Bool} {ts rest : List Token} {e : Expression} → fits a d ≡ true
      → IsExpression Whole (d + 1) ts e (token Close b ∷ rest)
      → IsExpression Primary d (token Open a ∷ ts) e rest
  plain : {d : ℕ} {ts rest : List Token} {e : Expression} → IsExpression Primary d ts e rest
      → IsExpression Unary d ts e rest
  unary : {d : ℕ} {k : Kind} {a : Bool} {op : UnOp} {ts rest : List Token} {e : Expression}
      → unary_operator k ≡ Some op → fits a d ≡ true → IsExpression Unary (d + 1) ts e rest
      → IsExpression Unary d (token k a ∷ ts) (Applied op e) rest
  term : {d : ℕ} {ts us rest : List Token} {l e : Expression} → IsExpression Unary d ts l us
      → IsExpression (Factors 0 l) d us e rest → IsExpression Term d ts e rest
  no_factor : {d n : ℕ} {rest : List Token} {e : Expression}
      → IsExpression (Factors n e) d rest e rest
  factor : {d n : ℕ} {k : Kind} {a : Bool} {op : BinOp} {ts us rest : List Token}
      {l r e : Expression} → factor_operator k ≡ Some op → fits a n ≡ true
      → IsExpression Unary d ts r us → IsExpression (Factors (n + 1) (Combined op l r)) d us e rest
      → IsExpression (Factors n l) d (token k a ∷ ts) e rest
  sum : {d : ℕ} {ts us rest : List Token} {l e : Expression} → IsExpression Term d ts l us
      → IsExpression (Addends 0 l) d us e rest → IsExpression Sum d ts e rest
  no_addend : {d n : ℕ} {rest : List Token} {e : Expression}
      → IsExpression (Addends n e) d rest e rest
  addend : {d n : ℕ} {k : Kind} {a : Bool} {op : BinOp} {ts us rest : List Token}
      {l r e : Expression} → addend_operator k ≡ Some op → fits a n ≡ true
      → IsExpression Term d ts r us → IsExpression (Addends (n + 1) (Combined op l r)) d us e rest
      → IsExpression (Addends n l) d (token k a ∷ ts) e rest
  whole : {d : ℕ} {ts rest : List Token} {e : Expression} → IsExpression Sum d ts e rest
      → IsExpression Whole d ts e rest
  comparison : {d : ℕ} {k : Kind} {a : Bool} {op : BinOp} {ts us rest : List Token}
      {l r : Expression} → comparison_operator k ≡ Some op
      → IsExpression Sum d ts l (token k a ∷ us) → IsExpression Sum d us r rest
      → IsExpression Whole d ts (Combined op l r) rest

mutual
  pub data IsStatement : ℕ → List Token → Statement → List Token → Type 0 where
    definition : {d : ℕ} {x : List ℕ} {a b c f : Bool} {ts rest : List Token} {e : Expression}
        → IsExpression Whole d ts e (token Semicolon f ∷ rest)
        → IsStatement d (token Let a ∷ token (Name x) b ∷ token Equals c ∷ ts) (Defines x e) rest
    assignment : {d : ℕ} {x : List ℕ} {a b c : Bool} {ts rest : List Token} {e : Expression}
        → IsExpression Whole d ts e (token Semicolon c ∷ rest)
        → IsStatement d (token (Name x) a ∷ token Equals b ∷ ts) (Assigns x e) rest
    element_assignment : {d : ℕ} {x : List ℕ} {a b c f g : Bool} {ts us rest : List Token}
        {i e : Expression} → fits b d ≡ true
        → IsExpression Whole (d + 1) ts i (token CloseSquare c ∷ token Equals f ∷ us)
        → IsExpression Whole d us e (token Semicolon g ∷ rest)
        → IsStatement d (token (Name x) a ∷ token OpenSquare b ∷ ts) (Stores x i e) rest
    if_then : {d : ℕ} {a : Bool} {ts us rest : List Token} {e : Expression} {x : Block}
        → IsExpression Whole d ts e us → IsBlock d us x rest
        → IsStatement d (token If a ∷ ts) (Chooses e x Done) rest
    if_else : {d : ℕ} {a b : Bool} {ts us ws rest : List Token} {e : Expression} {x y : Block}
        → IsExpression Whole d ts e us → IsBlock d us x (token Else b ∷ ws) → IsBlock d ws y rest
        → IsStatement d (token If a ∷ ts) (Chooses e x y) rest
    repetition : {d n : ℕ} {a b : Bool} {ts rest : List Token} {x : Block} → IsBlock d ts x rest
        → IsStatement d (token Repeat a ∷ token (Number n) b ∷ ts) (Repeats n x) rest
    sending : {d : ℕ} {x : List ℕ} {a b c f g : Bool} {ts rest : List Token} {e : Expression}
        → fits c d ≡ true
        → IsExpression Whole (d + 1) ts e (token Close f ∷ token Semicolon g ∷ rest)
        → IsStatement d (token Send a ∷ token (Name x) b ∷ token Open c ∷ ts) (Sends x e) rest
    emission : {d : ℕ} {a b : Bool} {ts rest : List Token} {e : Expression}
        → IsExpression Whole d ts e (token Semicolon b ∷ rest)
        → IsStatement d (token Emit a ∷ ts) (Emits e) rest

  pub data IsBlock : ℕ → List Token → Block → List Token → Type 0 where
    block : {d : ℕ} {a : Bool} {ts rest : List Token} {x : Block} → fits a d ≡ true
        → AreStatements (d + 1) ts x rest → IsBlock d (token OpenBrace a ∷ ts) x rest

  -- with the closing brace
  pub data AreStatements : ℕ → List Token → Block → List Token → Type 0 where
    no_statement : {d : ℕ} {a : Bool} {rest : List Token}
        → AreStatements d (token CloseBrace a ∷ rest) Done rest
    statement : {d : ℕ} {ts us rest : List Token} {s : Statement} {x : Block}
        → IsStatement d ts s us → AreStatements d us x rest → AreStatements d ts (Then s x) rest

-- A declaration is outside of all brackets, so its own break no bound; nor do those of a
-- handler's head.
pub data IsDeclaration : List Token → Decl → List Token → Type 0 where
  sensor : {a b : Bool} {rest : List Token} → IsDeclaration
      (token Sensor a ∷ token Semicolon b ∷ rest) (Decl.Device DeviceKind.Sensor) rest
  actuator : {a b : Bool} {rest : List Token} → IsDeclaration
      (token Actuator a ∷ token Semicolon b ∷ rest) (Decl.Device DeviceKind.Actuator) rest
  input : {x : List ℕ} {a b c : Bool} {rest : List Token}
      → IsDeclaration (token Input a ∷ token (Name x) b ∷ token Semicolon c ∷ rest) (Decl.Input x)
      rest
  output : {x : List ℕ} {a b c : Bool} {rest : List Token}
      → IsDeclaration (token Output a ∷ token (Name x) b ∷ token Semicolon c ∷ rest) (Decl.Output x)
      rest
  variable : {x : List ℕ} {a b c : Bool} {rest : List Token}
      → IsDeclaration (token Var a ∷ token (Name x) b ∷ token Semicolon c ∷ rest) (Decl.Var x 0)
      rest
  variable_with : {n : ℕ} {x : List ℕ} {a b c f g : Bool} {rest : List Token}
      → IsDeclaration (token Var a ∷ token (Name x) b ∷ token Equals c ∷ token (Number n) f
      ∷ token Semicolon g ∷ rest) (Decl.Var x n) rest
  array : {n : ℕ} {x : List ℕ} {a b c f g h : Bool} {rest : List Token}
      → IsDeclaration (token Array a ∷ token (Name x) b ∷ token OpenSquare c ∷ token (Number n) f
      ∷ token CloseSquare g ∷ token Semicolon h ∷ rest) (Decl.Array x n) rest

-- tokens are declarations, with a rest after them
pub data AreDeclarations : List Token → List Decl → List Token → Type 0 where
  no_declaration : {rest : List Token} → AreDeclarations rest [] rest
  declaration : {ts us rest : List Token} {x : Decl} {xs : List Decl} → IsDeclaration ts x us
      → AreDeclarations us xs rest → AreDeclarations ts (x ∷ xs) rest

-- tokens are a handler, with a rest after it
pub data IsHandler : ℕ → List Token → HandlerTree → List Token → Type 0 where
  on_input : {d : ℕ} {x v : List ℕ} {a b c f g : Bool} {ts rest : List Token} {body : Block}
      → IsBlock d ts body rest
      → IsHandler d (token On a ∷ token (Name x) b ∷ token Open c ∷ token (Name v) f ∷ token Close g
      ∷ ts) (record { input = Some x; param = v; body = body }) rest
  on_sample : {d : ℕ} {v : List ℕ} {a b c f : Bool} {ts rest : List Token} {body : Block}
      → IsBlock d ts body rest
      → IsHandler d (token Sample a ∷ token Open b ∷ token (Name v) c ∷ token Close f ∷ ts)
      (record { input = None; param = v; body = body }) rest

-- tokens are handlers, with a rest after them
pub data AreHandlers : ℕ → List Token → List HandlerTree → List Token → Type 0 where
  no_handler : {d : ℕ} {rest : List Token} → AreHandlers d rest [] rest
  handler : {d : ℕ} {ts us rest : List Token} {h : HandlerTree} {hs : List HandlerTree}
      → IsHandler d ts h us → AreHandlers d us hs rest → AreHandlers d ts (h ∷ hs) rest

-- the tokens are a module's: its declarations, then its handlers, and nothing after them
pub record IsModule (ts : List Token) (m : ModuleTree) : Type 0 where
  pub middle : List Token
  pub declarations : AreDeclarations ts m.decls middle
  pub handlers : AreHandlers 0 middle m.handlers []

-- these tokens of a text begin a module: some tokens after them make one
abbrev pub CanGoOn : List Placed → Type 0
CanGoOn front =
    (more : List Kind) × (m : ModuleTree) × IsModule (given_tokens front ++ added more) m

-- the first token that can't follow those before it, or that breaks a bound; or the end, where the
-- text may not end there
abbrev pub IsFaultAt : List Placed → Option Placed → Type 0
IsFaultAt ts (Some t) = (front back : List Placed) × (ts ≡ front ++ t ∷ back) × CanGoOn front
    × ¬ CanGoOn (front ++ t ∷ [])
IsFaultAt ts None = CanGoOn ts × ((m : ModuleTree) → ¬ IsModule (given_tokens ts) m)
