-- The words of a module are as that module.
use Rattle.std.proofs.Common.{◌≡◌, ℕ, zero, suc, ◌+◌, ◌≤◌, true, List, [], ◌∷◌, Option, Some, None, max, refl, sym, ◌∙◌, subst, arith}
use Rattle.std.proofs.lemmas.Bool.Decides.{nat_tests}
use Rattle.sx_lang.specs.declared.tree.UnOp.{UnOp}
use Rattle.sx_lang.specs.declared.tree.UnOp.TheVariants.{Neg, Inv, Not}
use Rattle.sx_lang.specs.declared.tree.BinOp.{BinOp}
use Rattle.sx_lang.specs.declared.tree.BinOp.TheVariants.{Add, Sub, Or, Xor, Mul, And, Eq, Ne, Lt, Le, Gt, Ge}
use Rattle.sx_lang.specs.declared.tree.Decl.{Decl}
use Rattle.sx_lang.specs.declared.tree.DeviceKind.{DeviceKind}
use Rattle.sx_lang.specs.Tree.{Expression, Constant, Variable, Indexed, Applied, Combined, Statement, Defines, Assigns, Stores, Chooses, Repeats, Sends, Emits}
use Rattle.sx_lang.specs.Tree.{Block, Done, Then, HandlerTree, ModuleTree}
use Rattle.sx_lex.specs.declared.tokens.Kind.TheVariants.{Semicolon, Else, Close, CloseSquare, CloseBrace}
use Rattle.spec_grammar.specs.Tokens.{Token, token, fits, unary_operator}
use Rattle.spec_grammar.specs.Grammar as g
use Rattle.spec_grammar.specs.Grammar.{IsExpression, IsStatement, IsBlock, AreStatements, IsDeclaration, AreDeclarations, IsHandler, AreHandlers, IsModule}
use Rattle.sx_print.specs.declared.words.Gap.{Gap}
use Rattle.sx_print.specs.declared.words.Gap.TheVariants.{Nothing, Space, Line}
use Rattle.sx_print.specs.Printable.{expression_open, statement_open, block_open, handlers_open, module_open}
use Rattle.sx_print.specs.Pieces.{Piece, quoted, expression_pieces, margin, deeper, value_pieces, statement_pieces, statements_pieces, block_pieces}
use Rattle.sx_print.specs.Pieces.{else_pieces, declared_pieces, declarations_pieces, handler_pieces, handlers_pieces, module_pieces, binary_sign, unary_sign}
use Rattle.sx_print.proofs.Read.{tokens_of}

alone : {d : ℕ} {ts rest : List Token} {e : Expression} → IsExpression g.Unary d ts e rest → IsExpression g.Term d ts e rest
alone s = g.term s g.no_factor

alone_sum : {d : ℕ} {ts rest : List Token} {e : Expression} → IsExpression g.Unary d ts e rest → IsExpression g.Sum d ts e rest
alone_sum s = g.sum (alone s) g.no_addend

alone_whole : {d : ℕ} {ts rest : List Token} {e : Expression} → IsExpression g.Unary d ts e rest → IsExpression g.Whole d ts e rest
alone_whole s = g.whole (alone_sum s)

sign_operator : (op : UnOp) → unary_operator (unary_sign op) ≡ Some op
sign_operator Neg = refl
sign_operator Inv = refl
sign_operator Not = refl

joined : {d : ℕ} {ts us rest : List Token} {x y : Expression} (op : BinOp) → IsExpression g.Unary d ts x (token (binary_sign op) true ∷ us)
    → IsExpression g.Unary d us y rest → IsExpression g.Whole d ts (Combined op x y) rest
joined Add s t = g.whole (g.sum (alone s) (g.addend refl refl (alone t) g.no_addend))
joined Sub s t = g.whole (g.sum (alone s) (g.addend refl refl (alone t) g.no_addend))
joined Or s t = g.whole (g.sum (alone s) (g.addend refl refl (alone t) g.no_addend))
joined Xor s t = g.whole (g.sum (alone s) (g.addend refl refl (alone t) g.no_addend))
joined Mul s t = g.whole (g.sum (g.term s (g.factor refl refl t g.no_factor)) g.no_addend)
joined And s t = g.whole (g.sum (g.term s (g.factor refl refl t g.no_factor)) g.no_addend)
joined Eq s t = g.comparison refl (alone_sum s) (alone_sum t)
joined Ne s t = g.comparison refl (alone_sum s) (alone_sum t)
joined Lt s t = g.comparison refl (alone_sum s) (alone_sum t)
joined Le s t = g.comparison refl (alone_sum s) (alone_sum t)
joined Gt s t = g.comparison refl (alone_sum s) (alone_sum t)
joined Ge s t = g.comparison refl (alone_sum s) (alone_sum t)

-- there is room for one more
room : (d n : ℕ) → d + (1 + n) ≤ 48 → fits true d ≡ true
room d n h = grind (arith, nat_tests)

inner : (d n : ℕ) → d + (1 + n) ≤ 48 → (d + 1) + n ≤ 48
inner d n h = omega (arith, h)

expression_stands : (k : Gap) (e : Expression) (ps : List Piece) (d : ℕ) → d + expression_open e ≤ 48 → IsExpression g.Unary d (tokens_of (expression_pieces k e ps)) e (tokens_of ps)
expression_stands k (Constant n) ps d h = g.plain g.number
expression_stands k (Variable x) ps d h = g.plain g.name
expression_stands k (Indexed x i) ps d h = g.plain
    (g.element (room d (expression_open i) h) (alone_whole (expression_stands Nothing i (quoted CloseSquare k ∷ ps) (d + 1) (inner d (expression_open i) h))))
expression_stands k (Applied op a) ps d h = g.unary (sign_operator op) (room d (expression_open a) h) (expression_stands k a ps (d + 1) (inner d (expression_open a) h))
expression_stands k (Combined op a b) ps d h =
    let most = max (expression_open a) (expression_open b) in
    let i : (d + 1) + most ≤ 48 = inner d most h in
    g.plain (g.brackets (room d most h) (joined op
    (expression_stands Space a (quoted (binary_sign op) Space ∷ expression_pieces Nothing b (quoted Close k ∷ ps)) (d + 1) (omega (arith, i)))
    (expression_stands Nothing b (quoted Close k ∷ ps) (d + 1) (omega (arith, i)))))

whole_stands : (k : Gap) (e : Expression) (ps : List Piece) (d : ℕ) → d + expression_open e ≤ 48 → IsExpression g.Whole d (tokens_of (expression_pieces k e ps)) e (tokens_of ps)
whole_stands k e ps d h = alone_whole (expression_stands k e ps d h)

-- with the semicolon
value_stands : (e : Expression) (ps : List Piece) (d : ℕ) → d + expression_open e ≤ 48
    → IsExpression g.Whole d (tokens_of (expression_pieces Nothing e (quoted Semicolon Line ∷ ps))) e (token Semicolon true ∷ tokens_of ps)
value_stands e ps d h = whole_stands Nothing e (quoted Semicolon Line ∷ ps) d h

margin_tokens : (n : ℕ) (ps : List Piece) → tokens_of (margin n ps) ≡ tokens_of ps
margin_tokens zero ps = refl
margin_tokens (suc n) ps = margin_tokens n ps

-- the statements and the brace that ends them are a block
block_stands : (depth : ℕ) (b : Block) (ps : List Piece) (rest : List Token) (d : ℕ) → d + (1 + block_open b) ≤ 48
    → AreStatements (d + 1) (tokens_of (statements_pieces (deeper depth) b (margin depth ps))) b rest → IsBlock d (tokens_of (block_pieces depth b ps)) b rest
block_stands depth b ps rest d h s = g.block (room d (block_open b) h) s

abbrev IsBlockBefore : ℕ → ℕ → Block → Type 0
IsBlockBefore depth d b = (ps : List Piece) (rest : List Token) → tokens_of ps ≡ token CloseBrace true ∷ rest → IsBlock d (tokens_of (block_pieces depth b ps)) b rest

-- an empty second block isn't written
choice_stands : (depth : ℕ) (e : Expression) (a b : Block) (ps : List Piece) (d : ℕ) → d + expression_open e ≤ 48 → IsBlockBefore depth d a → IsBlockBefore depth d b
    → IsStatement d (tokens_of (statement_pieces depth (Chooses e a b) ps)) (Chooses e a b) (tokens_of ps)
choice_stands depth e a Done ps d h first second = g.if_then (whole_stands Space e (block_pieces depth a (quoted CloseBrace Line ∷ ps)) d h) (first (quoted CloseBrace Line ∷ ps) (tokens_of ps) refl)
choice_stands depth e a (Then s b) ps d h first second =
    let behind = block_pieces depth (Then s b) (quoted CloseBrace Line ∷ ps) in
    g.if_else (whole_stands Space e (block_pieces depth a (else_pieces depth (Then s b) ps)) d h)
    (first (else_pieces depth (Then s b) ps) (token Else true ∷ tokens_of behind) refl) (second (quoted CloseBrace Line ∷ ps) (tokens_of ps) refl)

mutual
  statement_stands : (depth : ℕ) (s : Statement) (ps : List Piece) (d : ℕ) → d + statement_open s ≤ 48 → IsStatement d (tokens_of (statement_pieces depth s ps)) s (tokens_of ps)
  statement_stands depth (Defines x e) ps d h = g.definition (value_stands e ps d h)
  statement_stands depth (Assigns x e) ps d h = g.assignment (value_stands e ps d h)
  statement_stands depth (Stores x i e) ps d h =
      g.element_assignment (room d (expression_open i) (omega (arith, h)))
      (whole_stands Nothing i (quoted CloseSquare Space ∷ value_pieces e ps) (d + 1) (omega (arith, h))) (value_stands e ps d (omega (arith, h)))
  statement_stands depth (Chooses e a b) ps d h =
      choice_stands depth e a b ps d (omega (arith, h))
      (λ qs rest t. block_stands depth a qs rest d (omega (arith, h)) (statements_stand (deeper depth) a (margin depth qs) rest (d + 1) (margin_tokens depth qs ∙ t) (omega (arith, h))))
      (λ qs rest t. block_stands depth b qs rest d (omega (arith, h)) (statements_stand (deeper depth) b (margin depth qs) rest (d + 1) (margin_tokens depth qs ∙ t) (omega (arith, h))))
  statement_stands depth (Repeats n a) ps d h =
      let qs = quoted CloseBrace Line ∷ ps in
      g.repetition (block_stands depth a qs (tokens_of ps) d h (statements_stand (deeper depth) a (margin depth qs) (tokens_of ps) (d + 1) (margin_tokens depth qs) (inner d (block_open a) h)))
  statement_stands depth (Sends x e) ps d h = g.sending (room d (expression_open e) h)
      (whole_stands Nothing e (quoted Close Nothing ∷ quoted Semicolon Line ∷ ps) (d + 1) (inner d (expression_open e) h))
  statement_stands depth (Emits e) ps d h = g.emission (value_stands e ps d h)

  statements_stand : (depth : ℕ) (b : Block) (ps : List Piece) (rest : List Token) (d : ℕ) → tokens_of ps ≡ token CloseBrace true ∷ rest → d + block_open b ≤ 48
      → AreStatements d (tokens_of (statements_pieces depth b ps)) b rest
  statements_stand depth Done ps rest d t h = subst (λ ts. AreStatements d ts Done rest) (sym t) g.no_statement
  statements_stand depth (Then s b) ps rest d t h =
      let qs = statement_pieces depth s (statements_pieces depth b ps) in
      let r : AreStatements d (tokens_of qs) (Then s b) rest = g.statement (statement_stands depth s (statements_pieces depth b ps) d (omega (arith, h)))
      (statements_stand depth b ps rest d t (omega (arith, h))) in
      subst (λ ts. AreStatements d ts (Then s b) rest) (sym (margin_tokens depth qs)) r

declaration_stands : (d : Decl) (ps : List Piece) → IsDeclaration (tokens_of (declared_pieces d (quoted Semicolon Line ∷ ps))) d (tokens_of ps)
declaration_stands (Decl.Device DeviceKind.Sensor) ps = g.sensor
declaration_stands (Decl.Device DeviceKind.Actuator) ps = g.actuator
declaration_stands (Decl.Input x) ps = g.input
declaration_stands (Decl.Output x) ps = g.output
declaration_stands (Decl.Var x n) ps = g.variable_with
declaration_stands (Decl.Array x n) ps = g.array

declarations_stand : (ds : List Decl) (ps : List Piece) → AreDeclarations (tokens_of (declarations_pieces ds ps)) ds (tokens_of ps)
declarations_stand [] ps = g.no_declaration
declarations_stand (d ∷ ds) ps = g.declaration (declaration_stands d (declarations_pieces ds ps)) (declarations_stand ds ps)

body_stands : (b : Block) (ps : List Piece) → 1 + block_open b ≤ 48 → IsBlock 0 (tokens_of (block_pieces 0 b (quoted CloseBrace Line ∷ ps))) b (tokens_of ps)
body_stands b ps h =
    let qs = quoted CloseBrace Line ∷ ps in
    block_stands 0 b qs (tokens_of ps) 0 (omega (arith, h)) (statements_stand (deeper 0) b (margin 0 qs) (tokens_of ps) (0 + 1) refl (omega (arith, h)))

handler_stands : (h : HandlerTree) (ps : List Piece) → 1 + block_open h.body ≤ 48 → IsHandler 0 (tokens_of (handler_pieces h ps)) h (tokens_of ps)
handler_stands h ps l = go h.input
  where
    go : (input : Option (List ℕ)) → IsHandler 0 (tokens_of (handler_pieces (record { input = input; param = h.param; body = h.body }) ps))
        (record { input = input; param = h.param; body = h.body }) (tokens_of ps)
    go None = g.on_sample (body_stands h.body ps l)
    go (Some x) = g.on_input (body_stands h.body ps l)

handlers_stand : (hs : List HandlerTree) → handlers_open hs ≤ 48 → AreHandlers 0 (tokens_of (handlers_pieces hs [])) hs []
handlers_stand [] l = g.no_handler
handlers_stand (h ∷ hs) l = g.handler (handler_stands h (handlers_pieces hs []) (omega (arith, l))) (handlers_stand hs (omega (arith, l)))

pub module_stands : (m : ModuleTree) → module_open m ≤ 48 → IsModule (tokens_of (module_pieces m)) m
module_stands m h = record {
  middle = tokens_of (handlers_pieces m.handlers []);
  declarations = declarations_stand m.decls (handlers_pieces m.handlers []);
  handlers = handlers_stand m.handlers h;
}
