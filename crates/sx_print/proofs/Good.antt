-- In the pieces of a module each word ends where its piece does.
use Rattle.std.proofs.Common.{◌≡◌, ℕ, zero, suc, true, ◌&&◌, List, [], ◌∷◌, Option, Some, None, refl}
use Rattle.sx_lang.specs.declared.tree.UnOp.{UnOp}
use Rattle.sx_lang.specs.declared.tree.UnOp.TheVariants.{Neg, Inv, Not}
use Rattle.sx_lang.specs.declared.tree.BinOp.{BinOp}
use Rattle.sx_lang.specs.declared.tree.BinOp.TheVariants.{Add, Sub, Or, Xor, Mul, And, Eq, Ne, Lt, Le, Gt, Ge}
use Rattle.sx_lang.specs.declared.tree.Decl.{Decl}
use Rattle.sx_lang.specs.declared.tree.DeviceKind.{DeviceKind}
use Rattle.sx_lang.specs.Tree.{Expression, Constant, Variable, Indexed, Applied, Combined, Statement, Defines, Assigns, Stores, Chooses, Repeats, Sends, Emits}
use Rattle.sx_lang.specs.Tree.{Block, Done, Then, HandlerTree, ModuleTree}
use Rattle.std.specs.List.{list_any}
use Rattle.std.proofs.lemmas.Bool.{and_parts}
use Rattle.sx_lex.specs.declared.tokens.Kind.{Kind}
use Rattle.sx_lex.specs.declared.tokens.Kind.TheVariants.{Semicolon, Open, Close, CloseSquare}
use Rattle.sx_print.specs.declared.words.Gap.{Gap}
use Rattle.sx_print.specs.declared.words.Gap.TheVariants.{Nothing, Space, Line}
use Rattle.sx_print.specs.Printable.{is_plain, expression_plain, statement_plain, block_plain, declaration_plain, declarations_plain, input_plain, handler_plain, handlers_plain, module_plain}
use Rattle.sx_print.specs.Pieces.{Piece, quoted, spelling, expression_pieces, margin, deeper, value_pieces, statement_pieces, statements_pieces, else_pieces}
use Rattle.sx_print.specs.Pieces.{declared_pieces, declarations_pieces, event_pieces, handler_pieces, handlers_pieces, module_pieces, binary_sign, unary_sign}
use Rattle.sx_print.proofs.Read.{ends_word, is_operand, Good, nothing, good_name, good_number, good_word, good_not, good_indent}
use Rattle.sx_print.proofs.Lone.{is_lone}
use Rattle.sx_print.proofs.Spelled.{is_quoted}

margin_good : {ps : List Piece} (n : ℕ) → Good ps → Good (margin n ps)
margin_good zero h = h
margin_good (suc n) h = good_indent (margin_good n h)

unary_good : {ps : List Piece} (op : UnOp) → is_operand ps ≡ true → Good ps → Good (quoted (unary_sign op) Nothing ∷ ps)
unary_good Neg o h = good_word refl refl h
unary_good Inv o h = good_word refl refl h
unary_good Not o h = good_not o h

operand : (g : Gap) (e : Expression) (ps : List Piece) → is_operand (expression_pieces g e ps) ≡ true
operand g (Constant n) ps = refl
operand g (Variable x) ps = refl
operand g (Indexed x i) ps = refl
operand g (Applied Neg a) ps = refl
operand g (Applied Inv a) ps = refl
operand g (Applied Not a) ps = refl
operand g (Combined op a b) ps = refl

binary_good : {ps : List Piece} (op : BinOp) → Good ps → Good (quoted (binary_sign op) Space ∷ ps)
binary_good Add h = good_word refl refl h
binary_good Sub h = good_word refl refl h
binary_good Or h = good_word refl refl h
binary_good Xor h = good_word refl refl h
binary_good Mul h = good_word refl refl h
binary_good And h = good_word refl refl h
binary_good Eq h = good_word refl refl h
binary_good Ne h = good_word refl refl h
binary_good Lt h = good_word refl refl h
binary_good Le h = good_word refl refl h
binary_good Gt h = good_word refl refl h
binary_good Ge h = good_word refl refl h

-- a word that is alone
lone_word : {ps : List Piece} (k : Kind) (g : Gap) → is_quoted k ≡ true → list_any is_lone (spelling k) ≡ true → Good ps → Good (quoted k g ∷ ps)
lone_word {ps = ps} k g q e h = good_word q (rw e refl) h

expression_good : {ps : List Piece} (g : Gap) (e : Expression) → expression_plain e ≡ true → ends_word g ps ≡ true → Good ps → Good (expression_pieces g e ps)
expression_good g (Constant n) p e h = good_number e h
expression_good g (Variable x) p e h = good_name p e h
expression_good g (Indexed x i) p e h = good_name (and_parts _ _ p).0 refl (good_word refl refl (expression_good Nothing i (and_parts (is_plain x) _ p).1 refl (lone_word CloseSquare g refl refl h)))
expression_good {ps = ps} g (Applied op a) p e h = unary_good op (operand g a ps) (expression_good g a p e h)
expression_good g (Combined op a b) p e h =
    good_word refl refl (expression_good Space a (and_parts _ _ p).0 refl (binary_good op (expression_good Nothing b (and_parts (expression_plain a) _ p).1 refl (lone_word Close g refl refl h))))

value_good : {ps : List Piece} (e : Expression) → expression_plain e ≡ true → Good ps → Good (value_pieces e ps)
value_good e p h = good_word refl refl (expression_good Nothing e p refl (good_word refl refl h))

mutual
  statement_good : {ps : List Piece} (depth : ℕ) (s : Statement) → statement_plain s ≡ true → Good ps → Good (statement_pieces depth s ps)
  statement_good depth (Defines x e) p h = good_word refl refl (good_name (and_parts _ _ p).0 refl (value_good e (and_parts (is_plain x) _ p).1 h))
  statement_good depth (Assigns x e) p h = good_name (and_parts _ _ p).0 refl (value_good e (and_parts (is_plain x) _ p).1 h)
  statement_good depth (Stores x i e) p h =
      let q : (expression_plain i && expression_plain e) ≡ true = (and_parts (is_plain x) _ p).1 in
      good_name (and_parts _ _ p).0 refl (good_word refl refl (expression_good Nothing i (and_parts _ _ q).0 refl (good_word refl refl (value_good e (and_parts (expression_plain i) _ q).1 h))))
  statement_good depth (Chooses e a b) p h =
      let q : (block_plain a && block_plain b) ≡ true = (and_parts (expression_plain e) _ p).1 in
      good_word refl refl (expression_good Space e (and_parts _ _ p).0 refl
      (good_word refl refl (statements_good (deeper depth) a (and_parts _ _ q).0 (margin_good depth (else_good depth b (and_parts (block_plain a) _ q).1 h)))))
  statement_good depth (Repeats n a) p h = good_word refl refl (good_number refl (good_word refl refl (statements_good (deeper depth) a p (margin_good depth (good_word refl refl h)))))
  statement_good depth (Sends x e) p h =
      good_word refl refl (good_name (and_parts _ _ p).0 refl (good_word refl refl (expression_good Nothing e (and_parts (is_plain x) _ p).1 refl (good_word refl refl (good_word refl refl h)))))
  statement_good depth (Emits e) p h = good_word refl refl (expression_good Nothing e p refl (good_word refl refl h))

  statements_good : {ps : List Piece} (depth : ℕ) (b : Block) → block_plain b ≡ true → Good ps → Good (statements_pieces depth b ps)
  statements_good depth Done p h = h
  statements_good depth (Then s b) p h = margin_good depth (statement_good depth s (and_parts _ _ p).0 (statements_good depth b (and_parts (statement_plain s) _ p).1 h))

  else_good : {ps : List Piece} (depth : ℕ) (b : Block) → block_plain b ≡ true → Good ps → Good (else_pieces depth b ps)
  else_good depth Done p h = good_word refl refl h
  else_good depth (Then s b) p h =
      good_word refl refl (good_word refl refl (good_word refl refl (margin_good (deeper depth)
      (statement_good (deeper depth) s (and_parts _ _ p).0 (statements_good (deeper depth) b (and_parts (statement_plain s) _ p).1 (margin_good depth (good_word refl refl h)))))))

declared_good : {ps : List Piece} (d : Decl) → declaration_plain d ≡ true → Good ps → Good (declared_pieces d (quoted Semicolon Line ∷ ps))
declared_good (Decl.Device DeviceKind.Sensor) p h = good_word refl refl (good_word refl refl h)
declared_good (Decl.Device DeviceKind.Actuator) p h = good_word refl refl (good_word refl refl h)
declared_good (Decl.Input x) p h = good_word refl refl (good_name p refl (good_word refl refl h))
declared_good (Decl.Output x) p h = good_word refl refl (good_name p refl (good_word refl refl h))
declared_good (Decl.Var x n) p h = good_word refl refl (good_name p refl (good_word refl refl (good_number refl (good_word refl refl h))))
declared_good (Decl.Array x n) p h = good_word refl refl (good_name p refl (good_word refl refl (good_number refl (good_word refl refl (good_word refl refl h)))))

declarations_good : {ps : List Piece} (ds : List Decl) → declarations_plain ds ≡ true → Good ps → Good (declarations_pieces ds ps)
declarations_good [] p h = h
declarations_good (d ∷ ds) p h = declared_good d (and_parts _ _ p).0 (declarations_good ds (and_parts (declaration_plain d) _ p).1 h)

event_good : {ps : List Piece} (input : Option (List ℕ)) → input_plain input ≡ true → Good ps → Good (event_pieces input (quoted Open Nothing ∷ ps))
event_good None p h = good_word refl refl (good_word refl refl h)
event_good (Some x) p h = good_word refl refl (good_name p refl (good_word refl refl h))

handler_good : {ps : List Piece} (h : HandlerTree) → handler_plain h ≡ true → Good ps → Good (handler_pieces h ps)
handler_good h p e =
    let q : (is_plain h.param && block_plain h.body) ≡ true = (and_parts (input_plain h.input) _ p).1 in
    event_good h.input (and_parts _ _ p).0 (good_name (and_parts _ _ q).0 refl
    (good_word refl refl (good_word refl refl (statements_good (deeper 0) h.body (and_parts (is_plain h.param) _ q).1 (good_word refl refl e)))))

handlers_good : {ps : List Piece} (hs : List HandlerTree) → handlers_plain hs ≡ true → Good ps → Good (handlers_pieces hs ps)
handlers_good [] p h = h
handlers_good (x ∷ hs) p h = handler_good x (and_parts _ _ p).0 (handlers_good hs (and_parts (handler_plain x) _ p).1 h)

pub module_good : (m : ModuleTree) → module_plain m ≡ true → Good (module_pieces m)
module_good m p = declarations_good m.decls (and_parts _ _ p).0 (handlers_good m.handlers (and_parts (declarations_plain m.decls) _ p).1 nothing)
