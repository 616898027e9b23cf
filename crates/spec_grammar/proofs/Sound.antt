-- What the machine reads is what its stack requires by the grammar, read backward one token at a time.
use Rattle.std.proofs.Common.{◌≡◌, ℕ, ◌+◌, List, [], ◌∷◌, Bool, true, false, Option, Some, None, refl, sym, ap, subst, ◌∙◌, if◌then◌else◌}
use Rattle.sx_lang.specs.Tree.{Expression, Constant, Variable, Indexed, Applied, Combined, Statement, Defines, Assigns, Stores, Chooses, Repeats, Sends, Emits, Block, Done, Then, HandlerTree}
use Rattle.sx_lang.specs.declared.tree.UnOp.{UnOp}
use Rattle.sx_lang.specs.declared.tree.BinOp.{BinOp}
use Rattle.sx_lang.specs.declared.tree.Decl.{Decl}
use Rattle.sx_lang.specs.declared.tree.DeviceKind.{DeviceKind}
use Rattle.sx_lex.specs.declared.tokens.Kind.{Kind}
use Rattle.sx_lex.specs.declared.tokens.Kind.TheVariants.{Number, Name, Sensor, Actuator, Input, Output, Var, Array, On, Sample, Let, If, Else, Repeat, Send}
use Rattle.sx_lex.specs.declared.tokens.Kind.TheVariants.{Emit, Semicolon, Equals, Open, Close, OpenSquare, CloseSquare, OpenBrace, CloseBrace, Minus, Tilde}
use Rattle.sx_lex.specs.declared.tokens.Kind.TheVariants.{Bang}
use Rattle.spec_grammar.specs.Tokens.{Token, token, fits, factor_operator, addend_operator, comparison_operator}
use Rattle.spec_grammar.specs.Grammar as g
use Rattle.spec_grammar.specs.Grammar.{IsExpression, IsStatement, IsBlock, AreStatements, IsDeclaration, AreDeclarations, IsHandler, AreHandlers}
use Rattle.spec_grammar.specs.Machine.{Sign, An_open, A_close, An_open_square, A_close_square, A_semicolon, An_equals, Do_assign, Do_store, Do_choose, Do_send}
use Rattle.spec_grammar.specs.Machine.{Do_emit, Do_declare, Do_index, Do_combine, After, After_let, After_send, After_input, After_output, After_var, After_array}
use Rattle.spec_grammar.specs.Machine.{After_on, After_open, Purpose, For_repeat, For_initial, For_length, Symbol, Want, Say, Unary_of, Operand, Factors, Addends}
use Rattle.spec_grammar.specs.Machine.{Comparison, Index_of, An_expression, A_block, Statements, Otherwise, A_name, A_number, Target_of, Argument_of, Initial_of}
use Rattle.spec_grammar.specs.Machine.{Declarations, Handlers, Value, Of_expression, Of_block, MachineState, is_sign, opens, reduce, apply, choose, when, name_of}
use Rattle.spec_grammar.specs.Machine.{number_of, follow, follow_number, operand, statement, target, argument, initial, handlers, declarations, open_block}
use Rattle.spec_grammar.specs.Machine.{is_square, is_else, step, finish}

abbrev pub sign : Sign → Kind
sign An_open = Open
sign A_close = Close
sign An_open_square = OpenSquare
sign A_close_square = CloseSquare
sign A_semicolon = Semicolon
sign An_equals = Equals

-- what follows the tokens before makes a statement, a declaration or a handler with them

abbrev pub FitsElse : ℕ → List Token → List Token → Type 0
FitsElse d ts r = (a : Bool) (before us : List Token) (e : Expression) (x : Block) → IsExpression g.Whole d before e us → IsBlock d us x ts → (s : Statement) × IsStatement d (token If a ∷ before) s r

abbrev pub FitsTarget : List ℕ → ℕ → List Token → List Token → Type 0
FitsTarget x d ts r = (a : Bool) → (s : Statement) × IsStatement d (token (Name x) a ∷ ts) s r

abbrev pub FitsArgument : List ℕ → ℕ → List Token → List Token → Type 0
FitsArgument x d ts r = (a b : Bool) → (s : Statement) × IsStatement d (token Send a ∷ token (Name x) b ∷ ts) s r

abbrev pub FitsInitial : List ℕ → List Token → List Token → Type 0
FitsInitial x ts r = (a b : Bool) → (y : Decl) × IsDeclaration (token Var a ∷ token (Name x) b ∷ ts) y r

abbrev pub FitsName : After → ℕ → List Token → List Token → Type 0
FitsName After_let d ts r = (a : Bool) → (s : Statement) × IsStatement d (token Let a ∷ ts) s r
FitsName After_send d ts r = (a : Bool) → (s : Statement) × IsStatement d (token Send a ∷ ts) s r
FitsName After_input d ts r = (a : Bool) → (y : Decl) × IsDeclaration (token Input a ∷ ts) y r
FitsName After_output d ts r = (a : Bool) → (y : Decl) × IsDeclaration (token Output a ∷ ts) y r
FitsName After_var d ts r = (a : Bool) → (y : Decl) × IsDeclaration (token Var a ∷ ts) y r
FitsName After_array d ts r = (a : Bool) → (y : Decl) × IsDeclaration (token Array a ∷ ts) y r
FitsName After_on d ts r = (a : Bool) → (h : HandlerTree) × IsHandler d (token On a ∷ ts) h r
FitsName (After_open (Some x)) d ts r = (a b c : Bool) → (h : HandlerTree) × IsHandler d (token On a ∷ token (Name x) b ∷ token Open c ∷ ts) h r
FitsName (After_open None) d ts r = (a b : Bool) → (h : HandlerTree) × IsHandler d (token Sample a ∷ token Open b ∷ ts) h r

abbrev pub FitsNumber : Purpose → ℕ → List Token → List Token → Type 0
FitsNumber For_repeat d ts r = (a : Bool) → (s : Statement) × IsStatement d (token Repeat a ∷ ts) s r
FitsNumber (For_initial x) d ts r = (a b c : Bool) → (y : Decl) × IsDeclaration (token Var a ∷ token (Name x) b ∷ token Equals c ∷ ts) y r
FitsNumber (For_length x) d ts r = (a b c : Bool) → (y : Decl) × IsDeclaration (token Array a ∷ token (Name x) b ∷ token OpenSquare c ∷ ts) y r

-- the tokens are what the stack requires
abbrev pub Fits : List Symbol → List Token → Type 0
Fits [] ts = ts ≡ []
Fits (Want f ∷ st) ts = (c : Bool) × (r : List Token) × (ts ≡ token (sign f) c ∷ r) × Fits st r
Fits (Say a ∷ st) ts = Fits st ts
Fits (Unary_of op ∷ st) ts = Fits st ts
Fits (Operand ∷ st) ts = (e : Expression) × (r : List Token) × IsExpression g.Unary (opens st) ts e r × Fits st r
Fits (Factors n ∷ st) ts = (l : Expression) → (e : Expression) × (r : List Token) × IsExpression (g.Factors n l) (opens st) ts e r × Fits st r
Fits (Addends n ∷ st) ts = (l : Expression) → (e : Expression) × (r : List Token) × IsExpression (g.Addends n l) (opens st) ts e r × Fits st r
Fits (Comparison ∷ st) ts = (l : Expression) (us : List Token) → IsExpression g.Sum (opens st) us l ts → (e : Expression) × (r : List Token) × IsExpression g.Whole (opens st) us e r × Fits st r
Fits (Index_of x ∷ st) ts = (c : Bool) → (e : Expression) × (r : List Token) × IsExpression g.Primary (opens st) (token (Name x) c ∷ ts) e r × Fits st r
Fits (An_expression ∷ st) ts = (e : Expression) × (r : List Token) × IsExpression g.Whole (opens st) ts e r × Fits st r
Fits (A_block ∷ st) ts = (x : Block) × (r : List Token) × IsBlock (opens st) ts x r × Fits st r
Fits (Statements ∷ st) ts = (x : Block) × (r : List Token) × AreStatements (opens st + 1) ts x r × Fits st r
Fits (Otherwise ∷ st) ts = (r : List Token) × FitsElse (opens st) ts r × Fits st r
Fits (A_name w ∷ st) ts = (r : List Token) × FitsName w (opens st) ts r × Fits st r
Fits (A_number w ∷ st) ts = (r : List Token) × FitsNumber w (opens st) ts r × Fits st r
Fits (Target_of x ∷ st) ts = (r : List Token) × FitsTarget x (opens st) ts r × Fits st r
Fits (Argument_of x ∷ st) ts = (r : List Token) × FitsArgument x (opens st) ts r × Fits st r
Fits (Initial_of x ∷ st) ts = (r : List Token) × FitsInitial x ts r × Fits st r
Fits (Declarations ∷ st) ts = (ds : List Decl) × (us : List Token) × (hs : List HandlerTree) × (r : List Token) × AreDeclarations ts ds us × AreHandlers (opens st) us hs r × Fits st r
Fits (Handlers ∷ st) ts = (hs : List HandlerTree) × (r : List Token) × AreHandlers (opens st) ts hs r × Fits st r

back : (ts : List Token) (p s : MachineState) → Some p ≡ Some s → Fits s.0 ts → Fits p.0 ts
back ts p s e f = let q : p ≡ s = cc in subst (λ (s : MachineState). Fits s.0 ts) (sym q) f

back_when : (ts : List Token) (b : Bool) (st : List Symbol) (vs : List Value) (s : MachineState) → when b st vs ≡ Some s → Fits s.0 ts → (b ≡ true) × Fits st ts
back_when ts true st vs s e f = (refl, back ts (st, vs) s e f)
back_when ts false st vs s e f = absurd (cc)

sign_is : (f : Sign) (k : Kind) → is_sign f k ≡ true → k ≡ sign f
sign_is An_open Open e = refl
sign_is A_close Close e = refl
sign_is An_open_square OpenSquare e = refl
sign_is A_close_square CloseSquare e = refl
sign_is A_semicolon Semicolon e = refl
sign_is An_equals Equals e = refl
sign_is _ _ e = absurd (cc)

-- an expression before a sign
expression_sign : {d : ℕ} {ts us r : List Token} {e : Expression} {k : Kind} {c : Bool} → us ≡ token k c ∷ r → IsExpression g.Whole d ts e us → IsExpression g.Whole d ts e (token k c ∷ r)
expression_sign {d = d} {ts = ts} {e = e} h s = subst (λ l. IsExpression g.Whole d ts e l) h s

operand_back : (c : Bool) (st : List Symbol) (vs : List Value) (k : Kind) (s : MachineState) (ts : List Token) → operand (fits c) st vs k ≡ Some s → Fits s.0 ts
    → (e : Expression) × (r : List Token) × IsExpression g.Unary (opens st) (token k c ∷ ts) e r × Fits st r
operand_back c st vs (Number n) s ts e f = (Constant n, ts, g.plain g.number, back ts (st, Of_expression (Constant n) ∷ vs) s e f)
operand_back c st vs (Name x) s ts e f = let w = back ts (Index_of x ∷ st, vs) s e f c in (w.0, w.1, g.plain w.2, w.3)
operand_back c st vs Open s ts e f =
    let w = back_when ts (fits c (opens st)) (An_expression ∷ Want A_close ∷ st) vs s e f in
    let v = w.1 in
    (v.0, v.3.1, g.plain (g.brackets w.0 (expression_sign v.3.2 v.2)), v.3.3)
operand_back c st vs Minus s ts e f =
    let w = back_when ts (fits c (opens st)) (Operand ∷ Unary_of UnOp.Neg ∷ st) vs s e f in
    (Applied UnOp.Neg w.1.0, w.1.1, g.unary refl w.0 w.1.2, w.1.3)
operand_back c st vs Tilde s ts e f =
    let w = back_when ts (fits c (opens st)) (Operand ∷ Unary_of UnOp.Inv ∷ st) vs s e f in
    (Applied UnOp.Inv w.1.0, w.1.1, g.unary refl w.0 w.1.2, w.1.3)
operand_back c st vs Bang s ts e f =
    let w = back_when ts (fits c (opens st)) (Operand ∷ Unary_of UnOp.Not ∷ st) vs s e f in
    (Applied UnOp.Not w.1.0, w.1.1, g.unary refl w.0 w.1.2, w.1.3)
operand_back c st vs _ s ts e f = absurd (cc)

-- an operand and the factors after it are a term, and so on
factors_back : (st : List Symbol) (ts : List Token) → ((e : Expression) × (r : List Token) × IsExpression g.Unary (opens st) ts e r × Fits (Factors 0 ∷ st) r)
    → (e : Expression) × (r : List Token) × IsExpression g.Term (opens st) ts e r × Fits st r
factors_back st ts w = let v = w.3 w.0 in (v.0, v.1, g.term w.2 v.2, v.3)

sum_back : (st : List Symbol) (ts : List Token) → ((e : Expression) × (r : List Token) × IsExpression g.Unary (opens st) ts e r
    × Fits (Factors 0 ∷ Addends 0 ∷ st) r) → (e : Expression) × (r : List Token) × IsExpression g.Sum (opens st) ts e r × Fits st r
sum_back st ts w = let u = factors_back (Addends 0 ∷ st) ts w in let v = u.3 u.0 in (v.0, v.1, g.sum u.2 v.2, v.3)

whole_back : (st : List Symbol) (ts : List Token) → ((e : Expression) × (r : List Token) × IsExpression g.Unary (opens st) ts e r
    × Fits (Factors 0 ∷ Addends 0 ∷ Comparison ∷ st) r) → (e : Expression) × (r : List Token) × IsExpression g.Whole (opens st) ts e r × Fits st r
whole_back st ts w = let u = sum_back (Comparison ∷ st) ts w in u.3 u.0 ts u.2

-- a statement and those after it
statements_back : (st : List Symbol) (ts : List Token) → ((r : List Token) × ((s : Statement) × IsStatement (opens st + 1) ts s r) × Fits (Statements ∷ st) r)
    → (x : Block) × (r : List Token) × AreStatements (opens st + 1) ts x r × Fits st r
statements_back st ts w = let s = w.1 in let more = w.2 in (Then s.0 more.0, more.1, g.statement s.1 more.2, more.3)

statement_back : (c : Bool) (st : List Symbol) (vs : List Value) (k : Kind) (s : MachineState) (ts : List Token) → statement st vs k ≡ Some s → Fits s.0 ts
    → (x : Block) × (r : List Token) × AreStatements (opens st + 1) (token k c ∷ ts) x r × Fits st r
statement_back c st vs CloseBrace s ts e f = (Done, ts, g.no_statement, back ts (st, vs) s e f)
statement_back c st vs Let s ts e f =
    let w = back ts (A_name After_let ∷ Statements ∷ st, vs) s e f in statements_back st (token Let c ∷ ts) (w.0, w.1 c, w.2)
statement_back c st vs (Name x) s ts e f =
    let w = back ts (Target_of x ∷ Statements ∷ st, vs) s e f in statements_back st (token (Name x) c ∷ ts) (w.0, w.1 c, w.2)
statement_back c st vs If s ts e f =
    let w = back ts (An_expression ∷ A_block ∷ Otherwise ∷ Say Do_choose ∷ Statements ∷ st, vs) s e f in
    let b = w.3 in
    let o = b.3 in
    statements_back st (token If c ∷ ts) (o.0, o.1 c ts w.1 w.0 b.0 w.2 b.2, o.2)
statement_back c st vs Repeat s ts e f =
    let w = back ts (A_number For_repeat ∷ Statements ∷ st, vs) s e f in statements_back st (token Repeat c ∷ ts) (w.0, w.1 c, w.2)
statement_back c st vs Send s ts e f =
    let w = back ts (A_name After_send ∷ Statements ∷ st, vs) s e f in statements_back st (token Send c ∷ ts) (w.0, w.1 c, w.2)
statement_back c st vs Emit s ts e f =
    let w = back ts (An_expression ∷ Want A_semicolon ∷ Say Do_emit ∷ Statements ∷ st, vs) s e f in
    let semi = w.3 in
    statements_back st (token Emit c ∷ ts) (semi.1, (Emits w.0, g.emission (expression_sign semi.2 w.2)), semi.3)
statement_back c st vs _ s ts e f = absurd (cc)

target_back : (c : Bool) (x : List ℕ) (st : List Symbol) (vs : List Value) (k : Kind) (s : MachineState) (ts : List Token) → target (fits c) x st vs k ≡ Some s
    → Fits s.0 ts → Fits (Target_of x ∷ st) (token k c ∷ ts)
target_back c x st vs Equals s ts e f =
    let w = back ts (An_expression ∷ Want A_semicolon ∷ Say (Do_assign x) ∷ st, vs) s e f in
    let semi = w.3 in
    (semi.1, (λ a. (Assigns x w.0, g.assignment (expression_sign semi.2 w.2))), semi.3)
target_back c x st vs OpenSquare s ts e f =
    let u = back_when ts (fits c (opens st)) (An_expression ∷ Want A_close_square ∷ Want An_equals ∷ An_expression ∷ Want A_semicolon ∷ Say (Do_store x) ∷ st) vs s e f in
    let w = u.1 in
    let square = w.3 in
    let equals = square.3 in
    let value = equals.3 in
    let semi = value.3 in
    let us = equals.1 in
    let i : IsExpression g.Whole (opens st + 1) ts w.0 (token CloseSquare square.0 ∷ token Equals equals.0 ∷ us) =
    subst (λ l. IsExpression g.Whole (opens st + 1) ts w.0 l) (square.2 ∙ ap (λ l. token CloseSquare square.0 ∷ l) equals.2) w.2 in
    (semi.1, (λ a. (Stores x w.0 value.0, g.element_assignment u.0 i (expression_sign semi.2 value.2))), semi.3)
target_back c x st vs _ s ts e f = absurd (cc)

argument_back : (c : Bool) (x : List ℕ) (st : List Symbol) (vs : List Value) (k : Kind) (s : MachineState) (ts : List Token)
    → argument (fits c) x st vs k ≡ Some s → Fits s.0 ts → Fits (Argument_of x ∷ st) (token k c ∷ ts)
argument_back c x st vs Open s ts e f =
    let u = back_when ts (fits c (opens st)) (An_expression ∷ Want A_close ∷ Want A_semicolon ∷ Say (Do_send x) ∷ st) vs s e f in
    let w = u.1 in
    let close = w.3 in
    let semi = close.3 in
    let r = semi.1 in
    let i : IsExpression g.Whole (opens st + 1) ts w.0 (token Close close.0 ∷ token Semicolon semi.0 ∷ r) =
    subst (λ l. IsExpression g.Whole (opens st + 1) ts w.0 l) (close.2 ∙ ap (λ l. token Close close.0 ∷ l) semi.2) w.2 in
    (r, (λ a b. (Sends x w.0, g.sending u.0 i)), semi.3)
argument_back c x st vs _ s ts e f = absurd (cc)

initial_back : (c : Bool) (x : List ℕ) (st : List Symbol) (vs : List Value) (k : Kind) (s : MachineState) (ts : List Token) → initial x st vs k ≡ Some s
    → Fits s.0 ts → Fits (Initial_of x ∷ st) (token k c ∷ ts)
initial_back c x st vs Semicolon s ts e f = (ts, (λ a b. (Decl.Var x 0, g.variable)), back ts (st, reduce (Do_declare (Decl.Var x 0)) vs) s e f)
initial_back c x st vs Equals s ts e f =
    let w = back ts (A_number (For_initial x) ∷ st, vs) s e f in (w.0, (λ a b. w.1 a b c), w.2)
initial_back c x st vs _ s ts e f = absurd (cc)

handlers_join : (st : List Symbol) (ts : List Token) → ((r : List Token) × ((h : HandlerTree) × IsHandler (opens st) ts h r) × Fits (Handlers ∷ st) r)
    → (hs : List HandlerTree) × (r : List Token) × AreHandlers (opens st) ts hs r × Fits st r
handlers_join st ts w = let h = w.1 in let more = w.2 in (h.0 ∷ more.0, more.1, g.handler h.1 more.2, more.3)

handlers_back : (c : Bool) (st : List Symbol) (vs : List Value) (k : Kind) (s : MachineState) (ts : List Token) → handlers st vs k ≡ Some s → Fits s.0 ts
    → (hs : List HandlerTree) × (r : List Token) × AreHandlers (opens st) (token k c ∷ ts) hs r × Fits st r
handlers_back c st vs On s ts e f =
    let w = back ts (A_name After_on ∷ Handlers ∷ st, vs) s e f in handlers_join st (token On c ∷ ts) (w.0, w.1 c, w.2)
handlers_back c st vs Sample s ts e f =
    let w = back ts (Want An_open ∷ A_name (After_open None) ∷ Handlers ∷ st, vs) s e f in
    let n = w.3 in
    let h = n.1 c w.0 in
    let i : IsHandler (opens st) (token Sample c ∷ ts) h.0 n.0 = subst (λ l. IsHandler (opens st) (token Sample c ∷ l) h.0 n.0) (sym w.2) h.1 in
    handlers_join st (token Sample c ∷ ts) (n.0, (h.0, i), n.2)
handlers_back c st vs _ s ts e f = absurd (cc)

declarations_join : (st : List Symbol) (ts : List Token) → ((r : List Token) × ((y : Decl) × IsDeclaration ts y r) × Fits (Declarations ∷ st) r) → Fits (Declarations ∷ st) ts
declarations_join st ts w = let y = w.1 in let more = w.2 in (y.0 ∷ more.0, more.1, more.2, more.3, g.declaration y.1 more.4, more.5, more.6)

declarations_back : (c : Bool) (st : List Symbol) (vs : List Value) (k : Kind) (s : MachineState) (ts : List Token) → declarations st vs k ≡ Some s
    → Fits s.0 ts → Fits (Declarations ∷ st) (token k c ∷ ts)
declarations_back c st vs Sensor s ts e f =
    let w = back ts (Want A_semicolon ∷ Say (Do_declare (Decl.Device DeviceKind.Sensor)) ∷ Declarations ∷ st, vs) s e f in
    let i : IsDeclaration (token Sensor c ∷ ts) (Decl.Device DeviceKind.Sensor) w.1 = subst (λ l. IsDeclaration (token Sensor c ∷ l) (Decl.Device DeviceKind.Sensor) w.1) (sym w.2) g.sensor in
    declarations_join st (token Sensor c ∷ ts) (w.1, (Decl.Device DeviceKind.Sensor, i), w.3)
declarations_back c st vs Actuator s ts e f =
    let w = back ts (Want A_semicolon ∷ Say (Do_declare (Decl.Device DeviceKind.Actuator)) ∷ Declarations ∷ st, vs) s e f in
    let i : IsDeclaration (token Actuator c ∷ ts) (Decl.Device DeviceKind.Actuator) w.1 =
    subst (λ l. IsDeclaration (token Actuator c ∷ l) (Decl.Device DeviceKind.Actuator) w.1) (sym w.2) g.actuator in
    declarations_join st (token Actuator c ∷ ts) (w.1, (Decl.Device DeviceKind.Actuator, i), w.3)
declarations_back c st vs Input s ts e f =
    let w = back ts (A_name After_input ∷ Declarations ∷ st, vs) s e f in declarations_join st (token Input c ∷ ts) (w.0, w.1 c, w.2)
declarations_back c st vs Output s ts e f =
    let w = back ts (A_name After_output ∷ Declarations ∷ st, vs) s e f in declarations_join st (token Output c ∷ ts) (w.0, w.1 c, w.2)
declarations_back c st vs Var s ts e f =
    let w = back ts (A_name After_var ∷ Declarations ∷ st, vs) s e f in declarations_join st (token Var c ∷ ts) (w.0, w.1 c, w.2)
declarations_back c st vs Array s ts e f =
    let w = back ts (A_name After_array ∷ Declarations ∷ st, vs) s e f in declarations_join st (token Array c ∷ ts) (w.0, w.1 c, w.2)
declarations_back c st vs k s ts e f =
    let w = handlers_back c st vs k s ts e f in ([], token k c ∷ ts, w.0, w.1, g.no_declaration, w.2, w.3)

block_back : (c : Bool) (st : List Symbol) (vs : List Value) (k : Kind) (s : MachineState) (ts : List Token) → open_block (fits c) st vs k ≡ Some s → Fits s.0 ts
    → (x : Block) × (r : List Token) × IsBlock (opens st) (token k c ∷ ts) x r × Fits st r
block_back c st vs OpenBrace s ts e f =
    let w = back_when ts (fits c (opens st)) (Statements ∷ st) (Of_block Done ∷ vs) s e f in
    (w.1.0, w.1.1, g.block w.0 w.1.2, w.1.3)
block_back c st vs _ s ts e f = absurd (cc)

square_is : (k : Kind) → is_square k ≡ true → k ≡ OpenSquare
square_is OpenSquare e = refl
square_is _ e = absurd (cc)

else_is : (k : Kind) → is_else k ≡ true → k ≡ Else
else_is Else e = refl
else_is _ e = absurd (cc)

name_is : (k : Kind) (x : List ℕ) → name_of k ≡ Some x → k ≡ Name x
name_is (Name y) x e = let f : y ≡ x = cc in ap Name f
name_is _ x e = absurd (cc)

number_is : (k : Kind) (n : ℕ) → number_of k ≡ Some n → k ≡ Number n
number_is (Number y) n e = let f : y ≡ n = cc in ap Number f
number_is _ n e = absurd (cc)

name_back : (w : After) (c : Bool) (x : List ℕ) (st : List Symbol) (ts : List Token) → Fits (follow w x st) ts → Fits (A_name w ∷ st) (token (Name x) c ∷ ts)
name_back After_let c x st ts f =
    let v = f.3 in
    let semi = v.3 in
    (semi.1, (λ a. (Defines x v.0, subst (λ l. IsStatement (opens st) (token Let a ∷ token (Name x) c ∷ l) (Defines x v.0) semi.1) (sym f.2) (g.definition (expression_sign semi.2 v.2)))), semi.3)
name_back After_send c x st ts f = (f.0, (λ a. f.1 a c), f.2)
name_back After_input c x st ts f = (f.1, (λ a. (Decl.Input x, subst (λ l. IsDeclaration (token Input a ∷ token (Name x) c ∷ l) (Decl.Input x) f.1) (sym f.2) g.input)), f.3)
name_back After_output c x st ts f = (f.1, (λ a. (Decl.Output x, subst (λ l. IsDeclaration (token Output a ∷ token (Name x) c ∷ l) (Decl.Output x) f.1) (sym f.2) g.output)), f.3)
name_back After_var c x st ts f = (f.0, (λ a. f.1 a c), f.2)
name_back After_array c x st ts f =
    let n = f.3 in
    (n.0, (λ a. (let y = n.1 a c f.0 in (y.0, subst (λ l. IsDeclaration (token Array a ∷ token (Name x) c ∷ l) y.0 n.0) (sym f.2) y.1))), n.2)
name_back After_on c x st ts f =
    let n = f.3 in
    (n.0, (λ a. (let h = n.1 a c f.0 in (h.0, subst (λ l. IsHandler (opens st) (token On a ∷ token (Name x) c ∷ l) h.0 n.0) (sym f.2) h.1))), n.2)
name_back (After_open (Some y)) c x st ts f =
    let w = f.3 in (
      w.1,
      (λ a b o. (
        record { input = Some y; param = x; body = w.0 },
        subst (λ l. IsHandler (opens st) (token On a ∷ token (Name y) b ∷ token Open o ∷ token (Name x) c ∷ l)
            (record { input = Some y; param = x; body = w.0 }) w.1) (sym f.2) (g.on_input w.2),
      )),
      w.3,
    )
name_back (After_open None) c x st ts f =
    let w = f.3 in (
      w.1,
      (λ a o. (
        record { input = None; param = x; body = w.0 },
        subst (λ l. IsHandler (opens st) (token Sample a ∷ token Open o ∷ token (Name x) c ∷ l)
            (record { input = None; param = x; body = w.0 }) w.1) (sym f.2) (g.on_sample w.2),
      )),
      w.3,
    )

number_back : (w : Purpose) (c : Bool) (n : ℕ) (st : List Symbol) (ts : List Token) → Fits (follow_number w n st) ts → Fits (A_number w ∷ st) (token (Number n) c ∷ ts)
number_back For_repeat c n st ts f = (f.1, (λ a. (Repeats n f.0, g.repetition f.2)), f.3)
number_back (For_initial x) c n st ts f =
    (f.1, (λ a b o. (Decl.Var x n, subst (λ l. IsDeclaration (token Var a ∷ token (Name x) b ∷ token Equals o ∷ token (Number n) c ∷ l) (Decl.Var x n) f.1) (sym f.2) g.variable_with)), f.3)
number_back (For_length x) c n st ts f =
    let semi = f.3 in (
      semi.1,
      (λ a b o. (
        Decl.Array x n,
        subst (λ l. IsDeclaration (token Array a ∷ token (Name x) b ∷ token OpenSquare o ∷ token (Number n) c ∷ l) (Decl.Array x n) semi.1)
            (sym (f.2 ∙ ap (λ l. token CloseSquare f.0 ∷ l) semi.2)) g.array,
      )),
      semi.3,
    )

pub step_back : (c : Bool) (st : List Symbol) (vs : List Value) (k : Kind) (s : MachineState) (ts : List Token) → step (fits c) st vs k ≡ Some s → Fits s.0 ts → Fits st (token k c ∷ ts)
step_back c [] vs k s ts e f = absurd (cc)
step_back c (Want w ∷ st) vs k s ts e f =
    let u = back_when ts (is_sign w k) st vs s e f in (c, ts, ap (λ k. token k c ∷ ts) (sign_is w k u.0), u.1)
step_back c (Say a ∷ st) vs k s ts e f = step_back c st (reduce a vs) k s ts e f
step_back c (Unary_of op ∷ st) vs k s ts e f = step_back c st (apply op vs) k s ts e f
step_back c (Operand ∷ st) vs k s ts e f = operand_back c st vs k s ts e f
step_back c (Factors n ∷ st) vs k s ts e f = go (factor_operator k) refl e (λ v e. step_back c st v k s ts e f)
  where
    go : (o : Option BinOp) → factor_operator k ≡ o
        → choose o (step (fits c) st vs k) (λ op. when (fits c n) (Operand ∷ Say (Do_combine op) ∷ Factors (n + 1) ∷ st) vs) ≡ Some s
        → ((v : List Value) → step (fits c) st v k ≡ Some s → Fits st (token k c ∷ ts)) → Fits (Factors n ∷ st) (token k c ∷ ts)
    go None h e again = λ l. (l, token k c ∷ ts, g.no_factor, again vs e)
    go (Some op) h e again =
        let u = back_when ts (fits c n) (Operand ∷ Say (Do_combine op) ∷ Factors (n + 1) ∷ st) vs s e f in
        let w = u.1 in
        λ l. (let v = w.3 (Combined op l w.0) in (v.0, v.1, g.factor h u.0 w.2 v.2, v.3))
step_back c (Addends n ∷ st) vs k s ts e f = go (addend_operator k) refl e (λ v e. step_back c st v k s ts e f)
  where
    go : (o : Option BinOp) → addend_operator k ≡ o
        → choose o (step (fits c) st vs k) (λ op. when (fits c n) (Operand ∷ Factors 0 ∷ Say (Do_combine op) ∷ Addends (n + 1) ∷ st) vs) ≡ Some s
        → ((v : List Value) → step (fits c) st v k ≡ Some s → Fits st (token k c ∷ ts)) → Fits (Addends n ∷ st) (token k c ∷ ts)
    go None h e again = λ l. (l, token k c ∷ ts, g.no_addend, again vs e)
    go (Some op) h e again =
        let u = back_when ts (fits c n) (Operand ∷ Factors 0 ∷ Say (Do_combine op) ∷ Addends (n + 1) ∷ st) vs s e f in
        let w = factors_back (Say (Do_combine op) ∷ Addends (n + 1) ∷ st) ts u.1 in
        λ l. (let v = w.3 (Combined op l w.0) in (v.0, v.1, g.addend h u.0 w.2 v.2, v.3))
step_back c (Comparison ∷ st) vs k s ts e f = go (comparison_operator k) refl e (λ v e. step_back c st v k s ts e f)
  where
    go : (o : Option BinOp) → comparison_operator k ≡ o
        → choose o (step (fits c) st vs k) (λ op. Some (Operand ∷ Factors 0 ∷ Addends 0 ∷ Say (Do_combine op) ∷ st, vs)) ≡ Some s
        → ((v : List Value) → step (fits c) st v k ≡ Some s → Fits st (token k c ∷ ts)) → Fits (Comparison ∷ st) (token k c ∷ ts)
    go None h e again = λ l us t. (l, token k c ∷ ts, g.whole t, again vs e)
    go (Some op) h e again =
        let u = back ts (Operand ∷ Factors 0 ∷ Addends 0 ∷ Say (Do_combine op) ∷ st, vs) s e f in
        let w = sum_back (Say (Do_combine op) ∷ st) ts u in
        λ l us t. (Combined op l w.0, w.1, g.comparison h t w.2, w.3)
step_back c (Index_of x ∷ st) vs k s ts e f = go (is_square k) refl e (λ v e. step_back c st v k s ts e f)
  where
    go : (b : Bool) → is_square k ≡ b → (if b then when (fits c (opens st)) (An_expression ∷ Want A_close_square ∷ Say (Do_index x) ∷ st) vs
        else step (fits c) st (Of_expression (Variable x) ∷ vs) k) ≡ Some s → ((v : List Value) → step (fits c) st v k ≡ Some s → Fits st (token k c ∷ ts))
        → Fits (Index_of x ∷ st) (token k c ∷ ts)
    go false h e again = λ a. (Variable x, token k c ∷ ts, g.name, again (Of_expression (Variable x) ∷ vs) e)
    go true h e again =
        let u = back_when ts (fits c (opens st)) (An_expression ∷ Want A_close_square ∷ Say (Do_index x) ∷ st) vs s e f in
        let v = u.1 in
        λ a. (
          Indexed x v.0,
          v.3.1,
          subst (λ k. IsExpression g.Primary (opens st) (token (Name x) a ∷ token k c ∷ ts) (Indexed x v.0) v.3.1) (sym (square_is k h))
              (g.element u.0 (expression_sign v.3.2 v.2)),
          v.3.3,
        )
step_back c (An_expression ∷ st) vs k s ts e f = whole_back st (token k c ∷ ts) (operand_back c (Factors 0 ∷ Addends 0 ∷ Comparison ∷ st) vs k s ts e f)
step_back c (A_block ∷ st) vs k s ts e f = block_back c st vs k s ts e f
step_back c (Statements ∷ st) vs k s ts e f = statement_back c st vs k s ts e f
step_back c (Otherwise ∷ st) vs k s ts e f = go (is_else k) refl e (λ v e. step_back c st v k s ts e f)
  where
    go : (b : Bool) → is_else k ≡ b → (if b then Some (A_block ∷ st, vs) else step (fits c) st (Of_block Done ∷ vs) k) ≡ Some s
        → ((v : List Value) → step (fits c) st v k ≡ Some s → Fits st (token k c ∷ ts)) → Fits (Otherwise ∷ st) (token k c ∷ ts)
    go false h e again = (token k c ∷ ts, (λ a before us e x w b. (Chooses e x Done, g.if_then w b)), again (Of_block Done ∷ vs) e)
    go true h e again =
        let w = back ts (A_block ∷ st, vs) s e f in
        (w.1, (λ a before us e x t b. (Chooses e x w.0, g.if_else t (subst (λ k. IsBlock (opens st) us x (token k c ∷ ts)) (else_is k h) b) w.2)), w.3)
step_back c (A_name w ∷ st) vs k s ts e f = go (name_of k) refl e
  where
    go : (o : Option (List ℕ)) → name_of k ≡ o → choose {A = List ℕ} {C = Option MachineState} o None (λ x. Some (follow w x st, vs)) ≡ Some s → Fits (A_name w ∷ st) (token k c ∷ ts)
    go None h e = absurd (cc)
    go (Some x) h e = subst (λ k. Fits (A_name w ∷ st) (token k c ∷ ts)) (sym (name_is k x h)) (name_back w c x st ts (back ts (follow w x st, vs) s e f))
step_back c (A_number w ∷ st) vs k s ts e f = go (number_of k) refl e
  where
    go : (o : Option ℕ) → number_of k ≡ o → choose {A = ℕ} {C = Option MachineState} o None (λ n. Some (follow_number w n st, vs)) ≡ Some s → Fits (A_number w ∷ st) (token k c ∷ ts)
    go None h e = absurd (cc)
    go (Some n) h e = subst (λ k. Fits (A_number w ∷ st) (token k c ∷ ts)) (sym (number_is k n h)) (number_back w c n st ts (back ts (follow_number w n st, vs) s e f))
step_back c (Target_of x ∷ st) vs k s ts e f = target_back c x st vs k s ts e f
step_back c (Argument_of x ∷ st) vs k s ts e f = argument_back c x st vs k s ts e f
step_back c (Initial_of x ∷ st) vs k s ts e f = initial_back c x st vs k s ts e f
step_back c (Declarations ∷ st) vs k s ts e f = declarations_back c st vs k s ts e f
step_back c (Handlers ∷ st) vs k s ts e f = handlers_back c st vs k s ts e f

pub finish_back : (st : List Symbol) (vs w : List Value) → finish st vs ≡ Some w → Fits st []
finish_back [] vs w e = refl
finish_back (Say a ∷ st) vs w e = finish_back st (reduce a vs) w e
finish_back (Unary_of op ∷ st) vs w e = finish_back st (apply op vs) w e
finish_back (Factors n ∷ st) vs w e = λ l. (l, [], g.no_factor, finish_back st vs w e)
finish_back (Addends n ∷ st) vs w e = λ l. (l, [], g.no_addend, finish_back st vs w e)
finish_back (Comparison ∷ st) vs w e = λ l us t. (l, [], g.whole t, finish_back st vs w e)
finish_back (Index_of x ∷ st) vs w e = λ a. (Variable x, [], g.name, finish_back st (Of_expression (Variable x) ∷ vs) w e)
finish_back (Otherwise ∷ st) vs w e = ([], (λ a before us e x w b. (Chooses e x Done, g.if_then w b)), finish_back st (Of_block Done ∷ vs) w e)
finish_back (Declarations ∷ st) vs w e = ([], [], [], [], g.no_declaration, g.no_handler, finish_back st vs w e)
finish_back (Handlers ∷ st) vs w e = ([], [], g.no_handler, finish_back st vs w e)
finish_back (Want f ∷ st) vs w e = absurd (cc)
finish_back (Operand ∷ st) vs w e = absurd (cc)
finish_back (An_expression ∷ st) vs w e = absurd (cc)
finish_back (A_block ∷ st) vs w e = absurd (cc)
finish_back (Statements ∷ st) vs w e = absurd (cc)
finish_back (A_name x ∷ st) vs w e = absurd (cc)
finish_back (A_number x ∷ st) vs w e = absurd (cc)
finish_back (Target_of x ∷ st) vs w e = absurd (cc)
finish_back (Argument_of x ∷ st) vs w e = absurd (cc)
finish_back (Initial_of x ∷ st) vs w e = absurd (cc)
