-- A statement of the grammar is read by the machine.
use Rattle.std.proofs.Common.{◌≡◌, ℕ, ◌+◌, List, [], ◌∷◌, true, false, refl, sym, ap, ◌∙◌}
use Rattle.sx_lang.specs.Tree.{Statement, Block, Done, Then}
use Rattle.spec_grammar.specs.Tokens.{Token, token, fits}
use Rattle.spec_grammar.specs.Grammar as grammar
use Rattle.spec_grammar.specs.Grammar.{IsStatement, definition, assignment, element_assignment, if_then, if_else, repetition, sending, emission, IsBlock, block, AreStatements, no_statement, statement}
use Rattle.spec_grammar.specs.Machine.{Symbol, Value, Of_expression, Of_block, Want, Say, An_expression, A_semicolon, A_close, A_close_square, An_equals, A_block}
use Rattle.spec_grammar.specs.Machine.{Otherwise, Statements, Do_define, Do_assign, Do_store, Do_choose, Do_repeat, Do_send, Do_emit, opens, reads, is_else, snoc}
use Rattle.spec_grammar.proofs.Complete.{Ends, complete, said}

abbrev pub NoElse : List Token → Type 0
NoElse [] = Unit {0}
NoElse (token k c ∷ r) = is_else k ≡ false

abbrev pub joined : Block → Block → Block
joined Done b = b
joined (Then s a) b = Then s (joined a b)

joined-snoc : (a : Block) (s : Statement) (b : Block) → joined (snoc a s) b ≡ joined a (Then s b)
joined-snoc Done s b = refl
joined-snoc (Then t a) s b = ap (Then t) (joined-snoc a s b)

joined-done : (a : Block) → joined a Done ≡ a
joined-done Done = refl
joined-done (Then t a) = ap (Then t) (joined-done a)

after_statements : {d : ℕ} {ts r : List Token} {x : Block} → AreStatements d ts x r → NoElse ts
after_statements no_statement = refl
after_statements (statement (definition e) x) = refl
after_statements (statement (assignment e) x) = refl
after_statements (statement (element_assignment h e f) x) = refl
after_statements (statement (if_then e b) x) = refl
after_statements (statement (if_else e b c) x) = refl
after_statements (statement (repetition b) x) = refl
after_statements (statement (sending h e) x) = refl
after_statements (statement (emission e) x) = refl

before_block : {d : ℕ} {ts r : List Token} {x : Block} → IsBlock d ts x r → Ends grammar.Whole ts
before_block (block h s) = (refl, refl, refl, refl)

skip_else : (st : List Symbol) (vs : List Value) (r : List Token) → NoElse r → reads (Otherwise ∷ st) vs r ≡ reads st (Of_block Done ∷ vs) r
skip_else st vs [] q = refl
skip_else st vs (token k c ∷ r) q = rw q refl

mutual
  pub complete_statement : {d : ℕ} {ts r : List Token} {s : Statement} → IsStatement d ts s r → NoElse r → (st : List Symbol) (vs : List Value) (acc : Block) → opens (Statements ∷ st) ≡ d
      → reads (Statements ∷ st) (Of_block acc ∷ vs) ts ≡ reads (Statements ∷ st) (Of_block (snoc acc s) ∷ vs) r
  complete_statement (definition {x = x} {rest = r} {e = e} w) q st vs acc o =
      complete w (refl, refl, refl, refl) (Want A_semicolon ∷ Say (Do_define x) ∷ Statements ∷ st) (Of_block acc ∷ vs) o ∙ said (Do_define x) (Statements ∷ st) (Of_expression e ∷ Of_block acc ∷ vs) r
  complete_statement (assignment {x = x} {rest = r} {e = e} w) q st vs acc o =
      complete w (refl, refl, refl, refl) (Want A_semicolon ∷ Say (Do_assign x) ∷ Statements ∷ st) (Of_block acc ∷ vs) o ∙ said (Do_assign x) (Statements ∷ st) (Of_expression e ∷ Of_block acc ∷ vs) r
  complete_statement (element_assignment {x = x} {b = b} {rest = r} {i = i} {e = e} h v w) q st vs acc o =
      let h' : fits b (opens (Statements ∷ st)) ≡ true = ap (fits b) o ∙ h in
      rw h' (complete v (refl, refl, refl, refl) (Want A_close_square ∷ Want An_equals ∷ An_expression ∷ Want A_semicolon ∷ Say (Do_store x) ∷ Statements ∷ st) (Of_block acc ∷ vs) (ap (λ n. n + 1) o)
      ∙ complete w (refl, refl, refl, refl) (Want A_semicolon ∷ Say (Do_store x) ∷ Statements ∷ st) (Of_expression i ∷ Of_block acc ∷ vs) o
      ∙ said (Do_store x) (Statements ∷ st) (Of_expression e ∷ Of_expression i ∷ Of_block acc ∷ vs) r)
  complete_statement (if_then {rest = r} {e = e} {x = x} w b) q st vs acc o =
      complete w (before_block b) (A_block ∷ Otherwise ∷ Say Do_choose ∷ Statements ∷ st) (Of_block acc ∷ vs) o
      ∙ complete_block b (Otherwise ∷ Say Do_choose ∷ Statements ∷ st) (Of_expression e ∷ Of_block acc ∷ vs) o
      ∙ skip_else (Say Do_choose ∷ Statements ∷ st) (Of_block x ∷ Of_expression e ∷ Of_block acc ∷ vs) r q
      ∙ said Do_choose (Statements ∷ st) (Of_block Done ∷ Of_block x ∷ Of_expression e ∷ Of_block acc ∷ vs) r
  complete_statement (if_else {rest = r} {e = e} {x = x} {y = y} w b c) q st vs acc o =
      complete w (before_block b) (A_block ∷ Otherwise ∷ Say Do_choose ∷ Statements ∷ st) (Of_block acc ∷ vs) o
      ∙ complete_block b (Otherwise ∷ Say Do_choose ∷ Statements ∷ st) (Of_expression e ∷ Of_block acc ∷ vs) o
      ∙ complete_block c (Say Do_choose ∷ Statements ∷ st) (Of_block x ∷ Of_expression e ∷ Of_block acc ∷ vs) o
      ∙ said Do_choose (Statements ∷ st) (Of_block y ∷ Of_block x ∷ Of_expression e ∷ Of_block acc ∷ vs) r
  complete_statement (repetition {n = n} {rest = r} {x = x} b) q st vs acc o =
      complete_block b (Say (Do_repeat n) ∷ Statements ∷ st) (Of_block acc ∷ vs) o ∙ said (Do_repeat n) (Statements ∷ st) (Of_block x ∷ Of_block acc ∷ vs) r
  complete_statement (sending {x = x} {c = c} {rest = r} {e = e} h w) q st vs acc o =
      let h' : fits c (opens (Statements ∷ st)) ≡ true = ap (fits c) o ∙ h in
      rw h' (complete w (refl, refl, refl, refl) (Want A_close ∷ Want A_semicolon ∷ Say (Do_send x) ∷ Statements ∷ st) (Of_block acc ∷ vs) (ap (λ n. n + 1) o)
      ∙ said (Do_send x) (Statements ∷ st) (Of_expression e ∷ Of_block acc ∷ vs) r)
  complete_statement (emission {rest = r} {e = e} w) q st vs acc o =
      complete w (refl, refl, refl, refl) (Want A_semicolon ∷ Say Do_emit ∷ Statements ∷ st) (Of_block acc ∷ vs) o ∙ said Do_emit (Statements ∷ st) (Of_expression e ∷ Of_block acc ∷ vs) r

  pub complete_block : {d : ℕ} {ts r : List Token} {x : Block} → IsBlock d ts x r → (st : List Symbol) (vs : List Value) → opens st ≡ d
      → reads (A_block ∷ st) vs ts ≡ reads st (Of_block x ∷ vs) r
  complete_block (block {a = a} h s) st vs o =
      let h' : fits a (opens st) ≡ true = ap (fits a) o ∙ h in
      rw h' (complete_statements s st vs Done (ap (λ n. n + 1) o))

  pub complete_statements : {d : ℕ} {ts r : List Token} {x : Block} → AreStatements d ts x r → (st : List Symbol) (vs : List Value) (acc : Block) → opens (Statements ∷ st) ≡ d
      → reads (Statements ∷ st) (Of_block acc ∷ vs) ts ≡ reads st (Of_block (joined acc x) ∷ vs) r
  complete_statements (no_statement {rest = r}) st vs acc o = ap (λ b. reads st (Of_block b ∷ vs) r) (sym (joined-done acc))
  complete_statements (statement {rest = r} {s = s} {x = x} w more) st vs acc o =
      complete_statement w (after_statements more) st vs acc o ∙ complete_statements more st vs (snoc acc s) o ∙ ap (λ b. reads st (Of_block b ∷ vs) r) (joined-snoc acc s x)
