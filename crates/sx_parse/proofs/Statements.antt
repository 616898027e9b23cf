-- What one turn of reading a statement does to the machine.
use Rattle.std.proofs.Common.{◌≡◌, ℕ, ◌+◌, ◌<◌, nat_lt, List, [], ◌∷◌, ◌++◌, true, false, Option, refl, sym, ap, ◌∙◌, length}
use Rattle.std.proofs.lemmas.List.{nil_from_length}
use Rattle.sx_lang.specs.Tree.{Expression, Statement, Defines, Assigns, Stores, Chooses, Repeats, Sends, Emits, Block, Done, Then}
use Rattle.sx_lang.specs.View.{statement_of, block_of}
use Rattle.sx_lang.specs.declared.tree.Stmt.{Stmt}
use Rattle.sx_lex.specs.declared.tokens.Kind.TheVariants.{Equals, OpenSquare, Open, OpenBrace, Else, Emit}
use Rattle.sx_lex.specs.declared.tokens.Placed.{Placed}
use Rattle.spec_grammar.specs.Machine.{Do_define, Do_assign, Do_store, Do_choose, Do_repeat, Do_send, Do_emit, Of_expression, Of_block, Want, Say, An_expression}
use Rattle.spec_grammar.specs.Machine.{A_semicolon, A_close, A_close_square, An_equals, A_block, Otherwise, Statements, A_name, After_let, After_send, A_number}
use Rattle.spec_grammar.specs.Machine.{For_repeat, Target_of, Argument_of, opens, read, snoc, is_else}
use Rattle.sx_parse.specs.Wanted.{choice_wanted, element_wanted, value_wanted}
use Rattle.sx_parse.specs.Reading.{ReadsValue, Stops, TakesSign, Named, Numbered, done}
use Rattle.sx_parse.specs.Adding.{AddsStatement, Fails, Closes}
use Rattle.sx_parse.proofs.Expressions.{said, room}

pub defines : (d : ℕ) (x : List ℕ) (ts a b r : List Placed) (e : Expression) → Named ts x a → TakesSign An_equals a b
    → ReadsValue value_wanted d b (Of_expression e) done r → AddsStatement (λ st. A_name After_let ∷ st) d ts (Defines x e) r
defines d x ts a b r e n q v = record {
  adds = λ st vs front o.
      n.named After_let (Statements ∷ st) (Of_block front ∷ vs)
      ∙ q.takes (An_expression ∷ Want A_semicolon ∷ Say (Do_define x) ∷ Statements ∷ st) (Of_block front ∷ vs)
      ∙ v.reads (Say (Do_define x) ∷ Statements ∷ st) (Of_block front ∷ vs) o
      ∙ said (Do_define x) (Statements ∷ st) (Of_expression e ∷ Of_block front ∷ vs) r;
}

pub assigns : (d : ℕ) (x : List ℕ) (ts a r : List Placed) (f : Placed) (e : Expression) → ts ≡ f ∷ a → f.kind ≡ Equals
    → ReadsValue value_wanted d a (Of_expression e) done r → AddsStatement (λ st. Target_of x ∷ st) d ts (Assigns x e) r
assigns d x ts a r f e h k v = record {
  adds = λ st vs front o. rw (h, k) (v.reads (Say (Do_assign x) ∷ Statements ∷ st) (Of_block front ∷ vs) o ∙ said (Do_assign x) (Statements ∷ st) (Of_expression e ∷ Of_block front ∷ vs) r);
}

pub assigns_element : (d : ℕ) (x : List ℕ) (ts a r : List Placed) (f : Placed) (s : Statement) → ts ≡ f ∷ a → f.kind ≡ OpenSquare → d < 48
    → AddsStatement (element_wanted x) d a s r → AddsStatement (λ st. Target_of x ∷ st) d ts s r
assigns_element d x ts a r f s h k l v = record {
  adds = λ st vs front o. (let g : nat_lt (opens st + 1) 48 ≡ true = ap (λ n. nat_lt n 48) o ∙ room d l in rw (h, k, g) (v.adds st vs front o));
}

pub fails_element : (d : ℕ) (x : List ℕ) (ts a : List Placed) (f : Placed) (t : Option Placed) → ts ≡ f ∷ a → f.kind ≡ OpenSquare → d < 48
    → Fails (element_wanted x) d a t → Fails (λ st. Target_of x ∷ st) d ts t
fails_element d x ts a f t h k l v = record {
  fails = λ st vs o. (let g : nat_lt (opens st + 1) 48 ≡ true = ap (λ n. nat_lt n 48) o ∙ room d l in rw (h, k, g) (v.fails st vs o));
}

pub stores : (d : ℕ) (x : List ℕ) (ts a b c r : List Placed) (i e : Expression) → ReadsValue (λ st. An_expression ∷ st) (d + 1) ts (Of_expression i) done a
    → TakesSign A_close_square a b → TakesSign An_equals b c → ReadsValue value_wanted d c (Of_expression e) done r
    → AddsStatement (element_wanted x) d ts (Stores x i e) r
stores d x ts a b c r i e p q s v = record {
  adds = λ st vs front o.
      p.reads (Want A_close_square ∷ Want An_equals ∷ An_expression ∷ Want A_semicolon ∷ Say (Do_store x) ∷ Statements ∷ st) (Of_block front ∷ vs) (ap (λ n. n + 1) o)
      ∙ q.takes (Want An_equals ∷ An_expression ∷ Want A_semicolon ∷ Say (Do_store x) ∷ Statements ∷ st) (Of_expression i ∷ Of_block front ∷ vs)
      ∙ s.takes (An_expression ∷ Want A_semicolon ∷ Say (Do_store x) ∷ Statements ∷ st) (Of_expression i ∷ Of_block front ∷ vs)
      ∙ v.reads (Say (Do_store x) ∷ Statements ∷ st) (Of_expression i ∷ Of_block front ∷ vs) o
      ∙ said (Do_store x) (Statements ∷ st) (Of_expression e ∷ Of_expression i ∷ Of_block front ∷ vs) r;
}

pub sends : (d : ℕ) (x : List ℕ) (ts a r : List Placed) (s : Statement) → Named ts x a → AddsStatement (λ st. Argument_of x ∷ st) d a s r → AddsStatement (λ st. A_name After_send ∷ st) d ts s r
sends d x ts a r s n v = record { adds = λ st vs front o. n.named After_send (Statements ∷ st) (Of_block front ∷ vs) ∙ v.adds st vs front o }

pub fails_sending : (d : ℕ) (x : List ℕ) (ts a : List Placed) (t : Option Placed) → Named ts x a → Fails (λ st. Argument_of x ∷ st) d a t → Fails (λ st. A_name After_send ∷ st) d ts t
fails_sending d x ts a t n v = record { fails = λ st vs o. n.named After_send (Statements ∷ st) vs ∙ v.fails st vs o }

pub argument : (d : ℕ) (x : List ℕ) (ts a b c r : List Placed) (f : Placed) (e : Expression) → ts ≡ f ∷ a
    → f.kind ≡ Open → d < 48 → ReadsValue (λ st. An_expression ∷ st) (d + 1) a (Of_expression e) done b → TakesSign A_close b c → TakesSign A_semicolon c r
    → AddsStatement (λ st. Argument_of x ∷ st) d ts (Sends x e) r
argument d x ts a b c r f e h k l v p q = record {
  adds = λ st vs front o. (let g : nat_lt (opens st + 1) 48 ≡ true = ap (λ n. nat_lt n 48) o ∙ room d l in
      rw (h, k, g) (
      v.reads (Want A_close ∷ Want A_semicolon ∷ Say (Do_send x) ∷ Statements ∷ st) (Of_block front ∷ vs) (ap (λ n. n + 1) o)
      ∙ p.takes (Want A_semicolon ∷ Say (Do_send x) ∷ Statements ∷ st) (Of_expression e ∷ Of_block front ∷ vs)
      ∙ q.takes (Say (Do_send x) ∷ Statements ∷ st) (Of_expression e ∷ Of_block front ∷ vs)
      ∙ said (Do_send x) (Statements ∷ st) (Of_expression e ∷ Of_block front ∷ vs) r));
}

pub emits : (d : ℕ) (ts a r : List Placed) (f : Placed) (e : Expression) → ts ≡ f ∷ a → f.kind ≡ Emit → ReadsValue value_wanted d a (Of_expression e) done r → AddsStatement done d ts (Emits e) r
emits d ts a r f e h k v = record {
  adds = λ st vs front o. rw (h, k) (v.reads (Say Do_emit ∷ Statements ∷ st) (Of_block front ∷ vs) o ∙ said Do_emit (Statements ∷ st) (Of_expression e ∷ Of_block front ∷ vs) r);
}

pub chooses : (d : ℕ) (ts a b r : List Placed) (e : Expression) (x y : Block) (s : Statement) → ReadsValue (λ st. An_expression ∷ st) d ts (Of_expression e)
    done a → ReadsValue (λ st. A_block ∷ st) d a (Of_block x) done b → ReadsValue (λ st. Otherwise ∷ st) d b (Of_block y) done r → s ≡ Chooses e x y
    → AddsStatement choice_wanted d ts s r
chooses d ts a b r e x y s p q v same = rw same (record {
  adds = λ st vs front o.
      p.reads (A_block ∷ Otherwise ∷ Say Do_choose ∷ Statements ∷ st) (Of_block front ∷ vs) o
      ∙ q.reads (Otherwise ∷ Say Do_choose ∷ Statements ∷ st) (Of_expression e ∷ Of_block front ∷ vs) o
      ∙ v.reads (Say Do_choose ∷ Statements ∷ st) (Of_block x ∷ Of_expression e ∷ Of_block front ∷ vs) o
      ∙ said Do_choose (Statements ∷ st) (Of_block y ∷ Of_block x ∷ Of_expression e ∷ Of_block front ∷ vs) r;
})

pub repeats : (d n : ℕ) (ts a r : List Placed) (x : Block) (s : Statement) → Numbered ts n a → ReadsValue (λ st. A_block ∷ st) d a (Of_block x) done r
    → s ≡ Repeats n x → AddsStatement (λ st. A_number For_repeat ∷ st) d ts s r
repeats d n ts a r x s p v same = rw same (record {
  adds = λ st vs front o.
      p.numbered For_repeat (Statements ∷ st) (Of_block front ∷ vs)
      ∙ v.reads (Say (Do_repeat n) ∷ Statements ∷ st) (Of_block front ∷ vs) o
      ∙ said (Do_repeat n) (Statements ∷ st) (Of_block x ∷ Of_block front ∷ vs) r;
})

pub no_else_end : (d : ℕ) (ts : List Placed) → length ts ≡ 0 → ReadsValue (λ st. Otherwise ∷ st) d ts (Of_block Done) done ts
no_else_end d ts h = record { reads = λ st vs o. rw (nil_from_length ts h) refl }

pub no_else : (d : ℕ) (ts a : List Placed) (f : Placed) → ts ≡ f ∷ a → is_else f.kind ≡ false → ReadsValue (λ st. Otherwise ∷ st) d ts (Of_block Done) done ts
no_else d ts a f h k = record { reads = λ st vs o. rw (h, k) refl }

pub with_else : (d : ℕ) (ts a r : List Placed) (f : Placed) (x : Block) → ts ≡ f ∷ a → f.kind ≡ Else → ReadsValue (λ st. A_block ∷ st) d a (Of_block x) done r
    → ReadsValue (λ st. Otherwise ∷ st) d ts (Of_block x) done r
with_else d ts a r f x h k b = record { reads = λ st vs o. rw (h, k) (b.reads st vs o) }

block-push : (ss : List Stmt) (s : Stmt) → block_of (ss ++ s ∷ []) ≡ snoc (block_of ss) (statement_of s)
block-push [] s = refl
block-push (t ∷ ss) s = ap (λ b. Then (statement_of t) b) (block-push ss s)

pub opens_block : (d : ℕ) (ts a : List Placed) (f : Placed) (ss : List Stmt) → ts ≡ f ∷ a → f.kind ≡ OpenBrace → d < 48 → ss ≡ []
    → ReadsValue (λ st. A_block ∷ st) d ts (Of_block (block_of ss)) (λ st. Statements ∷ st) a
opens_block d ts a f ss h k l e = record { reads = λ st vs o. (let g : nat_lt (opens st) 48 ≡ true = ap (λ n. nat_lt n 48) o ∙ room d l in rw (h, k, g, e) refl) }

pub goes_on : (d : ℕ) (ts a r : List Placed) (ss us : List Stmt) (s : Stmt)
    → ReadsValue (λ st. A_block ∷ st) d ts (Of_block (block_of ss)) (λ st. Statements ∷ st) a → AddsStatement done (d + 1) a (statement_of s) r
    → us ≡ ss ++ s ∷ [] → ReadsValue (λ st. A_block ∷ st) d ts (Of_block (block_of us)) (λ st. Statements ∷ st) r
goes_on d ts a r ss us s b w e = record {
  reads = λ st vs o. b.reads st vs o ∙ w.adds st vs (block_of ss) (ap (λ n. n + 1) o)
      ∙ ap (λ l. read (Statements ∷ st) (Of_block l ∷ vs) r) (sym (ap block_of e ∙ block-push ss s));
}

pub ends_block : (d : ℕ) (ts a r : List Placed) (ss : List Stmt) → ReadsValue (λ st. A_block ∷ st) d ts (Of_block (block_of ss)) (λ st. Statements ∷ st) a
    → Closes a r → ReadsValue (λ st. A_block ∷ st) d ts (Of_block (block_of ss)) done r
ends_block d ts a r ss b w = record { reads = λ st vs o. b.reads st vs o ∙ w.closes st (Of_block (block_of ss) ∷ vs) }

pub breaks_block : (d : ℕ) (ts a : List Placed) (ss : List Stmt) (t : Option Placed)
    → ReadsValue (λ st. A_block ∷ st) d ts (Of_block (block_of ss)) (λ st. Statements ∷ st) a → Fails done (d + 1) a t → Stops (λ st. A_block ∷ st) d ts t
breaks_block d ts a ss t b w = record { stops = λ st vs o. b.reads st vs o ∙ w.fails st (Of_block (block_of ss) ∷ vs) (ap (λ n. n + 1) o) }
