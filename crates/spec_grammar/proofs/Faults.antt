-- The machine's answer is the grammar's, with the place of the fault.
use Rattle.std.proofs.Common.{◌≡◌, ◌⊎◌, inl, inr, ℕ, List, [], ◌∷◌, ◌++◌, Bool, true, false, Option, Some, None, refl, sym, ap, subst, ◌∙◌, append_assoc}
use Rattle.sx_lang.specs.Tree.{Constant, Variable, Chooses, Done, ModuleTree}
use Rattle.sx_lex.specs.declared.tokens.Kind.{Kind}
use Rattle.sx_lex.specs.declared.tokens.Kind.TheVariants.{Number, Name, Semicolon, Equals, Open, Close, OpenSquare, CloseSquare, OpenBrace, CloseBrace}
use Rattle.sx_lex.specs.declared.tokens.Placed.{Placed}
use Rattle.spec_grammar.specs.Tokens.{Token, token, fits, given_tokens, added}
use Rattle.spec_grammar.specs.Grammar as g
use Rattle.spec_grammar.specs.Grammar.{IsExpression, AreHandlers, IsModule, IsFaultAt}
use Rattle.spec_grammar.specs.Laws.{Decided}
use Rattle.spec_grammar.specs.Machine.{After_let, After_send, After_input, After_output, After_var, After_array, After_on, After_open, For_repeat, For_initial}
use Rattle.spec_grammar.specs.Machine.{For_length, Symbol, Want, Say, Unary_of, Operand, Factors, Addends, Comparison, Index_of, An_expression, A_block}
use Rattle.spec_grammar.specs.Machine.{Statements, Otherwise, A_name, A_number, Target_of, Argument_of, Initial_of, Declarations, Handlers, Value, Of_module}
use Rattle.spec_grammar.specs.Machine.{MachineState, choose, step, finish, reads, read, ended, ReadOutcome, Read, Refused, begun, nothing}
use Rattle.spec_grammar.proofs.Sound.{Fits, sign, step_back, finish_back}
use Rattle.spec_grammar.proofs.OneModule.{complete_module}

zero_stands : {d : ℕ} {a : Bool} {r : List Token} → IsExpression g.Whole d (token (Number 0) a ∷ r) (Constant 0) r
zero_stands = g.whole (g.sum (g.term (g.plain g.number) g.no_factor) g.no_addend)

-- whatever is required, some tokens give it
pub some_fits : (st : List Symbol) → (ks : List Kind) × Fits st (added ks)
some_fits [] = ([], refl)
some_fits (Want f ∷ st) = let w = some_fits st in (sign f ∷ w.0, (false, added w.0, refl, w.1))
some_fits (Say a ∷ st) = some_fits st
some_fits (Unary_of op ∷ st) = some_fits st
some_fits (Operand ∷ st) = let w = some_fits st in (Number 0 ∷ w.0, (Constant 0, added w.0, g.plain g.number, w.1))
some_fits (Factors n ∷ st) = let w = some_fits st in (w.0, λ l. (l, added w.0, g.no_factor, w.1))
some_fits (Addends n ∷ st) = let w = some_fits st in (w.0, λ l. (l, added w.0, g.no_addend, w.1))
some_fits (Comparison ∷ st) = let w = some_fits st in (w.0, λ l us t. (l, added w.0, g.whole t, w.1))
some_fits (Index_of x ∷ st) = let w = some_fits st in (w.0, λ c. (Variable x, added w.0, g.name, w.1))
some_fits (An_expression ∷ st) = let w = some_fits st in (Number 0 ∷ w.0, (Constant 0, added w.0, zero_stands, w.1))
some_fits (A_block ∷ st) = let w = some_fits st in (OpenBrace ∷ CloseBrace ∷ w.0, (Done, added w.0, g.block refl g.no_statement, w.1))
some_fits (Statements ∷ st) = let w = some_fits st in (CloseBrace ∷ w.0, (Done, added w.0, g.no_statement, w.1))
some_fits (Otherwise ∷ st) = let w = some_fits st in (w.0, (added w.0, (λ a before us e x t b. (Chooses e x Done, g.if_then t b)), w.1))
some_fits (A_name After_let ∷ st) = let w = some_fits st in (Name [] ∷ Equals ∷ Number 0 ∷ Semicolon ∷ w.0, (added w.0, (λ a. (_, g.definition zero_stands)), w.1))
some_fits (A_name After_send ∷ st) = let w = some_fits st in (Name [] ∷ Open ∷ Number 0 ∷ Close ∷ Semicolon ∷ w.0, (added w.0, (λ a. (_, g.sending refl zero_stands)), w.1))
some_fits (A_name After_input ∷ st) = let w = some_fits st in (Name [] ∷ Semicolon ∷ w.0, (added w.0, (λ a. (_, g.input)), w.1))
some_fits (A_name After_output ∷ st) = let w = some_fits st in (Name [] ∷ Semicolon ∷ w.0, (added w.0, (λ a. (_, g.output)), w.1))
some_fits (A_name After_var ∷ st) = let w = some_fits st in (Name [] ∷ Semicolon ∷ w.0, (added w.0, (λ a. (_, g.variable)), w.1))
some_fits (A_name After_array ∷ st) = let w = some_fits st in (Name [] ∷ OpenSquare ∷ Number 0 ∷ CloseSquare ∷ Semicolon ∷ w.0, (added w.0, (λ a. (_, g.array)), w.1))
some_fits (A_name After_on ∷ st) = let w = some_fits st in (Name [] ∷ Open ∷ Name [] ∷ Close ∷ OpenBrace ∷ CloseBrace ∷ w.0, (added w.0, (λ a. (_, g.on_input (g.block refl g.no_statement))), w.1))
some_fits (A_name (After_open (Some x)) ∷ st) = let w = some_fits st in (Name [] ∷ Close ∷ OpenBrace ∷ CloseBrace ∷ w.0, (added w.0, (λ a b c. (_, g.on_input (g.block refl g.no_statement))), w.1))
some_fits (A_name (After_open None) ∷ st) = let w = some_fits st in (Name [] ∷ Close ∷ OpenBrace ∷ CloseBrace ∷ w.0, (added w.0, (λ a b. (_, g.on_sample (g.block refl g.no_statement))), w.1))
some_fits (A_number For_repeat ∷ st) = let w = some_fits st in (Number 0 ∷ OpenBrace ∷ CloseBrace ∷ w.0, (added w.0, (λ a. (_, g.repetition (g.block refl g.no_statement))), w.1))
some_fits (A_number (For_initial x) ∷ st) = let w = some_fits st in (Number 0 ∷ Semicolon ∷ w.0, (added w.0, (λ a b c. (_, g.variable_with)), w.1))
some_fits (A_number (For_length x) ∷ st) = let w = some_fits st in (Number 0 ∷ CloseSquare ∷ Semicolon ∷ w.0, (added w.0, (λ a b c. (_, g.array)), w.1))
some_fits (Target_of x ∷ st) = let w = some_fits st in (Equals ∷ Number 0 ∷ Semicolon ∷ w.0, (added w.0, (λ a. (_, g.assignment zero_stands)), w.1))
some_fits (Argument_of x ∷ st) = let w = some_fits st in (Open ∷ Number 0 ∷ Close ∷ Semicolon ∷ w.0, (added w.0, (λ a b. (_, g.sending refl zero_stands)), w.1))
some_fits (Initial_of x ∷ st) = let w = some_fits st in (Semicolon ∷ w.0, (added w.0, (λ a b. (_, g.variable)), w.1))
some_fits (Declarations ∷ st) = let w = some_fits st in (w.0, ([], added w.0, [], added w.0, g.no_declaration, g.no_handler, w.1))
some_fits (Handlers ∷ st) = let w = some_fits st in (w.0, ([], added w.0, g.no_handler, w.1))

-- what is read whole is what the stack requires, and is read whole as tokens
whole_back : (ts : List Placed) (st : List Symbol) (vs w : List Value) → read st vs ts ≡ Read w → Fits st (given_tokens ts) × (reads st vs (given_tokens ts) ≡ Some w)
whole_back [] st vs w e = go (finish st vs) refl e
  where
    go : (o : Option (List Value)) → finish st vs ≡ o → ended o ≡ Read w → Fits st [] × (finish st vs ≡ Some w)
    go None h e = absurd (cc)
    go (Some v) h e = let f : finish st vs ≡ Some w = cc in (finish_back st vs w f, f)
whole_back (t ∷ ts) st vs w e = go (step (fits true) st vs t.kind) refl e (λ s e. whole_back ts s.0 s.1 w e)
  where
    go : (o : Option MachineState) → step (fits true) st vs t.kind ≡ o → choose o (Refused (Some t)) (λ s. read s.0 s.1 ts) ≡ Read w
        → ((s : MachineState) → read s.0 s.1 ts ≡ Read w → Fits s.0 (given_tokens ts) × (reads s.0 s.1 (given_tokens ts) ≡ Some w))
        → Fits st (token t.kind true ∷ given_tokens ts) × (choose (step (fits true) st vs t.kind) None (λ s. reads s.0 s.1 (given_tokens ts)) ≡ Some w)
    go None h e again = absurd (cc)
    go (Some s) h e again = let u = again s e in (step_back true st vs t.kind s (given_tokens ts) h u.0, rw h u.1)

-- a token is refused after a prefix that can be continued, and whatever follows it
record Stuck (st : List Symbol) (vs : List Value) (ts : List Placed) (t : Placed) : Type 0 where
  front : List Placed
  behind : List Placed
  split : ts ≡ front ++ t ∷ behind
  more : List Kind
  goes_on : Fits st (given_tokens front ++ added more)
  never : (q : List Token) → reads st vs (given_tokens front ++ token t.kind true ∷ q) ≡ None

refused_back : (ts : List Placed) (st : List Symbol) (vs : List Value) (t : Placed) → read st vs ts ≡ Refused (Some t) → Stuck st vs ts t
refused_back [] st vs t e = go (finish st vs) e
  where
    go : (o : Option (List Value)) → ended o ≡ Refused (Some t) → Stuck st vs [] t
    go None e = absurd (cc)
    go (Some v) e = absurd (cc)
refused_back (u ∷ ts) st vs t e = go (step (fits true) st vs u.kind) refl e (λ s e. refused_back ts s.0 s.1 t e)
  where
    go : (o : Option MachineState) → step (fits true) st vs u.kind ≡ o → choose o (Refused (Some u)) (λ s. read s.0 s.1 ts) ≡ Refused (Some t)
        → ((s : MachineState) → read s.0 s.1 ts ≡ Refused (Some t) → Stuck s.0 s.1 ts t) → Stuck st vs (u ∷ ts) t
    go None h e again =
        let same : u ≡ t = cc in
        let w = some_fits st in
        record {
          front = [];
          behind = ts;
          split = ap (λ u. u ∷ ts) same;
          more = w.0;
          goes_on = w.1;
          never = λ q. (let h' : step (fits true) st vs t.kind ≡ None = subst (λ (u : Placed). step (fits true) st vs u.kind ≡ None) same h in rw h' refl);
        }
    go (Some s) h e again =
        let w = again s e in
        record {
          front = u ∷ w.front;
          behind = w.behind;
          split = ap (λ l. u ∷ l) w.split;
          more = w.more;
          goes_on = step_back true st vs u.kind s (given_tokens w.front ++ added w.more) h w.goes_on;
          never = λ q. rw h (w.never q);
        }

-- the whole text can go on and may not end
record Unended (st : List Symbol) (vs : List Value) (ts : List Placed) : Type 0 where
  more : List Kind
  goes_on : Fits st (given_tokens ts ++ added more)
  never : reads st vs (given_tokens ts) ≡ None

end_back : (ts : List Placed) (st : List Symbol) (vs : List Value) → read st vs ts ≡ Refused None → Unended st vs ts
end_back [] st vs e = go (finish st vs) refl e
  where
    go : (o : Option (List Value)) → finish st vs ≡ o → ended o ≡ Refused None → Unended st vs []
    go None h e = let w = some_fits st in record { more = w.0; goes_on = w.1; never = h }
    go (Some v) h e = absurd (cc)
end_back (u ∷ ts) st vs e = go (step (fits true) st vs u.kind) refl e (λ s e. end_back ts s.0 s.1 e)
  where
    go : (o : Option MachineState) → step (fits true) st vs u.kind ≡ o → choose o (Refused (Some u)) (λ s. read s.0 s.1 ts) ≡ Refused None
        → ((s : MachineState) → read s.0 s.1 ts ≡ Refused None → Unended s.0 s.1 ts) → Unended st vs (u ∷ ts)
    go None h e again = absurd (cc)
    go (Some s) h e again =
        let w = again s e in
        record { more = w.more; goes_on = step_back true st vs u.kind s (given_tokens ts ++ added w.more) h w.goes_on; never = rw h w.never }

pub module_of_fits : (ts : List Token) → Fits begun ts → (m : ModuleTree) × IsModule ts m
module_of_fits ts f =
    let m : ModuleTree = record { decls = f.0; handlers = f.2 } in
    let h : AreHandlers 0 f.1 f.2 [] = subst (λ r. AreHandlers 0 f.1 f.2 r) f.6 f.5 in
    (m, record { middle = f.1; declarations = f.4; handlers = h })

pub given_tokens-append : (a b : List Placed) → given_tokens (a ++ b) ≡ given_tokens a ++ given_tokens b
given_tokens-append [] b = refl
given_tokens-append (t ∷ a) b = ap (λ l. token t.kind true ∷ l) (given_tokens-append a b)

pub read_is_module : (ts : List Placed) (m : ModuleTree) → read begun nothing ts ≡ Read (Of_module m ∷ []) → IsModule (given_tokens ts) m
read_is_module ts m e =
    let w = whole_back ts begun nothing (Of_module m ∷ []) e in
    let n = module_of_fits (given_tokens ts) w.0 in
    let same : Some (Of_module n.0 ∷ []) ≡ Some (Of_module m ∷ []) = sym (complete_module (given_tokens ts) n.0 n.1) ∙ w.1 in
    let eq : n.0 ≡ m = cc in
    subst (λ m. IsModule (given_tokens ts) m) eq n.1

pub refused_is_fault : (ts : List Placed) (t : Option Placed) → read begun nothing ts ≡ Refused t → IsFaultAt ts t
refused_is_fault ts (Some t) e =
    let w = refused_back ts begun nothing t e in
    let n = module_of_fits (given_tokens w.front ++ added w.more) w.goes_on in (
      w.front,
      w.behind,
      w.split,
      (w.more, n.0, n.1),
      λ c. (let e1 : given_tokens (w.front ++ t ∷ []) ++ added c.0 ≡ given_tokens w.front ++ token t.kind true ∷ added c.0 = ap (λ l. l ++ added c.0)
          (given_tokens-append w.front (t ∷ [])) ∙ append_assoc (given_tokens w.front) (token t.kind true ∷ []) (added c.0) in
          let e2 : reads begun nothing (given_tokens w.front ++ token t.kind true ∷ added c.0) ≡ Some (Of_module c.1 ∷ []) = ap (λ l. reads begun nothing l) (sym e1) ∙ complete_module _ c.1 c.2 in
          let e3 : None ≡ Some (Of_module c.1 ∷ []) = sym (w.never (added c.0)) ∙ e2 in cc),
    )
refused_is_fault ts None e =
    let w = end_back ts begun nothing e in
    let n = module_of_fits (given_tokens ts ++ added w.more) w.goes_on in
    ((w.more, n.0, n.1), λ m h. (let e3 : None ≡ Some (Of_module m ∷ []) = sym w.never ∙ complete_module (given_tokens ts) m h in cc))

-- a module's tokens aren't refused
pub refused_no_module : (ts : List Placed) (t : Option Placed) → read begun nothing ts ≡ Refused t → (m : ModuleTree) → IsModule (given_tokens ts) m → ⊥
refused_no_module ts None e m h =
    let n : None ≡ Some (Of_module m ∷ []) = sym (end_back ts begun nothing e).never ∙ complete_module (given_tokens ts) m h in cc
refused_no_module ts (Some t) e m h =
    let s = refused_back ts begun nothing t e in
    let same : given_tokens ts ≡ given_tokens s.front ++ token t.kind true ∷ given_tokens s.behind = ap given_tokens s.split ∙ given_tokens-append s.front (t ∷ s.behind) in
    let n : None ≡ Some (Of_module m ∷ []) = sym (s.never (given_tokens s.behind)) ∙ ap (λ l. reads begun nothing l) (sym same) ∙ complete_module (given_tokens ts) m h in cc

pub decided : Decided
decided ts = go (read begun nothing ts) refl
  where
    go : (o : ReadOutcome) → read begun nothing ts ≡ o → ((m : ModuleTree) × IsModule (given_tokens ts) m) ⊎ ((p : Option Placed) × IsFaultAt ts p)
    go (Read w) e = inl (module_of_fits (given_tokens ts) (whole_back ts begun nothing w e).0)
    go (Refused p) e = inr (p, refused_is_fault ts p e)
