-- A text has at most one first fault, and none where it spells a module.
use Rattle.std.proofs.Common.{◌≡◌, List, [], ◌∷◌, ◌++◌, true, Option, Some, None, refl, sym, ap, subst, ◌∙◌, append_assoc}
use Rattle.sx_lang.specs.Tree.{ModuleTree}
use Rattle.sx_lex.specs.declared.tokens.Placed.{Placed}
use Rattle.sx_lex.specs.Lexed.{start}
use Rattle.sx_lex.proofs.Same.{one_reading}
use Rattle.spec_grammar.specs.Tokens.{Token, token, fits, given_tokens, added}
use Rattle.spec_grammar.specs.Grammar.{IsModule, CanGoOn, IsFaultAt}
use Rattle.spec_grammar.specs.Text.{place_of}
use Rattle.spec_grammar.specs.Laws.{OneFault, NoFault}
use Rattle.spec_grammar.specs.Machine.{Symbol, Value, Of_module, MachineState, choose, step, finish, reads, read, ended, Refused, begun, nothing}
use Rattle.spec_grammar.proofs.Sound.{Fits, step_back, finish_back}
use Rattle.spec_grammar.proofs.OneModule.{complete_module}
use Rattle.spec_grammar.proofs.Faults.{some_fits, module_of_fits, given_tokens-append, refused_no_module}

-- the machine after a prefix, if no token of it is refused
abbrev pub after : List Symbol → List Value → List Placed → Option MachineState
after st vs [] = Some (st, vs)
after st vs (t ∷ ts) = choose (step (fits true) st vs t.kind) None (λ s. after s.0 s.1 ts)

passes_front : (front : List Placed) (q : List Token) (st : List Symbol) (vs w : List Value) → reads st vs (given_tokens front ++ q) ≡ Some w → (s : MachineState) × (after st vs front ≡ Some s)
passes_front [] q st vs w e = ((st, vs), refl)
passes_front (t ∷ front) q st vs w e = go (step (fits true) st vs t.kind) refl e (λ s e. passes_front front q s.0 s.1 w e)
  where
    go : (o : Option MachineState) → step (fits true) st vs t.kind ≡ o → choose o None (λ s. reads s.0 s.1 (given_tokens front ++ q)) ≡ Some w
        → ((s : MachineState) → reads s.0 s.1 (given_tokens front ++ q) ≡ Some w → (u : MachineState) × (after s.0 s.1 front ≡ Some u))
        → (u : MachineState) × (choose (step (fits true) st vs t.kind) None (λ s. after s.0 s.1 front) ≡ Some u)
    go None h e again = absurd (cc)
    go (Some s) h e again = let u = again s e in (u.0, rw h u.1)

read_after : (front back : List Placed) (st : List Symbol) (vs : List Value) (u : MachineState) → after st vs front ≡ Some u → read st vs (front ++ back) ≡ read u.0 u.1 back
read_after [] back st vs u e = let q : (st, vs) ≡ u = cc in ap (λ (s : MachineState). read s.0 s.1 back) q
read_after (t ∷ front) back st vs u e = go (step (fits true) st vs t.kind) refl e (λ s e. read_after front back s.0 s.1 u e)
  where
    go : (o : Option MachineState) → step (fits true) st vs t.kind ≡ o → choose o None (λ s. after s.0 s.1 front) ≡ Some u
        → ((s : MachineState) → after s.0 s.1 front ≡ Some u → read s.0 s.1 (front ++ back) ≡ read u.0 u.1 back)
        → choose (step (fits true) st vs t.kind) (Refused (Some t)) (λ s. read s.0 s.1 (front ++ back)) ≡ read u.0 u.1 back
    go None h e again = absurd (cc)
    go (Some s) h e again = rw h (again s e)

fits_after : (front : List Placed) (q : List Token) (st : List Symbol) (vs : List Value) (u : MachineState) → after st vs front ≡ Some u → Fits u.0 q → Fits st (given_tokens front ++ q)
fits_after [] q st vs u e f = let p : (st, vs) ≡ u = cc in subst (λ (s : MachineState). Fits s.0 q) (sym p) f
fits_after (t ∷ front) q st vs u e f = go (step (fits true) st vs t.kind) refl e (λ s e. fits_after front q s.0 s.1 u e f)
  where
    go : (o : Option MachineState) → step (fits true) st vs t.kind ≡ o → choose o None (λ s. after s.0 s.1 front) ≡ Some u
        → ((s : MachineState) → after s.0 s.1 front ≡ Some u → Fits s.0 (given_tokens front ++ q)) → Fits st (token t.kind true ∷ given_tokens front ++ q)
    go None h e again = absurd (cc)
    go (Some s) h e again = step_back true st vs t.kind s (given_tokens front ++ q) h (again s e)

refused_at : (ts front back : List Placed) (t : Placed) → ts ≡ front ++ t ∷ back → CanGoOn front → ¬ CanGoOn (front ++ t ∷ []) → read begun nothing ts ≡ Refused (Some t)
refused_at ts front back t split c never =
    let p = passes_front front (added c.0) begun nothing (Of_module c.1 ∷ []) (complete_module (given_tokens front ++ added c.0) c.1 c.2) in
    let u = p.0 in
    ap (λ l. read begun nothing l) split ∙ read_after front (t ∷ back) begun nothing u p.1 ∙ go u p.1 (step (fits true) u.0 u.1 t.kind) refl
  where
    go : (u : MachineState) → after begun nothing front ≡ Some u → (o : Option MachineState) → step (fits true) u.0 u.1 t.kind ≡ o
        → choose (step (fits true) u.0 u.1 t.kind) (Refused (Some t)) (λ s. read s.0 s.1 back) ≡ Refused (Some t)
    go u a None h = rw h refl
    go u a (Some s) h =
        let w = some_fits s.0 in
        let f = fits_after front (token t.kind true ∷ added w.0) begun nothing u a (step_back true u.0 u.1 t.kind s (added w.0) h w.1) in
        let n = module_of_fits (given_tokens front ++ token t.kind true ∷ added w.0) f in
        let e : given_tokens (front ++ t ∷ []) ++ added w.0 ≡ given_tokens front ++ token t.kind true ∷ added w.0 = ap (λ l. l ++ added w.0)
        (given_tokens-append front (t ∷ [])) ∙ append_assoc (given_tokens front) (token t.kind true ∷ []) (added w.0) in
        absurd (never (w.0, n.0, subst (λ l. IsModule l n.0) (sym e) n.1))

append-none : (ts : List Placed) → ts ++ [] ≡ ts
append-none [] = refl
append-none (t ∷ ts) = ap (λ l. t ∷ l) (append-none ts)

given_tokens-none : (ts : List Placed) → given_tokens ts ++ [] ≡ given_tokens ts
given_tokens-none [] = refl
given_tokens-none (t ∷ ts) = ap (λ l. token t.kind true ∷ l) (given_tokens-none ts)

refused_end : (ts : List Placed) → CanGoOn ts → ((m : ModuleTree) → ¬ IsModule (given_tokens ts) m) → read begun nothing ts ≡ Refused None
refused_end ts c never =
    let p = passes_front ts (added c.0) begun nothing (Of_module c.1 ∷ []) (complete_module (given_tokens ts ++ added c.0) c.1 c.2) in
    let u = p.0 in
    ap (λ l. read begun nothing l) (sym (append-none ts)) ∙ read_after ts [] begun nothing u p.1 ∙ go u p.1 (finish u.0 u.1) refl
  where
    go : (u : MachineState) → after begun nothing ts ≡ Some u → (o : Option (List Value)) → finish u.0 u.1 ≡ o → ended (finish u.0 u.1) ≡ Refused None
    go u a None h = rw h refl
    go u a (Some w) h =
        let n = module_of_fits (given_tokens ts ++ []) (fits_after ts [] begun nothing u a (finish_back u.0 u.1 w h)) in
        absurd (never n.0 (subst (λ l. IsModule l n.0) (given_tokens-none ts) n.1))

pub fault_refused : (ts : List Placed) (p : Option Placed) → IsFaultAt ts p → read begun nothing ts ≡ Refused p
fault_refused ts (Some t) f = refused_at ts f.0 f.1 t f.2 f.3 f.4
fault_refused ts None f = refused_end ts f.0 f.1

pub one_fault : OneFault
one_fault text a b f g =
    let same = one_reading start g.end f.end text g.tokens f.tokens g.lexed f.lexed in
    let r : read begun nothing f.tokens ≡ Refused g.fault = ap (λ ts. read begun nothing ts) (sym same.0) ∙ fault_refused g.tokens g.fault g.here in
    let s : Refused f.fault ≡ Refused g.fault = sym (fault_refused f.tokens f.fault f.here) ∙ r in
    let t : f.fault ≡ g.fault = cc in
    f.place ∙ ap (λ t. place_of f.end t) t ∙ ap (λ e. place_of e g.fault) (sym same.1) ∙ sym g.place

pub no_fault : NoFault
no_fault text m a s f =
    let same : s.tokens ≡ f.tokens = (one_reading start s.end f.end text s.tokens f.tokens s.lexed f.lexed).0 in
    refused_no_module f.tokens f.fault (fault_refused f.tokens f.fault f.here) m (subst (λ ts. IsModule (given_tokens ts) m) same s.stands)
