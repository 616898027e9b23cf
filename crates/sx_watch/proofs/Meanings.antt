-- A text has exactly one meaning for a deployment.
use Rattle.std.proofs.Common.{◌≡◌, ◌⊎◌, inl, inr, ℕ, List, Option, Result, Ok, Err, refl, sym, ap, subst, ◌∙◌}
use Rattle.sx_lang.specs.Tree.{ModuleTree}
use Rattle.sx_lex.specs.declared.tokens.Place.{Place}
use Rattle.sx_lex.specs.declared.tokens.Placed.{Placed}
use Rattle.sx_lex.specs.Lexed.{Lexed, start}
use Rattle.sx_lex.proofs.Same.{one_reading}
use Rattle.sx_lex.proofs.HasReading.{has_reading}
use Rattle.spec_grammar.specs.Tokens.{given_tokens}
use Rattle.spec_grammar.specs.Grammar.{IsModule, IsFaultAt}
use Rattle.spec_grammar.specs.Text.{place_of}
use Rattle.spec_grammar.specs.Machine.{Refused, begun, nothing, read}
use Rattle.spec_grammar.proofs.OneModule.{one_module}
use Rattle.spec_grammar.proofs.Faults.{decided, refused_no_module}
use Rattle.spec_grammar.proofs.OneFault.{fault_refused}
use Rattle.sx_parse.specs.Parsed.{IsErrorIn}
use Rattle.sx_parse.specs.declared.error.ParseError.{ParseError}
use Rattle.sx_parse.specs.declared.error.ParseError.TheVariants as parse
use Rattle.sx_trace.specs.Names.{NameLists}
use Rattle.sx_mean.specs.Application.{AppTree}
use Rattle.sx_watch.specs.declared.property.Property.{Property}
use Rattle.sx_watch.specs.declared.reading.PropertyError.{PropertyError}
use Rattle.sx_watch.specs.declared.reading.PropertyError.TheVariants.{Fault, OutOfMemory}
use Rattle.sx_watch.specs.declared.reading.PropertyFault.{PropertyFault}
use Rattle.sx_watch.specs.declared.reading.PropertyFault.TheVariants.{Syntax}
use Rattle.sx_watch.specs.Read.{GivesOne, no_module}
use Rattle.sx_watch.specs.Watched.{PropertyTree}
use Rattle.sx_watch.specs.Rewriting.{module_tokens}
use Rattle.sx_watch.specs.Parts.{IsMeant, heads_of}
use Rattle.sx_watch.specs.Text.{IsProperty, judged}
use Rattle.sx_watch.specs.Laws.{OneProperty, SomeProperty}

same_fault : (ts : List Placed) (p q : Option Placed) → IsFaultAt ts p → IsFaultAt ts q → p ≡ q
same_fault ts p q f g =
    let a : read begun nothing ts ≡ Refused p = fault_refused ts p f in
    let b : read begun nothing ts ≡ Refused q = fault_refused ts q g in
    cc

not_both : (ts : List Placed) (p : Option Placed) (m : ModuleTree) → IsFaultAt ts p → IsModule (given_tokens ts) m → ⊥
not_both ts p m f i = refused_no_module ts p (fault_refused ts p f) m i

one_meant : (n : NameLists) (app : AppTree) (ts : List Placed) (end : Place) (a b : Result PropertyTree PropertyFault)
    → IsMeant n app ts end a → IsMeant n app ts end b → a ≡ b
one_meant n app ts end a b (inl x) (inl y) =
    x.2 ∙ ap (judged n app (heads_of ts)) (one_module (given_tokens (module_tokens ts)) x.0 y.0 x.1 y.1) ∙ sym y.2
one_meant n app ts end a b (inl x) (inr y) = absurd (not_both (module_tokens ts) y.0 x.0 y.1 x.1)
one_meant n app ts end a b (inr x) (inl y) = absurd (not_both (module_tokens ts) x.0 y.0 x.1 y.1)
one_meant n app ts end a b (inr x) (inr y) =
    x.2 ∙ ap (λ (p : Option Placed). Err (Syntax (place_of end p))) (same_fault (module_tokens ts) x.0 y.0 x.1 y.1) ∙ sym y.2

pub one_property : OneProperty
one_property n app text a b x y =
    let same = one_reading start x.end y.end text x.tokens y.tokens x.lexed y.lexed in
    one_meant n app y.tokens y.end a b
    (subst (λ (end : Place). IsMeant n app y.tokens end a) same.1 (subst (λ (ts : List Placed). IsMeant n app ts x.end a) same.0 x.meant)) y.meant

some_meant : (n : NameLists) (app : AppTree) (ts : List Placed) (end : Place) → (o : Result PropertyTree PropertyFault) × IsMeant n app ts end o
some_meant n app ts end = go (decided (module_tokens ts))
  where
    go : ((m : ModuleTree) × IsModule (given_tokens (module_tokens ts)) m) ⊎ ((p : Option Placed) × IsFaultAt (module_tokens ts) p)
        → (o : Result PropertyTree PropertyFault) × IsMeant n app ts end o
    go (inl m) = (judged n app (heads_of ts) m.0, inl (m.0, m.1, refl))
    go (inr f) = (Err (Syntax (place_of end f.0)), inr (f.0, f.1, refl))

pub some_property : SomeProperty
some_property n app text =
    let r = has_reading start text in
    let o = some_meant n app r.0 r.1 in
    (o.0, record { tokens = r.0; end = r.1; lexed = r.2; meant = o.1 })

-- ---- what the calls that read a property answer

refused : (n : NameLists) (app : AppTree) (ts : List Placed) (end : Place) (error : ParseError) → IsErrorIn (module_tokens ts) end error
    → GivesOne (Err (no_module error)) (IsMeant n app ts end)
refused n app ts end (parse.Fault f) e = inr (e.fault, e.here, ap (λ (at : Place). Err (Syntax at)) e.place)
refused n app ts end parse.OutOfMemory e = tt

pub refused_as : (n : NameLists) (app : AppTree) (ts list : List Placed) (end : Place) (error : ParseError) (r : PropertyError) → list ≡ module_tokens ts
    → IsErrorIn list end error → r ≡ no_module error → GivesOne (Err r) (IsMeant n app ts end)
refused_as n app ts list end error r same e is =
    subst (λ (r : PropertyError). GivesOne (Err r) (IsMeant n app ts end)) (sym is) (refused n app ts end error (subst (λ (l : List Placed). IsErrorIn l end error) same e))

meant_as : (n : NameLists) (app : AppTree) (text : List ℕ) (ts : List Placed) (end : Place) (r : Result Property PropertyError) → Lexed start text ts end
    → GivesOne r (IsMeant n app ts end) → GivesOne r (IsProperty n app text)
meant_as n app text ts end (Ok p) lexed m = record { tokens = ts; end = end; lexed = lexed; meant = m }
meant_as n app text ts end (Err OutOfMemory) lexed m = tt
meant_as n app text ts end (Err (Fault f)) lexed m = record { tokens = ts; end = end; lexed = lexed; meant = m }

pub meant_of : (n : NameLists) (app : AppTree) (text : List ℕ) (ts list : List Placed) (end : Place) (r : Result Property PropertyError) → list ≡ ts
    → Lexed start text ts end → GivesOne r (IsMeant n app list end) → GivesOne r (IsProperty n app text)
meant_of n app text ts list end r same lexed m =
    meant_as n app text ts end r lexed (subst (λ (l : List Placed). GivesOne r (IsMeant n app l end)) same m)
