-- What one turn of reading the handlers does to the machine.
use Rattle.std.proofs.Common.{◌≡◌, ℕ, List, [], ◌∷◌, ◌++◌, Option, Some, None, length, refl, ap, ◌∙◌}
use Rattle.std.specs.Prelude.{map}
use Rattle.std.proofs.lemmas.List.{nil_from_length}
use Rattle.sx_lang.specs.Tree.{Block, HandlerTree}
use Rattle.sx_lang.specs.View.{handler_of}
use Rattle.sx_lang.specs.declared.tree.Handler.{Handler}
use Rattle.sx_lex.specs.declared.tokens.Kind.TheVariants.{On, Sample}
use Rattle.sx_lex.specs.declared.tokens.Placed.{Placed}
use Rattle.spec_grammar.specs.Machine.{Of_block, Say, An_open, A_close, A_block, A_name, After_on, After_open, Do_handle, Handlers}
use Rattle.sx_parse.specs.Wanted.{handlers_wanted, parameter_wanted}
use Rattle.sx_parse.specs.Reading.{ReadsValue, Stops, TakesSign, Named, done}
use Rattle.sx_parse.specs.Declaring.{Handles, NoHandler, HandlersEnd, HandlersBreak, holding}
use Rattle.sx_parse.proofs.Expressions.{said}

map-push : (hs : List Handler) (h : Handler) → map handler_of (hs ++ h ∷ []) ≡ map handler_of hs ++ handler_of h ∷ []
map-push [] h = refl
map-push (g ∷ hs) h = ap (λ l. handler_of g ∷ l) (map-push hs h)

pub reads : (i : Option (List ℕ)) (v : List ℕ) (ts a b c r : List Placed) (body : Block) (hs gs : List Handler) (h : Handler) → TakesSign An_open ts a
    → Named a v b → TakesSign A_close b c → ReadsValue (λ st. A_block ∷ st) 0 c (Of_block body) done r
    → gs ≡ hs ++ h ∷ [] → handler_of h ≡ record { input = i; param = v; body = body } → Handles (parameter_wanted i) (map handler_of hs) ts (map handler_of gs) r
reads i v ts a b c r body hs gs h p n q s e same = rw (e, map-push hs h, same) (record {
  handles = λ ds.
      p.takes (A_name (After_open i) ∷ Handlers ∷ []) (holding ds (map handler_of hs))
      ∙ n.named (After_open i) (Handlers ∷ []) (holding ds (map handler_of hs))
      ∙ q.takes (A_block ∷ Say (Do_handle i v) ∷ Handlers ∷ []) (holding ds (map handler_of hs))
      ∙ s.reads (Say (Do_handle i v) ∷ Handlers ∷ []) (holding ds (map handler_of hs)) refl
      ∙ said (Do_handle i v) (Handlers ∷ []) (Of_block body ∷ holding ds (map handler_of hs)) r;
})

pub on_input : (x : List ℕ) (ts a b r : List Placed) (f : Placed) (hs gs : List HandlerTree) → ts ≡ f ∷ a → f.kind ≡ On → Named a x b
    → Handles (parameter_wanted (Some x)) hs b gs r → Handles done hs ts gs r
on_input x ts a b r f hs gs h k n q = record { handles = λ ds. rw (h, k) (n.named After_on (Handlers ∷ []) (holding ds hs) ∙ q.handles ds) }

pub on_sample : (ts a r : List Placed) (f : Placed) (hs gs : List HandlerTree) → ts ≡ f ∷ a → f.kind ≡ Sample → Handles (parameter_wanted None) hs a gs r → Handles done hs ts gs r
on_sample ts a r f hs gs h k q = record { handles = λ ds. rw (h, k) (q.handles ds) }

pub no_handler : (ts : List Placed) (hs gs : List Handler) → length ts ≡ 0 → gs ≡ hs → NoHandler ts hs gs
no_handler ts hs gs h e = record { none = nil_from_length ts h; same = e }

pub begins : (ts : List Placed) (hs : List Handler) → hs ≡ [] → Handles done [] ts (map handler_of hs) ts
begins ts hs e = rw e (record { handles = λ ds. refl })

pub goes_on : (ts a r : List Placed) (hs gs : List HandlerTree) → Handles done [] ts hs a → Handles done hs a gs r → Handles done [] ts gs r
goes_on ts a r hs gs p q = record { handles = λ ds. p.handles ds ∙ q.handles ds }

pub ends : (ts a : List Placed) (hs gs : List Handler) → Handles done [] ts (map handler_of hs) a → NoHandler a hs gs → HandlersEnd ts (map handler_of gs)
ends ts a hs gs p q = rw q.same (record { ends = λ ds. p.handles ds ∙ rw q.none refl })

pub breaks : (ts a : List Placed) (hs : List HandlerTree) (t : Option Placed) → Handles done [] ts hs a → Stops handlers_wanted 0 a t → HandlersBreak ts t
breaks ts a hs t p q = record { breaks = λ ds. p.handles ds ∙ q.stops [] (holding ds hs) refl }
