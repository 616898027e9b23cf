-- What reading the declarations and the handlers does to the machine of the grammar.
use Rattle.std.specs.Prelude.{◌≡◌, List, [], ◌∷◌, Option, Result, MatchOption, MatchResult, map}
use Rattle.sx_lang.specs.Tree.{HandlerTree}
use Rattle.sx_lang.specs.View.{handler_of, module_of}
use Rattle.sx_lang.specs.declared.tree.Decl.{Decl}
use Rattle.sx_lang.specs.declared.tree.Handler.{Handler}
use Rattle.sx_lang.specs.declared.tree.Module.{Module}
use Rattle.sx_lex.specs.declared.tokens.Placed.{Placed}
use Rattle.spec_grammar.specs.Machine.{Symbol, Value, read, ReadOutcome, Read, Refused, Of_module}
use Rattle.spec_grammar.specs.Machine.{Declarations, Handlers, begun, nothing}
use Rattle.sx_parse.specs.Reading.{StopsAs, done}
use Rattle.sx_parse.specs.Wanted.{declarations_wanted, handlers_wanted}
use Rattle.sx_parse.specs.declared.stop.Stop.{Stop}
use Rattle.sx_parse.specs.declared.stop.Stop.TheVariants.{Fault, Memory}

-- the values while a module is read: its declarations and handlers so far
abbrev pub holding : List Decl → List HandlerTree → List Value
holding ds hs = Of_module (record { decls = ds; handlers = hs }) ∷ []

-- what is required is read before rest, and the declarations ds become us; then `to` is required
pub record Declares (want : List Symbol → List Symbol) (ds : List Decl) (ts : List Placed)
    (us : List Decl) (to : List Symbol → List Symbol) (rest : List Placed) : Type 0 where
  pub declares : (st : List Symbol) → read (want st) (holding ds []) ts
      ≡ read (to st) (holding us []) rest

-- what was read makes these declarations of those before, in front of the rest, or reading stops as
-- it must
abbrev pub DeclaresOr : {A : Type 0} → Result A Stop → (List Symbol → List Symbol) → List Decl
    → List Placed → List Decl → (A → List Placed) → Type 0
DeclaresOr result want ds ts us rest =
    MatchResult result (λ found. Declares want ds ts us done (rest found))
    (λ e. StopsAs want 0 ts e)

-- there is no declaration before these tokens
pub record Passes (ds : List Decl) (ts : List Placed) (us : List Decl) : Type 0 where
  pub passes : (st : List Symbol) (vs : List Value)
      → read (Declarations ∷ st) vs ts ≡ read (Handlers ∷ st) vs ts
  pub same : us ≡ ds

-- the declaration in front of these tokens was read, or there is none, or reading stops as it must
abbrev pub DeclaresNext : {A : Type 0} → Option (Result A Stop) → List Decl → List Placed
    → List Decl → (A → List Placed) → Type 0
DeclaresNext next ds ts us rest =
    MatchOption next (Passes ds ts us) (λ result.
    MatchResult result
    (λ found. Declares declarations_wanted ds ts us declarations_wanted (rest found))
    (λ e. StopsAs declarations_wanted 0 ts e))

-- from the module's first token to these declarations, what is required next being a declaration or
-- a handler
pub record Declared (ts : List Placed) (ds : List Decl) (next : Symbol) (rest : List Placed) : Type
    0 where
  pub declared : read begun nothing ts ≡ read (next ∷ []) (holding ds []) rest

-- whatever was declared, what is required before the handlers is read before rest, and the handlers
-- hs become gs
pub record Handles (want : List Symbol → List Symbol) (hs : List HandlerTree) (ts : List Placed)
    (gs : List HandlerTree) (rest : List Placed) : Type 0 where
  pub handles : (ds : List Decl) → read (want (Handlers ∷ [])) (holding ds hs) ts
      ≡ read (Handlers ∷ []) (holding ds gs) rest

-- what was read makes these handlers of those before, in front of the rest, or reading stops as it
-- must
abbrev pub HandlesOr : {A : Type 0} → Result A Stop → (List Symbol → List Symbol) → List Handler
    → List Placed → List Handler → (A → List Placed) → Type 0
HandlesOr result want hs ts gs rest =
    MatchResult result (λ found. Handles want (map handler_of hs) ts (map handler_of gs)
    (rest found)) (λ e. StopsAs want 0 ts e)

-- no handler is left, and none was added
pub record NoHandler (ts : List Placed) (hs gs : List Handler) : Type 0 where
  pub none : ts ≡ []
  pub same : gs ≡ hs

-- the handler in front of these tokens was read, or there is none, or reading stops as it must
abbrev pub HandlesNext : {A : Type 0} → Result (Option A) Stop → List Handler → List Placed
    → List Handler → (A → List Placed) → Type 0
HandlesNext result hs ts gs rest =
    MatchResult result
    (λ next. MatchOption next (NoHandler ts hs gs)
    (λ found. Handles done (map handler_of hs) ts (map handler_of gs) (rest found)))
    (λ e. StopsAs handlers_wanted 0 ts e)

-- the handlers to the text's end
pub record HandlersEnd (ts : List Placed) (hs : List HandlerTree) : Type 0 where
  pub ends : (ds : List Decl) → read (Handlers ∷ []) (holding ds []) ts ≡ Read (holding ds hs)

-- the grammar refuses the tokens at this one, where handlers are required
pub record HandlersBreak (ts : List Placed) (t : Option Placed) : Type 0 where
  pub breaks : (ds : List Decl) → read (Handlers ∷ []) (holding ds []) ts ≡ Refused t

-- a call stops where the grammar does, or since memory ran out
abbrev pub HandlersBreakAs : List Placed → Stop → Type 0
HandlersBreakAs ts (Fault t) = HandlersBreak ts t
HandlersBreakAs ts Memory = Unit {0}

-- the machine's answer to a whole text
pub record AnswersText (ts : List Placed) (o : ReadOutcome) : Type 0 where
  pub answers : read begun nothing ts ≡ o

-- the tokens are this module
abbrev pub ReachesModule : List Placed → Module → Type 0
ReachesModule ts m = AnswersText ts (Read (Of_module (module_of m) ∷ []))

-- a call stops at the token that the grammar refuses, or since memory ran out
abbrev pub RefusesText : List Placed → Stop → Type 0
RefusesText ts (Fault t) = AnswersText ts (Refused t)
RefusesText ts Memory = Unit {0}
