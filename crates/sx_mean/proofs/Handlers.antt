-- The number of an event's handler.
use Rattle.std.proofs.Common.{◌≡◌, ℕ, suc, ◌+◌, Bool, true, false, cond, List, [], ◌∷◌, Option, Some, None, refl, ap, subst, arith}
use Rattle.std.specs.Prelude.{slice_get}
use Rattle.std.specs.List.{find, position_from}
use Rattle.sx_lang.specs.Tree.{HandlerTree, ModuleTree}
use Rattle.sx_check.specs.Names.{same_input}
use Rattle.sx_mean.specs.declared.events.SourceEvent.{SourceEvent}
use Rattle.sx_mean.specs.declared.events.SourceEvent.TheVariants as event
use Rattle.sx_mean.specs.React.{handler_at, handler_of_name, input_names, nth}
use Rattle.sx_mean.specs.Handlers.{IsNumbered, number_of, number_of_name}

-- what is found, by its place from j on
abbrev IsFound : List HandlerTree → ℕ → Option HandlerTree → Option ℕ → Type 0
IsFound hs j found None = found ≡ None
IsFound hs j found (Some k) = (h : HandlerTree) × (found ≡ Some h) × (i : ℕ) × (k ≡ j + i) × (slice_get hs i ≡ Some h)

next : (x : HandlerTree) (hs : List HandlerTree) (j : ℕ) (found : Option HandlerTree) (p : Option ℕ) → IsFound hs (j + 1) found p → IsFound (x ∷ hs) j found p
next x hs j found None r = r
next x hs j found (Some k) r = let q = r.3 in (r.0, r.1, suc r.2, omega (arith, q), r.4)

found_at : (t : HandlerTree → Bool) (hs : List HandlerTree) (j : ℕ) → IsFound hs j (find t hs) (position_from t j hs)
found_at t [] j = refl
found_at t (x ∷ hs) j = go (t x) (found_at t hs (j + 1))
  where
    go : (b : Bool) → IsFound hs (j + 1) (find t hs) (position_from t (j + 1) hs) → IsFound (x ∷ hs) j (cond b (Some x) (find t hs)) (cond b (Some j) (position_from t (j + 1) hs))
    go true r = (x, refl, 0, omega arith, refl)
    go false r = next x hs j _ _ r

numbered_first : (m : ModuleTree) (e : SourceEvent) (found : Option HandlerTree) (p : Option ℕ) → IsFound m.handlers 0 found p → handler_at m e ≡ found → IsNumbered m e p
numbered_first m e found None r at = subst (λ f. handler_at m e ≡ f) r at
numbered_first m e found (Some k) r at =
    let q = r.3 in
    (r.0, subst (λ f. handler_at m e ≡ f) r.1 at, subst (λ (i : ℕ). slice_get m.handlers i ≡ Some r.0) (omega (arith, q)) r.4)

-- the handler of an event, by its number
pub handlers_numbered : (m : ModuleTree) (e : SourceEvent) → IsNumbered m e (number_of m e)
handlers_numbered m (event.Input j v) = go (nth (input_names m.decls) j) refl
  where
    go : (x : Option (List ℕ)) → nth (input_names m.decls) j ≡ x → IsNumbered m (event.Input j v) (number_of_name m.handlers x)
    go None e = ap (λ x. handler_of_name x m.handlers) e
    go (Some x) e = numbered_first m (event.Input j v) _ _ (found_at (λ h. same_input (Some x) h.input) m.handlers 0) (ap (λ x. handler_of_name x m.handlers) e)
handlers_numbered m (event.Sample v) = numbered_first m (event.Sample v) _ _ (found_at (λ h. same_input None h.input) m.handlers 0) refl

pub number_handler : (m : ModuleTree) (e : SourceEvent) (k : ℕ) → number_of m e ≡ Some k → (h : HandlerTree) × (handler_at m e ≡ Some h) × (slice_get m.handlers k ≡ Some h)
number_handler m e k n = subst (IsNumbered m e) n (handlers_numbered m e)

pub none_at : (m : ModuleTree) (e : SourceEvent) → number_of m e ≡ None → handler_at m e ≡ None
none_at m e n = subst (IsNumbered m e) n (handlers_numbered m e)
