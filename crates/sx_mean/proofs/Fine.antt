-- What an accepted module's handlers give code that is made from them.
use Rattle.std.proofs.Common.{◌≡◌, ℕ, ◌≤◌, inl, inr, Bool, true, false, ◌||◌, if◌then◌else◌, List, [], ◌∷◌, Option, Some, None, cond, count_by, refl, ap, subst, arith}
use Rattle.std.specs.List.{find, list_any}
use Rattle.std.proofs.lemmas.List.Sums.{sum_by-cons}
use Rattle.sx_lang.specs.declared.tree.Decl.{Decl}
use Rattle.sx_lang.specs.declared.tree.Decl.TheVariants.{Device, Input, Output, Var, Array}
use Rattle.sx_lang.specs.declared.tree.DeviceKind.TheVariants.{Sensor, Actuator}
use Rattle.sx_lang.specs.Tree.{HandlerTree, ModuleTree}
use Rattle.sx_lang.specs.Words.{BlockHasWords, HandlersHaveWords}
use Rattle.sx_check.specs.Names.{is_actuator, is_device}
use Rattle.sx_check.specs.Rules.{first_broken}
use Rattle.sx_check.specs.Uses.{input_uses}
use Rattle.sx_check.proofs.Keeps.{In}
use Rattle.sx_check.proofs.Accepted.{accepted, fine}
use Rattle.sx_mean.specs.Application.{declared_kind}
use Rattle.sx_mean.specs.React.{handler_at, handler_of_name, input_names, nth}
use Rattle.sx_mean.specs.Variables.{FineBlock}
use Rattle.sx_mean.specs.declared.events.SourceEvent.{SourceEvent}
use Rattle.sx_mean.specs.declared.events.SourceEvent.TheVariants as event
use Rattle.sx_mean.proofs.Variables.{back, fine_block}

-- One of the handlers

found_in : (q : HandlerTree → Bool) (h : HandlerTree) (hs : List HandlerTree) → find q hs ≡ Some h → In h hs
found_in q h [] e = absurd (cc)
found_in q h (x ∷ hs) e = go (q x) e (found_in q h hs)
  where
    go : (b : Bool) → (if b then Some x else find q hs) ≡ Some h → (find q hs ≡ Some h → In h hs) → In h (x ∷ hs)
    go true e more = let same : x ≡ h = cc in inl same
    go false e more = inr (more e)

named_in : (x : Option (List ℕ)) (h : HandlerTree) (hs : List HandlerTree) → handler_of_name x hs ≡ Some h → In h hs
named_in None h hs e = absurd (cc)
named_in (Some x) h hs e = found_in _ h hs e

-- an event's handler is one of the module's
pub handler_in : (m : ModuleTree) (e : SourceEvent) (h : HandlerTree) → handler_at m e ≡ Some h → In h m.handlers
handler_in m (event.Input j v) h e = named_in (nth (input_names m.decls) j) h m.handlers e
handler_in m (event.Sample v) h e = found_in _ h m.handlers e

pub words_in : (h : HandlerTree) (hs : List HandlerTree) → In h hs → HandlersHaveWords hs → BlockHasWords h.body
words_in h [] i w = absurd i
words_in h (x ∷ hs) (inl e) w = subst (λ (h : HandlerTree). BlockHasWords h.body) e w.0
words_in h (x ∷ hs) (inr i) w = words_in h hs i w.1

-- its names are known and its numbers are words, where E is what an actuator that is declared gives
pub fine_handler : (m : ModuleTree) → first_broken m ≡ None → (E : Type 0) (h : HandlerTree) → In h m.handlers → HandlersHaveWords m.handlers
    → (list_any is_actuator m.decls ≡ true → E) → FineBlock m.decls E (h.param ∷ []) h.body
fine_handler m checked E h i w em =
    let a = accepted m checked in
    let f = fine m checked h i in
    fine_block m.decls a.declared_once E h.body (h.param ∷ []) (words_in h m.handlers i w) (back m.decls a.declared_once (input_uses h.input) _ f.proper) (λ e. em (f.emits e))

-- The declared kind: an accepted module declares no device but its first.

one_device : (ds : List Decl) (p : Decl → Bool) → ((d : Decl) → p d ≡ true → is_device d ≡ true) → list_any p ds ≡ true → 1 ≤ count_by is_device ds
one_device [] p k h = absurd (cc)
one_device (d ∷ ds) p k h = go (p d) refl h (one_device ds p k)
  where
    go : (b : Bool) → p d ≡ b → (b || list_any p ds) ≡ true → (list_any p ds ≡ true → 1 ≤ count_by is_device ds) → 1 ≤ count_by is_device (d ∷ ds)
    go true e h more = let c = ap {B = ℕ} (λ b. cond b 1 0) (k d e) in omega (arith, sum_by-cons (λ d. cond (is_device d) 1 0) d ds, c)
    go false e h more = let r = more h in omega (arith, r, sum_by-cons (λ d. cond (is_device d) 1 0) d ds)

actuator_is_device : (d : Decl) → is_actuator d ≡ true → is_device d ≡ true
actuator_is_device (Device k) h = refl
actuator_is_device (Input x) h = absurd (cc)
actuator_is_device (Output x) h = absurd (cc)
actuator_is_device (Var x n) h = absurd (cc)
actuator_is_device (Array x n) h = absurd (cc)

fewer : (d : Decl) (ds : List Decl) → count_by is_device (d ∷ ds) ≤ 1 → count_by is_device ds ≤ 1
fewer d ds c = omega (arith, c, sum_by-cons (λ d. cond (is_device d) 1 0) d ds)

actuator_first : (ds : List Decl) → count_by is_device ds ≤ 1 → list_any is_actuator ds ≡ true → declared_kind ds ≡ Some Actuator
actuator_first [] c h = absurd (cc)
actuator_first (Device Actuator ∷ ds) c h = refl
actuator_first (Device Sensor ∷ ds) c h = let r = one_device ds is_actuator actuator_is_device h in absurd (omega (arith, r, c, sum_by-cons (λ d. cond (is_device d) 1 0) (Device Sensor) ds))
actuator_first (Input y ∷ ds) c h = actuator_first ds (fewer (Input y) ds c) h
actuator_first (Output y ∷ ds) c h = actuator_first ds (fewer (Output y) ds c) h
actuator_first (Var y n ∷ ds) c h = actuator_first ds (fewer (Var y n) ds c) h
actuator_first (Array y n ∷ ds) c h = actuator_first ds (fewer (Array y n) ds c) h

-- an accepted module that declares an actuator has the kind of one
pub drives : (m : ModuleTree) → first_broken m ≡ None → list_any is_actuator m.decls ≡ true → declared_kind m.decls ≡ Some Actuator
drives m checked h = actuator_first m.decls (accepted m checked).one_device h
