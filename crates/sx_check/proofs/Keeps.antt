-- A module that breaks no rule breaks none of the ten.
use Rattle.std.proofs.Common.{◌≡◌, ◌⊎◌, inl, inr, Bool, true, false, List, [], ◌∷◌, Some, None, refl, ap, sym, ◌∙◌, if◌then◌else◌}
use Rattle.std.specs.List.{find, list_any}
use Rattle.std.proofs.lemmas.List.Folds.{list_any-append}
use Rattle.std.proofs.lemmas.Bool.{or_parts}
use Rattle.sx_lang.specs.Tree.{HandlerTree, ModuleTree}
use Rattle.sx_check.specs.Rules.{first_broken, breaks}
use Rattle.sx_check.specs.declared.rules.Rule.{Rule}
use Rattle.sx_check.specs.declared.rules.Rule.TheVariants.{Duplicate, Unknown, Kind, Depth, Locals, Repeat, Packets, Cost, Nodes, Cells}
use Rattle.sx_check.specs.Uses.{Use, handler_uses, handlers_uses}

none_here : (p : Rule → Bool) (r : Rule) (rs : List Rule) → find p (r ∷ rs) ≡ None → (p r ≡ false) × (find p rs ≡ None)
none_here p r rs h = go (p r) refl h
  where
    go : (b : Bool) → p r ≡ b → (if b then Some r else find p rs) ≡ None → (p r ≡ false) × (find p rs ≡ None)
    go true e h = absurd (cc)
    go false e h = (e, h)

pub keeps : (m : ModuleTree) → first_broken m ≡ None → (r : Rule) → breaks m r ≡ false
keeps m h =
    let p = breaks m in
    let a = none_here p Duplicate (Unknown ∷ Kind ∷ Depth ∷ Locals ∷ Repeat ∷ Packets ∷ Cost ∷ Nodes ∷ Cells ∷ []) h in
    let b = none_here p Unknown (Kind ∷ Depth ∷ Locals ∷ Repeat ∷ Packets ∷ Cost ∷ Nodes ∷ Cells ∷ []) a.1 in
    let c = none_here p Kind (Depth ∷ Locals ∷ Repeat ∷ Packets ∷ Cost ∷ Nodes ∷ Cells ∷ []) b.1 in
    let d = none_here p Depth (Locals ∷ Repeat ∷ Packets ∷ Cost ∷ Nodes ∷ Cells ∷ []) c.1 in
    let e = none_here p Locals (Repeat ∷ Packets ∷ Cost ∷ Nodes ∷ Cells ∷ []) d.1 in
    let f = none_here p Repeat (Packets ∷ Cost ∷ Nodes ∷ Cells ∷ []) e.1 in
    let g = none_here p Packets (Cost ∷ Nodes ∷ Cells ∷ []) f.1 in
    let i = none_here p Cost (Nodes ∷ Cells ∷ []) g.1 in
    let j = none_here p Nodes (Cells ∷ []) i.1 in
    let k = none_here p Cells ([]) j.1 in
    λ r. elim r as (λ r. breaks m r ≡ false) [ Duplicate ↦ a.0 | Unknown ↦ b.0 | Kind ↦ c.0 | Depth ↦ d.0 | Locals ↦ e.0 | Repeat ↦ f.0 | Packets ↦ g.0 | Cost ↦ i.0 | Nodes ↦ j.0 | Cells ↦ k.0 ]

-- the handler is one of these
abbrev pub In : HandlerTree → List HandlerTree → Type 0
In h [] = ⊥
In h (x ∷ hs) = (x ≡ h) ⊎ In h hs

-- what none of the handlers is, the handler isn't
pub none_is : (P : HandlerTree → Bool) (h : HandlerTree) (hs : List HandlerTree) → In h hs → list_any P hs ≡ false → P h ≡ false
none_is P h [] i n = absurd i
none_is P h (x ∷ hs) (inl e) n = ap P (sym e) ∙ (or_parts _ _ n).0
none_is P h (x ∷ hs) (inr i) n = none_is P h hs i (or_parts _ _ n).1

-- what no use of the handlers is, no use of the handler is
pub uses_in : (F : Use → Bool) (h : HandlerTree) (hs : List HandlerTree) → In h hs → list_any F (handlers_uses hs) ≡ false → list_any F (handler_uses h) ≡ false
uses_in F h [] i n = absurd i
uses_in F h (x ∷ hs) (inl e) n = ap (λ h. list_any F (handler_uses h)) (sym e) ∙ (or_parts _ _ (sym (list_any-append F (handler_uses x) (handlers_uses hs)) ∙ n)).0
uses_in F h (x ∷ hs) (inr i) n = uses_in F h hs i (or_parts _ _ (sym (list_any-append F (handler_uses x) (handlers_uses hs)) ∙ n)).1
