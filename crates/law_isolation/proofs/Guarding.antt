-- Every script is guarded.
use Rattle.std.proofs.Common.{◌≡◌, ℕ, zero, suc, ◌+◌, ◌≤◌, arith, List, [], ◌∷◌, ◌++◌, map, Some, refl, sym, ◌∙◌, ap, subst, inl, inr}
use Rattle.std.specs.Prelude.{slice_get, slice_set}
use Rattle.sx_trace.specs.declared.items.Item.{Item}
use Rattle.sx_rules.specs.declared.section.Section.{Section}
use Rattle.sx_rules.specs.Access.{Lives}
use Rattle.sx_rules.specs.Placed.{Placed}
use Rattle.sx_rules.proofs.Placing.{starts_placed}
use Rattle.spec_machine.specs.State.{State}
use Rattle.spec_machine.specs.Guard.{Same}
use Rattle.spec_run.specs.Setting.{Setting}
use Rattle.spec_run.specs.State.{World, nodes_from, switched_on}
use Rattle.spec_run.specs.Acts.{then_}
use Rattle.spec_run.proofs.tie.Lists.{some_inj}
use Rattle.law_isolation.specs.Happening.{done}
use Rattle.law_isolation.specs.Script.{Look, look, looks, Script, End, Do, performed, after}
use Rattle.law_isolation.specs.Guarded.{SameBut, AllGuarded}
use Rattle.law_isolation.specs.Laws.{AllForeign, HasKept, ScriptsGuarded, RunsBlind, RunsKeep}
use Rattle.law_isolation.proofs.Alone.{AllPlaced, Blind, leaves_alone, blind_any, node_boots, done_placed}

pub all_guarded : (set : Setting) (script : Script) (w : World) → AllPlaced w → AllGuarded set script w
all_guarded set End w p = tt
all_guarded set (Do x rest) w p =
    (λ n s a here lives foreign. leaves_alone set x w n s a here p lives foreign, all_guarded set (rest (looks (done set x w).world)) (done set x w).world (done_placed set x w p))

placed_from : (set : Setting) (i : ℕ) (keys : List (List ℕ)) (n : ℕ) (a : State) → slice_get (nodes_from set i keys) n ≡ Some a → Placed a.sections
placed_from set i [] n a h = absurd (cc h)
placed_from set i (key ∷ keys) zero a h = subst (λ (z : State). Placed z.sections) (some_inj _ a h) starts_placed
placed_from set i (key ∷ keys) (suc n) a h = placed_from set (i + 1) keys n a h

pub on_placed : (set : Setting) → AllPlaced (switched_on set)
on_placed set n a h = placed_from set 0 set.keys n a h

pub performed_placed : (set : Setting) (script : Script) (w : World) → AllPlaced w → AllPlaced (performed set script w).world
performed_placed set End w p = p
performed_placed set (Do x rest) w p = performed_placed set (rest (looks (done set x w).world)) (done set x w).world (done_placed set x w p)

pub after_placed : (set : Setting) (script : Script) → AllPlaced (after set script)
after_placed set script = performed_placed set script (switched_on set) (on_placed set)

pub scripts_guarded : ScriptsGuarded
scripts_guarded set before script = all_guarded set script (after set before) (after_placed set before)

-- the looks at twin worlds
look_same : (s : Section) (a b : State) → Same s a b → look a ≡ look b
look_same s a b (inr e) = ap look e
look_same s a b (inl h) = subst (λ (z : State). look a ≡ look z) (sym h.1.rest) refl

map_set : (ns : List State) (n : ℕ) (a b : State) → slice_get ns n ≡ Some a → look a ≡ look b → map look (slice_set ns n b) ≡ map look ns
map_set [] n a b h e = refl
map_set (x ∷ ns) zero a b h e = ap (λ (z : Look). z ∷ map look ns) (sym e ∙ ap look (sym (some_inj x a h)))
map_set (x ∷ ns) (suc n) a b h e = ap (λ (z : List Look). look x ∷ z) (map_set ns n a b h e)

looks_same : (n : ℕ) (s : Section) (w v : World) → SameBut n s w v → looks v ≡ looks w
looks_same n s w v b = ap looks b.rest ∙ map_set w.nodes n b.node b.twin b.there (look_same s b.node b.twin b.same)

pub append_same : (a b c d : List Item) → a ≡ b → c ≡ d → (a ++ c) ≡ (b ++ d)
append_same a b c d e f = cc

blind_all : (set : Setting) (script : Script) (n : ℕ) (s : Section) (w v : World) → AllPlaced w → AllForeign set n s script w → SameBut n s w v
    → Blind n s (performed set script w) (performed set script v)
blind_all set End n s w v p f b = (refl, b)
blind_all set (Do x rest) n s w v p f b =
    let one = blind_any set x w n s p f.0 v b in
    let next : rest (looks (done set x v).world) ≡ rest (looks (done set x w).world) = ap rest (looks_same n s (done set x w).world (done set x v).world one.1) in
    let more = blind_all set (rest (looks (done set x w).world)) n s (done set x w).world (done set x v).world (done_placed set x w p) f.1 one.1 in
    subst (λ (z : Script). Blind n s (performed set (Do x rest) w) (then_ (done set x v) (λ u. performed set z (done set x v).world))) (sym next)
    (append_same (done set x w).items (done set x v).items _ _ one.0 more.0, more.1)

pub runs_blind : RunsBlind
runs_blind set before script n s v f b = blind_all set script n s (after set before) v (after_placed set before) f b

-- The boot count never falls.

boots_all : (set : Setting) (script : Script) (w : World) (n : ℕ) (a : State) → slice_get w.nodes n ≡ Some a
    → (c : State) × (slice_get (performed set script w).world.nodes n ≡ Some c) × (a.boot ≤ c.boot)
boots_all set End w n a h = (a, h, omega arith)
boots_all set (Do x rest) w n a h =
    let one = node_boots set x w n a h in
    let more = boots_all set (rest (looks (done set x w).world)) (done set x w).world n one.0 one.1 in
    let low = one.2 in
    let high = more.2 in
    (more.0, more.1, omega (arith, low, high))

keep_all : (set : Setting) (script : Script) (w : World) (n : ℕ) (s : Section) (a : State) → AllPlaced w → slice_get w.nodes n ≡ Some a → Lives a.sections.live s → AllForeign set n s script w
    → HasKept n s a (performed set script w).world
keep_all set End w n s a p h l f = record { node = a; there = h; kept = inl (λ k q. refl, l) }
keep_all set (Do x rest) w n s a p h l f =
    let next = (done set x w).world in
    let one = leaves_alone set x w n s a h p l (f.0 a h l) in
    elim one.kept [
      | inl k ↦
          let more = keep_all set (rest (looks next)) next n s one.left (done_placed set x w p) one.there k.1 f.1 in
          let step = node_boots set x w n a h in
          let same : step.0 ≡ one.left = some_inj step.0 one.left (sym step.1 ∙ one.there) in
          let low : a.boot ≤ one.left.boot = subst (λ (z : State). a.boot ≤ z.boot) same step.2 in
          record {
            node = more.node;
            there = more.there;
            kept = elim more.kept [
              | inl q ↦ inl (λ i e. q.0 i e ∙ k.0 i e, q.1)
              | inr q ↦ inr (omega (arith, low, q))
            ];
          }
      | inr r ↦
          let more = boots_all set (rest (looks next)) next n one.left one.there in
          let e : one.left.boot ≡ a.boot + 1 = ap (λ (z : State). z.boot) r in
          let high = more.2 in
          record { node = more.0; there = more.1; kept = inr (omega (arith, e, high)) }
    ]

pub runs_keep : RunsKeep
runs_keep set before script n s a h l f = keep_all set script (after set before) n s a (after_placed set before) h l f
