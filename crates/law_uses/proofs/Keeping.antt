-- The nodes keep their keys, and their sections the keys that the chain gives.
use Rattle.std.proofs.Common.{◌≡◌, ℕ, zero, suc, ◌+◌, ◌⊎◌, inl, inr, List, [], ◌∷◌, Some, refl, sym, ◌∙◌, ap, subst}
use Rattle.std.specs.Prelude.{slice_get, slice_set}
use Rattle.std.proofs.lemmas.Bool.{cases_eq}
use Rattle.lemmas.proofs.Lists.{get_same}
use Rattle.sx_rules.specs.Placed.{Placed}
use Rattle.sx_rules.proofs.Placing.{starts_placed}
use Rattle.sx_bus.specs.Devices.{powered_on}
use Rattle.spec_machine.specs.State.{State}
use Rattle.spec_machine.specs.Acting.{Act, acted}
use Rattle.spec_machine.proofs.Sections.{acted_placed}
use Rattle.spec_machine.proofs.Stays.{acted_key}
use Rattle.spec_machine.proofs.Keys.{keeps_keys, power_on_has_keys}
use Rattle.spec_run.specs.Setting.{Setting, windows_at}
use Rattle.spec_run.specs.Deployer.{list_at}
use Rattle.spec_run.specs.State.{World, Acted, nodes_from, switched_on}
use Rattle.spec_run.proofs.tie.Lists.{get_other, some_inj}
use Rattle.law_isolation.specs.Happening.{Happening, done}
use Rattle.law_isolation.proofs.Acting.{with_nodes, Still, OnNode, kind}
use Rattle.law_isolation.proofs.Alone.{some_or_none}
use Rattle.law_uses.proofs.Stepping.{NodeKeys}
use Rattle.law_forgery.proofs.Scripts.{at_next}

pub record Kept (set : Setting) (n : ℕ) (s : State) : Type 0 where
  pub placed : Placed s.sections
  pub keys : NodeKeys set n s

abbrev pub AllKept : Setting → World → Type 0
AllKept set w = (n : ℕ) (s : State) → slice_get w.nodes n ≡ Some s → Kept set n s

acted_kept : (set : Setting) (n : ℕ) (act : Act) (s : State) → Kept set n s → Kept set n (acted set.mac act s).state
acted_kept set n act s h = record {
  placed = acted_placed set.mac act s h.placed;
  keys = record { own = acted_key set.mac act s ∙ h.keys.own; sections = keeps_keys set.mac (act ∷ []) s h.placed h.keys.sections };
}

node_kept : (set : Setting) (x : Happening) (w : World) (k : Still (λ ns. done set x (with_nodes w ns))
    ⊎ OnNode set.mac x w (λ ns. done set x (with_nodes w ns))) → AllKept set w → AllKept set (done set x w).world
node_kept set x w (inl k) p = subst (λ (z : Acted). AllKept set z.world) (sym (k.is w.nodes)) p
node_kept set x w (inr k) p = elim (some_or_none (slice_get w.nodes k.node)) [
  | inr e ↦ subst (λ (z : Acted). AllKept set z.world) (sym (k.none w.nodes e)) p
  | inl c ↦
      subst (λ (z : Acted). AllKept set z.world) (sym (k.does w.nodes c.0 c.1)) (λ n b h. elim (cases_eq n k.node) [
        | inl e ↦
            let now : slice_get (slice_set w.nodes k.node (k.effect c.0).state) n ≡ Some (k.effect c.0).state =
            ap (slice_get (slice_set w.nodes k.node (k.effect c.0).state)) e ∙ get_same w.nodes k.node (k.effect c.0).state c.0 c.1 in
            subst (λ (i : ℕ). Kept set i b) (sym e)
            (subst (λ (z : State). Kept set k.node z) (sym (k.leads c.0) ∙ some_inj (k.effect c.0).state b (sym now ∙ h)) (acted_kept set k.node k.act c.0 (p k.node c.0 c.1)))
        | inr ne ↦ p n b (sym (get_other w.nodes k.node n (k.effect c.0).state ne) ∙ h)
      ])
]

pub done_kept : (set : Setting) (x : Happening) (w : World) → AllKept set w → AllKept set (done set x w).world
done_kept set x w p = node_kept set x w (kind set x w) p

-- what a node is at power-on
record Starts (set : Setting) (key : List ℕ) (s : State) : Type 0 where
  placed : Placed s.sections
  own : s.key ≡ key
  sections : Rattle.spec_machine.specs.Frame.HaveKeys set.mac s

started : (set : Setting) (i : ℕ) (keys : List (List ℕ)) (n : ℕ) (s : State) → slice_get (nodes_from set i keys) n ≡ Some s → Starts set (list_at keys n) s
started set i [] n s h = absurd (cc h)
started set i (key ∷ keys) zero s h =
    subst (λ (z : State). Starts set key z) (some_inj _ s h)
    (record { placed = starts_placed; own = refl; sections = power_on_has_keys set.mac key (powered_on (windows_at i set.app.devices set.places)) })
started set i (key ∷ keys) (suc n) s h =
    let more = started set (i + 1) keys n s h in
    record { placed = more.placed; own = more.own ∙ sym (at_next key keys n); sections = more.sections }

pub on_kept : (set : Setting) → AllKept set (switched_on set)
on_kept set n s h =
    let x = started set 0 set.keys n s h in
    record { placed = x.placed; keys = record { own = x.own; sections = x.sections } }
