-- A module takes the set-key packets of its ends, one by one.
use Rattle.std.proofs.Common.{◌≡◌, ℕ, suc, ◌+◌, ◌<◌, inl, inr, ◌==◌, Bool, true, false, if◌then◌else◌, List, [], ◌∷◌, ◌++◌, length, map, Option, Some, refl, sym, ◌∙◌, ap, subst, arith}
use Rattle.std.specs.Prelude.{slice_get}
use Rattle.std.proofs.lemmas.Bool.{and_from, and_parts, eq-eqb, eqb-true, false_from_ne_true}
use Rattle.sx_rules.specs.declared.section.Section.{Section}
use Rattle.sx_mean.specs.declared.events.End.{End}
use Rattle.sx_mean.specs.Application.{PartTree}
use Rattle.sx_mean.specs.Ends.{ends_of}
use Rattle.spec_machine.specs.State.{State}
use Rattle.spec_invocation.specs.Entries.{end_found, end_is}
use Rattle.sx_mean.specs.Ends.{same_side}
use Rattle.sx_mean.proofs.Ends.{same_side-refl}
use Rattle.spec_invocation.specs.ModuleState.{EndState, ModuleState, closed_end, end_of, initial_ends, with_end}
use Rattle.spec_run.specs.Setting.{Site, Setting}
use Rattle.spec_run.specs.Deployer.{set_key_entry}
use Rattle.spec_run.specs.Ledger.{is_made}
use Rattle.spec_run.specs.State.{World}
use Rattle.spec_run.proofs.tie.Ends.{has_link, same_side-same}
use Rattle.lemmas.proofs.Lists.{get_same}
use Rattle.spec_run.proofs.tie.Lists.{get_within}
use Rattle.spec_run.proofs.steps.Stretch.{set_same}
use Rattle.spec_run.proofs.tie.Tied.{HasEnd}
use Rattle.spec_run.proofs.tie.Unique.{Distinct, distinct}
use Rattle.law_setup.proofs.forms.Served.{IsServed, Serves}
use Rattle.law_setup.proofs.forms.Acting.{first_end, first_grant}
use Rattle.law_setup.proofs.forms.Attesting.{HaveKeys, KeysTaken}
use Rattle.law_setup.proofs.Answering.{append_more}
use Rattle.law_setup.proofs.KeyTaking.{key_taken, serves_then}
use Rattle.law_setup.proofs.Runs.{moves_then}

-- An end at its place.

end_at : (xs ys : List EndState) (x : EndState) → end_of (xs ++ x ∷ ys) (length xs) ≡ x
end_at [] ys x = refl
end_at (z ∷ xs) ys x = end_at xs ys x

with_end_at : (xs ys : List EndState) (x new : EndState) → with_end (xs ++ x ∷ ys) (length xs) new ≡ xs ++ new ∷ ys
with_end_at [] ys x new = refl
with_end_at (z ∷ xs) ys x new = ap (λ r. z ∷ r) (with_end_at xs ys x new)

map_size : (f : End → EndState) (es : List End) → length (map f es) ≡ length es
map_size f [] = refl
map_size f (e ∷ es) = ap suc (map_size f es)

map_more : (f : End → EndState) (xs ys : List End) → map f (xs ++ ys) ≡ map f xs ++ map f ys
map_more f [] ys = refl
map_more f (x ∷ xs) ys = ap (λ r. f x ∷ r) (map_more f xs ys)

end_self : (e : End) → end_is e.link e.side e ≡ true
end_self e = and_from (e.link == e.link) (same_side e.side e.side) (eq-eqb e.link e.link refl) (same_side-refl e.side)

has_mid : (before es : List End) (e : End) → HasEnd (before ++ e ∷ es) e
has_mid [] es e = inl refl
has_mid (x ∷ before) es e = inr (has_mid before es e)

abbrev pub placed : ℕ → End → Option (ℕ × End)
placed k e = Some (k, e)

found_from : (before es : List End) (e : End) (k : ℕ) → Distinct (before ++ e ∷ es) → end_found e.link e.side k (before ++ e ∷ es) ≡ placed (k + length before) e
found_from [] es e k d =
    let here : k ≡ k + 0 = omega arith in
    ap (λ (b : Bool). if b then placed k e else end_found e.link e.side (k + 1) es) (end_self e) ∙ ap (λ (j : ℕ). placed j e) here
found_from (x ∷ before) es e k d =
    let next : k + 1 + length before ≡ k + suc (length before) = omega arith in
    let other : end_is e.link e.side x ≡ false = false_from_ne_true (end_is e.link e.side x) (λ t.
    let p = and_parts (x.link == e.link) (same_side e.side x.side) t in
    d.0 e (has_mid before es e) (sym (eqb-true x.link e.link p.0), sym (same_side-same e.side x.side p.1))) in
    ap (λ (b : Bool). if b then placed k x else end_found e.link e.side (k + 1) (before ++ e ∷ es)) other
    ∙ found_from before es e (k + 1) d.1 ∙ ap (λ (j : ℕ). placed j e) next

-- Packets that are there stay.

keys_same : (set : Setting) (w v : World) (m : ℕ) (site : Site) (number : ℕ) (es : List End) → v.packets ≡ w.packets → v.ledger ≡ w.ledger
    → HaveKeys set w m site number es → HaveKeys set v m site number es
keys_same set w v m site number [] ps ls h = tt
keys_same set w v m site number (e ∷ es) ps ls h = (
  ap (λ z. slice_get z number) ps ∙ h.0,
  ap (λ z. is_made z (set_key_entry set (first_grant m e))) ls ∙ h.1,
  keys_same set w v m site (number + 1) es ps ls h.2,
)

serves_self : (set : Setting) (m : ℕ) (q : PartTree) (site : Site) (sec : Section) (s : State) (st : ModuleState) → IsServed set m q site sec s st → Serves sec s s
serves_self set m q site sec s st h = record { node = h.node; idle = h.idle; boot = refl; key = refl; sections = refl; devices = refl; texts = λ x l. refl; others = λ x l ne. refl }

-- the same module in a state that is equal
pub served_as : (set : Setting) (m : ℕ) (q : PartTree) (site : Site) (sec : Section) (s : State) (st new : ModuleState) → st ≡ new → IsServed set m q site sec s st → IsServed set m q site sec s new
served_as set m q site sec s st new e h = record {
  part = h.part;
  sited = h.sited;
  node = h.node;
  idle = h.idle;
  boot = h.boot;
  stands = h.stands;
  key = h.key;
  windows = h.windows;
  low = h.low;
  state = h.state ∙ e;
}

abbrev pub state_with : List ℕ → List EndState → ModuleState
state_with cells ends = record { cells = cells; ends = ends }

pub keys_taken : KeysTaken
keys_taken set w m q site sec s cells number before [] sound there h ends have =
    let f = first_end set in
    record {
      after = s;
      serves = serves_self set m q site sec s _ h;
      served = served_as set m q site sec s (state_with cells (map f before ++ [])) (state_with cells (map f (before ++ []))) (ap (state_with cells) (sym (map_more f before []))) h;
      moves = record { world = w; is = refl; each = refl; nodes = sym (set_same w.nodes site.node s there); packets = refl; deployer = refl; ledger = refl };
    }
keys_taken set w m q site sec s cells number before (e ∷ es) sound there h ends have =
    let f = first_end set in
    let st : ModuleState = state_with cells (map f before ++ closed_end ∷ initial_ends es) in
    let all : Distinct (before ++ e ∷ es) = subst Distinct ends (distinct 0 m set.app.links) in
    let found : end_found e.link e.side 0 (ends_of set.app m) ≡ placed (length before) e =
    ap (end_found e.link e.side 0) ends ∙ found_from before es e 0 all ∙ ap (λ (j : ℕ). placed j e) (zero_plus (length before)) in
    let linked = has_link 0 m set.app.links e (subst (λ z. HasEnd z e) (sym ends) (has_mid before es e)) in
    let few = sound.sound.links in
    let inside = get_within set.app.links linked.place linked.link linked.there in
    let at = linked.at in
    let small : e.link < 256 = omega (arith, few, inside, at) in
    let closed : (end_of st.ends (length before)).is_open ≡ false =
    ap (λ (k : ℕ). (end_of st.ends k).is_open) (sym (map_size f before)) ∙ ap (λ (x : EndState). x.is_open) (end_at (map f before) (initial_ends es) closed_end) in
    let step = key_taken set w m q site sec s st number (length before) e sound there h found small closed have.0 have.1 in
    let v = step.moves.world in
    let opened : with_end st.ends (length before) (f e) ≡ map f (before ++ e ∷ []) ++ initial_ends es =
    ap (λ (k : ℕ). with_end st.ends k (f e)) (sym (map_size f before)) ∙ with_end_at (map f before) (initial_ends es) closed_end (f e)
    ∙ sym (append_more (map f before) (f e) (initial_ends es)) ∙ ap (λ z. z ++ initial_ends es) (sym (map_more f before (e ∷ []))) in
    let there2 : slice_get v.nodes site.node ≡ Some step.after = ap (λ z. slice_get z site.node) step.moves.nodes ∙ get_same w.nodes site.node step.after s there in
    let served2 : IsServed set m q site sec step.after (state_with cells (map f (before ++ e ∷ []) ++ initial_ends es)) =
    served_as set m q site sec step.after (state_with cells (with_end st.ends (length before) (f e)))
    (state_with cells (map f (before ++ e ∷ []) ++ initial_ends es)) (ap (state_with cells) opened) step.served in
    let ends2 : ends_of set.app m ≡ (before ++ e ∷ []) ++ es = ends ∙ sym (append_more before e es) in
    let have2 = keys_same set w v m site (number + 1) es step.moves.packets step.moves.ledger have.2 in
    let rest = keys_taken set v m q site sec step.after cells (number + 1) (before ++ e ∷ []) es sound there2 served2 ends2 have2 in
    let both = moves_then set w _ _ _ _ _ _ site.node step.after rest.after _ _ _ _ _ _ step.moves rest.moves in
    record {
      after = rest.after;
      serves = serves_then sec s step.after rest.after step.serves rest.serves;
      served =
          served_as set m q site sec rest.after (state_with cells (map f ((before ++ e ∷ []) ++ es))) (state_with cells (map f (before ++ e ∷ es)))
          (ap (λ z. state_with cells (map f z)) (append_more before e es)) rest.served;
      moves = record {
        world = both.world;
        is = both.is;
        each = both.each;
        nodes = both.nodes;
        packets = both.packets ∙ step.moves.packets;
        deployer = both.deployer ∙ step.moves.deployer;
        ledger = both.ledger ∙ step.moves.ledger;
      };
    }
  where
    zero_plus : (k : ℕ) → 0 + k ≡ k
    zero_plus k = omega arith
