-- The lines of an honest run can be written.
use Rattle.std.proofs.Common.{◌≡◌, ◌∙◌, ◌==◌, ◌||◌, ℕ, zero, suc, ◌<◌, Bool, true, false, List, [], ◌∷◌, ◌++◌, length, map, Option, Some, None, Result, Ok, Err, refl, sym, ap, subst, arith}
use Rattle.std.specs.Prelude.{IfSome, if◌then◌else◌, option_map, slice_get}
use Rattle.sx_tag.specs.Mac.{Mac}
use Rattle.sx_mean.specs.Application.{AppTree, PartTree}
use Rattle.sx_trace.specs.declared.items.Item.{Item}
use Rattle.sx_trace.specs.Names.{NameLists}
use Rattle.sx_sched.specs.Lines.{Line}
use Rattle.sx_deploy.specs.Deployment.{Deployed}
use Rattle.sx_deploy.specs.Law.{IsSoundDeployment}
use Rattle.sx_deploy.specs.SeenDeployment.{deployed_as}
use Rattle.sx_deploy.specs.declared.deployment.Deployment.{Deployment}
use Rattle.spec_run.specs.Setting.{Setting}
use Rattle.spec_run.proofs.tie.Lists.{get_within}
use Rattle.sx_world.specs.Whole.{next}
use Rattle.sx_drive.specs.declared.said.Said.{Said as Told}
use Rattle.sx_drive.specs.Honest.{Driven, Honest, MOST_LINES, Reading, Said, SaidItem, callee_at, each, honest_run, left_out, performed, reads, setup, start}
use Rattle.sx_drive.specs.Driving.{Does, Follows, GoesOn, IsDrivenSensor, Kept, SaysFront, reading, all_said, said_of}
use Rattle.command_drive.specs.Parts.{AreNamed, IsNamed}
use Rattle.command_drive.proofs.Quiet.{AreReadings, readings_by}
use Rattle.command_drive.proofs.Ways.{AreThere, IsThere, Ways, reads_by, setup_by}

pub named_append : (names : NameLists) (xs ys : List Said) → AreNamed names xs → AreNamed names ys → AreNamed names (xs ++ ys)
named_append names [] ys a b = b
named_append names (x ∷ xs) ys a b = (a.0, named_append names xs ys a.1 b)

pub named_front : (names : NameLists) (xs ys : List Said) → AreNamed names (xs ++ ys) → AreNamed names xs
named_front names [] ys a = tt
named_front names (x ∷ xs) ys a = (a.0, named_front names xs ys a.1)

named_rest : (names : NameLists) (xs ys : List Said) → AreNamed names (xs ++ ys) → AreNamed names ys
named_rest names [] ys a = a
named_rest names (x ∷ xs) ys a = named_rest names xs ys a.1

-- one of those that were said
pub named_at : (names : NameLists) (xs : List Told) (i : ℕ) (x : Told) → AreNamed names (all_said xs) → slice_get xs i ≡ Some x → AreNamed names (said_of x)
named_at names [] i x a e = absurd (cc e)
named_at names (y ∷ xs) zero x a e =
    let same : y ≡ x = cc in let P : Told → Type 0 = λ z. AreNamed names (said_of z) in subst P same (named_front names (said_of y) (all_said xs) a)
named_at names (y ∷ xs) (suc i) x a e = named_at names xs i x (named_rest names (said_of y) (all_said xs) a) e

items_named : (names : NameLists) (items : List Item) → AreNamed names (map SaidItem items)
items_named names [] = tt
items_named names (i ∷ items) = (tt, items_named names items)

abbrev pub NamedSaid : NameLists → Honest → Driven → Type 0
NamedSaid names h a = AreNamed names a.said

says_named : (names : NameLists) (set : Setting) (line : Line) (h : Honest) (b : Bool) → IsNamed names line
    → AreNamed names (if b then left_out h else performed line h (next set h.world line)).said
says_named names set line h true is = tt
says_named names set line h false is = (is, items_named names (next set h.world line).items)

ways : (names : NameLists) (set : Setting) → Ways names set (NamedSaid names)
ways names set = record {
  moved = λ h g w l. tt;
  said = λ line h is. says_named names set line h (h.long || (h.world.lines == MOST_LINES)) is;
  joined = λ h a rest p q. named_append names a.said (rest a.honest).said p q;
  begun = λ h g a w l p. p;
}

-- the modules of a deployment have names
callee_by : (d : Deployed) (m : ℕ) (o : Option PartTree) → IsSoundDeployment d → slice_get d.app.parts m ≡ o
    → IfSome (option_map (λ (q : PartTree). record { part = m; node = q.node }) o) (IsThere d.names)
callee_by d m None sound e = tt
callee_by d m (Some q) sound e =
    let within : m < length d.app.parts = get_within d.app.parts m q e in
    let node : q.node < d.app.nodes = (sound.modules m q e).node in record {
      part = omega (arith, within, sound.parts);
      node = omega (arith, node, sound.nodes);
    }

pub are_there : (d : Deployed) (set : Setting) → IsSoundDeployment d → set.app ≡ d.app → AreThere d.names set
are_there d set sound same = λ m.
    let P : AppTree → Type 0 = λ app. IfSome (callee_at app m) (IsThere d.names) in subst P (sym same) (callee_by d m (slice_get d.app.parts m) sound refl)

-- a run of a deployment is one of its application
pub same_app : (mac : Mac) (d : Deployment) (kept : Kept) (set : Setting) (h : Honest) → Follows mac d kept set h → set.app ≡ (deployed_as d).app
same_app mac d kept set h f = ap (λ (s : Setting). s.app) f.setting

pub setup_named : (mac : Mac) (d : Deployment) (kept : Kept) (set : Setting) (h : Honest) → IsSoundDeployment (deployed_as d) → Follows mac d kept set h
    → AreNamed d.names (setup set h).said
setup_named mac d kept set h sound f =
    let names = (deployed_as d).names in setup_by names set (NamedSaid names) (ways names set) (are_there (deployed_as d) set sound (same_app mac d kept set h f)) h

pub reading_named : (mac : Mac) (d : Deployment) (kept : Kept) (set : Setting) (h : Honest) (device value : ℕ) → IsSoundDeployment (deployed_as d)
    → IsDrivenSensor (deployed_as d) device → value < 32768 → Follows mac d kept set h → AreNamed d.names (reading device value set h).said
reading_named mac d kept set h device value sound driven few f =
    let names = (deployed_as d).names in
    reads_by names set (NamedSaid names) (ways names set) (are_there (deployed_as d) set sound (same_app mac d kept set h f)) (record { device = device; value = value }) h driven.there
    driven.sensor few

-- what a call said can be written, where all that is due can
pub does_named : {X E : Type 0} (mac : Mac) (d : Deployment) (r : Result X E) (old new : Kept) (before after : List Told) (act : Setting → Honest → Driven)
    → Does mac d r old new before after act → (g : GoesOn mac d old) → before ≡ [] → AreNamed d.names (act g.set g.honest).said → AreNamed d.names (all_said after)
does_named mac d (Ok x) old new before after act does g none named =
    let P : List Said → Type 0 = λ said. AreNamed d.names said in
    subst P (sym ((does g.set g.honest g.follows).1 ∙ ap (λ (xs : List Told). all_said xs ++ (act g.set g.honest).said) none)) named
does_named mac d (Err e) old new before after act does g none named =
    let front : SaysFront (all_said before) (all_said after) (act g.set g.honest).said = (does g.set g.honest g.follows).0 in
    let P : List Said → Type 0 = λ said. AreNamed d.names said in
    subst P (sym (front.added ∙ ap (λ (xs : List Told). all_said xs ++ front.front) none)) (named_front d.names front.front front.rest (subst P (sym front.prefix) named))

-- so can the lines of a whole run
pub named_run : (d : Deployed) (set : Setting) (rs : List Reading) → AreThere d.names set → AreReadings d rs → AreNamed d.names (honest_run set rs).said
named_run d set rs there are =
    let names = d.names in
    let first = setup set (start set) in
    named_append names first.said (each (reads set) rs first.honest).said (setup_by names set (NamedSaid names) (ways names set) there (start set))
    (readings_by d set (NamedSaid names) (ways names set) there rs first.honest are)
