-- Stretches of lines: the world after one line more, and the checkpoints of a longer timeline.
use Rattle.std.proofs.Common.{◌≡◌, ◌∙◌, ℕ, zero, suc, ◌+◌, ◌-◌, ◌*◌, ◌/◌, ◌<◌, ◌≤◌, List, [], ◌∷◌, ◌++◌, length, map, take, get_or, div-mul-le_self}
use Rattle.std.proofs.Common.{length-append, refl, sym, ap, subst, arith, false, Option, Some}
use Rattle.std.specs.Prelude.{option_map, slice_get}
use Rattle.std.proofs.lemmas.Nat.{div_below}
use Rattle.std.proofs.lemmas.Option.{slice_get-map, slice_get_read}
use Rattle.sx_tag.specs.Mac.{Mac}
use Rattle.sx_trace.specs.declared.items.Item.{Item}
use Rattle.sx_sched.specs.Lines.{Line}
use Rattle.sx_sched.specs.InForm.{IsLine}
use Rattle.sx_sched.specs.Seen.{line_of}
use Rattle.sx_sched.specs.declared.lines.Line.{Line as Read}
use Rattle.sx_deploy.specs.Deployment.{Deployed}
use Rattle.spec_run.specs.Setting.{Setting, Site}
use Rattle.spec_run.specs.State.{World, switched_on}
use Rattle.spec_run.specs.Run.{run, after_line, line_counted}
use Rattle.spec_run.specs.Accepted.{setting}
use Rattle.spec_run.specs.AcceptedLaw.{AreLines}
use Rattle.spec_run.specs.Law.{IsSoundSetting}
use Rattle.spec_run.proofs.acts.Bounds.{lines_within}
use Rattle.sx_deploy.specs.Law as deployment
use Rattle.sx_trace.specs.Names.{NameLists}
use Rattle.sx_world.specs.Held.{Held}
use Rattle.sx_world.specs.Whole.{next}
use Rattle.sx_world.specs.Standing.{Stands}
use Rattle.sx_snap.specs.Kept.{Kept}
use Rattle.sx_snap.specs.Timeline.{items_at, items_in, world_after, world_at}
use Rattle.sx_snap.specs.Checkpoints.{IsTimeline, StandsAfter}

-- the run of one line more
run_last : (set : Setting) (lines : List Line) (line : Line) (w : World) → (run set w (lines ++ line ∷ [])).world ≡ (next set (run set w lines).world line).world
run_last set [] line w = refl
run_last set (x ∷ lines) line w = run_last set lines line (after_line set (line_counted w) x).world

-- the first k + 1 are the first k and the next
take_suc : (lines : List Line) (k : ℕ) (line : Line) → slice_get lines k ≡ Some line → take (suc k) lines ≡ take k lines ++ line ∷ []
take_suc [] k line e = absurd (cc e)
take_suc (x ∷ lines) zero line e = cc
take_suc (x ∷ lines) (suc k) line e = ap (λ (xs : List Line). x ∷ xs) (take_suc lines k line e)

pub take_next : (lines : List Line) (k : ℕ) (line : Line) → slice_get lines k ≡ Some line → take (k + 1) lines ≡ take k lines ++ line ∷ []
take_next lines k line e = let one : k + 1 ≡ suc k = omega arith in ap (λ (n : ℕ). take n lines) one ∙ take_suc lines k line e

-- a line was performed in a world that is after those before
pub one_more : (set : Setting) (before : List Line) (line : Line) (held left : Held) → StandsAfter set before held
    → ((w : World) → Stands set held w → Stands set left (next set w line).world) → left.sites ≡ held.sites → left.performed ≡ held.performed + 1 → left.ran_out ≡ false
    → StandsAfter set (before ++ line ∷ []) left
one_more set before line held left s acts sites counts goes = record {
  sites = sites ∙ s.sites;
  memory = goes;
  count = let e = length_push before line in let c = s.count in omega (arith, e, c, counts);
  stands = let P : World → Type 0 = λ w. Stands set left w in
      subst P (sym (run_last set before line (switched_on set))) (acts (world_after set before) s.stands);
}
  where
    length_push : (xs : List Line) (x : Line) → length (xs ++ x ∷ []) ≡ length xs + 1
    length_push xs x = length-append xs (x ∷ [])

-- lines in form, and one of them
pub line_in_form : (names : NameLists) (lines : List Line) (k : ℕ) (line : Line) → AreLines names lines → slice_get lines k ≡ Some line → IsLine names line
line_in_form names [] k line f e = absurd (cc e)
line_in_form names (x ∷ lines) zero line f e = let same : x ≡ line = cc in subst (IsLine names) same f.0
line_in_form names (x ∷ lines) (suc k) line f e = line_in_form names lines k line f.1 e

-- the line at an index, as code reads it
pub line_there : (lines : List Read) (i : ℕ) (line : Read) → i < length lines → line ≡ get_or lines i line → slice_get (map line_of lines) i ≡ Some (line_of line)
line_there lines i line lt e = slice_get-map line_of lines i ∙ ap (option_map line_of) (slice_get_read lines (length lines) i line refl lt e)

pub line_read : (names : NameLists) (lines : List Read) (i : ℕ) (line : Read) → AreLines names (map line_of lines) → i < length lines → line ≡ get_or lines i line
    → IsLine names (line_of line)
line_read names lines i line f lt e = line_in_form names (map line_of lines) i (line_of line) f (line_there lines i line lt e)

-- the lines up to an index are as many
pub taken_long : (lines : List Line) (k : ℕ) → k ≤ length lines → length (take k lines) ≡ k
taken_long lines zero h = refl
taken_long [] (suc k) h = absurd (omega (arith, h))
taken_long (x ∷ lines) (suc k) h = ap suc (taken_long lines k (omega (arith, h)))

-- the items of a line that was performed in a world that is after those before
pub items_found : (mac : Mac) (d : Deployed) (sites : List Site) (lines : List Line) (at before : ℕ) (held : Held) (line : Line) (old new : List Item) → before ≡ at - 1
    → StandsAfter (setting mac d sites) (take before lines) held → slice_get lines before ≡ Some line → old ≡ []
    → ((w : World) → Stands (setting mac d held.sites) held w → new ≡ old ++ (next (setting mac d held.sites) w line).items) → new ≡ items_at (setting mac d sites) lines at
items_found mac d sites lines at before held line old new one s here none acts =
    let set = setting mac d sites in
    let P : List Site → Type 0 = λ its. (w : World) → Stands (setting mac d its) held w → new ≡ old ++ (next (setting mac d its) w line).items in
    let w = world_at set lines before in
    let got : new ≡ old ++ (next set w line).items = subst P s.sites acts w s.stands in
    let its : items_at set lines at ≡ (next set w line).items =
    ap (λ (k : ℕ). items_in set (world_at set lines k) (slice_get lines k)) (sym one) ∙ ap (λ (o : Option Line). items_in set w o) here in
    got ∙ ap (λ (front : List Item). front ++ (next set w line).items) none ∙ sym its

-- the nearest checkpoint at or before a line
pub nearest : (every at long count : ℕ) → 1 ≤ every → at ≤ long → long < count * every → (at / every < count) × (at / every * every ≤ at)
nearest every at long count some within next = (div_below at every count some (omega (arith, within, next)), div-mul-le_self at every)

pub formed_more : (names : NameLists) (lines : List Line) (line : Line) → AreLines names lines → IsLine names line → AreLines names (lines ++ line ∷ [])
formed_more names [] line f is = (is, tt)
formed_more names (x ∷ lines) line f is = (f.0, formed_more names lines line f.1 is)

-- the world that is copied of the nearest checkpoint
pub from_checkpoint : (mac : Mac) (d : Deployed) (t : Kept) (checkpoints : List Held) (every at : ℕ) (checkpoint world : Held) → checkpoints ≡ t.checkpoints → every ≡ t.every
    → IsTimeline mac d t → at ≤ length t.lines → checkpoint ≡ get_or checkpoints (at / every) checkpoint → world ≡ checkpoint
    → StandsAfter (setting mac d t.sites) (take (at / every * every) t.lines) world
from_checkpoint mac d t checkpoints every at checkpoint world C E is within read same =
    let set = setting mac d t.sites in
    let some : 1 ≤ every = subst (λ (n : ℕ). 1 ≤ n) (sym E) is.some in
    let room : length t.lines < length checkpoints * every =
    subst (λ (n : ℕ). length t.lines < length checkpoints * n) (sym E) (subst (λ (cs : List Held). length t.lines < length cs * t.every) (sym C) is.next) in
    let near = nearest every at (length t.lines) (length checkpoints) some within room in
    let there : slice_get checkpoints (at / every) ≡ Some checkpoint = slice_get_read checkpoints (length checkpoints) (at / every) checkpoint refl near.0 read in
    let got : StandsAfter set (take (at / every * t.every) t.lines) checkpoint =
    is.checkpoint (at / every) checkpoint (ap (λ (cs : List Held). slice_get cs (at / every)) (sym C) ∙ there) in
    subst (λ (h : Held). StandsAfter set (take (at / every * every) t.lines) h) (sym same)
    (subst (λ (n : ℕ). StandsAfter set (take (at / every * n) t.lines) checkpoint) (sym E) got)

-- the same lines of the same setting
pub same_run : (mac : Mac) (d : Deployed) (a b : List Site) (ls ms : List Line) (n : ℕ) (held : Held) → StandsAfter (setting mac d a) (take n ls) held → a ≡ b → ls ≡ ms
    → StandsAfter (setting mac d b) (take n ms) held
same_run mac d a b ls ms n held here e f =
    subst (λ (s : List Site). StandsAfter (setting mac d s) (take n ms) held) e (subst (λ (l : List Line). StandsAfter (setting mac d a) (take n l) held) f here)

-- a world that is reached has the nodes of the deployment
pub nodes_long : (mac : Mac) (d : Deployed) (sites : List Site) (lines : List Line) (held : Held) → deployment.IsSoundDeployment d → IsSoundSetting (setting mac d sites)
    → StandsAfter (setting mac d sites) lines held → length held.running.nodes ≡ length d.names.nodes
nodes_long mac d sites lines held acc sound here =
    let s = here.stands in
    ap length s.shows.nodes ∙ ap (λ (w : World). length w.nodes) s.is ∙ (lines_within (setting mac d sites) s.lines sound s.formed).1.as_many ∙ acc.keys
