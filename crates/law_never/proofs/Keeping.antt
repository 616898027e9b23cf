-- The ways that are computed in intervals are sound, so a table that passes the code's check shows the property.
use Rattle.std.proofs.Common.{◌≡◌, ℕ, ◌⊎◌, inl, inr, ◌&&◌, true, List, [], ◌∷◌, Option, Some, None, map, refl, sym, ap, ◌∙◌, IfOk, Result, Ok, Err, Bool}
use Rattle.std.specs.List.{AllZip}
use Rattle.sx_lang.specs.Tree.{ModuleTree}
use Rattle.sx_mean.specs.declared.events.Act.{Act}
use Rattle.sx_mean.specs.declared.events.Act.TheVariants.{Send, Emit}
use Rattle.sx_mean.specs.Meaning.{HandlerState}
use Rattle.sx_mean.specs.React.{react}
use Rattle.sx_mean.specs.Application.{AppTree}
use Rattle.sx_span.specs.declared.intervals.Interval.{Interval}
use Rattle.sx_span.specs.declared.pieces.ActRange.{ActRange}
use Rattle.sx_span.specs.declared.pieces.ActRange.TheVariants.{SendIn, EmitIn}
use Rattle.sx_span.specs.Intervals.{Lies}
use Rattle.sx_span.specs.Ranges.{ActLies}
use Rattle.sx_span.specs.Ranges as ranges
use Rattle.sx_span.specs.Paths.{EventLies, react_within}
use Rattle.sx_span.specs.Sound.{FollowsOne}
use Rattle.sx_span.proofs.Steps.{react_sound}
use Rattle.sx_table.specs.Rows.{TableTree}
use Rattle.sx_table.specs.Made.{event_in}
use Rattle.sx_table.specs.Shut.{is_shut, is_open}
use Rattle.law_never.specs.Intervals as hi
use Rattle.law_never.specs.Intervals.{IsInside, AreInside, OneOf, AreActs, IsAlong, IsSoundFor, event_of}
use Rattle.law_never.specs.Demands as hd
use Rattle.law_never.proofs.CheckedKeeps.{checked_keeps}
use Rattle.law_never.specs.Same.{as_doing, as_interval, as_path, as_range, as_table, ways}
use Rattle.law_never.specs.Laws.{NeverAccepted}
use Rattle.law_never.specs.Never.{IsNeverBroken}
use Rattle.law_never.proofs.Unbroken.{unbroken}
use Rattle.sx_model.specs.Legal.{before}
use Rattle.spec_run.specs.State.{switched_on}
use Rattle.spec_run.specs.Run.{run}
use Rattle.spec_run.proofs.AcceptedRuns.{of_accepted}
use Rattle.law_never.proofs.Shutting.{shut_same, open_same}
use Rattle.sx_watch.specs.Watched.{PropertyTree, broken_at}

lie : (box : List hi.Interval) (cells : List ℕ) → AreInside box cells → AllZip Lies cells (map as_range box)
lie [] [] h = tt
lie [] (v ∷ vs) h = absurd h
lie (i ∷ is) [] h = absurd h
lie (i ∷ is) (v ∷ vs) h = (record { above = h.0.low; below = h.0.high }, lie is vs h.1)

inside : (cells : List ℕ) (is : List Interval) → AllZip Lies cells is → AreInside (map as_interval is) cells
inside [] [] h = tt
inside [] (i ∷ is) h = absurd h
inside (v ∷ vs) [] h = absurd h
inside (v ∷ vs) (i ∷ is) h = (record { low = h.0.above; high = h.0.below }, inside vs is h.1)

acts : (xs : List Act) (ds : List ActRange) → AllZip ActLies xs ds → AreActs (map as_doing ds) xs
acts [] [] h = tt
acts [] (d ∷ ds) h = absurd h
acts (a ∷ xs) [] h = absurd h
acts (Send output v ∷ xs) (SendIn port i ∷ ds) h = (sym h.0.0, record { low = h.0.1.above; high = h.0.1.below }, acts xs ds h.1)
acts (Send output v ∷ xs) (EmitIn i ∷ ds) h = absurd h.0
acts (Emit v ∷ xs) (SendIn port i ∷ ds) h = absurd h.0
acts (Emit v ∷ xs) (EmitIn i ∷ ds) h = (record { low = h.0.above; high = h.0.below }, acts xs ds h.1)

one : (st : HandlerState) (ps : List ranges.Path) → FollowsOne st ps → OneOf (λ path. IsAlong path st) (map as_path ps)
one st [] h = absurd h
one st (p ∷ ps) h =
    elim h as (λ h. IsAlong (as_path p) st ⊎ OneOf (λ path. IsAlong path st) (map as_path ps)) [
      | inl f ↦ inl (record { cells = inside st.cells p.cells f.cells; acts = acts st.acts p.acts f.acts })
      | inr r ↦ inr (one st ps r)
    ]

event_lies : (input : Option ℕ) (i : hi.Interval) (v : ℕ) → IsInside i v → EventLies (event_of input v) (event_in input (as_range i))
event_lies None i v h = record { above = h.low; below = h.high }
event_lies (Some j) i v h = (refl, record { above = h.low; below = h.high })

pub ways_sound : (tree : ModuleTree) → IsSoundFor ways tree
ways_sound tree input i box v cells iv ic =
    one (react tree (event_of input v) cells) (react_within tree (event_in input (as_range i)) (map as_range box))
    (react_sound tree (event_of input v) (event_in input (as_range i)) cells (map as_range box) (event_lies input i v iv) (lie box cells ic))

-- With a table that passes the code's check no run breaks the property.
pub never_broken : (app : AppTree) (o : PropertyTree) (t : TableTree) → (is_shut app o t && is_open app o t) ≡ true → IsNeverBroken app o
never_broken app o t passed set sound lines few form same =
    let checked : (is_shut set.app o t && is_open set.app o t) ≡ true = ap (λ a. is_shut a o t && is_open a o t) same ∙ passed in
    unbroken o (before (run set (switched_on set) lines).items)
    (checked_keeps ways o (as_table t) set sound lines few form (record { property = ways_sound o.tree; parts = λ m q e. ways_sound q.tree })
    (sym (ap (λ x. x && is_open set.app o t) (shut_same set.app o t) ∙ ap (λ y. hd.is_shut ways set.app o (as_table t) && y) (open_same set.app o t)) ∙ checked))

-- From the text on.
pub never_accepted : NeverAccepted
never_accepted app p never = of_accepted (λ own items. own ≡ app → broken_at p items ≡ None) never

pub shown_never : {E : Type 0} (app : AppTree) (o : PropertyTree) (t : TableTree) (r : Result Bool E) → IfOk r (λ b. b ≡ (is_shut app o t && is_open app o t))
    → IfOk r (λ b. b ≡ true → IsNeverBroken app o)
shown_never app o t (Ok b) e = λ h. never_broken app o t (sym e ∙ h)
shown_never app o t (Err x) e = tt
