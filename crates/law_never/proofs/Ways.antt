-- What a property makes of a value in an interval.
use Rattle.std.proofs.Common.{ℕ, List, [], ◌∷◌, Option, Some, None}
use Rattle.sx_lang.specs.Tree.{ModuleTree}
use Rattle.sx_mean.specs.declared.events.Act.{Act}
use Rattle.sx_mean.specs.declared.events.Act.TheVariants.{Send, Emit}
use Rattle.sx_mean.specs.React.{react}
use Rattle.sx_mean.specs.Meaning.{HandlerState}
use Rattle.law_never.specs.Rules.{Each}
use Rattle.law_never.specs.Intervals.{Interval, IsInside, AreInside, OneOf, Doing, MaySend, MayEmit, AreActs, Path, IsAlong, Reactions, IsSoundFor, event_of}
use Rattle.law_never.specs.Tables.{Row, Table}
use Rattle.law_never.specs.Closed.{Hears, IsLed, IsQuietDoing, Leads}
use Rattle.law_never.proofs.Lists.{one_with, one_map}
use Rattle.sx_watch.specs.declared.topics.Topic.{Topic}
use Rattle.sx_watch.specs.Watched.{PropertyTree, input_of}
use Rattle.sx_watch.specs.Watching.{hears}
use Rattle.law_never.specs.Kept.{AreQuiet}

-- with what holds of each way, it holds of the way that a module goes
pub went : (reacts : Reactions) (tree : ModuleTree) (input : Option ℕ) (i : Interval) (box : List Interval) (P : Path → Type 0) → IsSoundFor reacts tree
    → Each P (reacts tree input i box) → (v : ℕ) (cells : List ℕ) → IsInside i v → AreInside box cells
    → (path : Path) × P path × IsAlong path (react tree (event_of input v) cells)
went reacts tree input i box P sound each v cells iv ic =
    one_with P (λ path. IsAlong path (react tree (event_of input v) cells)) (reacts tree input i box) each (sound input i box v cells iv ic)

pub quiet_acts : (ds : List Doing) (acts : List Act) → AreActs ds acts → Each IsQuietDoing ds → AreQuiet acts
quiet_acts [] [] h q = tt
quiet_acts [] (a ∷ acts) h q = absurd h
quiet_acts (MaySend o i ∷ ds) [] h q = absurd h
quiet_acts (MaySend o i ∷ ds) (Send p v ∷ acts) h q = (tt, quiet_acts ds acts h.2 q.1)
quiet_acts (MaySend o i ∷ ds) (Emit v ∷ acts) h q = absurd h
quiet_acts (MayEmit i ∷ ds) acts h q = absurd q.0

-- the property is quiet, and a row shows where it is, and has what it must have
abbrev pub Led : Table → (Row → Type 0) → HandlerState → Type 0
Led t Q st = AreQuiet st.acts × OneOf (λ r. AreInside r.watch st.cells × Q r) t.rows

by_path : (t : Table) (Q : Row → Type 0) (path : Path) (st : HandlerState) → IsLed t Q path → IsAlong path st → Led t Q st
by_path t Q path st led along = (
  quiet_acts path.acts st.acts along.acts led.quiet,
  one_map (λ r. ((cells : List ℕ) → AreInside path.cells cells → AreInside r.watch cells) × Q r) (λ r. AreInside r.watch st.cells × Q r)
      (λ r h. (h.0 st.cells along.cells, h.1)) t.rows led.row,
)

heard : (reacts : Reactions) (tree : ModuleTree) (t : Table) (Q : Row → Type 0) → IsSoundFor reacts tree → (input : Option ℕ) (i : Interval) (box : List Interval)
    → Hears reacts tree input i box (IsLed t Q) → (v : ℕ) (cells : List ℕ) → IsInside i v → AreInside box cells → Led t Q (hears tree cells input v)
heard reacts tree t Q sound None i box led v cells iv ic =
    by_path t Q (record { cells = box; acts = [] }) (hears tree cells None v) led (record { cells = ic; acts = tt })
heard reacts tree t Q sound (Some j) i box led v cells iv ic =
    let w = went reacts tree (Some j) i box (IsLed t Q) sound led v cells iv ic in
    by_path t Q w.0 (react tree (event_of (Some j) v) cells) w.1 w.2

pub led : (reacts : Reactions) (o : PropertyTree) (t : Table) (topic : Topic) (i : Interval) (r : Row) (Q : Row → Type 0) → IsSoundFor reacts o.tree → Leads reacts o t topic i r Q
    → (v : ℕ) (cells : List ℕ) → IsInside i v → AreInside r.watch cells → Led t Q (hears o.tree cells (input_of o topic) v)
led reacts o t topic i r Q sound h v cells iv ic = heard reacts o.tree t Q sound (input_of o topic) i r.watch h v cells iv ic
