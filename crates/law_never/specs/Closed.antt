-- When a table is closed: no item leads out of it, and the property emits at none.
use Rattle.std.specs.Prelude.{◌≡◌, ℕ, ◌==◌, Bool, true, false, List, [], ◌∷◌, Option, Some, None}
use Rattle.std.specs.Prelude.{slice_get}
use Rattle.sx_lang.specs.Tree.{ModuleTree}
use Rattle.sx_mean.specs.declared.apps.Link.{Link}
use Rattle.sx_mean.specs.Application.{AppTree, PartTree}
use Rattle.sx_mean.specs.Ends.{ends_of}
use Rattle.sx_mean.specs.Places.{initial_cells}
use Rattle.sx_model.specs.State.{Present}
use Rattle.sx_model.specs.Step.{first_present}
use Rattle.sx_model.specs.Consequences.{is_device_at, is_part_at}
use Rattle.law_never.specs.Rules.{Each}
use Rattle.law_never.specs.Intervals.{Interval, IsInside, AreInside, OneOf, Doing, MaySend, MayEmit}
use Rattle.law_never.specs.Intervals.{Path, Reactions, nought}
use Rattle.law_never.specs.Tables.{Row, Table, at, HasPlace, HasReading, HasWord, MayBeAbsent}
use Rattle.law_never.specs.Tables.{owed_of}
use Rattle.sx_watch.specs.declared.topics.TopicKind.TheVariants as kind
use Rattle.sx_watch.specs.Watching.{about}
use Rattle.sx_watch.specs.declared.topics.Topic.{Topic}
use Rattle.sx_watch.specs.Watched.{PropertyTree, input_of}

-- no emit is among what may be done
abbrev pub IsQuietDoing : Doing → Type 0
IsQuietDoing (MaySend output i) = Unit {0}
IsQuietDoing (MayEmit i) = ⊥

-- what may be emitted
abbrev pub may_emit : List Doing → List Interval
may_emit [] = []
may_emit (MaySend output i ∷ ds) = may_emit ds
may_emit (MayEmit i ∷ ds) = i ∷ may_emit ds

-- the ways of the property at a value for the input, if there is one
abbrev pub Hears : Reactions → ModuleTree → Option ℕ → Interval → List Interval
    → (Path → Type 0) → Type 0
Hears reacts tree None i box P = P (record { cells = box; acts = [] })
Hears reacts tree (Some j) i box P = Each P (reacts tree (Some j) i box)

-- Whichever way the property goes, it emits nothing, and a row in whose box it then is has Q.
pub record IsLed (t : Table) (Q : Row → Type 0) (path : Path) : Type 0 where
  pub quiet : Each IsQuietDoing path.acts
  pub row : OneOf (λ r. ((cells : List ℕ) → AreInside path.cells cells → AreInside r.watch cells)
      × Q r) t.rows

-- So at an item of the topic with a value of the interval, in a row.
abbrev pub Leads : Reactions → PropertyTree → Table → Topic → Interval → Row → (Row → Type 0)
    → Type 0
Leads reacts o t topic i r Q =
    Hears reacts o.tree (input_of o topic) i r.watch (IsLed t Q)

-- no module and no device
abbrev pub none : ℕ → Bool
none n = false

-- a row has what another has of all modules and devices but these, and of all connections
pub record Stays (modules devices : ℕ → Bool) (r new : Row) : Type 0 where
  pub absent : (m : ℕ) → modules m ≡ false → MayBeAbsent r m → MayBeAbsent new m
  pub places : (m : ℕ) → modules m ≡ false → (p : Present) → HasPlace r m p → HasPlace new m p
  pub readings : (d : ℕ) → devices d ≡ false → (v : ℕ) → HasReading r d v → HasReading new d v
  pub words : (c v : ℕ) → HasWord r c v → HasWord new c v

-- a present module with its cells in the box that owes emits in these intervals has a place
abbrev pub Fits : Row → ℕ → List Interval → List Interval → Type 0
Fits new m box owed = (p : Present) → AreInside box p.cells → AreInside owed (owed_of p.pending)
    → HasPlace new m p

-- what is sent to the output is among the row's words of the connection
abbrev pub IsCarried : Row → ℕ → ℕ → Doing → Type 0
IsCarried new c output (MaySend port i) = port ≡ output → (v : ℕ) → IsInside i v → HasWord new c v
IsCarried new c output (MayEmit i) = Unit {0}

-- a row has what a module makes on a way through its handler
pub record IsMade (app : AppTree) (new : Row) (m : ℕ) (path : Path) : Type 0 where
  pub place : Fits new m path.cells (may_emit path.acts)
  pub sent : (c : ℕ) (l : Link) → slice_get app.links c ≡ Some l → l.from ≡ m
      → Each (IsCarried new c l.output) path.acts

-- and on each way, wherever it may be in the old row while it owes nothing
abbrev pub IsAnswered : Reactions → AppTree → Row → ℕ → PartTree → Option ℕ → Interval → Row
    → Type 0
IsAnswered reacts app r m q input i new = Each (λ place. place.owed ≡ []
    → Each (IsMade app new m) (reacts q.tree input i place.cells)) (at r.places m)

-- From the row no item leads out of the table.
pub record IsClosedAt (reacts : Reactions) (app : AppTree) (o : PropertyTree) (t : Table) (r : Row)
    : Type 0 where
  pub reset : (n : ℕ) → Leads reacts o t (about kind.Reset n) nought r
      (λ new. Stays (λ m. is_part_at n (slice_get app.parts m))
      (λ d. is_device_at n (slice_get app.devices d)) r new
      × ((m : ℕ) → is_part_at n (slice_get app.parts m) ≡ true → MayBeAbsent new m))
  pub protect : (m : ℕ) (q : PartTree) → slice_get app.parts m ≡ Some q → MayBeAbsent r m
      → Leads reacts o t (about kind.Protect m) nought r (λ new. Stays (λ k. m == k) none r new
      × HasPlace new m (first_present q.tree (ends_of app m)))
  pub sense : (d : ℕ) → Each (λ i. Leads reacts o t (about kind.Sense d) i r
      (λ new. Stays none (λ k. d == k) r new × ((v : ℕ) → IsInside i v → HasReading new d v)))
      (at t.given d)
  pub read : (m : ℕ) (q : PartTree) (d : ℕ) → slice_get app.parts m ≡ Some q
      → q.device ≡ Some d → Each (λ i. Leads reacts o t (about kind.Read m) i r
      (λ new. Stays (λ k. m == k) (λ k. d == k) r new × IsAnswered reacts app r m q None i new))
      (at r.readings d)
  pub drain : (d : ℕ) → Leads reacts o t (about kind.Drain d) nought r (Stays none (λ k. d == k) r)
  pub attested : (m : ℕ) → Leads reacts o t (about kind.Attested m) nought r (Stays none none r)
  pub take : (c : ℕ) (l : Link) (q : PartTree) → slice_get app.links c ≡ Some l
      → slice_get app.parts l.to ≡ Some q → Each (λ i. Leads reacts o t (about kind.Take c) i r
      (λ new. Stays (λ k. l.to == k) none r new
      × IsAnswered reacts app r l.to q (Some l.input) i new)) (at r.words c)
  pub out : (m : ℕ) → Each (λ place. (i : Interval) (rest : List Interval) → place.owed ≡ i ∷ rest
      → Leads reacts o t (about kind.Out m) i r (λ new. Stays (λ k. m == k) none r new
      × Fits new m place.cells rest)) (at r.places m)
  pub raw : (d : ℕ)
      → Each (λ i. Leads reacts o t (about kind.Raw d) i r (Stays none none r))
      (at t.given d)

-- The table has the property's first cells, with all modules absent, and it is closed at each row.
pub record IsClosed (reacts : Reactions) (app : AppTree) (o : PropertyTree)
    (t : Table) : Type 0 where
  pub first : OneOf (λ r. AreInside r.watch (initial_cells o.tree.decls)
      × ((m : ℕ) (q : PartTree) → slice_get app.parts m ≡ Some q → MayBeAbsent r m)) t.rows
  pub rows : Each (IsClosedAt reacts app o t) t.rows
