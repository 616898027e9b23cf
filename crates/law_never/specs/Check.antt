-- The check of a table, to compute with.
use Rattle.std.specs.Prelude.{ℕ, ◌+◌, ◌&&◌, ◌||◌, nat_le, nat_lt, not, max, Bool, true, false}
use Rattle.std.specs.Prelude.{if◌then◌else◌, List, [], ◌∷◌, Option, Some, None, slice_get}
use Rattle.std.specs.Prelude.{unwrap_or}
use Rattle.sx_lang.specs.Tree.{ModuleTree}
use Rattle.sx_mean.specs.Application.{AppTree, is_sensor}
use Rattle.law_never.specs.Intervals.{Interval, Doing, MaySend, MayEmit, Path, Reactions}
use Rattle.law_never.specs.Tables.{Place, Row, Table, at}
use Rattle.sx_watch.specs.declared.topics.TopicKind.{TopicKind}
use Rattle.sx_watch.specs.declared.topics.TopicKind.TheVariants as kind
use Rattle.sx_watch.specs.declared.topics.Topic.{Topic}
use Rattle.sx_watch.specs.Watched.{PropertyTree, input_of}

-- the test is true of each, of one, and of each with its index

abbrev pub each : {A : Type 0} → (A → Bool) → List A → Bool
each p [] = true
each p (x ∷ xs) = p x && each p xs

abbrev pub one : {A : Type 0} → (A → Bool) → List A → Bool
one p [] = false
one p (x ∷ xs) = p x || one p xs

abbrev pub each_from : {A : Type 0} → (ℕ → A → Bool) → ℕ → List A → Bool
each_from p n [] = true
each_from p n (x ∷ xs) = p n x && each_from p (n + 1) xs

-- the first interval lies in the second
abbrev pub within : Interval → Interval → Bool
within i j = nat_le j.low i.low && nat_le i.high j.high

-- each of the first lies in that of the second
abbrev pub box_within : List Interval → List Interval → Bool
box_within [] [] = true
box_within (i ∷ is) (j ∷ js) = within i j && box_within is js
box_within _ _ = false

-- each number lies in its interval
abbrev pub box_has : List Interval → List ℕ → Bool
box_has [] [] = true
box_has (i ∷ is) (v ∷ vs) = (nat_le i.low v && nat_le v i.high) && box_has is vs
box_has _ _ = false

-- nothing is owed
abbrev pub owes_none : List Interval → Bool
owes_none [] = true
owes_none (i ∷ is) = false

-- the intervals, in order, have each number from one to another
abbrev pub spans : ℕ → ℕ → List Interval → Bool
spans low high [] = nat_lt high low
spans low high (i ∷ is) =
    if nat_le i.low low then spans (max low (i.high + 1)) high is else spans low high is

-- the intervals, in order, have each number of the first
abbrev pub fills : List Interval → Interval → Bool
fills is i = spans i.low i.high is

-- the module may be absent in the row
abbrev pub may_absent : Row → ℕ → Bool
may_absent r m = unwrap_or (slice_get r.absent m) false

-- a place lies in another
abbrev pub place_within : Place → Place → Bool
place_within p q = box_within p.cells q.cells && box_within p.owed q.owed

-- each of the first lies in one of the second
abbrev pub covers : {A : Type 0} → (A → A → Bool) → List A → List A → Bool
covers test xs ys = each (λ x. one (test x) ys) xs

-- a row has what another has of all modules and devices but these, and of all connections
abbrev pub stays : (ℕ → Bool) → (ℕ → Bool) → Row → Row → Bool
stays modules devices r new =
    each_from (λ m b. modules m || (not b || may_absent new m)) 0 r.absent
    && (each_from (λ m xs. modules m || covers place_within xs (at new.places m)) 0 r.places
    && (each_from (λ d xs. devices d || each (fills (at new.readings d)) xs) 0 r.readings
    && each_from (λ c xs. each (fills (at new.words c)) xs) 0 r.words))

-- no emit is among what may be done
abbrev pub is_quiet : Doing → Bool
is_quiet (MaySend output i) = true
is_quiet (MayEmit i) = false

-- the property emits nothing on its way, and a row in whose box it then is passes the test
abbrev pub led : Table → (Row → Bool) → Path → Bool
led t test path =
    each is_quiet path.acts && one (λ r. box_within path.cells r.watch && test r) t.rows

-- the test is true of the ways at a value for the input, if there is one
abbrev pub heard : Reactions → ModuleTree → Option ℕ → Interval → List Interval → (Path → Bool)
    → Bool
heard reacts tree None i box test = test (record { cells = box; acts = [] })
heard reacts tree (Some j) i box test = each test (reacts tree (Some j) i box)

-- so at an item of the topic with a value of the interval, in a row
abbrev pub leads : Reactions → PropertyTree → Table → Topic → Interval → Row → (Row → Bool) → Bool
leads reacts o t topic i r test = heard reacts o.tree (input_of o topic) i r.watch (led t test)

-- the table has each word for an actuator if the topic is what other code writes to it
abbrev pub fills_raw : Table → TopicKind → ℕ → Bool
fills_raw t kind.Raw d = spans 0 65535 (at t.given d)
fills_raw t _ d = true

abbrev pub has_raw : Table → Topic → Bool
has_raw t u = fills_raw t u.kind u.index

-- the table has each value that a line can give a sensor, and each that other code can write to an
-- actuator of which the property hears that
abbrev pub is_open : AppTree → PropertyTree → Table → Bool
is_open app o t = each_from (λ d x. not (is_sensor x.kind)
    || spans 0 32767 (at t.given d)) 0 app.devices
    && each (has_raw t) o.topics
