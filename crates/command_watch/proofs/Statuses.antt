-- The statuses of `watch`.
use Rattle.std.proofs.Common.{◌≡◌, ◌∙◌, ◌⊎◌, inl, inr, ℕ, ◌+◌, List, [], ◌∷◌, ◌++◌, length, nat_lt, refl, sym, ap, Option, Some, None, Result, Ok, Err}
use Rattle.sx_io.specs.Reading.{Answer, Line, End, Long, Fault, newline}
use Rattle.command_promise.specs.declared.status.Status.{Status}
use Rattle.command_promise.specs.declared.status.Status.TheVariants.{Done, Refused, Misused, ReadFailed, NoProperty, PropertyBroken}
use Rattle.command_promise.specs.Told.{Output}
use Rattle.command_promise.proofs.Endings.{Faultless, Unfinished, pick}
use Rattle.sx_entries.specs.declared.fault.DeployFault.{DeployFault}
use Rattle.command_promise.specs.Head.{Head, Found, TooLong, NoMark, head, head_behind, is_mark, most_bytes}
use Rattle.command_promise.specs.Head as heads
use Rattle.sx_trace.specs.declared.items.Item.{Item}
use Rattle.sx_model.specs.Legal.{before}
use Rattle.sx_deploy.specs.Deployment.{Deployed}
use Rattle.sx_watch.specs.declared.reading.PropertyFault.{PropertyFault}
use Rattle.sx_watch.specs.Watched.{PropertyTree, broken_at}
use Rattle.command_explain.specs.declared.images.ImageLine.{ImageLine}
use Rattle.command_explain.specs.declared.images.ImageLine.TheVariants as image
use Rattle.command_explain.specs.declared.lines.TraceRule.{TraceRule}
use Rattle.command_explain.specs.declared.lines.TraceRule.TheVariants.{NoTrace}
use Rattle.command_explain.specs.Trace.{Behind, Breaks, Missing, Start, Stop, Unread, Whole, image_line, on_image, start, trace}
use Rattle.command_explain.proofs.Stops.{start_whole, trace_kept}
use Rattle.command_watch.specs.Meant.{Meanings}
use Rattle.command_watch.specs.Output.{stop_output, unless_broken, watch_all, watch_from, watch_start}
use Rattle.command_watch.specs.Parts.{watch_found, watch_head, watch_judged, watch_property}
use Rattle.command_watch.specs.Laws.{IsBrokenTrace, IsKeptTrace, OfDeployment, OfInput, OfProperty, OfRest}

-- ---- what a status says of a trace

-- a status that no stop has, or that of one
is_whole : (items : List Item) (stop : Stop) → (stop_output items stop).status ≡ Done → stop ≡ Whole
is_whole items Whole e = refl
is_whole items Unread e = absurd (cc e)
is_whole items (Breaks rule number) e = absurd (cc e)

is_unread : (items : List Item) (stop : Stop) → (stop_output items stop).status ≡ ReadFailed → stop ≡ Unread
is_unread items Whole e = absurd (cc e)
is_unread items Unread e = refl
is_unread items (Breaks rule number) e = absurd (cc e)

not_two : (items : List Item) (stop : Stop) → (stop_output items stop).status ≡ Misused → ⊥
not_two items Whole e = cc e
not_two items Unread e = cc e
not_two items (Breaks rule number) e = cc e

not_twelve : (items : List Item) (stop : Stop) → (stop_output items stop).status ≡ PropertyBroken → ⊥
not_twelve items Whole e = cc e
not_twelve items Unread e = cc e
not_twelve items (Breaks rule number) e = cc e

-- whether an item breaks the property, by the status
unless_is : (o : Option ℕ) (rest : Output) (s : Status) → (unless_broken o rest).status ≡ s → (PropertyBroken ≡ s) ⊎ ((o ≡ None) × (rest.status ≡ s))
unless_is None rest s e = inr (refl, e)
unless_is (Some n) rest s e = inl e

from_is : (p : PropertyTree) (item : List ℕ → Option Item) (more : List Answer) (s : Status) → (watch_from p item [] more).status ≡ s
    → (PropertyBroken ≡ s) ⊎ ((broken_at p (before (trace item 1 more).items) ≡ None) × ((stop_output (trace item 1 more).items (trace item 1 more).stop).status ≡ s))
unfolding watch_from
from_is p item more s e = let t = trace item 1 more in unless_is (broken_at p (before t.items)) (stop_output t.items t.stop) s e

unless_twelve : (o : Option ℕ) (rest : Output) → (rest.status ≡ PropertyBroken → ⊥) → (unless_broken o rest).status ≡ PropertyBroken → (n : ℕ) × (o ≡ Some n)
unless_twelve None rest never e = absurd (never e)
unless_twelve (Some n) rest never e = (n, refl)

from_twelve : (p : PropertyTree) (item : List ℕ → Option Item) (more : List Answer) → (watch_from p item [] more).status ≡ PropertyBroken → (n : ℕ) × IsBrokenTrace n p item (Behind more)
unfolding watch_from
from_twelve p item more e =
    let t = trace item 1 more in unless_twelve (broken_at p (before t.items)) (stop_output t.items t.stop) (not_twelve t.items t.stop) e

-- ---- status 2 is for other words

start_not_two : (p : PropertyTree) (item : List ℕ → Option Item) (s : Start) → (watch_start p item s).status ≡ Misused → ⊥
start_not_two p item (Behind more) e =
    elim (from_is p item more Misused e) [
      | inl twelve ↦ cc twelve
      | inr rest ↦ not_two (trace item 1 more).items (trace item 1 more).stop rest.1
    ]
start_not_two p item (Missing stop) e = not_two [] stop e

judged_not_two : (item : List ℕ → Option Item) (r : Result PropertyTree PropertyFault) (more : List Answer) → (watch_judged item r more).status ≡ Misused → ⊥
judged_not_two item (Ok p) more e = start_not_two p item (start 1 more) e
judged_not_two item (Err f) more e = cc e

property_not_two : (means : Meanings) (d : Deployed) (h : Head) → (watch_property means d h).status ≡ Misused → ⊥
property_not_two means d (Found text more) e = judged_not_two (means.trace.item d.names) (means.property d.names d.app text) more e
property_not_two means d TooLong e = cc e
property_not_two means d NoMark e = cc e
property_not_two means d heads.Unread e = cc e

found_not_two : (means : Meanings) (r : Result Deployed DeployFault) (more : List Answer) → (watch_found means r more).status ≡ Misused → ⊥
found_not_two means (Ok d) more e = property_not_two means d (head more) e
found_not_two means (Err f) more e = cc e

pub head_not_two : (means : Meanings) (h : Head) → (watch_head means h).status ≡ Misused → ⊥
head_not_two means (Found text more) e = found_not_two means (means.trace.deployment text) more e
head_not_two means TooLong e = cc e
head_not_two means NoMark e = cc e
head_not_two means heads.Unread e = cc e

-- ---- a stop that doesn't come

-- A stop, and its status, that no broken rule gives; and what answers keep so that it doesn't come.
module _ (bad : Stop) (s : Status) (Kept : List Answer → Type 0) (is_bad : (items : List Item) (stop : Stop) → (stop_output items stop).status ≡ s → stop ≡ bad)
    (breaks : (rule : TraceRule) (number : ℕ) → Breaks rule number ≡ bad → ⊥) (one : Refused ≡ s → ⊥) (seven : NoProperty ≡ s → ⊥) (twelve : PropertyBroken ≡ s → ⊥)
    (none : Kept [] → Whole ≡ bad → ⊥) (ended : (more : List Answer) → Kept (End ∷ more) → Whole ≡ bad → ⊥)
    (failed : (more : List Answer) → Kept (Fault ∷ more) → Unread ≡ bad → ⊥) (unread : (more : List Answer) → Kept (Fault ∷ more) → ReadFailed ≡ s → ⊥)
    (behind : (text : List ℕ) (more : List Answer) → Kept (Line text ∷ more) → Kept more) where
  from_kept : (p : PropertyTree) (item : List ℕ → Option Item) (answers : List Answer) → Kept answers → (watch_from p item [] answers).status ≡ s → ⊥
  from_kept p item answers k e =
      elim (from_is p item answers s e) [
        | inl h ↦ twelve h
        | inr h ↦ trace_kept bad Kept breaks none ended failed behind item 1 answers k (is_bad (trace item 1 answers).items (trace item 1 answers).stop h.1)
      ]

  image_kept : (p : PropertyTree) (item : List ℕ → Option Item) (number : ℕ) (l : ImageLine) (more : List Answer) (rest : Start) → Kept more → ((watch_start p item rest).status ≡ s → ⊥)
      → (watch_start p item (on_image number l more rest)).status ≡ s → ⊥
  image_kept p item number image.Trace more rest k next e = from_kept p item more k e
  image_kept p item number image.Image more rest k next e = next e
  image_kept p item number image.Other more rest k next e = breaks NoTrace number (is_bad [] (Breaks NoTrace number) e)

  start_kept : (p : PropertyTree) (item : List ℕ → Option Item) (number : ℕ) (answers : List Answer) → Kept answers → (watch_start p item (start number answers)).status ≡ s → ⊥
  start_kept p item number [] k e = breaks NoTrace number (is_bad [] (Breaks NoTrace number) e)
  start_kept p item number (End ∷ more) k e = breaks NoTrace number (is_bad [] (Breaks NoTrace number) e)
  start_kept p item number (Long ∷ more) k e = breaks NoTrace number (is_bad [] (Breaks NoTrace number) e)
  start_kept p item number (Fault ∷ more) k e = failed more k (is_bad [] Unread e)
  start_kept p item number (Line text ∷ more) k e =
      image_kept p item number (image_line number text) more (start (number + 1) more) (behind text more k) (start_kept p item (number + 1) more (behind text more k)) e

  judged_kept : (item : List ℕ → Option Item) (r : Result PropertyTree PropertyFault) (answers : List Answer) → Kept answers → (watch_judged item r answers).status ≡ s → ⊥
  judged_kept item (Ok p) answers k e = start_kept p item 1 answers k e
  judged_kept item (Err f) answers k e = seven e

  -- a head, by what is said of none
  head_kept : (say : Head → Output) → ((say TooLong).status ≡ s → ⊥) → ((say NoMark).status ≡ s → ⊥) → ((say heads.Unread).status ≡ ReadFailed)
      → ((text : List ℕ) (more : List Answer) → Kept more → (say (Found text more)).status ≡ s → ⊥)
      → (text : List ℕ) (answers : List Answer) → Kept answers → (say (head_behind text answers)).status ≡ s → ⊥
  head_kept say long unmarked four found text [] k e = unmarked e
  head_kept say long unmarked four found text (End ∷ more) k e = unmarked e
  head_kept say long unmarked four found text (Long ∷ more) k e = long e
  head_kept say long unmarked four found text (Fault ∷ more) k e = unread more k (sym four ∙ e)
  head_kept say long unmarked four found text (Line line ∷ more) k e =
      pick (is_mark line) (Found text more) _ (λ h. (say h).status ≡ s → ⊥) (found text more (behind line more k))
      (pick (nat_lt most_bytes (length text + length line + 1)) TooLong _ (λ h. (say h).status ≡ s → ⊥) long
      (head_kept say long unmarked four found (text ++ line ++ newline ∷ []) more (behind line more k))) e

  found_kept : (means : Meanings) (r : Result Deployed DeployFault) (answers : List Answer) → Kept answers → (watch_found means r answers).status ≡ s → ⊥
  found_kept means (Ok d) answers k e =
      head_kept (watch_property means d) seven seven refl (λ text more k e. judged_kept (means.trace.item d.names) (means.property d.names d.app text) more k e) [] answers k e
  found_kept means (Err f) answers k e = one e

  all_kept : (means : Meanings) (answers : List Answer) → Kept answers → (watch_all means answers).status ≡ s → ⊥
  all_kept means answers k e = head_kept (watch_head means) one one refl (λ text more k e. found_kept means (means.trace.deployment text) more k e) [] answers k e

-- status 4 says that a read failed
pub not_four : (means : Meanings) (answers : List Answer) → Faultless answers → (watch_all means answers).status ≡ ReadFailed → ⊥
not_four means answers kept =
    all_kept Unread ReadFailed Faultless is_unread (λ rule number e. cc e) (λ e. cc e) (λ e. cc e) (λ e. cc e) (λ k e. cc e) (λ more k e. cc e) (λ more k e. k) (λ more k e. k)
    (λ text more k. k) means answers kept

-- status 0 says that the input ended
pub not_zero : (means : Meanings) (answers : List Answer) → Unfinished answers → (watch_all means answers).status ≡ Done → ⊥
not_zero means answers kept =
    all_kept Whole Done Unfinished is_whole (λ rule number e. cc e) (λ e. cc e) (λ e. cc e) (λ e. cc e) (λ k e. k) (λ more k e. k) (λ more k e. cc e)
    (λ more k e. cc e) (λ text more k. k) means answers kept

-- ---- status 0

start_zero : (p : PropertyTree) (item : List ℕ → Option Item) (s : Start) → (watch_start p item s).status ≡ Done → (s ≡ Missing Whole → ⊥) → IsKeptTrace p item s
start_zero p item (Behind more) e n =
    elim (from_is p item more Done e) [
      | inl twelve ↦ absurd (cc twelve)
      | inr rest ↦ (is_whole (trace item 1 more).items (trace item 1 more).stop rest.1, rest.0)
    ]
start_zero p item (Missing stop) e n = absurd (n (ap Missing (is_whole [] stop e)))

judged_zero : (item : List ℕ → Option Item) (r : Result PropertyTree PropertyFault) (more : List Answer) → (watch_judged item r more).status ≡ Done → OfProperty IsKeptTrace item r more
judged_zero item (Ok p) more e = start_zero p item (start 1 more) e (start_whole 1 more)
judged_zero item (Err f) more e = absurd (cc e)

rest_zero : (means : Meanings) (d : Deployed) (h : Head) → (watch_property means d h).status ≡ Done → OfRest means IsKeptTrace d h
rest_zero means d (Found text more) e = judged_zero (means.trace.item d.names) (means.property d.names d.app text) more e
rest_zero means d TooLong e = absurd (cc e)
rest_zero means d NoMark e = absurd (cc e)
rest_zero means d heads.Unread e = absurd (cc e)

found_zero : (means : Meanings) (r : Result Deployed DeployFault) (more : List Answer) → (watch_found means r more).status ≡ Done → OfDeployment means IsKeptTrace r more
found_zero means (Ok d) more e = rest_zero means d (head more) e
found_zero means (Err f) more e = absurd (cc e)

pub head_zero : (means : Meanings) (h : Head) → (watch_head means h).status ≡ Done → OfInput means IsKeptTrace h
head_zero means (Found text more) e = found_zero means (means.trace.deployment text) more e
head_zero means TooLong e = absurd (cc e)
head_zero means NoMark e = absurd (cc e)
head_zero means heads.Unread e = absurd (cc e)

-- ---- status 12

start_twelve : (p : PropertyTree) (item : List ℕ → Option Item) (s : Start) → (watch_start p item s).status ≡ PropertyBroken → (n : ℕ) × IsBrokenTrace n p item s
start_twelve p item (Behind more) e = from_twelve p item more e
start_twelve p item (Missing stop) e = absurd (not_twelve [] stop e)

judged_twelve : (item : List ℕ → Option Item) (r : Result PropertyTree PropertyFault) (more : List Answer) → (watch_judged item r more).status ≡ PropertyBroken
    → (n : ℕ) × OfProperty (IsBrokenTrace n) item r more
judged_twelve item (Ok p) more e = start_twelve p item (start 1 more) e
judged_twelve item (Err f) more e = absurd (cc e)

rest_twelve : (means : Meanings) (d : Deployed) (h : Head) → (watch_property means d h).status ≡ PropertyBroken → (n : ℕ) × OfRest means (IsBrokenTrace n) d h
rest_twelve means d (Found text more) e = judged_twelve (means.trace.item d.names) (means.property d.names d.app text) more e
rest_twelve means d TooLong e = absurd (cc e)
rest_twelve means d NoMark e = absurd (cc e)
rest_twelve means d heads.Unread e = absurd (cc e)

found_twelve : (means : Meanings) (r : Result Deployed DeployFault) (more : List Answer) → (watch_found means r more).status ≡ PropertyBroken → (n : ℕ) × OfDeployment means (IsBrokenTrace n) r more
found_twelve means (Ok d) more e = rest_twelve means d (head more) e
found_twelve means (Err f) more e = absurd (cc e)

pub head_twelve : (means : Meanings) (h : Head) → (watch_head means h).status ≡ PropertyBroken → (n : ℕ) × OfInput means (IsBrokenTrace n) h
head_twelve means (Found text more) e = found_twelve means (means.trace.deployment text) more e
head_twelve means TooLong e = absurd (cc e)
head_twelve means NoMark e = absurd (cc e)
head_twelve means heads.Unread e = absurd (cc e)
