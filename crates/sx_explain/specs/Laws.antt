-- In a legal trace each reading, each taking and each output gets its cause; and what holds of one
-- with acts in their order.
use Rattle.std.specs.Prelude.{◌≡◌, ℕ, true, Bool, false, List, ◌∷◌, ◌++◌, ◌≤◌, length, Some, None}
use Rattle.sx_mean.specs.Application.{AppTree}
use Rattle.sx_mean.specs.Validity.{is_valid}
use Rattle.sx_trace.specs.declared.items.Item.{Item}
use Rattle.sx_trace.specs.declared.items.Item.TheVariants.{Read, Take, Out}
use Rattle.sx_model.specs.State.{Model, power_on}
use Rattle.sx_model.specs.Step.{step}
use Rattle.sx_model.specs.Legal.{Legal, after, before}
use Rattle.sx_explain.specs.declared.judge.Judged.TheVariants.{Because, Illegal}
use Rattle.sx_explain.specs.Judging.{judged}
use Rattle.sx_explain.specs.Causes.{HasCauses}
use Rattle.sx_explain.specs.Sending.{TakenBehind}
use Rattle.sx_explain.specs.Finished.{EventsAreFinished}
use Rattle.sx_model.specs.order.Legal.{LegalInOrder}
use Rattle.sx_model.specs.order.Turns.{OneAtATime}

-- items of the three kinds that have causes
abbrev pub has_cause : Item → Bool
has_cause (Read m v) = true
has_cause (Take m c i v) = true
has_cause (Out m v) = true
has_cause _ = false

-- a judge says of each of them which item before it caused it
abbrev pub LegalIsExplained : Type 0
LegalIsExplained =
    (app : AppTree) (items front behind : List Item) (item : Item) → is_valid app ≡ true
    → Legal app (before items) → before items ≡ front ++ item ∷ behind → has_cause item ≡ true
    → (n : ℕ) × (judged app front item ≡ Because n) × (n ≤ length front)

-- a judge says of no item that it is illegal
abbrev pub NoneIllegal : AppTree → List Item → Type 0
NoneIllegal app items =
    (front behind : List Item) (item : Item) → items ≡ front ++ item ∷ behind
    → judged app front item ≡ Illegal → ⊥

-- That is so exactly where the items before the first that is forged are legal.
abbrev pub JudgesLegal : Type 0
JudgesLegal =
    (app : AppTree) (items : List Item)
    → (Legal app (before items) → NoneIllegal app items)
    × (NoneIllegal app items → Legal app (before items))

-- Where a judge says of an item that it is illegal, the source doesn't allow it after the items
-- before it.
abbrev pub IllegalIsRefused : Type 0
IllegalIsRefused =
    (app : AppTree) (front : List Item) (item : Item) (s : Model)
    → after app (power_on app) front ≡ Some s → judged app front item ≡ Illegal
    → step app s item ≡ None

abbrev pub LegalHasCauses : Type 0
LegalHasCauses = (app : AppTree) (items : List Item) → is_valid app ≡ true → Legal app items
    → HasCauses app items

-- In a legal trace with acts in their order each word that is taken was sent so.
abbrev pub InOrderTakesBehind : Type 0
InOrderTakesBehind = (app : AppTree) (items : List Item) → length app.links ≤ 256
    → LegalInOrder app items → TakenBehind app items

-- Where besides a node shows one event at a time, each event is finished before its node shows
-- anything else.
abbrev pub InOrderFinishes : Type 0
InOrderFinishes = (app : AppTree) (items : List Item) → LegalInOrder app items
    → OneAtATime app items → EventsAreFinished app items
