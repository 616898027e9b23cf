-- One item that is judged, and what is written of it.
use Rattle.std.proofs.Common.{◌≡◌, ℕ, ◌+◌, Bool, true, false, List, [], ◌∷◌, ◌++◌, length, refl, subst, Result, Ok, Err}
use Rattle.std.specs.Prelude.{◌≢◌}
use Rattle.sx_io.specs.Streams.{SinkAt}
use Rattle.command_promise.specs.declared.status.Status.{Status}
use Rattle.command_promise.specs.Told.{CommandEnds, Output, behind}
use Rattle.command_promise.specs.declared.turned.Turned.{Turned}
use Rattle.command_promise.specs.declared.turned.Turned.TheVariants.{On, Stop}
use Rattle.sx_trace.specs.declared.items.Item.{Item}
use Rattle.sx_mean.specs.Application.{AppTree}
use Rattle.sx_explain.specs.declared.judge.Judged.{Judged}
use Rattle.sx_explain.specs.declared.judge.Judged.TheVariants as verdict
use Rattle.sx_explain.specs.Followed.{Follows, Seen, items_after}
use Rattle.sx_explain.specs.Judging.{judged}
use Rattle.command_explain.specs.Output.{told_item}
use Rattle.command_explain.specs.Turns.{JudgesItem, TellsItem}

taken_on : (items : List Item) (item : Item) (j : Judged) → j ≢ verdict.Illegal → items_after items item j ≡ items ++ item ∷ []
taken_on items item (verdict.Because n) h = refl
taken_on items item verdict.Illegal h = absurd (h refl)
taken_on items item verdict.Fine h = refl
taken_on items item verdict.Forged h = refl
taken_on items item verdict.Unjudged h = refl

pub judges : {to_tell : Bool} {k0 k1 : SinkAt} {kept left : List ℕ} {new : Seen} {turned : Turned} (app : AppTree) (items : List Item) (item : Item) (number : ℕ) (j : Judged)
    → number ≡ length items + 1 → j ≡ judged app items item → Follows app (items_after items item j) new → TellsItem to_tell k0 k1 kept left number j turned
    → (turned ≡ On → j ≢ verdict.Illegal) → JudgesItem to_tell k0 k1 kept left app items item new turned
judges {to_tell} {k0} {k1} {kept} {left} {new} {turned} app items item number j counted is follows tells on = record {
  does =
      let P : ℕ → Type 0 = λ n. TellsItem to_tell k0 k1 kept left n (judged app items item) turned in
      let Q : Judged → Type 0 = λ j. TellsItem to_tell k0 k1 kept left number j turned in
      subst P counted (subst Q is tells);
  follows = λ goes. (let P : List Item → Type 0 = λ xs. Follows app xs new in subst P (taken_on items item j (on goes)) follows);
}

pub judges_none : {to_tell : Bool} {k0 k1 : SinkAt} {kept left : List ℕ} {new : Seen} {status : Status} (app : AppTree) (items : List Item) (item : Item)
    → ((o : Output) → CommandEnds to_tell k0 k1 status (behind kept o)) → JudgesItem to_tell k0 k1 kept left app items item new (Stop status)
judges_none {to_tell} {k0} {k1} {kept} {left} {new} {status} app items item ends = record {
  does = λ o. ends (told_item (length items + 1) (judged app items item) o);
  follows = λ on. absurd (cc on);
}

-- memory runs out of no call that would answer without it
pub wanted_unforged : {E : Type 0} {e : E} (b : Bool) → (b ≡ true → ◌≡◌ {A = Result Judged E} (Err e) (Ok verdict.Unjudged)) → b ≡ false
wanted_unforged true h = absurd (let z = h refl in cc)
wanted_unforged false h = refl
