-- A closed table, for the runs of a sound setting.
use Rattle.std.proofs.Common.{◌≡◌, ◌≤◌, ◌<◌, ◌%◌, ◌⊎◌, ℕ, List, [], ◌∷◌, length, Some, None, inl, inr, arith}
use Rattle.std.specs.Prelude.{All, IsSome}
use Rattle.std.proofs.lemmas.List.Elements.{All-head, All-tail}
use Rattle.sx_trace.specs.declared.items.Item.{Item}
use Rattle.sx_trace.specs.declared.items.Item.TheVariants.{Reset, Protect, Sense, Read, Drain, Ask, Attested, Denied, Vouch, Open, Take, Out, Raw, Done, Packet}
use Rattle.sx_trace.specs.declared.items.Item.TheVariants.{Forged, Busy, Skip, Budget}
use Rattle.sx_mean.specs.Application.{AppTree}
use Rattle.sx_model.specs.State.{Model, power_on}
use Rattle.sx_model.specs.Step.{step}
use Rattle.sx_model.specs.Legal.{Legal, after, before}
use Rattle.sx_model.specs.order.Given as range
use Rattle.sx_model.proofs.Along.{next_of}
use Rattle.spec_run.specs.State.{switched_on}
use Rattle.spec_run.specs.Run.{run}
use Rattle.spec_run.proofs.RunsLegal.{runs_legal}
use Rattle.spec_run.proofs.turns.RunsAreGiven.{runs_are_given}
use Rattle.law_never.specs.Rules.{Each}
use Rattle.law_never.specs.Tables.{Table, IsAmong, IsGiven, at}
use Rattle.law_never.specs.Laws.{ClosedKeepsInRuns, IsOpen}
use Rattle.law_never.proofs.Cases.{sensed_device}
use Rattle.law_never.proofs.ClosedKeeps.{closed_keeps}
use Rattle.sx_watch.specs.declared.topics.TopicKind.TheVariants as kind
use Rattle.sx_watch.specs.Watching.{about}
use Rattle.sx_watch.specs.Watched.{PropertyTree, input_of}

module _ (app : AppTree) (o : PropertyTree) (t : Table) (open' : IsOpen app o t) where
  raw_of : (d v : ℕ) → (input_of o (about kind.Raw d) ≡ None) ⊎ ((v : ℕ) → v < 65536 → IsAmong (at t.given d) v) → v % 65536 < 65536
      → (input_of o (about kind.Raw d) ≡ None) ⊎ IsAmong (at t.given d) (v % 65536)
  raw_of d v (inl e) w = inl e
  raw_of d v (inr f) w = inr (f (v % 65536) w)

  -- what is allowed, and in range, is among what the table has
  given_of : (s n : Model) (item : Item) → step app s item ≡ Some n → range.IsGiven item → IsGiven o t item
  given_of s n (Sense d v) is given = let w = sensed_device app s d v n is in open'.sensed d w.0 w.1 w.2 v given
  given_of s n (Raw d v) is given = raw_of d v (open'.raw d) (omega arith)
  given_of s n (Reset m cause) is given = tt
  given_of s n (Protect k m) is given = tt
  given_of s n (Read m v) is given = tt
  given_of s n (Drain d) is given = tt
  given_of s n (Ask m a) is given = tt
  given_of s n (Attested m b) is given = tt
  given_of s n (Denied m) is given = tt
  given_of s n (Vouch m a) is given = tt
  given_of s n (Open m c side epoch) is given = tt
  given_of s n (Take m c i v) is given = tt
  given_of s n (Out m v) is given = tt
  given_of s n (Done m status k) is given = tt
  given_of s n (Packet k len) is given = tt
  given_of s n (Forged m) is given = tt
  given_of s n (Busy m) is given = tt
  given_of s n (Skip m) is given = tt
  given_of s n (Budget m) is given = tt

  pub each_given : (items : List Item) (s : Model) → IsSome (after app s items) → All range.IsGiven items → Each (IsGiven o t) items
  each_given [] s legal given = tt
  each_given (item ∷ items) s legal given =
      let r = next_of (step app s item) (λ n. after app n items) legal in
      (given_of s r.0 item r.1 (All-head range.IsGiven item items given), each_given items r.0 r.2 (All-tail range.IsGiven item items given))

pub closed_keeps_in_runs : ClosedKeepsInRuns
closed_keeps_in_runs reacts o t set sound lines few form ways closed open' =
    let items : List Item = before (run set (switched_on set) lines).items in
    let links : length set.app.links ≤ 256 = let f = sound.links in omega (arith, f) in
    let legal : Legal set.app items = runs_legal set sound lines few form in
    closed_keeps reacts set.app o t links ways closed items
    (each_given set.app o t open' items (power_on set.app) legal (runs_are_given set sound lines few form)) legal
