-- A table that passes the check is closed.
use Rattle.std.proofs.Common.{◌≡◌, ℕ, ◌<◌, ◌⊎◌, inl, inr, ◌==◌, ◌&&◌, ◌||◌, Bool, true, false, not, List, [], ◌∷◌, Option, Some, None, refl, sym, ap, subst}
use Rattle.std.proofs.Common.{arith}
use Rattle.std.specs.Prelude.{slice_get, is_some}
use Rattle.std.proofs.lemmas.Bool.{and_parts, eqb-true}
use Rattle.sx_lang.specs.Tree.{ModuleTree}
use Rattle.sx_mean.specs.declared.apps.AppDevice.{AppDevice}
use Rattle.sx_mean.specs.Application.{AppTree, PartTree, is_sensor}
use Rattle.sx_model.specs.Consequences.{is_device_at, is_part_at}
use Rattle.law_never.specs.Rules.{Each}
use Rattle.law_never.specs.Intervals.{Interval, AreInside, OneOf, Doing, MaySend, MayEmit, Path, Reactions}
use Rattle.law_never.specs.Tables.{Row, Table, at, IsAmong, MayBeAbsent}
use Rattle.law_never.specs.Closed.{Hears, IsLed, IsQuietDoing, Leads, Stays}
use Rattle.law_never.specs.Check.{box_within, each, each_from, heard, may_absent}
use Rattle.law_never.specs.Check.{has_raw, is_open, is_quiet, leads, led, one}
use Rattle.law_never.specs.Check.{spans}
use Rattle.law_never.specs.Laws.{IsOpen}
use Rattle.law_never.proofs.Lists.{each_map, one_map}
use Rattle.law_never.proofs.Tests.{box_true, each_true, index_true, one_true, or_false, or_not}
use Rattle.law_never.proofs.Tests.{spans_true, topic_true}
use Rattle.sx_watch.specs.declared.topics.TopicKind.TheVariants as kind
use Rattle.sx_watch.specs.Watching.{about}
use Rattle.sx_watch.specs.declared.topics.Topic.{Topic}
use Rattle.sx_watch.specs.Watched.{PropertyTree, input_of}

quiet_true : (d : Doing) → is_quiet d ≡ true → IsQuietDoing d
quiet_true (MaySend output i) h = tt
quiet_true (MayEmit i) h = absurd cc

led_true : (t : Table) (test : Row → Bool) (Q : Row → Type 0) → ((r : Row) → test r ≡ true → Q r) → (path : Path) → led t test path ≡ true → IsLed t Q path
led_true t test Q f path h =
    let k = and_parts (each is_quiet path.acts) (one (λ r. box_within path.cells r.watch && test r) t.rows) h in
    record {
      quiet = each_map (λ d. is_quiet d ≡ true) IsQuietDoing quiet_true path.acts (each_true is_quiet path.acts k.0);
      row = one_map (λ r. (box_within path.cells r.watch && test r) ≡ true) (λ r. ((cells : List ℕ) → AreInside path.cells cells → AreInside r.watch cells) × Q r)
          (λ r e. let u = and_parts (box_within path.cells r.watch) (test r) e in (λ cells i. box_true path.cells r.watch u.0 cells i, f r u.1)) t.rows
          (one_true (λ r. box_within path.cells r.watch && test r) t.rows k.1);
    }

heard_true : (reacts : Reactions) (tree : ModuleTree) (input : Option ℕ) (i : Interval) (box : List Interval) (test : Path → Bool) (P : Path → Type 0)
    → ((path : Path) → test path ≡ true → P path) → heard reacts tree input i box test ≡ true → Hears reacts tree input i box P
heard_true reacts tree None i box test P f h = f (record { cells = box; acts = [] }) h
heard_true reacts tree (Some j) i box test P f h = each_map (λ path. test path ≡ true) P f (reacts tree (Some j) i box) (each_true test (reacts tree (Some j) i box) h)

pub leads_true : (reacts : Reactions) (o : PropertyTree) (t : Table) (topic : Topic) (i : Interval) (r : Row) (test : Row → Bool) (Q : Row → Type 0) → ((new : Row) → test new ≡ true → Q new)
    → leads reacts o t topic i r test ≡ true → Leads reacts o t topic i r Q
leads_true reacts o t topic i r test Q f h = heard_true reacts o.tree (input_of o topic) i r.watch (led t test) (IsLed t Q) (led_true t test Q f) h

-- what isn't heard leaves the property where it is
pub unheard : (reacts : Reactions) (o : PropertyTree) (t : Table) (topic : Topic) (i : Interval) (r : Row) (Q : Row → Type 0) → OneOf (λ u. u ≡ r) t.rows → Q r → input_of o topic ≡ None
    → Leads reacts o t topic i r Q
unheard reacts o t topic i r Q there q e =
    subst (λ input. Hears reacts o.tree input i r.watch (IsLed t Q)) (sym e)
    (record {
      quiet = tt;
      row = one_map (λ u. u ≡ r) (λ u. ((cells : List ℕ) → AreInside r.watch cells → AreInside u.watch cells) × Q u)
          (λ u e. subst (λ u. ((cells : List ℕ) → AreInside r.watch cells → AreInside u.watch cells) × Q u) (sym e) (λ cells i. i, q)) t.rows there;
    })

module _ (reacts' : Reactions) (app : AppTree) (o : PropertyTree) (t : Table) (r : Row) (there : OneOf (λ u. u ≡ r) t.rows) where
  pub gone_true : (n : ℕ) (new : Row) → each_from (λ m q. not (q.node == n) || may_absent new m) 0 app.parts ≡ true
      → (m : ℕ) → is_part_at n (slice_get app.parts m) ≡ true → MayBeAbsent new m
  gone_true n new h m part = here (slice_get app.parts m) refl part
    where
      here : (o : Option PartTree) → slice_get app.parts m ≡ o → is_part_at n o ≡ true → MayBeAbsent new m
      here None e p = absurd cc
      here (Some q) e p = or_not (q.node == n) (may_absent new m) (index_true (λ m q. not (q.node == n) || may_absent new m) app.parts h m q e) p

  -- where the reset of a node isn't heard, its modules may be absent
  pub unheard_gone : (n : ℕ) → each_from (λ m q. is_some (input_of o (about kind.Reset q.node)) || may_absent r m) 0 app.parts ≡ true → input_of o (about kind.Reset n) ≡ None
      → (m : ℕ) → is_part_at n (slice_get app.parts m) ≡ true → MayBeAbsent r m
  unheard_gone n h none' m part = here (slice_get app.parts m) refl part
    where
      here : (x : Option PartTree) → slice_get app.parts m ≡ x → is_part_at n x ≡ true → MayBeAbsent r m
      here None e p = absurd cc
      here (Some q) e p =
          or_false (is_some (input_of o (about kind.Reset q.node))) (may_absent r m) (index_true (λ m q. is_some (input_of o (about kind.Reset q.node)) || may_absent r m) app.parts h m q e)
          (subst (λ k. is_some (input_of o (about kind.Reset k)) ≡ false) (sym (eqb-true q.node n p)) (ap (λ x. is_some x) none'))

  abbrev pub Resets : ℕ → Row → Type 0
  Resets n new = Stays (λ m. is_part_at n (slice_get app.parts m)) (λ d. is_device_at n (slice_get app.devices d)) r new
      × ((m : ℕ) → is_part_at n (slice_get app.parts m) ≡ true → MayBeAbsent new m)

pub each_there : {A : Type 0} → (xs : List A) → Each (λ x. OneOf (λ y. y ≡ x) xs) xs
each_there [] = tt
each_there (x ∷ xs) = (inl refl, each_map (λ z. OneOf (λ y. y ≡ z) xs) (λ z. (x ≡ z) ⊎ OneOf (λ y. y ≡ z) xs) (λ z h. inr h) xs (each_there xs))

pub each_both : {A : Type 0} → (P Q : A → Type 0) → (xs : List A) → Each P xs → Each Q xs → Each (λ x. P x × Q x) xs
each_both P Q [] a b = tt
each_both P Q (x ∷ xs) a b = ((a.0, b.0), each_both P Q xs a.1 b.1)

raw_true : (o : PropertyTree) (t : Table) (d : ℕ) → (input_of o (about kind.Raw d) ≡ None) ⊎ (has_raw t (about kind.Raw d) ≡ true)
    → (input_of o (about kind.Raw d) ≡ None) ⊎ ((v : ℕ) → v < 65536 → IsAmong (at t.given d) v)
raw_true o t d (inl e) = inl e
raw_true o t d (inr e) = inr (λ v small. spans_true 0 65535 (at t.given d) e v (omega arith) (omega (arith, small)))

pub open_true : (app : AppTree) (o : PropertyTree) (t : Table) → is_open app o t ≡ true → IsOpen app o t
open_true app o t h =
    let test : ℕ → AppDevice → Bool = λ d x. not (is_sensor x.kind) || spans 0 32767 (at t.given d) in
    let k = and_parts (each_from test 0 app.devices) (each (has_raw t) o.topics) h in
    record {
      sensed = λ d x e kind v small. spans_true 0 32767 (at t.given d)
          (or_not (is_sensor x.kind) (spans 0 32767 (at t.given d)) (index_true test app.devices k.0 d x e) kind) v (omega arith) (omega (arith, small));
      raw = λ d. raw_true o t d (topic_true o (has_raw t) k.1 (about kind.Raw d));
    }
