-- Fronts of the items that are due.
use Rattle.std.proofs.Common.{◌≡◌, ℕ, ◌+◌, ◌<◌, Bool, false, Option, Some, Result, Ok, Err, OnErr, List, [], ◌∷◌, ◌++◌, length, drop, drop-cons, add-one, get_or, refl, sym, subst, ap, ◌∙◌}
use Rattle.std.proofs.lemmas.List.{append_assoc, append-nil}
use Rattle.sx_trace.specs.declared.items.Item.{Item}
use Rattle.sx_trace.specs.declared.items.Item.TheVariants.{Forged}
use Rattle.sx_mean.specs.Application.{AppTree}
use Rattle.spec_machine.specs.declared.kinds.Touch.{Touch}
use Rattle.spec_machine.specs.declared.kinds.Touch.TheVariants as touch
use Rattle.sx_ledger.specs.declared.entry.Entry.{Entry}
use Rattle.sx_ledger.specs.Made.{Made}
use Rattle.spec_machine.specs.declared.kinds.Event.{Event}
use Rattle.spec_machine.specs.declared.kinds.Event.TheVariants.{Wrapped, Unwrapped}
use Rattle.spec_machine.specs.declared.kinds.Exchange.{Exchange}
use Rattle.spec_machine.specs.State.{State}
use Rattle.spec_run.specs.Setting.{Setting}
use Rattle.spec_run.specs.Ledger.{header_of, body_of}
use Rattle.spec_run.specs.Observation.{Observed, event_seen, has_wrapped, has_unwrapped, touch_items, unless_made}
use Rattle.sx_observe.specs.Observing.{IsFront, AddsFront, Records, ObservesFront}

-- nothing was added
pub front_none : (old due : List Item) → AddsFront old old due
front_none old due = ([], sym (append-nil old), (due, refl))

pub front_same : (new old due : List Item) → new ≡ old → AddsFront old new due
front_same new old due e = ([], e ∙ sym (append-nil old), (due, refl))

-- and so whatever the ledger is
pub due_none : {T E : Type 0} (r : Result T E) (old : List Entry) (before after : List Item) (due : List Made → Observed) → OnErr r (after ≡ before)
    → OnErr r (ObservesFront old before after due)
due_none (Ok x) old before after due e = tt
due_none (Err w) old before after due e = λ list h. front_same after before (due list).items e

-- nobody made it, which was told, and memory ran out before the item
pub told_front : {T E : Type 0} (r : Result T E) (old mid new : List Item) (who : Option ℕ) (made : Bool) (i : Item) → made ≡ false → mid ≡ old ++ Forged who ∷ [] → OnErr r (new ≡ mid)
    → OnErr r (AddsFront old new (unless_made who made i))
told_front (Ok x) old mid new who made i is told e = tt
told_front (Err w) old mid new who made i is told e = subst (λ b. AddsFront old new (unless_made who b i)) (sym is) (Forged who ∷ [], e ∙ told, (i ∷ [], refl))

-- all that is due was added
pub front_all : (new old due : List Item) → new ≡ old ++ due → AddsFront old new due
front_all new old due e = (due, e, ([], append-nil due))

-- a prefix of the first part
pub front_more : (new old a b : List Item) → AddsFront old new a → AddsFront old new (a ++ b)
front_more new old a b f = (f.0, f.1, (f.2.0 ++ b, sym (append_assoc f.0 f.2.0 b) ∙ ap (λ x. x ++ b) f.2.1))

-- the first part and a prefix of the second
pub front_next : (new mid old a b : List Item) → mid ≡ old ++ a → AddsFront mid new b → AddsFront old new (a ++ b)
front_next new mid old a b e f = (a ++ f.0, f.1 ∙ ap (λ x. x ++ f.0) e ∙ append_assoc old a f.0, (f.2.0, append_assoc a f.0 f.2.0 ∙ ap (λ x. a ++ x) f.2.1))

-- all items that are there are a prefix of those before with those that are due
pub as_front : (new old due : List Item) → AddsFront old new due → IsFront new (old ++ due)
as_front new old due f = (f.2.0, ap (λ x. x ++ f.2.0) f.1 ∙ append_assoc old f.0 f.2.0 ∙ ap (λ x. old ++ x) f.2.1)

-- To the items before these came, of those that are due, and the others are left.
abbrev pub Comes : List Item → List Item → List Item → List Item → Type 0
Comes before came left due = (front : List Item) × (came ≡ before ++ front) × (front ++ left ≡ due)

pub comes_first : (before due : List Item) → Comes before before due due
comes_first before due = ([], sym (append-nil before), refl)

-- one part more
pub comes_on : (before came after xs more left due : List Item) → Comes before came left due → after ≡ came ++ xs → left ≡ xs ++ more → Comes before after more due
comes_on before came after xs more left due c e part = (
  c.0 ++ xs,
  e ∙ ap (λ x. x ++ xs) c.1 ∙ append_assoc before c.0 xs,
  append_assoc c.0 xs more ∙ ap (λ x. c.0 ++ x) (sym part) ∙ c.2,
)

-- all that was left
pub comes_all : (before came after left due : List Item) → Comes before came left due → after ≡ came ++ left → after ≡ before ++ due
comes_all before came after left due c e = e ∙ ap (λ x. x ++ left) c.1 ∙ append_assoc before c.0 left ∙ ap (λ x. before ++ x) c.2

-- a prefix of what was left
pub comes_front : (before came after left due : List Item) → Comes before came left due → AddsFront came after left → AddsFront before after due
comes_front before came after left due c f = (
  c.0 ++ f.0,
  f.1 ∙ ap (λ x. x ++ f.0) c.1 ∙ append_assoc before c.0 f.0,
  (f.2.0, append_assoc c.0 f.0 f.2.0 ∙ ap (λ x. c.0 ++ x) f.2.1 ∙ c.2),
)

-- a prefix of what is due, said otherwise
pub due_same : {T E : Type 0} (r : Result T E) (old : List Entry) (before after : List Item) (due said : List Made → Observed) → ((list : List Made) → due list ≡ said list)
    → OnErr r (ObservesFront old before after due) → OnErr r (ObservesFront old before after said)
due_same (Ok x) old before after due said same f = tt
due_same (Err e) old before after due said same f = λ list h. subst (λ (o : Observed). AddsFront before after o.items) (same list) (f list h)

-- a prefix of items alone
pub due_items : {T E : Type 0} (r : Result T E) (old : List Entry) (before after : List Item) (due : List Made → List Item) (said : List Made → Observed)
    → ((list : List Made) → due list ≡ (said list).items)
    → OnErr r ((list : List Made) → Records old list → AddsFront before after (due list)) → OnErr r (ObservesFront old before after said)
due_items (Ok x) old before after due said same f = tt
due_items (Err e) old before after due said same f = λ list h. subst (λ xs. AddsFront before after xs) (same list) (f list h)

-- items came before
pub due_next : {T E : Type 0} (r : Result T E) (old : List Entry) (before mid after ts : List Item) (due : List Made → Observed) → mid ≡ before ++ ts
    → OnErr r (ObservesFront old mid after due) → OnErr r (ObservesFront old before after (λ list. record { items = ts ++ (due list).items; ledger = (due list).ledger }))
due_next (Ok x) old before mid after ts due e f = tt
due_next (Err w) old before mid after ts due e f = λ list h. front_next after mid before ts (due list).items e (f list h)

-- what an exchange of a deployed module shows
pub wrapped_seen : (set : Setting) (n m : ℕ) (s : State) (event : Event) (id boot : ℕ) (x : Exchange) (list : List Made) → event ≡ Wrapped id → boot ≡ s.boot → x ≡ s.exchange
    → has_wrapped m boot (header_of x) (body_of x) x.own_key list ≡ event_seen set n (Some m) s list event
wrapped_seen set n m s event id boot x list e b y =
    ap (λ k. has_wrapped m k (header_of x) (body_of x) x.own_key list) b ∙ ap (λ (z : Exchange). has_wrapped m s.boot (header_of z) (body_of z) z.own_key list) y
    ∙ sym (ap (event_seen set n (Some m) s list) e)

pub unwrapped_seen : (set : Setting) (n m : ℕ) (s : State) (event : Event) (id boot : ℕ) (x : Exchange) (list : List Made) → event ≡ Unwrapped id → boot ≡ s.boot → x ≡ s.exchange
    → has_unwrapped set.app m boot (header_of x) (body_of x) list ≡ (event_seen set n (Some m) s list event).items
unwrapped_seen set n m s event id boot x list e b y =
    ap (λ k. has_unwrapped set.app m k (header_of x) (body_of x) list) b ∙ ap (λ (z : Exchange). has_unwrapped set.app m s.boot (header_of z) (body_of z) list) y
    ∙ sym (ap (λ v. (event_seen set n (Some m) s list v).items) e)

-- the touches one by one
touch_first : (app : AppTree) (n : ℕ) (runner : Option ℕ) (t : Touch) (ts : List Touch) → touch_items app n runner (t ∷ ts) ≡ touch_items app n runner (t ∷ []) ++ touch_items app n runner ts
touch_first app n runner touch.Quiet ts = refl
touch_first app n runner (touch.DeviceRead k v) ts = refl
touch_first app n runner (touch.DeviceWrite k v) ts = refl

pub touches_on : (app : AppTree) (n : ℕ) (runner : Option ℕ) (ts : List Touch) (i : ℕ) (t d : Touch) (before came after due : List Item) → i < length ts → t ≡ get_or ts i d
    → Comes before came (touch_items app n runner (drop i ts)) due → after ≡ came ++ touch_items app n runner (t ∷ []) → Comes before after (touch_items app n runner (drop (i + 1) ts)) due
touches_on app n runner ts i t d before came after due lt is comes e =
    let next : drop i ts ≡ t ∷ drop (i + 1) ts =
    drop-cons ts i d lt ∙ ap (λ (k : ℕ). get_or ts i d ∷ drop k ts) (sym (add-one i)) ∙ ap (λ (x : Touch). x ∷ drop (i + 1) ts) (sym is) in
    comes_on before came after (touch_items app n runner (t ∷ [])) (touch_items app n runner (drop (i + 1) ts)) (touch_items app n runner (drop i ts)) due comes e
    (ap (λ xs. touch_items app n runner xs) next ∙ touch_first app n runner t (drop (i + 1) ts))
