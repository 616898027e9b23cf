-- A property that follows a trace up to its first forged item, line by line.
use Rattle.std.proofs.Common.{◌≡◌, ◌∙◌, ℕ, ◌+◌, ◌||◌, Bool, true, false, if◌then◌else◌, List, [], ◌∷◌, ◌++◌, length, Option, Some, None, refl, sym, ap}
use Rattle.std.specs.Prelude.{IfOk, is_some, Result, Ok, Err}
use Rattle.std.specs.List.{list_any}
use Rattle.std.proofs.lemmas.List.{append-nil}
use Rattle.sx_trace.specs.declared.items.Item.{Item}
use Rattle.sx_model.specs.Legal.{before, is_forged}
use Rattle.sx_explain.specs.Judging.{first_forged}
use Rattle.sx_explain.proofs.Following.{any_more, any_still, before_front}
use Rattle.sx_watch.specs.Watched.{PropertyTree, broken_at, is_emit, watched}
use Rattle.sx_watch.specs.Watching.{Follows, Heeds, broken_from}
use Rattle.sx_watch.specs.declared.watcher.Watcher.{Watcher}
use Rattle.command_watch.specs.Following.{Heeded, Stands}
use Rattle.command_watch.specs.declared.following.Following.{Following}

-- ---- whether one was forged

none_by : (b : Bool) (n : ℕ) → None ≡ (if b then Some n else None) → b ≡ false
none_by true n e = absurd (cc e)
none_by false n e = refl

pub none_forged : (items : List Item) → None ≡ first_forged items → list_any is_forged items ≡ false
none_forged items e = none_by (list_any is_forged items) (length (before items) + 1) e

some_by : (b : Bool) (m n : ℕ) → Some m ≡ (if b then Some n else None) → (b ≡ true) × (m ≡ n)
some_by true m n e = (refl, cc e)
some_by false m n e = absurd (cc e)

pub some_forged : (items : List Item) (m : ℕ) → Some m ≡ first_forged items → (list_any is_forged items ≡ true) × (m ≡ length (before items) + 1)
some_forged items m e = some_by (list_any is_forged items) m (length (before items) + 1) e

-- the items before the first that is forged are those before it
pub before_all : (items : List Item) → list_any is_forged items ≡ false → before items ≡ items
before_all items h = ap before (sym (append-nil items)) ∙ before_front items [] h ∙ append-nil items

pub before_stays : (items more : List Item) → list_any is_forged items ≡ true → before (items ++ more) ≡ before items
before_stays [] more h = absurd (cc h)
before_stays (i ∷ is) more h = at (is_forged i) h (before_stays is more)
  where
    at : (b : Bool) → (b || list_any is_forged is) ≡ true → (list_any is_forged is ≡ true → before (is ++ more) ≡ before is)
        → (if b then [] else i ∷ before (is ++ more)) ≡ (if b then [] else i ∷ before is)
    at true h rest = refl
    at false h rest = ap (λ (xs : List Item). i ∷ xs) (rest h)

any_before : (items : List Item) (item : Item) → is_forged item ≡ false → list_any is_forged items ≡ false → (more : List Item) → before (items ++ item ∷ more) ≡ items ++ item ∷ before more
any_before items item u h more =
    before_front items (item ∷ more) h ∙ ap (λ (b : Bool). items ++ (if b then [] else item ∷ before more)) u

-- ---- one item more

-- an item after one that is forged
pub rests : (p : PropertyTree) (items : List Item) (item : Item) (f : Following) (n : ℕ) → f.forged ≡ Some n → Stands p items f → Stands p (items ++ item ∷ []) f
rests p items item f n some s =
    let w = some_forged items n (sym some ∙ s.forged) in
    let same : before (items ++ item ∷ []) ≡ before items = before_stays items (item ∷ []) w.0 in record {
      forged = s.forged ∙ ap (λ (b : Bool). if b then Some (length (before items) + 1) else None) (w.0 ∙ sym (any_still is_forged items item w.0))
          ∙ ap (λ (xs : List Item). if list_any is_forged (items ++ item ∷ []) then Some (length xs + 1) else None) (sym same);
      unbroken = ap (broken_at p) same ∙ s.unbroken;
      follows = λ none. absurd (let e = sym some ∙ none in cc e);
    }

-- the first that is forged
pub stops : (p : PropertyTree) (items : List Item) (item : Item) (old new : Following) (n : ℕ) → old.forged ≡ None → Stands p items old → is_forged item ≡ true
    → n ≡ length items + 1 → new.forged ≡ Some n → Stands p (items ++ item ∷ []) new
stops p items item old new n none s forged counted now =
    let h = none_forged items (sym none ∙ s.forged) in
    let same : before (items ++ item ∷ []) ≡ items =
    before_front items (item ∷ []) h ∙ ap (λ (b : Bool). items ++ (if b then [] else item ∷ [])) forged ∙ append-nil items in record {
      forged = now ∙ ap Some counted ∙ ap (λ (xs : List Item). Some (length xs + 1)) (sym same)
          ∙ ap (λ (b : Bool). if b then Some (length (before (items ++ item ∷ [])) + 1) else None) (sym (any_more is_forged items item h ∙ forged));
      unbroken = ap (broken_at p) (same ∙ sym (before_all items h)) ∙ s.unbroken;
      follows = λ e. absurd (let x = sym now ∙ e in cc x);
    }

-- an item that the property heeds
pub heeds : (p : PropertyTree) (items : List Item) (item : Item) (old new : Following) (b : Bool) → old.forged ≡ None → new.forged ≡ None → Stands p items old → is_forged item ≡ false
    → Heeds p items item new.watcher b → Heeded p items item new b
heeds p items item old new true none still s honest w =
    let h = none_forged items (sym none ∙ s.forged) in
    λ more. ap (broken_at p) (any_before items item honest h more) ∙ w (before more)
heeds p items item old new false none still s honest w =
    let h = none_forged items (sym none ∙ s.forged) in
    let more : list_any is_forged (items ++ item ∷ []) ≡ false = (any_more is_forged items item h ∙ honest) in
    let all : before (items ++ item ∷ []) ≡ (items ++ item ∷ []) ++ [] = (before_all (items ++ item ∷ []) more ∙ sym (append-nil (items ++ item ∷ []))) in record {
      forged = still ∙ ap (λ (b : Bool). if b then Some (length (before (items ++ item ∷ [])) + 1) else None) (sym more);
      unbroken = ap (broken_at p) all ∙ w.unbroken [];
      follows = λ e. w;
    }

-- before a trace
pub stands_new : (p : PropertyTree) (f : Following) → f.forged ≡ None → Follows p [] f.watcher → Stands p [] f
stands_new p f none w = record { forged = none; unbroken = refl; follows = λ e. w }

-- ---- an item that breaks it is the first that does, whatever comes

from_more : (p : PropertyTree) (n k : ℕ) (cells : List ℕ) (items more : List Item) → broken_from p n cells (before items) ≡ Some k → broken_from p n cells (before (items ++ more)) ≡ Some k
from_more p n k cells [] more h = absurd (cc h)
from_more p n k cells (i ∷ is) more h = at (is_forged i) h (λ h. from_more p (n + 1) k (watched p cells i).cells is more h)
  where
    emits : (b : Bool) → (if b then Some n else broken_from p (n + 1) (watched p cells i).cells (before is)) ≡ Some k
        → (broken_from p (n + 1) (watched p cells i).cells (before is) ≡ Some k → broken_from p (n + 1) (watched p cells i).cells (before (is ++ more)) ≡ Some k)
        → (if b then Some n else broken_from p (n + 1) (watched p cells i).cells (before (is ++ more))) ≡ Some k
    emits true h rest = h
    emits false h rest = rest h

    at : (f : Bool) → broken_from p n cells (if f then [] else i ∷ before is) ≡ Some k
        → (broken_from p (n + 1) (watched p cells i).cells (before is) ≡ Some k → broken_from p (n + 1) (watched p cells i).cells (before (is ++ more)) ≡ Some k)
        → broken_from p n cells (if f then [] else i ∷ before (is ++ more)) ≡ Some k
    at true h rest = absurd (cc h)
    at false h rest = emits (list_any is_emit (watched p cells i).acts) h rest

pub broken_more : (p : PropertyTree) (k : ℕ) (items more : List Item) → broken_at p (before items) ≡ Some k → broken_at p (before (items ++ more)) ≡ Some k
broken_more p k items more h = from_more p 1 k _ items more h

-- ---- by how the code asks

pub rests_as : (p : PropertyTree) (items : List Item) (item : Item) (f : Following) → is_some f.forged ≡ true → Stands p items f → Stands p (items ++ item ∷ []) f
rests_as p items item f some s = at f.forged refl some
  where
    at : (o : Option ℕ) → f.forged ≡ o → is_some o ≡ true → Stands p (items ++ item ∷ []) f
    at None e h = absurd (cc h)
    at (Some n) e h = rests p items item f n e s

pub heeds_ok : {E : Type 0} (p : PropertyTree) (items : List Item) (item : Item) (old : Following) (w : Watcher) (r : Result Bool E) → old.forged ≡ None → Stands p items old → is_forged item ≡ false
    → IfOk r (λ b. Heeds p items item w b) → IfOk r (λ b. Heeded p items item (record { watcher = w; forged = old.forged }) b)
heeds_ok p items item old w (Ok b) none s honest h = heeds p items item old (record { watcher = w; forged = old.forged }) b none none s honest h
heeds_ok p items item old w (Err e) none s honest h = h
