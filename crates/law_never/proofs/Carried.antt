-- What acts send and emit, as a row has it.
use Rattle.std.proofs.Common.{◌≡◌, ℕ, suc, ◌+◌, ◌%◌, ◌<◌, ◌≤◌, inl, inr, ◌==◌, ◌&&◌, Bool, true, false, if◌then◌else◌, List, [], ◌∷◌, ◌++◌, length}
use Rattle.std.proofs.Common.{Option, Some, None, refl, sym, ap, ◌∙◌, subst, arith, append_assoc}
use Rattle.std.specs.Prelude.{slice_get, slice_set, is_some, nat_lt}
use Rattle.std.specs.List.{cons_option}
use Rattle.std.proofs.lemmas.Bool.{and_parts, eqb-true}
use Rattle.std.proofs.lemmas.List.{append-nil}
use Rattle.std.proofs.lemmas.Option.{same_Some}
use Rattle.sx_lang.specs.declared.sides.Side.TheVariants.{From, To}
use Rattle.sx_mean.specs.declared.apps.Link.{Link}
use Rattle.sx_mean.specs.declared.events.Act.{Act}
use Rattle.sx_mean.specs.declared.events.Act.TheVariants.{Send, Emit}
use Rattle.sx_mean.specs.declared.events.End.{End}
use Rattle.sx_mean.specs.Application.{AppTree}
use Rattle.sx_mean.specs.Ends.{ends_after, ends_of, receiving, sending, same_side}
use Rattle.sx_model.specs.State.{EndView}
use Rattle.sx_model.specs.Reaction.{Flow, MOST_SENT, all_done, field_at, field_of, sends, sent_over, sent_to}
use Rattle.sx_model.proofs.Emits.{emits_to}
use Rattle.sx_model.proofs.Written.{at_set}
use Rattle.law_never.specs.Rules.{Each}
use Rattle.law_never.specs.Intervals.{Interval, AreInside, Doing, MaySend, MayEmit, AreActs}
use Rattle.law_never.specs.Tables.{Row, HasWord, HasWords}
use Rattle.law_never.specs.Closed.{IsCarried, may_emit}
use Rattle.law_never.proofs.Lists.{each_append}
use Rattle.spec_run.proofs.tie.Lists.{get_within}

-- the link of an end that sends

abbrev pub OwnLink : AppTree → ℕ → ℕ → ℕ → Type 0
OwnLink app m c output = (l : Link) × (slice_get app.links c ≡ Some l) × (l.from ≡ m) × (l.output ≡ output)

abbrev pub IsOwn : AppTree → ℕ → End → Type 0
IsOwn app m e = same_side e.side From ≡ true → OwnLink app m e.link e.port

each_option : {A : Type 0} → (P : A → Type 0) → (o : Option A) (xs : List A) → ((x : A) → o ≡ Some x → P x) → Each P xs → Each P (cons_option o xs)
each_option P None xs f e = e
each_option P (Some x) xs f e = (f x refl, e)

some_if : {A : Type 0} → (b : Bool) (e x : A) → (if b then Some e else None) ≡ Some x → (b ≡ true) × (e ≡ x)
some_if true e x h = (refl, same_Some e x h)
some_if false e x h = absurd cc

ends_own : (app : AppTree) (m n : ℕ) (ls : List Link) → ((k : ℕ) → slice_get app.links (n + k) ≡ slice_get ls k) → Each (IsOwn app m) (ends_after n m ls)
ends_own app m n [] agree = tt
ends_own app m n (l ∷ ls) agree =
    let here : slice_get app.links n ≡ Some l = subst (λ k. slice_get app.links k ≡ Some l) (omega arith) (agree 0) in
    each_option (IsOwn app m) (sending n m l) (cons_option (receiving n m l) (ends_after (n + 1) m ls))
    (λ x h. let p = some_if (l.from == m) (record { link = n; side = From; port = l.output }) x h in
    subst (IsOwn app m) p.1 (λ s. (l, here, eqb-true l.from m p.0, refl)))
    (each_option (IsOwn app m) (receiving n m l) (ends_after (n + 1) m ls)
    (λ x h. let p = some_if (l.to == m) (record { link = n; side = To; port = l.input }) x h in subst (IsOwn app m) p.1 (λ s. absurd cc))
    (ends_own app m (n + 1) ls (λ k. subst (λ j. slice_get app.links j ≡ slice_get ls k) (omega arith) (agree (suc k)))))

pub own_ends : (app : AppTree) (m : ℕ) → Each (IsOwn app m) (ends_of app m)
own_ends app m = ends_own app m 0 app.links (λ k. ap (λ j. slice_get app.links j) (omega arith))

field_link : (c : ℕ) (o : Option ℕ) → c < 256 → field_at c o % 256 ≡ c
field_link c None few = omega (arith, few)
field_link c (Some e) few = omega (arith, few)

-- one more word
words_set : (r : Row) (wss : List (List ℕ)) (field v : ℕ) (words : List ℕ) → HasWords r wss → slice_get wss field ≡ Some words → HasWord r (field % 256) v
    → HasWords r (slice_set wss field (words ++ v ∷ []))
words_set r wss field v words h e has g ws f =
    elim (at_set wss field g (words ++ v ∷ []) ws f) [
      | inl p ↦ subst (λ ws. Each (λ v. HasWord r (g % 256) v) ws) p.1
          (subst (λ k. Each (λ v. HasWord r (k % 256) v) (words ++ v ∷ [])) p.0 (each_append (λ v. HasWord r (field % 256) v) words (v ∷ []) (h field words e) (has, tt)))
      | inr p ↦ h g ws p.1
    ]

words_if : (r : Row) (b : Bool) (f g : Flow) → HasWords r f.sent → HasWords r g.sent → HasWords r (if b then f else g).sent
words_if r true f g x y = x
words_if r false f g x y = y

words_over : (r : Row) (field v : ℕ) (o : Option (List ℕ)) (f : Flow) → slice_get f.sent field ≡ o → HasWords r f.sent → HasWord r (field % 256) v
    → HasWords r (sent_over field v o f).sent
words_over r field v None f e h has = h
words_over r field v (Some words) f e h has =
    words_if r (nat_lt (length words) MOST_SENT) (record f { sent = slice_set f.sent field (words ++ v ∷ []); pieces = f.pieces + 1 }) f (words_set r f.sent field v words h e has) h

-- what an output carries: the row has the value as a word of each of its connections
abbrev Carries : AppTree → Row → ℕ → ℕ → ℕ → Type 0
Carries app r m output v = (c : ℕ) (l : Link) → slice_get app.links c ≡ Some l → l.from ≡ m → l.output ≡ output → HasWord r c v

module _ (app : AppTree) (r : Row) (m : ℕ) (few : length app.links ≤ 256) where
  at_end : (e : End) (view : EndView) (output v : ℕ) (b : Bool) (f : Flow) → sends output e view ≡ b → IsOwn app m e → Carries app r m output v → HasWords r f.sent
      → HasWords r (if b then sent_over (field_of e view) v (slice_get f.sent (field_of e view)) f else f).sent
  at_end e view output v false f is own carries h = h
  at_end e view output v true f is own carries h =
      let p = and_parts (same_side e.side From) ((e.port == output) && is_some view.epoch) is in
      let q = and_parts (e.port == output) (is_some view.epoch) p.1 in
      let l = own p.0 in
      let small : e.link < 256 = let w = get_within app.links e.link l.0 l.1 in omega (arith, few, w) in
      words_over r (field_of e view) v (slice_get f.sent (field_of e view)) f refl h
      (subst (λ c. HasWord r c v) (sym (field_link e.link view.epoch small)) (carries e.link l.0 l.1 l.2 (l.3 ∙ eqb-true e.port output q.0)))

  words_to : (es : List End) (views : List EndView) (output v : ℕ) (f : Flow) → Each (IsOwn app m) es → Carries app r m output v → HasWords r f.sent
      → HasWords r (sent_to es views output v f).sent
  words_to [] views output v f own carries h = h
  words_to (e ∷ es) [] output v f own carries h = h
  words_to (e ∷ es) (view ∷ views) output v f own carries h =
      words_to es views output v (if sends output e view then sent_over (field_of e view) v (slice_get f.sent (field_of e view)) f else f) own.1 carries
      (at_end e view output v (sends output e view) f refl own.0 carries h)

  -- all that is sent

  pub words_done : (es : List End) (views : List EndView) (ds : List Doing) (acts : List Act) (f : Flow) → Each (IsOwn app m) es → AreActs ds acts
      → ((c : ℕ) (l : Link) → slice_get app.links c ≡ Some l → l.from ≡ m → Each (IsCarried r c l.output) ds) → HasWords r f.sent
      → HasWords r (all_done es views acts f).sent
  words_done es views [] [] f own are sent h = h
  words_done es views [] (a ∷ acts) f own are sent h = absurd are
  words_done es views (MaySend output i ∷ ds) [] f own are sent h = absurd are
  words_done es views (MaySend output i ∷ ds) (Emit v ∷ acts) f own are sent h = absurd are
  words_done es views (MayEmit i ∷ ds) [] f own are sent h = absurd are
  words_done es views (MayEmit i ∷ ds) (Send port v ∷ acts) f own are sent h = absurd are
  words_done es views (MayEmit i ∷ ds) (Emit v ∷ acts) f own are sent h =
      words_done es views ds acts (record f { emits = f.emits ++ v ∷ [] }) own are.1 (λ c l x y. (sent c l x y).1) h
  words_done es views (MaySend output i ∷ ds) (Send port v ∷ acts) f own are sent h =
      words_done es views ds acts (sent_to es views port v f) own are.2 (λ c l x y. (sent c l x y).1)
      (words_to es views port v f own (λ c l x y o. (sent c l x y).0 (are.0 ∙ sym o) v are.1) h)

-- what is emitted

are_append : (is js : List Interval) (vs ws : List ℕ) → AreInside is vs → AreInside js ws → AreInside (is ++ js) (vs ++ ws)
are_append [] js [] ws h k = k
are_append [] js (v ∷ vs) ws h k = absurd h
are_append (i ∷ is) js [] ws h k = absurd h
are_append (i ∷ is) js (v ∷ vs) ws h k = (h.0, are_append is js vs ws h.1 k)

pub emits_done : (es : List End) (views : List EndView) (ds : List Doing) (acts : List Act) (front : List Interval) (f : Flow) → AreActs ds acts → AreInside front f.emits
    → AreInside (front ++ may_emit ds) (all_done es views acts f).emits
emits_done es views [] [] front f are h = subst (λ is. AreInside is f.emits) (sym (append-nil front)) h
emits_done es views [] (a ∷ acts) front f are h = absurd are
emits_done es views (MaySend output i ∷ ds) [] front f are h = absurd are
emits_done es views (MaySend output i ∷ ds) (Emit v ∷ acts) front f are h = absurd are
emits_done es views (MayEmit i ∷ ds) [] front f are h = absurd are
emits_done es views (MayEmit i ∷ ds) (Send port v ∷ acts) front f are h = absurd are
emits_done es views (MayEmit i ∷ ds) (Emit v ∷ acts) front f are h =
    subst (λ is. AreInside is (all_done es views acts (record f { emits = f.emits ++ v ∷ [] })).emits) (append_assoc front (i ∷ []) (may_emit ds))
    (emits_done es views ds acts (front ++ i ∷ []) (record f { emits = f.emits ++ v ∷ [] }) are.1 (are_append front (i ∷ []) f.emits (v ∷ []) h (are.0, tt)))
emits_done es views (MaySend output i ∷ ds) (Send port v ∷ acts) front f are h =
    emits_done es views ds acts front (sent_to es views port v f) are.2 (subst (AreInside front) (sym (emits_to es views port v f)) h)
