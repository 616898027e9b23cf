-- What acts make of the fields over which a module sends.
use Rattle.std.proofs.Common.{◌≡◌, ℕ, zero, suc, ◌+◌, ◌⊎◌, inl, inr, ◌==◌, ◌&&◌, Bool, true, false, if◌then◌else◌, List, [], ◌∷◌, ◌++◌, length, Option, Some, None, slice_get, nat_lt, refl, sym, ap, ◌∙◌, subst, append_assoc}
use Rattle.std.specs.Prelude.{slice_set, is_some}
use Rattle.std.proofs.lemmas.Bool.{cases_eq, and_parts, and_from, eq-eqb, eqb-true}
use Rattle.std.proofs.lemmas.List.{append-nil}
use Rattle.std.proofs.lemmas.Option.{same_Some}
use Rattle.sx_mean.specs.Ends.{same_side}
use Rattle.sx_mean.specs.declared.events.Act.{Act}
use Rattle.sx_mean.specs.declared.events.Act.TheVariants.{Send, Emit}
use Rattle.sx_mean.specs.declared.events.End.{End}
use Rattle.sx_model.specs.State.{EndView}
use Rattle.sx_model.specs.Changes.{is_from}
use Rattle.sx_model.specs.Reaction.{Flow, MOST_SENT, all_done, field_of, sends, sent_over, sent_to}
use Rattle.lemmas.proofs.Lists.{get_same}
use Rattle.sx_model.proofs.Written.{get_other}
use Rattle.sx_model.specs.Sendings.{emits_of}
use Rattle.sx_model.proofs.Emits.{emits_to}
use Rattle.sx_model.specs.order.Reaction.{sent_first, from_emit}

-- an open end that sends has this field
pub record OpenAt (es : List End) (views : List EndView) (f : ℕ) : Type 0 where
  pub place : ℕ
  pub end : End
  pub end_is : slice_get es place ≡ Some end
  pub view : EndView
  pub view_is : slice_get views place ≡ Some view
  pub from : is_from end.side ≡ true
  pub opened : is_some view.epoch ≡ true
  pub at : field_of end view ≡ f

pub later : (e : End) (es : List End) (v : EndView) (views : List EndView) (f : ℕ) → OpenAt es views f → OpenAt (e ∷ es) (v ∷ views) f
later e es v views f h = record { place = suc h.place; end = h.end; end_is = h.end_is; view = h.view; view_is = h.view_is; from = h.from; opened = h.opened; at = h.at }

pub this : (e : End) (es : List End) (v : EndView) (views : List EndView) → is_from e.side ≡ true → is_some v.epoch ≡ true → OpenAt (e ∷ es) (v ∷ views) (field_of e v)
this e es v views a b = record { place = 0; end = e; end_is = refl; view = v; view_is = refl; from = a; opened = b; at = refl }

sends_open : (output : ℕ) (e : End) (es : List End) (v : EndView) (views : List EndView) → sends output e v ≡ true → OpenAt (e ∷ es) (v ∷ views) (field_of e v)
sends_open output e es v views h =
    let a = and_parts (same_side e.side _) ((e.port == output) && is_some v.epoch) h in
    this e es v views a.0 (and_parts (e.port == output) (is_some v.epoch) a.1).1

pub decided : (es : List End) (views : List EndView) (f : ℕ) → OpenAt es views f ⊎ (OpenAt es views f → ⊥)
decided [] views f = inr (λ h. no h.place h.end h.end_is)
  where
    no : (i : ℕ) (x : End) → slice_get {X = End} [] i ≡ Some x → ⊥
    no i x e = cc
decided (e ∷ es) [] f = inr (λ h. no h.place h.view h.view_is)
  where
    no : (i : ℕ) (x : EndView) → slice_get {X = EndView} [] i ≡ Some x → ⊥
    no i x e = cc
decided (e ∷ es) (v ∷ views) f = by (is_from e.side && (is_some v.epoch && (field_of e v == f))) refl (decided es views f)
  where
    at : (i : ℕ) (x : End) (w : EndView) → slice_get (e ∷ es) i ≡ Some x → slice_get (v ∷ views) i ≡ Some w → is_from x.side ≡ true → is_some w.epoch ≡ true → field_of x w ≡ f
        → ((is_from e.side && (is_some v.epoch && (field_of e v == f))) ≡ true) ⊎ OpenAt es views f
    at zero x w a b c d g =
        let p : x ≡ e = sym (same_Some e x a) in
        let q : w ≡ v = sym (same_Some v w b) in
        inl (subst (λ e. (is_from e.side && (is_some v.epoch && (field_of e v == f))) ≡ true) p
        (subst (λ v. (is_from x.side && (is_some v.epoch && (field_of x v == f))) ≡ true) q
        (and_from (is_from x.side) (is_some w.epoch && (field_of x w == f)) c (and_from (is_some w.epoch) (field_of x w == f) d (eq-eqb (field_of x w) f g)))))
    at (suc i) x w a b c d g = inr (record { place = i; end = x; end_is = a; view = w; view_is = b; from = c; opened = d; at = g })

    by : (b : Bool) → (is_from e.side && (is_some v.epoch && (field_of e v == f))) ≡ b → OpenAt es views f ⊎ (OpenAt es views f → ⊥) → OpenAt (e ∷ es) (v ∷ views) f ⊎ (OpenAt (e ∷ es) (v ∷ views) f → ⊥)
    by true t _ =
        let a = and_parts (is_from e.side) (is_some v.epoch && (field_of e v == f)) t in
        let b = and_parts (is_some v.epoch) (field_of e v == f) a.1 in
        inl (subst (λ k. OpenAt (e ∷ es) (v ∷ views) k) (eqb-true (field_of e v) f b.1) (this e es v views a.0 b.0))
    by false t (inl h) = inl (later e es v views f h)
    by false t (inr never) = inr (λ h. elim (at h.place h.end h.view h.end_is h.view_is h.from h.opened h.at) [
      | inl z ↦ (let c : false ≡ true = (sym t ∙ z) in cc)
      | inr z ↦ never z
    ])

-- two flows that are the same at some fields
abbrev pub Same : (ℕ → Type 0) → Flow → Flow → Type 0
Same Own f g = ((k : ℕ) → Own k → slice_get f.sent k ≡ slice_get g.sent k) × (f.pieces ≡ g.pieces)

module _ (Own : ℕ → Type 0) where
  same_over : (c v : ℕ) (f g : Flow) → Own c → Same Own f g → Same Own (sent_over c v (slice_get f.sent c) f) (sent_over c v (slice_get g.sent c) g)
  same_over c v f g own h = subst (λ o. Same Own (sent_over c v (slice_get f.sent c) f) (sent_over c v o g)) (h.0 c own) (go (slice_get f.sent c) refl)
    where
      pushed : (b : Bool) (ws : List ℕ) → slice_get f.sent c ≡ Some ws
          → Same Own (if b then (record f { sent = slice_set f.sent c (ws ++ v ∷ []); pieces = f.pieces + 1 }) else f) (if b then (record g { sent = slice_set g.sent c (ws ++ v ∷ []); pieces = g.pieces + 1 }) else g)
      pushed true ws e = (
        λ k o. elim (cases_eq c k) [
          | inl s ↦ subst (λ k. slice_get (slice_set f.sent c (ws ++ v ∷ [])) k ≡ slice_get (slice_set g.sent c (ws ++ v ∷ [])) k) s
              (get_same f.sent c (ws ++ v ∷ []) ws e ∙ sym (get_same g.sent c (ws ++ v ∷ []) ws (sym (h.0 c own) ∙ e)))
          | inr n ↦ get_other f.sent c k (ws ++ v ∷ []) n ∙ h.0 k o ∙ sym (get_other g.sent c k (ws ++ v ∷ []) n)
        ],
        ap (λ n. n + 1) h.1,
      )
      pushed false ws e = h

      go : (o : Option (List ℕ)) → slice_get f.sent c ≡ o → Same Own (sent_over c v o f) (sent_over c v o g)
      go None e = h
      go (Some ws) e = pushed (nat_lt (length ws) MOST_SENT) ws e

  same_to : (es : List End) (views : List EndView) (output v : ℕ) (f g : Flow) → ((k : ℕ) → OpenAt es views k → Own k) → Same Own f g → Same Own (sent_to es views output v f) (sent_to es views output v g)
  same_to [] views output v f g own h = h
  same_to (e ∷ es) [] output v f g own h = h
  same_to (e ∷ es) (view ∷ views) output v f g own h =
      same_to es views output v _ _ (λ k o. own k (later e es view views k o)) (one (sends output e view) refl)
    where
      one : (b : Bool) → sends output e view ≡ b
          → Same Own (if b then sent_over (field_of e view) v (slice_get f.sent (field_of e view)) f else f) (if b then sent_over (field_of e view) v (slice_get g.sent (field_of e view)) g else g)
      one true t = same_over (field_of e view) v f g (own (field_of e view) (sends_open output e es view views t)) h
      one false t = h

  pub same_all : (es : List End) (views : List EndView) (acts : List Act) (f g : Flow) → ((k : ℕ) → OpenAt es views k → Own k) → Same Own f g → Same Own (all_done es views acts f) (all_done es views acts g)
  same_all es views [] f g own h = h
  same_all es views (Send output v ∷ acts) f g own h = same_all es views acts _ _ own (same_to es views output v f g own h)
  same_all es views (Emit v ∷ acts) f g own h = same_all es views acts _ _ own h

-- nothing changes elsewhere
over_other : (c v : ℕ) (o : Option (List ℕ)) (f : Flow) (k : ℕ) → (c ≡ k → ⊥) → slice_get (sent_over c v o f).sent k ≡ slice_get f.sent k
over_other c v None f k n = refl
over_other c v (Some ws) f k n = at (nat_lt (length ws) MOST_SENT)
  where
    at : (b : Bool) → slice_get (if b then (record f { sent = slice_set f.sent c (ws ++ v ∷ []); pieces = f.pieces + 1 }) else f).sent k ≡ slice_get f.sent k
    at true = get_other f.sent c k (ws ++ v ∷ []) n
    at false = refl

to_other : (es : List End) (views : List EndView) (output v : ℕ) (f : Flow) (k : ℕ) → (OpenAt es views k → ⊥) → slice_get (sent_to es views output v f).sent k ≡ slice_get f.sent k
to_other [] views output v f k n = refl
to_other (e ∷ es) [] output v f k n = refl
to_other (e ∷ es) (view ∷ views) output v f k n = to_other es views output v _ k (λ h. n (later e es view views k h)) ∙ one (sends output e view) refl
  where
    one : (b : Bool) → sends output e view ≡ b → slice_get (if b then sent_over (field_of e view) v (slice_get f.sent (field_of e view)) f else f).sent k ≡ slice_get f.sent k
    one true t = over_other (field_of e view) v (slice_get f.sent (field_of e view)) f k (λ s. n (subst (λ k. OpenAt (e ∷ es) (view ∷ views) k) s (sends_open output e es view views t)))
    one false t = refl

pub all_other : (es : List End) (views : List EndView) (acts : List Act) (f : Flow) (k : ℕ) → (OpenAt es views k → ⊥) → slice_get (all_done es views acts f).sent k ≡ slice_get f.sent k
all_other es views [] f k n = refl
all_other es views (Send output v ∷ acts) f k n = all_other es views acts _ k n ∙ to_other es views output v f k n
all_other es views (Emit v ∷ acts) f k n = all_other es views acts _ k n

pub first_other : (es : List End) (views : List EndView) (acts : List Act) (f : Flow) (k : ℕ) → (OpenAt es views k → ⊥) → slice_get (sent_first es views acts f).sent k ≡ slice_get f.sent k
first_other es views [] f k n = refl
first_other es views (Send output v ∷ acts) f k n = first_other es views acts _ k n ∙ to_other es views output v f k n
first_other es views (Emit v ∷ acts) f k n = refl

-- words begin others
abbrev pub Starting : Option (List ℕ) → Option (List ℕ) → Type 0
Starting None None = Unit {0}
Starting (Some ws) (Some vs) = (more : List ℕ) × (vs ≡ ws ++ more)
Starting _ _ = ⊥

pub starting_same : (o : Option (List ℕ)) → Starting o o
starting_same None = tt
starting_same (Some ws) = ([], sym (append-nil ws))

pub starting_on : (o p q : Option (List ℕ)) → Starting o p → Starting p q → Starting o q
starting_on None None None a b = tt
starting_on (Some x) (Some y) (Some z) a b = (a.0 ++ b.0, b.1 ∙ ap (λ w. w ++ b.0) a.1 ∙ append_assoc x a.0 b.0)
starting_on None None (Some z) a b = absurd b
starting_on None (Some y) q a b = absurd a
starting_on (Some x) None q a b = absurd a
starting_on (Some x) (Some y) None a b = absurd b

over_starts : (c v : ℕ) (o : Option (List ℕ)) (f : Flow) → slice_get f.sent c ≡ o → (k : ℕ) → Starting (slice_get f.sent k) (slice_get (sent_over c v o f).sent k)
over_starts c v None f e k = starting_same (slice_get f.sent k)
over_starts c v (Some ws) f e k = at (nat_lt (length ws) MOST_SENT)
  where
    at : (b : Bool) → Starting (slice_get f.sent k) (slice_get (if b then (record f { sent = slice_set f.sent c (ws ++ v ∷ []); pieces = f.pieces + 1 }) else f).sent k)
    at true = elim (cases_eq c k) [
      | inl s ↦ subst (λ k. Starting (slice_get f.sent k) (slice_get (slice_set f.sent c (ws ++ v ∷ [])) k)) s
          (subst (λ o. Starting o (slice_get (slice_set f.sent c (ws ++ v ∷ [])) c)) (sym e)
          (subst (λ o. Starting (Some ws) o) (sym (get_same f.sent c (ws ++ v ∷ []) ws e)) (v ∷ [], refl)))
      | inr n ↦ subst (λ o. Starting (slice_get f.sent k) o) (sym (get_other f.sent c k (ws ++ v ∷ []) n)) (starting_same (slice_get f.sent k))
    ]
    at false = starting_same (slice_get f.sent k)

to_starts : (es : List End) (views : List EndView) (output v : ℕ) (f : Flow) (k : ℕ) → Starting (slice_get f.sent k) (slice_get (sent_to es views output v f).sent k)
to_starts [] views output v f k = starting_same (slice_get f.sent k)
to_starts (e ∷ es) [] output v f k = starting_same (slice_get f.sent k)
to_starts (e ∷ es) (view ∷ views) output v f k = starting_on (slice_get f.sent k) _ _ (one (sends output e view)) (to_starts es views output v _ k)
  where
    one : (b : Bool) → Starting (slice_get f.sent k) (slice_get (if b then sent_over (field_of e view) v (slice_get f.sent (field_of e view)) f else f).sent k)
    one true = over_starts (field_of e view) v (slice_get f.sent (field_of e view)) f refl k
    one false = starting_same (slice_get f.sent k)

pub all_starts : (es : List End) (views : List EndView) (acts : List Act) (f : Flow) (k : ℕ) → Starting (slice_get f.sent k) (slice_get (all_done es views acts f).sent k)
all_starts es views [] f k = starting_same (slice_get f.sent k)
all_starts es views (Send output v ∷ acts) f k = starting_on (slice_get f.sent k) _ _ (to_starts es views output v f k) (all_starts es views acts _ k)
all_starts es views (Emit v ∷ acts) f k = all_starts es views acts _ k

-- the sends before the first emit, and the rest
pub split : (es : List End) (views : List EndView) (acts : List Act) (f : Flow) → all_done es views acts f ≡ all_done es views (from_emit acts) (sent_first es views acts f)
split es views [] f = refl
split es views (Send output v ∷ acts) f = split es views acts _
split es views (Emit v ∷ acts) f = refl

-- the emits
pub all_emits : (es : List End) (views : List EndView) (acts : List Act) (f : Flow) → (all_done es views acts f).emits ≡ f.emits ++ emits_of acts
all_emits es views [] f = sym (append-nil f.emits)
all_emits es views (Send output v ∷ acts) f = all_emits es views acts _ ∙ ap (λ z. z ++ emits_of acts) (emits_to es views output v f)
all_emits es views (Emit v ∷ acts) f = all_emits es views acts _ ∙ append_assoc f.emits (v ∷ []) (emits_of acts)

pub emits_left : (acts : List Act) → emits_of (from_emit acts) ≡ emits_of acts
emits_left [] = refl
emits_left (Send output v ∷ acts) = emits_left acts
emits_left (Emit v ∷ acts) = refl
