-- The words that an event sends, place by place.
use Rattle.std.proofs.Common.{◌≡◌, ℕ, zero, suc, ◌+◌, inl, inr, Bool, true, false, if◌then◌else◌, List, [], ◌∷◌, ◌++◌, length, Option, Some, None, slice_get, nat_lt, refl, sym, ap, ◌∙◌, subst}
use Rattle.std.specs.Prelude.{slice_set}
use Rattle.std.proofs.lemmas.Bool.{cases_eq}
use Rattle.std.proofs.lemmas.Option.{same_Some}
use Rattle.sx_mean.specs.declared.events.Act.{Act}
use Rattle.sx_mean.specs.declared.events.Act.TheVariants.{Send, Emit}
use Rattle.sx_mean.specs.declared.events.End.{End}
use Rattle.sx_model.specs.State.{EndView}
use Rattle.sx_model.specs.Reaction.{Flow, MOST_SENT, all_done, done, field_of, sends, sent_over, sent_to}
use Rattle.sx_model.specs.Step.{◌>>?◌}
use Rattle.lemmas.proofs.Lists.{get_same}
use Rattle.sx_model.proofs.Written.{get_other}
use Rattle.sx_explain.specs.Causes.{Among, word_of}

-- an end that sends at a field what is sent to its output
pub record SendsAt (es : List End) (views : List EndView) (output field : ℕ) : Type 0 where
  pub place : ℕ
  pub end : End
  pub end_is : slice_get es place ≡ Some end
  pub view : EndView
  pub view_is : slice_get views place ≡ Some view
  pub sends_to : sends output end view ≡ true
  pub at : field_of end view ≡ field

-- Between two flows words stay, and a place that has a word only after it got it from a sending.
pub record Grows (f g : List (List ℕ)) (New : ℕ → ℕ → Type 0) : Type 0 where
  pub stays : (k j v : ℕ) → word_of f k j ≡ Some v → word_of g k j ≡ Some v
  pub comes : (k j v : ℕ) → word_of f k j ≡ None → word_of g k j ≡ Some v → New k v

pub grows_none : (f : List (List ℕ)) (New : ℕ → ℕ → Type 0) → Grows f f New
grows_none f New = record { stays = λ k j v e. e; comes = λ k j v a b. absurd (let c : None ≡ Some v = (sym a ∙ b) in cc) }

pub grows_on : (f g h : List (List ℕ)) (New : ℕ → ℕ → Type 0) → Grows f g New → Grows g h New → Grows f h New
grows_on f g h New a b = record {
  stays = λ k j v e. b.stays k j v (a.stays k j v e);
  comes = λ k j v e u. at k j v e u (word_of g k j) refl;
}
  where
    at : (k j v : ℕ) → word_of f k j ≡ None → word_of h k j ≡ Some v → (o : Option ℕ) → word_of g k j ≡ o → New k v
    at k j v e u None w = b.comes k j v w u
    at k j v e u (Some x) w =
        let same : x ≡ v = same_Some x v (sym (b.stays k j x w) ∙ u) in
        a.comes k j v e (w ∙ ap (λ z. Some z) same)

pub grows_weaker : (f g : List (List ℕ)) (New More : ℕ → ℕ → Type 0) → ((k v : ℕ) → New k v → More k v) → Grows f g New → Grows f g More
grows_weaker f g New More w a = record { stays = a.stays; comes = λ k j v e u. w k v (a.comes k j v e u) }

-- one word more
pushed_stays : (ws : List ℕ) (v j w : ℕ) → slice_get ws j ≡ Some w → slice_get (ws ++ v ∷ []) j ≡ Some w
pushed_stays [] v j w e = absurd cc
pushed_stays (x ∷ ws) v zero w e = e
pushed_stays (x ∷ ws) v (suc j) w e = pushed_stays ws v j w e

pushed_comes : (ws : List ℕ) (v j w : ℕ) → slice_get ws j ≡ None → slice_get (ws ++ v ∷ []) j ≡ Some w → w ≡ v
pushed_comes [] v zero w a b = sym (same_Some v w b)
pushed_comes [] v (suc j) w a b = absurd cc
pushed_comes (x ∷ ws) v zero w a b = absurd cc
pushed_comes (x ∷ ws) v (suc j) w a b = pushed_comes ws v j w a b

-- the word at a field that was written, and at others
word_here : (ss : List (List ℕ)) (c j : ℕ) (old new : List ℕ) → slice_get ss c ≡ Some old → word_of (slice_set ss c new) c j ≡ slice_get new j
word_here ss c j old new e = ap (λ o. o >>? (λ ws. slice_get ws j)) (get_same ss c new old e)

word_before : (ss : List (List ℕ)) (c j : ℕ) (old : List ℕ) → slice_get ss c ≡ Some old → word_of ss c j ≡ slice_get old j
word_before ss c j old e = ap (λ o. o >>? (λ ws. slice_get ws j)) e

word_there : (ss : List (List ℕ)) (c k j : ℕ) (new : List ℕ) → (c ≡ k → ⊥) → word_of (slice_set ss c new) k j ≡ word_of ss k j
word_there ss c k j new n = ap (λ o. o >>? (λ ws. slice_get ws j)) (get_other ss c k new n)

grows_push : (ss : List (List ℕ)) (c v : ℕ) (ws : List ℕ) → slice_get ss c ≡ Some ws → Grows ss (slice_set ss c (ws ++ v ∷ [])) (λ k w. (c ≡ k) × (w ≡ v))
grows_push ss c v ws e = record {
  stays = λ k j w a. elim (cases_eq c k) [
    | inl s ↦ subst (λ k. word_of (slice_set ss c (ws ++ v ∷ [])) k j ≡ Some w) s
        (word_here ss c j ws (ws ++ v ∷ []) e ∙ pushed_stays ws v j w (sym (word_before ss c j ws e) ∙ subst (λ k. word_of ss k j ≡ Some w) (sym s) a))
    | inr n ↦ word_there ss c k j (ws ++ v ∷ []) n ∙ a
  ];
  comes = λ k j w a b. elim (cases_eq c k) [
    | inl s ↦ (
      s,
      pushed_comes ws v j w (sym (word_before ss c j ws e) ∙ subst (λ k. word_of ss k j ≡ None) (sym s) a)
          (sym (word_here ss c j ws (ws ++ v ∷ []) e) ∙ subst (λ k. word_of (slice_set ss c (ws ++ v ∷ [])) k j ≡ Some w) (sym s) b),
    )
    | inr n ↦ absurd (let z : None ≡ Some w = (sym a ∙ sym (word_there ss c k j (ws ++ v ∷ []) n) ∙ b) in cc)
  ];
}

grows_over : (c v : ℕ) (o : Option (List ℕ)) (f : Flow) → slice_get f.sent c ≡ o → Grows f.sent (sent_over c v o f).sent (λ k w. (c ≡ k) × (w ≡ v))
grows_over c v None f e = grows_none f.sent _
grows_over c v (Some ws) f e = at (nat_lt (length ws) MOST_SENT)
  where
    at : (b : Bool) → Grows f.sent (if b then (record f { sent = slice_set f.sent c (ws ++ v ∷ []); pieces = f.pieces + 1 }) else f).sent (λ k w. (c ≡ k) × (w ≡ v))
    at true = grows_push f.sent c v ws e
    at false = grows_none f.sent _

-- a value that is sent to an output
grows_to : (es : List End) (views : List EndView) (output v : ℕ) (f : Flow) → Grows f.sent (sent_to es views output v f).sent (λ k w. SendsAt es views output k × (w ≡ v))
grows_to [] views output v f = grows_none f.sent _
grows_to (e ∷ es) [] output v f = grows_none f.sent _
grows_to (e ∷ es) (view ∷ views) output v f = at (sends output e view) refl (λ g. grows_to es views output v g)
  where
    later : (k w : ℕ) → SendsAt es views output k × (w ≡ v) → SendsAt (e ∷ es) (view ∷ views) output k × (w ≡ v)
    later k w h = (record { place = suc h.0.place; end = h.0.end; end_is = h.0.end_is; view = h.0.view; view_is = h.0.view_is; sends_to = h.0.sends_to; at = h.0.at }, h.1)

    at : (b : Bool) → sends output e view ≡ b → ((g : Flow) → Grows g.sent (sent_to es views output v g).sent (λ k w. SendsAt es views output k × (w ≡ v)))
        → let g = if b then sent_over (field_of e view) v (slice_get f.sent (field_of e view)) f else f in
        Grows f.sent (sent_to es views output v g).sent (λ k w. SendsAt (e ∷ es) (view ∷ views) output k × (w ≡ v))
    at true t more =
        let c = field_of e view in
        let g = sent_over c v (slice_get f.sent c) f in
        grows_on f.sent g.sent (sent_to es views output v g).sent _
        (grows_weaker f.sent g.sent _ _ (λ k w h. (record { place = 0; end = e; end_is = refl; view = view; view_is = refl; sends_to = t; at = h.0 }, h.1))
        (grows_over c v (slice_get f.sent c) f refl))
        (grows_weaker g.sent (sent_to es views output v g).sent _ _ later (more g))
    at false t more = grows_weaker f.sent (sent_to es views output v f).sent _ _ later (more f)

-- what acts send: an end's output and the value are those of an act
pub record SentBy (es : List End) (views : List EndView) (acts : List Act) (field v : ℕ) : Type 0 where
  pub output : ℕ
  pub sends_at : SendsAt es views output field
  pub act : Among (Send output v) acts

pub grows_acts : (es : List End) (views : List EndView) (acts : List Act) (f : Flow) → Grows f.sent (all_done es views acts f).sent (λ k v. SentBy es views acts k v)
grows_acts es views [] f = grows_none f.sent _
grows_acts es views (a ∷ acts) f =
    let g = done es views a f in
    grows_on f.sent g.sent (all_done es views acts g).sent (λ k v. SentBy es views (a ∷ acts) k v) (one a)
    (grows_weaker g.sent (all_done es views acts g).sent _ _
    (λ k v h. record { output = h.output; sends_at = h.sends_at; act = record { place = suc h.act.place; there = h.act.there } }) (grows_acts es views acts g))
  where
    one : (a : Act) → Grows f.sent (done es views a f).sent (λ k v. SentBy es views (a ∷ acts) k v)
    one (Send output v) =
        grows_weaker f.sent (sent_to es views output v f).sent _ _
        (λ k w h. record { output = output; sends_at = h.0; act = record { place = 0; there = ap (λ w. Some (Send output w)) (sym h.1) } }) (grows_to es views output v f)
    one (Emit v) = grows_none f.sent _
