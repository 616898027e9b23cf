-- What is said of a whole trace.
use Rattle.std.proofs.Common.{◌≡◌, ◌∙◌, ℕ, ◌+◌, Bool, true, false, List, [], ◌∷◌, ◌++◌, length, Option, Some, None, refl, sym, ap, subst, append_assoc}
use Rattle.std.specs.Prelude.{if◌then◌else◌, is_none, IsSome}
use Rattle.std.specs.List.{list_any}
use Rattle.std.proofs.lemmas.List.{append-nil}
use Rattle.sx_io.specs.Reading.{Answer}
use Rattle.command_promise.specs.Told.{Output, behind}
use Rattle.sx_trace.specs.declared.items.Item.{Item}
use Rattle.sx_trace.specs.declared.items.Item.TheVariants.{Forged}
use Rattle.sx_mean.specs.Application.{AppTree}
use Rattle.sx_model.specs.State.{Model, power_on}
use Rattle.sx_model.specs.Step.{step}
use Rattle.sx_model.specs.Legal.{Legal, after, before, is_forged}
use Rattle.sx_explain.specs.Causes.{cause}
use Rattle.sx_explain.specs.Judging.{said}
use Rattle.sx_explain.specs.declared.judge.Judged.TheVariants as verdict
use Rattle.sx_explain.proofs.After.{after_more}
use Rattle.sx_explain.proofs.Explained.{none_front}
use Rattle.sx_explain.proofs.Following.{any_more, any_still}
use Rattle.sx_explain.proofs.JudgesLegal.{allowed_next, is_not_none, judged_is, legal_front}
use Rattle.command_explain.specs.Output.{explain_from, illegal_output, stop_output, told_item, told_items}
use Rattle.command_explain.specs.Laws.{Refused, TracesExplained, cause_line, causes_text}
use Rattle.command_explain.specs.Trace.{trace}
use Rattle.command_text.proofs.Keeping.{joined}

-- nothing is said after a forged item
behind_forged : (app : AppTree) (front items : List Item) (last : Output) → list_any is_forged front ≡ true → told_items app front items last ≡ last
behind_forged app front [] last f = refl
behind_forged app front (i ∷ is) last f =
    ap (λ j. told_item (length front + 1) j (told_items app (front ++ i ∷ []) is last)) (judged_is app front i true (is_none (after app (power_on app) (front ++ i ∷ []))) f refl)
    ∙ behind_forged app (front ++ i ∷ []) is last (any_still is_forged front i f)

-- what is said of an item that the source allows, and that isn't forged
told_allowed : (n : ℕ) (c : Option ℕ) (i : Item) (rest : Output) → is_forged i ≡ false → told_item n (said c i) rest ≡ behind (cause_line n c) rest
told_allowed n (Some k) i rest f = refl
told_allowed n None i rest f = ap (λ (b : Bool). told_item n (if b then verdict.Forged else verdict.Fine) rest) f

-- the first that is forged has no cause
told_forged : (app : AppTree) (front : List Item) (n : ℕ) (i : Item) (rest : Output) → is_forged i ≡ true → told_item n (said (cause app front i) i) rest ≡ rest
told_forged app front n (Forged m) rest f = refl
told_forged app front n _ rest f = absurd cc

module _ (app : AppTree) (last : Output) where
  -- what is said of one item more
  one_more : (front : List Item) (i : Item) (is : List Item) (text : List ℕ) (o : Output) → list_any is_forged front ≡ false → is_forged i ≡ false → IsSome (after app (power_on app) (front ++ i ∷ []))
      → told_items app (front ++ i ∷ []) is last ≡ behind text o → told_items app front (i ∷ is) last ≡ behind (cause_line (length front + 1) (cause app front i) ++ text) o
  one_more front i is text o f g some rest =
      ap (λ j. told_item (length front + 1) j (told_items app (front ++ i ∷ []) is last)) (judged_is app front i false false f (is_not_none (after app (power_on app) (front ++ i ∷ [])) some))
      ∙ told_allowed (length front + 1) (cause app front i) i (told_items app (front ++ i ∷ []) is last) g
      ∙ ap (behind (cause_line (length front + 1) (cause app front i))) rest ∙ joined (cause_line (length front + 1) (cause app front i)) text o

  legal_told : (front items : List Item) → list_any is_forged front ≡ false → IsSome (after app (power_on app) (front ++ before items))
      → told_items app front items last ≡ behind (causes_text app front (before items)) last
  legal_told front [] f legal = refl
  legal_told front (i ∷ is) f legal =
      at (is_forged i) refl (allowed_next app front is i (is_forged i) refl legal) legal (λ g h. legal_told (front ++ i ∷ []) is g h)
    where
      at : (b : Bool) → is_forged i ≡ b → IsSome (after app (power_on app) (front ++ i ∷ [])) → IsSome (after app (power_on app) (front ++ (if b then [] else i ∷ before is)))
          → (list_any is_forged (front ++ i ∷ []) ≡ false → IsSome (after app (power_on app) ((front ++ i ∷ []) ++ before is))
          → told_items app (front ++ i ∷ []) is last ≡ behind (causes_text app (front ++ i ∷ []) (before is)) last)
          → told_items app front (i ∷ is) last ≡ behind (causes_text app front (if b then [] else i ∷ before is)) last
      at true g some legal more =
          ap (λ j. told_item (length front + 1) j (told_items app (front ++ i ∷ []) is last)) (judged_is app front i false false f (is_not_none (after app (power_on app) (front ++ i ∷ [])) some))
          ∙ told_forged app front (length front + 1) i (told_items app (front ++ i ∷ []) is last) g ∙ behind_forged app (front ++ i ∷ []) is last (any_more is_forged front i f ∙ g)
      at false g some legal more =
          one_more front i is (causes_text app (front ++ i ∷ []) (before is)) last f g some
          (more (any_more is_forged front i f ∙ g) (subst (λ xs. IsSome (after app (power_on app) xs)) (sym (append_assoc front (i ∷ []) (before is))) legal))

  some_of_is : (o : Option Model) (s : Model) → o ≡ Some s → IsSome o
  some_of_is o s e = subst (λ o. IsSome o) (sym e) refl

  illegal_told : (front seen : List Item) (i : Item) (rest : List Item) (s : Model) → list_any is_forged (front ++ seen) ≡ false
      → after app (power_on app) (front ++ seen) ≡ Some s → step app s i ≡ None
      → told_items app front (seen ++ i ∷ rest) last ≡ behind (causes_text app front seen) (illegal_output (length (front ++ seen) + 1))
  illegal_told front [] i rest s f ran refused =
      let whole : front ++ [] ≡ front = append-nil front in
      let forged : list_any is_forged front ≡ false = (ap (λ xs. list_any is_forged xs) (sym whole) ∙ f) in
      let here : after app (power_on app) front ≡ Some s = (ap (λ xs. after app (power_on app) xs) (sym whole) ∙ ran) in
      let none : is_none (after app (power_on app) (front ++ i ∷ [])) ≡ true = ap (λ o. is_none o) (after_more app front (power_on app) s i here ∙ refused) in
      ap (λ j. told_item (length front + 1) j (told_items app (front ++ i ∷ []) rest last)) (judged_is app front i false true forged none)
      ∙ ap (λ (xs : List Item). illegal_output (length xs + 1)) (sym whole)
  illegal_told front (x ∷ seen) i rest s f ran refused =
      let moved : (front ++ x ∷ []) ++ seen ≡ front ++ x ∷ seen = append_assoc front (x ∷ []) seen in
      let forged : list_any is_forged (front ++ x ∷ []) ≡ false = none_front (front ++ x ∷ []) seen (ap (λ xs. list_any is_forged xs) moved ∙ f) in
      let first : list_any is_forged front ≡ false = none_front front (x ∷ []) forged in
      let there : after app (power_on app) ((front ++ x ∷ []) ++ seen) ≡ Some s = (ap (λ xs. after app (power_on app) xs) moved ∙ ran) in
      one_more front x (seen ++ i ∷ rest) (causes_text app (front ++ x ∷ []) seen) (illegal_output (length (front ++ x ∷ seen) + 1)) first (sym (any_more is_forged front x first) ∙ forged)
      (legal_front app (front ++ x ∷ []) seen (power_on app) (some_of_is (after app (power_on app) ((front ++ x ∷ []) ++ seen)) s there))
      (illegal_told (front ++ x ∷ []) seen i rest s (ap (λ xs. list_any is_forged xs) moved ∙ f) there refused
      ∙ ap (λ (xs : List Item). behind (causes_text app (front ++ x ∷ []) seen) (illegal_output (length xs + 1))) moved)

legal_from : (app : AppTree) (item : List ℕ → Option Item) (answers : List Answer) → Legal app (before (trace item 1 answers).items)
    → explain_from app item [] answers ≡ behind (causes_text app [] (before (trace item 1 answers).items)) (stop_output (trace item 1 answers).items (trace item 1 answers).stop)
unfolding explain_from
legal_from app item answers legal =
    let t = trace item 1 answers in legal_told app (stop_output t.items t.stop) [] t.items refl legal

illegal_from : (app : AppTree) (item : List ℕ → Option Item) (answers : List Answer) (front : List Item) → Refused app (trace item 1 answers).items front
    → explain_from app item [] answers ≡ behind (causes_text app [] front) (illegal_output (length front + 1))
unfolding explain_from
illegal_from app item answers front r =
    let t = trace item 1 answers in
    ap (λ is. told_items app [] is (stop_output t.items t.stop)) r.place ∙ illegal_told app (stop_output t.items t.stop) [] front r.item r.behind r.before r.honest r.ran r.refused

pub traces_explained : TracesExplained
traces_explained app item answers = record { legal = legal_from app item answers; illegal = illegal_from app item answers }
