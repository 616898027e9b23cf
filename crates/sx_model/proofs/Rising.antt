-- Numbers that rise along a run.
use Rattle.std.proofs.Common.{◌≡◌, ℕ, ◌+◌, ◌<◌, ◌≤◌, List, [], ◌∷◌, ◌++◌, Option, Some, None, refl, sym, ◌∙◌, subst, arith}
use Rattle.std.specs.List.{All}
use Rattle.std.proofs.lemmas.List.Elements.{All-head, All-nil, All-push, All-tail, All-weaker}
use Rattle.std.proofs.lemmas.Option.{same_Some}
use Rattle.sx_mean.specs.Application.{AppTree}
use Rattle.sx_trace.specs.declared.items.Item.{Item}
use Rattle.sx_model.specs.State.{Model, power_on}
use Rattle.sx_model.specs.Step.{step}
use Rattle.sx_model.specs.Legal.{Legal}
use Rattle.sx_model.proofs.Along.{Keeps, step_of}

-- an item with this number, or with none: the lowest number that may follow
abbrev pub On : Option ℕ → ℕ → ℕ → Type 0
On None low next = next ≡ low
On (Some n) low next = (low ≤ n) × (next ≡ n + 1)

abbrev Below : (Item → Option ℕ) → ℕ → Item → Type 0
Below f k item = (n : ℕ) → f item ≡ Some n → n < k

in_midst : (P : Item → Type 0) (xs : List Item) (x : Item) (ys : List Item) → All P (xs ++ x ∷ ys) → P x
in_midst P [] x ys h = All-head P x ys h
in_midst P (z ∷ xs) x ys h = in_midst P xs x ys (All-tail P z (xs ++ x ∷ ys) h)

module _ (app : AppTree) (f : Item → Option ℕ) (H : ℕ → Model → Type 0)
    (moves : (k : ℕ) (s : Model) → H k s → (item : Item) (t : Model) → step app s item ≡ Some t → (n : ℕ) × On (f item) k n × H n t) where
  abbrev Lowest : List Item → Model → Type 0
  Lowest items s = (k : ℕ) × All (Below f k) items × H k s

  keeps : Keeps app Lowest
  keeps items s h item t e =
      let r = moves h.0 s h.2 item t e in
      let up = above (f item) refl r.1 in
      (r.0, All-push (Below f r.0) items item (All-weaker (Below f h.0) (Below f r.0) (λ x b n g. let lt = b n g in omega (arith, lt, up.0)) items h.1) up.1, r.2)
    where
      above : (o : Option ℕ) → f item ≡ o → On o h.0 (moves h.0 s h.2 item t e).0 → (h.0 ≤ (moves h.0 s h.2 item t e).0) × Below f (moves h.0 s h.2 item t e).0 item
      above None e on = (omega (arith, on), λ n g. absurd cc)
      above (Some k) e on = (omega (arith, on.0, on.1), λ n g. let same : k ≡ n = same_Some k n (sym e ∙ g) in omega (arith, on.1, same))

  pub rising : H 0 (power_on app) → (items before between behind : List Item) (x y : Item) (a b : ℕ) → Legal app items → items ≡ before ++ x ∷ between ++ y ∷ behind
      → f x ≡ Some a → f y ≡ Some b → a < b
  rising first items before between behind x y a b legal place fa fb =
      let st = step_of app Lowest keeps (0, All-nil (Below f 0), first) items (before ++ x ∷ between) y behind legal place in
      let lt = in_midst (Below f st.holds.0) before x between st.holds.1 a fa in
      let on = (moves st.holds.0 st.from st.holds.2 y st.to st.is).1 in
      let le = (subst (λ o. On o st.holds.0 (moves st.holds.0 st.from st.holds.2 y st.to st.is).0) fb on).0 in
      omega (arith, lt, le)
