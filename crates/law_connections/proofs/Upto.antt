-- Items up to the first `forged`.
use Rattle.std.proofs.Common.{◌≡◌, ℕ, ◌||◌, Bool, true, false, if◌then◌else◌, inl, inr, List, [], ◌∷◌, ◌++◌, Option, refl, sym, ◌∙◌, ap}
use Rattle.std.specs.List.{list_any}
use Rattle.std.proofs.lemmas.Bool.{true≢false}
use Rattle.sx_trace.specs.declared.items.Item.{Item}
use Rattle.sx_trace.specs.declared.items.Item.TheVariants as item
use Rattle.sx_model.specs.Legal.{is_forged}
use Rattle.law_forgery.proofs.Forging.{forged_is}
use Rattle.law_forgery.specs.Moments.{IsAmong, NoForged}
use Rattle.law_connections.specs.LinksUnseen.{upto_forged}

-- none of the items is `forged`
abbrev pub Clean : List Item → Type 0
Clean items = list_any is_forged items ≡ false

pub clean_none : (items : List Item) → Clean items → NoForged items
clean_none [] h who i = i
clean_none (x ∷ items) h who i = by (is_forged x) refl h i (λ g r. clean_none items g who r)
  where
    by : (c : Bool) → is_forged x ≡ c → (c || list_any is_forged items) ≡ false → IsAmong (item.Forged who) (x ∷ items)
        → (list_any is_forged items ≡ false → IsAmong (item.Forged who) items → ⊥) → ⊥
    by true e h i rest = true≢false h
    by false e h (inl is) rest = true≢false (sym (ap is_forged is) ∙ e)
    by false e h (inr r) rest = rest h r

pub clean_left : (xs ys : List Item) → Clean (xs ++ ys) → Clean xs
clean_left [] ys h = refl
clean_left (x ∷ xs) ys h = by (is_forged x) h (clean_left xs ys)
  where
    by : (c : Bool) → (c || list_any is_forged (xs ++ ys)) ≡ false → (Clean (xs ++ ys) → Clean xs) → (c || list_any is_forged xs) ≡ false
    by true h rest = absurd (true≢false h)
    by false h rest = rest h

pub clean_right : (xs ys : List Item) → Clean (xs ++ ys) → Clean ys
clean_right [] ys h = h
clean_right (x ∷ xs) ys h = by (is_forged x) h (clean_right xs ys)
  where
    by : (c : Bool) → (c || list_any is_forged (xs ++ ys)) ≡ false → (Clean (xs ++ ys) → Clean ys) → Clean ys
    by true h rest = absurd (true≢false h)
    by false h rest = rest h

-- items with no `forged` are all that there is up to it
pub upto_clean : (items : List Item) → Clean items → upto_forged items ≡ items
upto_clean [] h = refl
upto_clean (x ∷ items) h = by (is_forged x) h (upto_clean items)
  where
    by : (c : Bool) → (c || list_any is_forged items) ≡ false → (Clean items → upto_forged items ≡ items) → x ∷ (if c then [] else upto_forged items) ≡ x ∷ items
    by true h rest = absurd (true≢false h)
    by false h rest = ap (λ (r : List Item). x ∷ r) (rest h)

pub upto_then : (xs ys : List Item) → Clean xs → upto_forged (xs ++ ys) ≡ xs ++ upto_forged ys
upto_then [] ys h = refl
upto_then (x ∷ xs) ys h = by (is_forged x) h (upto_then xs ys)
  where
    by : (c : Bool) → (c || list_any is_forged xs) ≡ false → (Clean xs → upto_forged (xs ++ ys) ≡ xs ++ upto_forged ys)
        → x ∷ (if c then [] else upto_forged (xs ++ ys)) ≡ x ∷ (xs ++ upto_forged ys)
    by true h rest = absurd (true≢false h)
    by false h rest = ap (λ (r : List Item). x ∷ r) (rest h)

pub upto_over : (xs ys : List Item) → list_any is_forged xs ≡ true → upto_forged (xs ++ ys) ≡ upto_forged xs
upto_over [] ys h = absurd (true≢false (sym h))
upto_over (x ∷ xs) ys h = by (is_forged x) h (upto_over xs ys)
  where
    by : (c : Bool) → (c || list_any is_forged xs) ≡ true → (list_any is_forged xs ≡ true → upto_forged (xs ++ ys) ≡ upto_forged xs)
        → x ∷ (if c then [] else upto_forged (xs ++ ys)) ≡ x ∷ (if c then [] else upto_forged xs)
    by true h rest = refl
    by false h rest = ap (λ (r : List Item). x ∷ r) (rest h)

pub any_upto : (items : List Item) → list_any is_forged (upto_forged items) ≡ list_any is_forged items
any_upto [] = refl
any_upto (x ∷ items) = by (is_forged x) (any_upto items)
  where
    by : (c : Bool) → list_any is_forged (upto_forged items) ≡ list_any is_forged items
        → (c || list_any is_forged (if c then [] else upto_forged items)) ≡ (c || list_any is_forged items)
    by true e = refl
    by false e = e

pub none_clean : (items : List Item) → NoForged items → Clean items
none_clean [] h = refl
none_clean (x ∷ items) h = by (is_forged x) refl (none_clean items (λ who i. h who (inr i)))
  where
    by : (c : Bool) → is_forged x ≡ c → Clean items → (c || list_any is_forged items) ≡ false
    by true e rest = let f = forged_is x e in absurd (h f.0 (inl f.1))
    by false e rest = rest
