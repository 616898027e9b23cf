-- In a legal trace each reading, each taking and each output gets its cause.
use Rattle.std.proofs.Common.{◌≡◌, ℕ, ◌+◌, ◌≤◌, Bool, true, false, if◌then◌else◌, List, [], ◌∷◌, ◌++◌, length, Some, refl, ap, ◌∙◌, subst, arith}
use Rattle.std.specs.List.{list_any}
use Rattle.std.proofs.lemmas.List.{length-append}
use Rattle.std.proofs.lemmas.Bool.{or_parts}
use Rattle.sx_mean.specs.Application.{AppTree}
use Rattle.sx_mean.specs.Validity.{is_valid}
use Rattle.sx_trace.specs.declared.items.Item.{Item}
use Rattle.sx_trace.specs.declared.items.Item.TheVariants.{Read, Take, Out}
use Rattle.sx_model.specs.State.{power_on}
use Rattle.sx_model.specs.Legal.{Legal, after, before, is_forged}
use Rattle.sx_explain.specs.Causes.{cause}
use Rattle.sx_explain.specs.Laws.{LegalIsExplained, has_cause}
use Rattle.sx_explain.proofs.After.{after_more}
use Rattle.sx_explain.proofs.Caused.{at_item, legal_has_causes}

none_before : (items : List Item) → list_any is_forged (before items) ≡ false
none_before [] = refl
none_before (i ∷ is) = at (is_forged i) refl (none_before is)
  where
    at : (b : Bool) → is_forged i ≡ b → list_any is_forged (before is) ≡ false → list_any is_forged (if b then [] else i ∷ before is) ≡ false
    at true e h = refl
    at false e h = rw e h

pub none_front : (front rest : List Item) → list_any is_forged (front ++ rest) ≡ false → list_any is_forged front ≡ false
none_front [] rest h = refl
none_front (i ∷ is) rest h =
    let b = or_parts (is_forged i) (list_any is_forged (is ++ rest)) h in
    let i = b.0 in
    rw i (none_front is rest b.1)

-- the cause is among the items before
record Caused (app : AppTree) (front : List Item) (item : Item) : Type 0 where
  number : ℕ
  is : cause app front item ≡ Some number
  low : number ≤ length front

low_place : (front earlier rest : List Item) (by : Item) → earlier ≡ front ++ by ∷ rest → length front + 1 ≤ length earlier
low_place front earlier rest by place =
    let l = ap (λ (xs : List Item). length xs) place in
    let m = length-append front (by ∷ rest) in
    omega (arith, l, m)

module _ (app : AppTree) (items : List Item) (valid : is_valid app ≡ true) (legal : Legal app items) where
  caused : (front behind : List Item) (item : Item) → items ≡ front ++ item ∷ behind → has_cause item ≡ true → Caused app front item
  caused front behind (Read m v) place h =
      let c = ((legal_has_causes app items valid legal).reads front behind m v place).2 in
      record { number = length c.front + 1; is = c.is.number; low = low_place c.front front c.is.rest c.by c.is.place }
  caused front behind (Take m k i v) place h =
      let c = (legal_has_causes app items valid legal).takes front behind m k i v place in
      record { number = length c.front + 1; is = c.is.number; low = low_place c.front front c.is.rest c.by c.is.place }
  caused front behind (Out m v) place h =
      let c = (legal_has_causes app items valid legal).outs front behind m v place in
      record { number = length c.front + 1; is = c.is.number; low = low_place c.front front c.is.rest c.by c.is.place }
  caused front behind _ place h = absurd cc

pub legal_is_explained : LegalIsExplained
legal_is_explained app items front behind item valid legal place kind =
    let bs = before items in
    let c = caused app bs valid legal front behind item place kind in
    let f : list_any is_forged front ≡ false = none_front front (item ∷ behind) (subst (λ xs. list_any is_forged xs ≡ false) place (none_before items)) in
    let a = at_item app front item behind (power_on app) (subst (λ xs. Legal app xs) place legal) in
    let ran : after app (power_on app) (front ++ item ∷ []) ≡ Some a.to = (after_more app front (power_on app) a.from item a.ran ∙ a.is) in
    let is = c.is in
    (c.number, rw (f, ran, is) refl, c.low)
