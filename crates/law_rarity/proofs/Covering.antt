-- Each entry that a run may try is listed.
use Rattle.std.proofs.Common.{◌≡◌, ℕ, zero, suc, ◌+◌, ◌*◌, ◌^◌, ◌%◌, ◌/◌, ◌<◌, ◌≤◌, ◌⊎◌, inl, inr, List, [], ◌∷◌, ◌++◌, length, Some, refl, ◌∙◌, ap, ap₂, subst, arith}
use Rattle.std.specs.Prelude.{slice_get}
use Rattle.std.proofs.lemmas.Bool.{cases_lt}
use Rattle.sx_tag.proofs.TagBytes.{AreBytes}
use Rattle.spec_run.proofs.tie.Lists.{some_inj}
use Rattle.law_rarity.specs.Tables.{Entry, bytes_of}
use Rattle.law_rarity.specs.Covering.{each, all_entries, AllHaveBoots}
use Rattle.law_rarity.proofs.Entries.{number}

-- Lists one after the other.

in_left : {X : Type 0} (xs ys : List X) (i : ℕ) (x : X) → slice_get xs i ≡ Some x → slice_get (xs ++ ys) i ≡ Some x
in_left [] ys i x e = absurd cc
in_left (z ∷ xs) ys zero x e = e
in_left (z ∷ xs) ys (suc i) x e = in_left xs ys i x e

in_right : {X : Type 0} (xs ys : List X) (i : ℕ) (x : X) → slice_get ys i ≡ Some x → (j : ℕ) × (slice_get (xs ++ ys) j ≡ Some x)
in_right [] ys i x e = (i, e)
in_right (z ∷ xs) ys i x e = let r = in_right xs ys i x e in (suc r.0, r.1)

in_either : {X : Type 0} (xs ys : List X) (i : ℕ) (x : X) → slice_get (xs ++ ys) i ≡ Some x → (slice_get xs i ≡ Some x) ⊎ ((j : ℕ) × (slice_get ys j ≡ Some x))
in_either [] ys i x e = inr (i, e)
in_either (z ∷ xs) ys zero x e = inl e
in_either (z ∷ xs) ys (suc i) x e = in_either xs ys i x e

in_each : {X : Type 0} (n : ℕ) (f : ℕ → List X) (k i : ℕ) (x : X) → k < n → slice_get (f k) i ≡ Some x → (j : ℕ) × (slice_get (each n f) j ≡ Some x)
unfolding each
in_each zero f k i x lt e = absurd (omega (arith, lt))
in_each (suc n) f k i x lt e = elim (cases_lt k n) [
  | inl low ↦ let r = in_each n f k i x low e in (r.0, in_left (each n f) (f n) r.0 x r.1)
  | inr high ↦
      let same : k ≡ n = omega (arith, lt, high) in
      in_right (each n f) (f n) i x (subst (λ (z : ℕ). slice_get (f z) i ≡ Some x) same e)
]

-- which of the lists it is in
pub record Place {X : Type 0} (n : ℕ) (f : ℕ → List X) (x : X) : Type 0 where
  pub k : ℕ
  pub low : k < n
  pub i : ℕ
  pub there : slice_get (f k) i ≡ Some x

place_of : {X : Type 0} (n : ℕ) (f : ℕ → List X) (i : ℕ) (x : X) → slice_get (each n f) i ≡ Some x → Place n f x
unfolding each
place_of zero f i x e = absurd cc
place_of (suc n) f i x e = elim (in_either (each n f) (f n) i x e) [
  | inl l ↦ let r = place_of n f i x l in let low = r.low in record { k = r.k; low = omega (arith, low); i = r.i; there = r.there }
  | inr r ↦ record { k = n; low = omega arith; i = r.0; there = r.1 }
]

-- Bytes as a number.

abbrev entry : ℕ → ℕ → ℕ → ℕ → Entry
entry m boot size v = record { m = m; boot = boot; rest = bytes_of size v }

abbrev of_size : ℕ → ℕ → ℕ → List Entry
of_size m boot size = each (256 ^ size) (λ v. entry m boot size v ∷ [])

abbrev of_boot : ℕ → ℕ → List Entry
of_boot m boot = each 66 (of_size m boot)

abbrev of_module : ℕ → List Entry
of_module m = each (2 ^ 32) (of_boot m)

bytes_back : (bs : List ℕ) → AreBytes bs → bytes_of (length bs) (number bs) ≡ bs
bytes_back [] h = refl
bytes_back (b ∷ bs) h =
    let low = h.0 in
    let first : (b + 256 * number bs) % 256 ≡ b = omega (arith, low) in
    let rest : (b + 256 * number bs) / 256 ≡ number bs = omega (arith, low) in
    ap₂ (λ (x y : ℕ). x ∷ bytes_of (length bs) y) first rest ∙ ap (λ (z : List ℕ). b ∷ z) (bytes_back bs h.1)

number_low : (bs : List ℕ) → AreBytes bs → number bs < 256 ^ length bs
number_low [] h = omega (arith, Rattle.std.proofs.Math.Nat.pow-zero 256)
number_low (b ∷ bs) h =
    let low = h.0 in
    let rest = number_low bs h.1 in
    omega (arith, low, rest, Rattle.std.proofs.Math.Nat.pow-suc 256 (length bs))

pub all_cover : (modules m boot : ℕ) (rest : List ℕ) → m < modules → boot < 2 ^ 32 → length rest ≤ 65 → AreBytes rest
    → (i : ℕ) × (slice_get (all_entries modules) i ≡ Some (record { m = m; boot = boot; rest = rest }))
all_cover modules m boot rest m_low boot_low short bytes =
    let x : Entry = record { m = m; boot = boot; rest = rest } in
    let size = length rest in
    let one = in_each (256 ^ size) (λ v. entry m boot size v ∷ []) (number rest) 0 x (number_low rest bytes)
    (ap (λ (r : List ℕ). Some (record { m = m; boot = boot; rest = r })) (bytes_back rest bytes)) in
    let two = in_each 66 (of_size m boot) size one.0 x (omega (arith, short)) one.1 in
    let three = in_each (2 ^ 32) (of_boot m) boot two.0 x boot_low two.1 in
    in_each modules of_module m three.0 x m_low three.1

pub all_have_boots : AllHaveBoots
all_have_boots modules i e there =
    let one = place_of modules of_module i e there in
    let two = place_of (2 ^ 32) (of_boot one.k) one.i e one.there in
    let three = place_of 66 (of_size one.k two.k) two.i e two.there in
    let four = place_of (256 ^ three.k) (λ v. entry one.k two.k three.k v ∷ []) three.i e three.there in
    let boot : two.k ≡ e.boot = ap (λ (z : Entry). z.boot) (only (entry one.k two.k three.k four.k) four.i e four.there) in
    let low = two.low in
    omega (arith, boot, low)
  where
    only : (x : Entry) (i : ℕ) (y : Entry) → slice_get (x ∷ []) i ≡ Some y → x ≡ y
    only x zero y e = some_inj x y e
    only x (suc i) y e = absurd cc
