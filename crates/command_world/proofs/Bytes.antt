-- The texts of images are lists of bytes.
use Rattle.std.proofs.Common.{◌≡◌, ◌∙◌, ℕ, zero, suc, ◌+◌, ◌<◌, ◌≤◌, Bool, true, false, List, [], ◌∷◌, length, get_or, nat_lt, Option, Some, refl, sym, ap, subst, arith}
use Rattle.std.specs.Prelude.{All, option_map, slice_get}
use Rattle.std.proofs.lemmas.Bool.Decides.{nat_tests}
use Rattle.std.proofs.lemmas.List.{length-map}
use Rattle.std.proofs.lemmas.Option.{same_Some, slice_get-map, slice_get_read, slice_get_within}
use Rattle.sx_image.specs.declared.image.Image.{Image}
use Rattle.sx_image.specs.InMemory.{texts_of}

-- each number of a list is a byte, whatever is read past its end
pub all_fit : (xs : List ℕ) → ((k : ℕ) → get_or xs k 0 < 256) → All (λ b. b < 256) xs
all_fit xs h = λ k d lt. fits xs h k d lt
  where
    fits : (xs : List ℕ) → ((k : ℕ) → get_or xs k 0 < 256) → (k d : ℕ) → k < length xs → get_or xs k d < 256
    fits [] h k d lt = absurd (omega (arith, lt))
    fits (x ∷ xs) h zero d lt = h zero
    fits (x ∷ xs) h (suc k) d lt = fits xs (λ j. h (suc j)) k d (omega (arith, lt))

-- so are those of the first images
abbrev pub HaveBytes : List Image → ℕ → Type 0
HaveBytes images n = (m : ℕ) (t : List ℕ) → m < n → slice_get (texts_of images) m ≡ Some t → All (λ b. b < 256) t

text_at : (images : List Image) (i : ℕ) (x : Image) → i < length images → x ≡ get_or images i x → slice_get (texts_of images) i ≡ Some x.text.items
text_at images i x h is =
    slice_get-map (λ (i : Image). i.text.items) images i ∙ ap (λ (o : Option Image). option_map (λ (i : Image). i.text.items) o) (slice_get_read images (length images) i x refl h is)

-- and those of one more
pub one_more : (images : List Image) (i : ℕ) (x : Image) → i < length images → x ≡ get_or images i x → All (λ b. b < 256) x.text.items → HaveBytes images i → HaveBytes images (i + 1)
one_more images i x h is bytes so = λ m t lt e. by_place m t lt e (nat_lt m i) refl
  where
    by_place : (m : ℕ) (t : List ℕ) → m < i + 1 → slice_get (texts_of images) m ≡ Some t → (b : Bool) → nat_lt m i ≡ b → All (λ b. b < 256) t
    by_place m t lt e true c = so m t (grind (arith, nat_tests, c)) e
    by_place m t lt e false c =
        let le : i ≤ m = grind (arith, nat_tests, c) in
        let same : m ≡ i = omega (arith, lt, le) in
        let text : x.text.items ≡ t = same_Some x.text.items t (sym (text_at images i x h is) ∙ ap (λ (k : ℕ). slice_get (texts_of images) k) (sym same) ∙ e) in
        let P : List ℕ → Type 0 = λ xs. All (λ b. b < 256) xs in subst P text bytes

-- all are
pub all_bytes : (images : List Image) (n : ℕ) → length images ≤ n → HaveBytes images n → (m : ℕ) (t : List ℕ) → slice_get (texts_of images) m ≡ Some t → All (λ b. b < 256) t
all_bytes images n h so = λ m t e.
    let within : m < length (texts_of images) = slice_get_within (texts_of images) m t e in
    so m t (omega (arith, within, h, length-map images (λ (i : Image). i.text.items))) e
