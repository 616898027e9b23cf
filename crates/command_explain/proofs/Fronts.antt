-- A line that is passed is known by its first bytes and its length.
use Rattle.std.proofs.Common.{◌≡◌, ◌∙◌, ℕ, zero, suc, ◌≤◌, inl, inr, ◌&&◌, true, if◌then◌else◌, List, [], ◌∷◌, length, take, sym, ap, arith}
use Rattle.std.specs.Prelude.{◌==◌, codes, nat_le}
use Rattle.std.specs.Str.{bytes_eq}
use Rattle.std.specs.Bool.{one_answer}
use Rattle.std.proofs.lemmas.Bool.{and_from, and_parts, cases_lt, eq-eqb, eqb-true}
use Rattle.std.proofs.lemmas.List.{length-take-le, take_all, take-take}
use Rattle.std.proofs.lemmas.Slice.Eq.{bytes_eq-Decides}
use Rattle.command_explain.specs.declared.images.ImageLine.TheVariants as image
use Rattle.command_explain.specs.Trace.{image_line, is_image, is_trace, most_images}
use Rattle.command_explain.specs.Turns.{front_line}

take_few : (n : ℕ) (xs : List ℕ) → length (take n xs) ≤ n
take_few zero xs = omega arith
take_few (suc n) [] = omega arith
take_few (suc n) (x ∷ xs) = let h = take_few n xs in omega (arith, h)

module _ (n : ℕ) (front into : List ℕ) (room : length front ≡ 8) (first : take n front ≡ take 8 (take n into)) where
  abbrev text : List ℕ
  text = take n into

  -- a text of at most 8 bytes is in front, as long as it is
  short_text : length text ≤ 7 → n ≡ length text
  short_text few =
      let whole = take_all 8 text (omega (arith, few)) in
      let same = ap (λ (xs : List ℕ). length xs) (first ∙ whole) in
      elim (cases_lt n 8) [
        | inl lt ↦ (let size = length-take-le n front (omega (arith, room, lt)) in omega (arith, size, same))
        | inr ge ↦ (let all = take_all n front (omega (arith, room, ge)) in let l = ap (λ (xs : List ℕ). length xs) all in absurd (omega (arith, l, same, room, few)))
      ]

  -- its first bytes are those in front
  first_bytes : (k : ℕ) → k ≤ 8 → k ≤ n → take k front ≡ take k text
  first_bytes k low within = sym (take-take k n front within) ∙ ap (λ (xs : List ℕ). take k xs) first ∙ take-take k 8 text low

  is_front_trace : ((n == 5) && bytes_eq (take 5 front) (codes "trace")) ≡ is_trace text
  is_front_trace = one_answer {P = text ≡ codes "trace"} ((n == 5) && bytes_eq (take 5 front) (codes "trace")) (is_trace text) (
    λ h.
        let w = and_parts (n == 5) (bytes_eq (take 5 front) (codes "trace")) h in
        let five : n ≡ 5 = eqb-true n 5 w.0 in
        let few : length text ≤ 5 = (let f = take_few n into in omega (arith, f, five)) in
        let same : take 5 front ≡ text = (first_bytes 5 (omega arith) (omega (arith, five)) ∙ take_all 5 text few) in
        sym same ∙ (bytes_eq-Decides (take 5 front) (codes "trace")).0 w.1,
    λ is.
        let size : length text ≡ 5 = ap (λ (xs : List ℕ). length xs) is in
        let five : n ≡ 5 = (short_text (omega (arith, size)) ∙ size) in
        let same : take 5 front ≡ text = (first_bytes 5 (omega arith) (omega (arith, five)) ∙ take_all 5 text (omega (arith, size))) in
        and_from (n == 5) (bytes_eq (take 5 front) (codes "trace")) (eq-eqb n 5 five) ((bytes_eq-Decides (take 5 front) (codes "trace")).1 (same ∙ is)),
  ) (bytes_eq-Decides text (codes "trace"))

  is_front_image : (nat_le 6 n && bytes_eq (take 6 front) (codes "image ")) ≡ is_image text
  is_front_image = one_answer {P = take 6 text ≡ codes "image "} (nat_le 6 n && bytes_eq (take 6 front) (codes "image ")) (is_image text) (
    λ h.
        let w = and_parts (nat_le 6 n) (bytes_eq (take 6 front) (codes "image ")) h in
        let same : take 6 front ≡ take 6 text = first_bytes 6 (omega arith) (le_of 6 n w.0) in
        sym same ∙ (bytes_eq-Decides (take 6 front) (codes "image ")).0 w.1,
    λ is.
        let size : length (take 6 text) ≡ 6 = ap (λ (xs : List ℕ). length xs) is in
        let within : 6 ≤ n = (let whole = take_all 6 text in let f = take_few n into in long_enough whole size f) in
        let same : take 6 front ≡ take 6 text = first_bytes 6 (omega arith) within in
        and_from (nat_le 6 n) (bytes_eq (take 6 front) (codes "image ")) (of_le 6 n within) ((bytes_eq-Decides (take 6 front) (codes "image ")).1 (same ∙ is)),
  ) (bytes_eq-Decides (take 6 text) (codes "image "))
    where
      long_enough : (length text ≤ 6 → take 6 text ≡ text) → length (take 6 text) ≡ 6 → length text ≤ n → 6 ≤ n
      long_enough whole size f =
          elim (cases_lt (length text) 6) [
            | inl lt ↦ (let w = ap (λ (xs : List ℕ). length xs) (whole (omega (arith, lt))) in absurd (omega (arith, w, size, lt)))
            | inr ge ↦ omega (arith, ge, f)
          ]

      le_of : (a b : ℕ) → nat_le a b ≡ true → a ≤ b
      le_of a b h = grind arith

      of_le : (a b : ℕ) → a ≤ b → nat_le a b ≡ true
      of_le a b h = grind arith

  pub passed_line : (number : ℕ) → front_line number front n ≡ image_line number text
  passed_line number =
      ap (λ b. if b then image.Trace else if nat_le number most_images && (nat_le 6 n && bytes_eq (take 6 front) (codes "image ")) then image.Image else image.Other) is_front_trace
      ∙ ap (λ b. if is_trace text then image.Trace else if nat_le number most_images && b then image.Image else image.Other) is_front_image
