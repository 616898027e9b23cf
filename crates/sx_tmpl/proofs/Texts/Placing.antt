-- The operations' words are one after the other in the text.
use Rattle.std.proofs.Common.{◌≡◌, ℕ, zero, suc, ◌+◌, ◌*◌, ◌%◌, ◌<◌, ◌≤◌, List, [], ◌∷◌, ◌++◌, take, length, length-append, Some, sym, ◌∙◌, ap, subst, arith}
use Rattle.std.specs.Prelude.{slice_get}
use Rattle.std.proofs.lemmas.Option.{none-some, same_Some}
use Rattle.sx_rules.specs.declared.section.Layout.{Layout}
use Rattle.sx_ir.specs.declared.ir.Ir.{Ir}
use Rattle.sx_tmpl.specs.Running.{Fixed, cell}
use Rattle.sx_tmpl.specs.Shows.{WordsAt}
use Rattle.sx_tmpl.specs.Template.{Addresses, template}
use Rattle.sx_tmpl.specs.Text.{words_of}
use Rattle.sx_tmpl.proofs.Texts.Whole.{Emitted, IsSoundOp}

pub words_front : (m : List ℕ) (b : ℕ) (ws vs : List ℕ) → WordsAt m b (ws ++ vs) → WordsAt m b ws
words_front m b [] vs h = tt
words_front m b (w ∷ ws) vs h = (h.0, words_front m (b + 2) ws vs h.1)

pub words_back : (m : List ℕ) (b : ℕ) (ws vs : List ℕ) → WordsAt m b (ws ++ vs) → WordsAt m (b + 2 * length ws) vs
words_back m b [] vs h = let e : b ≡ b + 2 * 0 = omega arith in subst (λ a. WordsAt m a vs) e h
words_back m b (w ∷ ws) vs h =
    let e : b + 2 + 2 * length ws ≡ b + 2 * length (w ∷ ws) = omega arith in
    subst (λ a. WordsAt m a vs) e (words_back m (b + 2) ws vs h.1)

pub word_at : (m : List ℕ) (b : ℕ) (ws : List ℕ) (k w : ℕ) → WordsAt m b ws → slice_get ws k ≡ Some w → cell m (b + 2 * k) ≡ w
word_at m b [] k w h e = absurd (none-some w e)
word_at m b (x ∷ ws) zero w h e = ap (cell m) (omega arith) ∙ h.0 ∙ same_Some x w e
word_at m b (x ∷ ws) (suc k) w h e = ap (cell m) (omega arith) ∙ word_at m (b + 2) ws k w h.1 e

got_short : (code : List Ir) (p : ℕ) (i : Ir) → slice_get code p ≡ Some i → p < length code
got_short [] p i e = absurd (none-some i e)
got_short (j ∷ code) zero i e = omega arith
got_short (j ∷ code) (suc p) i e = let x = got_short code p i e in omega (arith, x)

module _ (l : Layout) (a : Addresses) where
  -- the words of the operation at a place, and how many are before it and after it
  at_place : (m : List ℕ) (code : List Ir) (b p q : ℕ) (i : Ir) → slice_get code q ≡ Some i → WordsAt m b (words_of l a p code)
      → WordsAt m (b + 2 * length (words_of l a p (take q code))) (template l a (p + q) i)
  at_place m [] b p q i e h = absurd (none-some i e)
  at_place m (j ∷ code) b p zero i e h =
      let front = words_front m b (template l a p j) (words_of l a (p + 1) code) h in
      let z : b ≡ b + 2 * 0 = omega arith in
      let y : p ≡ p + 0 = omega arith in
      subst (λ b. WordsAt m b (template l a (p + 0) i)) z (subst (λ p. WordsAt m b (template l a p i)) y (subst (λ i. WordsAt m b (template l a p i)) (same_Some j i e) front))
  at_place m (j ∷ code) b p (suc q) i e h =
      let back = words_back m b (template l a p j) (words_of l a (p + 1) code) h in
      let ih = at_place m code (b + 2 * length (template l a p j)) (p + 1) q i e back in
      let len = length-append (template l a p j) (words_of l a (p + 1) (take q code)) in
      let z : b + 2 * length (template l a p j) + 2 * length (words_of l a (p + 1) (take q code)) ≡ b + 2 * length (template l a p j ++ words_of l a (p + 1) (take q code)) = omega arith in
      let y : p + 1 + q ≡ p + suc q = omega arith in
      subst (λ b. WordsAt m b (template l a (p + suc q) i)) z (subst (λ p2. WordsAt m (b + 2 * length (template l a p j) + 2 * length (words_of l a (p + 1) (take q code))) (template l a p2 i)) y ih)

  next_place : (code : List Ir) (p q : ℕ) (i : Ir) → slice_get code q ≡ Some i → length (words_of l a p (take (suc q) code)) ≡ length (words_of l a p (take q code)) + length (template l a (p + q) i)
  next_place [] p q i e = absurd (none-some i e)
  next_place (j ∷ code) p zero i e =
      let y : p ≡ p + 0 = omega arith in
      length-append (template l a p j) [] ∙ omega arith ∙ ap (λ i. length (template l a p i)) (same_Some j i e) ∙ ap (λ p. length (template l a p i)) y ∙ omega arith
  next_place (j ∷ code) p (suc q) i e =
      let ih = next_place code (p + 1) q i e in
      let l1 = length-append (template l a p j) (words_of l a (p + 1) (take (suc q) code)) in
      let l2 = length-append (template l a p j) (words_of l a (p + 1) (take q code)) in
      let y : length (template l a (p + 1 + q) i) ≡ length (template l a (p + suc q) i) = ap (λ p. length (template l a p i)) (omega arith) in
      omega arith

  front_shorter : (code : List Ir) (p q : ℕ) → length (words_of l a p (take q code)) ≤ length (words_of l a p code)
  front_shorter [] p zero = omega arith
  front_shorter [] p (suc q) = omega arith
  front_shorter (j ∷ code) p zero = omega arith
  front_shorter (j ∷ code) p (suc q) =
      let ih = front_shorter code (p + 1) q in
      let l1 = length-append (template l a p j) (words_of l a (p + 1) (take q code)) in
      let l2 = length-append (template l a p j) (words_of l a (p + 1) code) in
      omega arith

-- code whose words are in the text from an even address on, with a word after them, is emitted there
pub emitted : (f : Fixed) (a : Addresses) (code : List Ir) (start : ℕ) → ((p : ℕ) → p ≤ length code → a.at p ≡ start + 2 * length (words_of f.setup.section.layout a 0 (take p code)))
    → f.setup.section.layout.pub_from ≤ start → start % 2 ≡ 0 → start + 2 * length (words_of f.setup.section.layout a 0 code) < f.setup.section.layout.pub_to
    → WordsAt f.entered start (words_of f.setup.section.layout a 0 code) → ((p : ℕ) (i : Ir) → slice_get code p ≡ Some i → IsSoundOp f a i) → Emitted f a code
emitted f a code start places low ev high stand sound = record {
  stands = λ p i e.
      let l = f.setup.section.layout in
      let here = places p (let lt = got_short code p i e in omega (arith, lt)) in
      let z : template l a (0 + p) i ≡ template l a p i = ap (λ p. template l a p i) (omega arith) in
      let next = next_place l a code 0 p i e in
      let short = front_shorter l a code 0 (suc p) in
      let zl = ap (λ (ws : List ℕ). length ws) z in
      let words = subst (λ b. WordsAt f.entered b (template l a p i)) (sym here) (subst (λ ws. WordsAt f.entered (start + 2 * length (words_of l a 0 (take p code))) ws) z
      (at_place l a f.entered code start 0 p i e stand)) in
      record { from = omega arith; to = omega arith; is_even = omega arith; word = λ k w g. word_at f.entered (a.at p) (template l a p i) k w words g };
  following = λ p i e.
      let l = f.setup.section.layout in
      let next = next_place l a code 0 p i e in
      let zl : length (template l a (0 + p) i) ≡ length (template l a p i) = ap (λ p. length (template l a p i)) (omega arith) in
      let here = places p (let lt = got_short code p i e in omega (arith, lt)) in
      let there : a.at (p + 1) ≡ start + 2 * length (words_of l a 0 (take (suc p) code)) = ap a.at (omega arith) ∙ places (suc p) (got_short code p i e) in
      omega arith;
  sound = sound;
}
