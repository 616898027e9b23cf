-- One turn of the reading.
use Rattle.std.proofs.Common.{◌≡◌, ℕ, zero, suc, ◌+◌, true, false, List, [], ◌∷◌, ◌++◌, length, drop, refl, sym, ap, subst, ◌∙◌, arith, append_assoc, append-nil, ◌==◌}
use Rattle.std.proofs.lemmas.Bool.{eq-eqb, ne_eqb}
use Rattle.std.proofs.lemmas.List.{nil_from_length}
use Rattle.std.specs.Prelude.{◌<◌, Option, Some, None, unwrap_or}
use Rattle.memchr.specs.Find.{IsFirstByte, Nowhere, Passes, is_byte}
use Rattle.sx_lex.specs.declared.tokens.Kind.{Kind}
use Rattle.sx_lex.specs.declared.tokens.Kind.TheVariants.{Bad}
use Rattle.sx_lex.specs.declared.tokens.Place.{Place}
use Rattle.sx_lex.specs.declared.tokens.Placed.{Placed}
use Rattle.sx_lex.specs.Words.{IsLongest, NoToken, line_length}
use Rattle.sx_lex.specs.Progress.{LexedSoFar}
use Rattle.sx_lex.specs.Lexed.{along, below, start, is_space, begins_comment, Lexed, at_end, space, newline, comment, token, bad}

no_newline : (x : ℕ) (xs : List ℕ) (n : ℕ) → Nowhere (Passes (is_byte 10) (x ∷ xs)) 0 (suc n) → (x == 10) ≡ false
no_newline x xs n h = ne_eqb x 10 (λ e. h 0 (omega arith) (omega arith) (eq-eqb x 10 e))

none_behind : (x : ℕ) (xs : List ℕ) (n : ℕ) → Nowhere (Passes (is_byte 10) (x ∷ xs)) 0 (suc n) → Nowhere (Passes (is_byte 10) xs) 0 n
none_behind x xs n h k low below = h (suc k) (omega arith) (omega (arith, below))

line_to : (k : ℕ) (xs : List ℕ) → k < length xs → Nowhere (Passes (is_byte 10) xs) 0 k → Passes (is_byte 10) xs k → k ≡ line_length xs
line_to k [] l h e = absurd (omega (arith, l))
line_to zero (x ∷ xs) l h e = let t : (x == 10) ≡ true = e in rw t refl
line_to (suc k) (x ∷ xs) l h e =
    let f : (x == 10) ≡ false = no_newline x xs k h in
    rw f (ap suc (line_to k xs (omega (arith, l)) (none_behind x xs k h) e))

whole_line : (xs : List ℕ) → Nowhere (Passes (is_byte 10) xs) 0 (length xs) → length xs ≡ line_length xs
whole_line [] h = refl
whole_line (x ∷ xs) h =
    let f : (x == 10) ≡ false = no_newline x xs (length xs) h in
    rw f (ap suc (whole_line xs (none_behind x xs (length xs) h)))

-- a line's bytes end at the first newline, else with the text
pub line_found : (xs : List ℕ) (first : Option ℕ) → IsFirstByte (is_byte 10) xs first → unwrap_or first (length xs) ≡ line_length xs
line_found xs (Some k) h = line_to k xs h.0.high h.0.before h.1
line_found xs None h = whole_line xs h

pub begins : (text rest : List ℕ) (out : List Placed) (at : Place) → out ≡ [] → rest ≡ text → at ≡ start → LexedSoFar text out at rest
begins text rest out at e f g = rw (e, f, g) (record { begun = λ ts end h. h })

pub passes_space : (text rest a : List ℕ) (out : List Placed) (at next : Place) (b : ℕ) → LexedSoFar text out at rest → rest ≡ b ∷ a → is_space b ≡ true
    → next ≡ along at 1 → LexedSoFar text out next a
passes_space text rest a out at next b h e s q = record { begun = λ ts end t. h.begun ts end (rw e (space {at = at} {end = end} {b = b} {bs = a} {ts = ts} s (subst (λ p. Lexed p a ts end) q t))) }

pub passes_line : (text rest a : List ℕ) (out : List Placed) (at next : Place) (b : ℕ) → LexedSoFar text out at rest → rest ≡ b ∷ a → b ≡ 10 → next ≡ below at → LexedSoFar text out next a
passes_line text rest a out at next b h e s q = record { begun = λ ts end t. h.begun ts end (rw (e, s) (newline {at = at} {end = end} {bs = a} {ts = ts} (subst (λ p. Lexed p a ts end) q t))) }

pub passes_comment : (text rest a : List ℕ) (out : List Placed) (at next : Place) (n : ℕ) → LexedSoFar text out at rest → begins_comment rest ≡ true
    → n ≡ line_length rest → a ≡ drop n rest → next ≡ along at n → LexedSoFar text out next a
passes_comment text rest a out at next n h s e d q = record {
  begun = λ ts end t. h.begun ts end (comment {at = at} {end = end} {bs = rest} {ts = ts} s
      (subst (λ (i : ℕ). Lexed (along at i) (drop i rest) ts end) e (subst (λ p. Lexed p (drop n rest) ts end) q (subst (λ l. Lexed next l ts end) d t))));
}

pub adds_token : (text rest a : List ℕ) (out out2 : List Placed) (at next : Place) (n : ℕ) (k : Kind) → LexedSoFar text out at rest → IsLongest rest n k
    → a ≡ drop n rest → next ≡ along at n → out2 ≡ out ++ record { kind = k; place = at } ∷ [] → LexedSoFar text out2 next a
adds_token text rest a out out2 at next n k h w e q o = record {
  begun = λ ts end t. (let p : Placed = record { kind = k; place = at } in
      let t2 : Lexed (along at n) (drop n rest) ts end = subst (λ p. Lexed p (drop n rest) ts end) q (subst (λ l. Lexed next l ts end) e t) in
      let r : Lexed start text (out ++ p ∷ ts) end = h.begun (p ∷ ts) end (token {at = at} {end = end} {n = n} {bs = rest} {k = k} {ts = ts} w t2) in
      let s : out2 ++ ts ≡ out ++ p ∷ ts = ap (λ o. o ++ ts) o ∙ append_assoc out (p ∷ []) ts in
      subst (λ x. Lexed start text x end) (sym s) r);
}

pub adds_bad : (text rest a : List ℕ) (out out2 : List Placed) (at : Place) (b : ℕ) → LexedSoFar text out at rest → rest ≡ b ∷ a → (b == 10) ≡ false
    → is_space b ≡ false → begins_comment rest ≡ false → NoToken rest → out2 ≡ out ++ record { kind = Bad; place = at } ∷ [] → Lexed start text out2 at
adds_bad text rest a out out2 at b h e l s c n o =
    let c2 : begins_comment (b ∷ a) ≡ false = ap begins_comment (sym e) ∙ c in
    let n2 : NoToken (b ∷ a) = subst NoToken e n in
    let r : Lexed at rest (record { kind = Bad; place = at } ∷ []) at = subst (λ x. Lexed at x (record { kind = Bad; place = at } ∷ []) at) (sym e) (bad {at = at} {b = b} {bs = a} s l c2 n2) in
    subst (λ x. Lexed start text x at) (sym o) (h.begun _ at r)

pub ends_here : (text rest : List ℕ) (out : List Placed) (at : Place) → LexedSoFar text out at rest → length rest ≡ 0 → Lexed start text out at
ends_here text rest out at h e = subst (λ x. Lexed start text x at) (append-nil out) (h.begun [] at (subst (λ r. Lexed at r [] at) (sym (nil_from_length rest e)) (at_end {at = at})))
