-- Words in two bytes, and what they read as.
use Rattle.std.proofs.Common.{◌≡◌, ℕ, ◌+◌, ◌-◌, ◌*◌, ◌/◌, ◌%◌, ◌<◌, ◌≤◌, true, List, [], ◌∷◌, ◌++◌, length, take, drop, get_or, sym, ap, ◌∙◌, arith, append_assoc}
use Rattle.std.specs.Prelude.{◌==◌}
use Rattle.std.proofs.lemmas.Bool.{and_parts, eqb-true}
use Rattle.std.proofs.lemmas.List.{take_all, length-drop, drop-drop, take-append-drop}
use Rattle.byteorder.specs.Endian.{little_bytes, little_number}
use Rattle.sx_wire.specs.Headers.{header, begins}

low_byte : (a b : ℕ) → a < 256 → (a + 256 * (b + 256 * 0)) % 256 ≡ a
low_byte a b h = omega arith

high_byte : (a b : ℕ) → a < 256 → b < 256 → (a + 256 * (b + 256 * 0)) / 256 % 256 ≡ b
high_byte a b h g = omega arith

pub word_bytes : (a b : ℕ) → a < 256 → b < 256 → little_bytes 2 (a + 256 * (b + 256 * 0)) ≡ a ∷ b ∷ []
word_bytes a b h g = ap (λ x. x ∷ (a + 256 * (b + 256 * 0)) / 256 % 256 ∷ []) (low_byte a b h) ∙ ap (λ x. a ∷ x ∷ []) (high_byte a b h g)

-- the words that a list of bytes begins with are its first six bytes
pub header_read : (kind : ℕ) (bytes : List ℕ) → 6 ≤ length bytes → ((i : ℕ) → get_or bytes i 0 < 256) → begins kind bytes ≡ true →
    header kind (little_bytes 2 (little_number 2 (drop 2 bytes))) (little_bytes 2 (little_number 2 (drop 4 bytes))) ≡ take 6 bytes
header_read kind [] long fits is = absurd (omega arith)
header_read kind (a ∷ []) long fits is = absurd (omega arith)
header_read kind (a ∷ b ∷ []) long fits is = absurd (omega arith)
header_read kind (a ∷ b ∷ c ∷ []) long fits is = absurd (omega arith)
header_read kind (a ∷ b ∷ c ∷ d ∷ []) long fits is = absurd (omega arith)
header_read kind (a ∷ b ∷ c ∷ d ∷ e ∷ []) long fits is = absurd (omega arith)
header_read kind (a ∷ b ∷ c ∷ d ∷ e ∷ f ∷ rest) long fits is =
    let first = and_parts (a == kind) (b == 0) is in
    ap (λ (s : List ℕ). header kind s (little_bytes 2 (e + 256 * (f + 256 * 0)))) (word_bytes c d (fits 2) (fits 3))
    ∙ ap (λ (s : List ℕ). header kind (c ∷ d ∷ []) s) (word_bytes e f (fits 4) (fits 5))
    ∙ ap (λ k. k ∷ 0 ∷ c ∷ d ∷ e ∷ f ∷ []) (sym (eqb-true a kind first.0)) ∙ ap (λ z. a ∷ z ∷ c ∷ d ∷ e ∷ f ∷ []) (sym (eqb-true b 0 first.1))

to_end : (n : ℕ) (bytes : List ℕ) → take (length bytes - n) (drop n bytes) ≡ drop n bytes
to_end n bytes = take_all (length bytes - n) (drop n bytes) (let l = length-drop n bytes in omega arith)

-- what is read as a header, a cipher and a tag is the whole
pub split_parts : (kind k : ℕ) (bytes : List ℕ) (link last : ℕ) (cipher tag : List ℕ) → 6 ≤ length bytes
    → ((i : ℕ) → get_or bytes i 0 < 256) → begins kind bytes ≡ true
    → link ≡ little_number 2 (take (length bytes - 2) (drop 2 bytes)) → last ≡ little_number 2 (take (length bytes - 4) (drop 4 bytes))
    → cipher ≡ take k (drop 6 bytes) → tag ≡ take (length bytes - (6 + k)) (drop (6 + k) bytes)
    → header kind (little_bytes 2 link) (little_bytes 2 last) ++ cipher ++ tag ≡ bytes
split_parts kind k bytes link last cipher tag long fits is el en ec et =
    let h : header kind (little_bytes 2 link) (little_bytes 2 last) ≡ take 6 bytes =
    ap (λ w. header kind (little_bytes 2 w) (little_bytes 2 last)) (el ∙ ap (λ (s : List ℕ). little_number 2 s) (to_end 2 bytes))
    ∙ ap (λ w. header kind (little_bytes 2 (little_number 2 (drop 2 bytes))) (little_bytes 2 w)) (en ∙ ap (λ (s : List ℕ). little_number 2 s) (to_end 4 bytes))
    ∙ header_read kind bytes long fits is in
    ap (λ (s : List ℕ). s ++ cipher ++ tag) h
    ∙ ap (λ (s : List ℕ). take 6 bytes ++ s ++ tag) ec
    ∙ ap (λ (s : List ℕ). take 6 bytes ++ take k (drop 6 bytes) ++ s) (et ∙ to_end (6 + k) bytes ∙ sym (drop-drop k 6 bytes))
    ∙ append_assoc (take 6 bytes) (take k (drop 6 bytes)) (drop k (drop 6 bytes))
    ∙ ap (λ (s : List ℕ). take 6 bytes ++ s) (take-append-drop k (drop 6 bytes))
    ∙ take-append-drop 6 bytes
