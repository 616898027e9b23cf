-- A copied packet in the private section: its words and parts, and what is opened of it.
use Rattle.std.proofs.Common.{◌≡◌, ◌≢◌, ℕ, zero, suc, ◌+◌, ◌-◌, ◌*◌, ◌/◌, ◌%◌, ◌<◌, ◌≤◌, ◌⊎◌, inl, inr, Bool, true, false, ◌==◌, List, [], ◌∷◌, ◌++◌, length}
use Rattle.std.proofs.Common.{get_or, take, drop, Option, Some, None, sym, ap, ◌∙◌, arith, ⊎_elim}
use Rattle.std.specs.Prelude.{if◌then◌else◌, bytes_eq, bit_and, nat_lt, replicate}
use Rattle.std.proofs.lemmas.List.{length-append, length-take, length-drop, get_or-take, get_or-drop, ext_get_or, length-replicate, get_or_append_left}
use Rattle.std.proofs.Math.Seq.{get_or-append_seam}
use Rattle.std.proofs.lemmas.Bool.{cases_lt, lt-ltb, le-ltb}
use Rattle.std.proofs.lemmas.List.Elements.{All-append}
use Rattle.std.proofs.lemmas.Bool.Decides.{eqb_tells}
use Rattle.std.proofs.lemmas.Nat.Bits.{and_high_mask}
use Rattle.std.proofs.lemmas.Nat.{and_mask, xor_of_8}
use Rattle.sx_tag.specs.Mac.{Mac, IsTag}
use Rattle.sx_tag.specs.Wrap.{crypt, wrap_tag, unwrapped, padded, stream, xor_bytes}
use Rattle.sx_tag.proofs.UnwrapsWrapped.{length-xor_bytes}
use Rattle.spec_machine.specs.Memory.{word, put_word, bytes_from, put_bytes}
use Rattle.sx_stub.proofs.Mem.{AllBytes, word_even, get-put_other, get-put_bytes_in}
use Rattle.spec_machine.proofs.Lengths.{length-bytes_from}

-- the packet is at offset 16
abbrev pub Holds : List ℕ → List ℕ → Type 0
Holds priv packet = (i : ℕ) → i < length packet → get_or priv (16 + i) 0 ≡ get_or packet i 0

pub holds_copied : (priv packet : List ℕ) → AllBytes packet → 16 + length packet ≤ length priv
    → Holds (put_bytes priv 16 packet) packet
holds_copied priv packet h le i lt = get-put_bytes_in priv 16 packet i h lt le

pub holds_put : (priv packet : List ℕ) (a v : ℕ) → a % 2 ≡ 0 → 16 + length packet ≤ a → Holds priv packet
    → Holds (put_word priv a v) packet
holds_put priv packet a v e le h i lt = get-put_other priv a v (16 + i) e (omega (arith, le, lt)) (omega (arith, le, lt)) ∙ h i lt

pub holds_word : (priv packet : List ℕ) (o : ℕ) → o % 2 ≡ 0 → o + 1 < length packet → Holds priv packet
    → word priv (16 + o) ≡ word packet o
holds_word priv packet o e lt h =
    word_even priv (16 + o) (omega (arith, e))
    ∙ ap (λ (x : ℕ). x + 256 * get_or priv (16 + o + 1) 0) (h o (omega (arith, lt)))
    ∙ ap (λ (x : ℕ). get_or packet o 0 + 256 * get_or priv x 0) (omega arith)
    ∙ ap (λ (x : ℕ). get_or packet o 0 + 256 * x) (h (o + 1) lt) ∙ sym (word_even packet o e)

pub bytes_from_get : (m : List ℕ) (a n i : ℕ) → i < n → get_or (bytes_from m a n) i 0 ≡ get_or m (a + i) 0
unfolding bytes_from
bytes_from_get m a zero i lt = absurd (omega (arith, lt))
bytes_from_get m a (suc n) i lt =
    let len = length-bytes_from m a n in
    ⊎_elim
    (λ (p : i < n). get_or_append_left (bytes_from m a n) (get_or m (a + n) 0 ∷ []) 0 i (omega (arith, len, p)) ∙ bytes_from_get m a n i p)
    (λ (p : n ≤ i). let e : i ≡ length (bytes_from m a n) = omega (arith, lt, p, len) in
    ap (λ (x : ℕ). get_or (bytes_from m a n ++ get_or m (a + n) 0 ∷ []) x 0) e ∙ get_or-append_seam (bytes_from m a n) (get_or m (a + n) 0) [] 0 ∙ ap (λ (x : ℕ). get_or m x 0) (omega (arith, lt, p)))
    (cases_lt i n)

-- a part of it
pub holds_part : (priv packet : List ℕ) (o n : ℕ) → o + n ≤ length packet → Holds priv packet
    → bytes_from priv (16 + o) n ≡ take n (drop o packet)
holds_part priv packet o n le h =
    let a = length-bytes_from priv (16 + o) n in
    let b = length-take n (drop o packet) in
    let d = length-drop o packet in
    ext_get_or 0 (bytes_from priv (16 + o) n) (take n (drop o packet)) (omega (arith, a, b, d, le)) (λ i lt.
    bytes_from_get priv (16 + o) n i (omega (arith, lt, a)) ∙ ap (λ (x : ℕ). get_or priv x 0) (omega arith) ∙ h (o + i) (omega (arith, lt, a, le))
    ∙ sym (get_or-take n (drop o packet) i 0 (omega (arith, lt, a)) ∙ get_or-drop o packet i 0))

-- epochs are compared by the upper bytes
pub upper : (v : ℕ) → v < 65536 → bit_and v 0xFF00 ≡ v / 256 * 256
upper v lt = and_high_mask 16 8 (omega arith) v lt

pub lower : (v : ℕ) → bit_and v 255 ≡ v % 256
lower v = and_mask v 8

pub upper_lt : (a b : ℕ) → nat_lt (a * 256) (b * 256) ≡ nat_lt a b
upper_lt a b =
    ⊎_elim
    (λ (p : a < b). lt-ltb (a * 256) (b * 256) (omega (arith, p)) ∙ sym (lt-ltb a b p))
    (λ (p : b ≤ a). le-ltb (a * 256) (b * 256) (omega (arith, p)) ∙ sym (le-ltb a b p))
    (cases_lt a b)

pub upper_eq : (a b : ℕ) → (a * 256 == b * 256) ≡ (a == b)
upper_eq a b = go (eqb_tells (a * 256) (b * 256)) (eqb_tells a b)
  where
    go : ((a * 256 == b * 256) ≡ true × (a * 256 ≡ b * 256)) ⊎ ((a * 256 == b * 256) ≡ false × (a * 256 ≢ b * 256))
        → ((a == b) ≡ true × (a ≡ b)) ⊎ ((a == b) ≡ false × (a ≢ b)) → (a * 256 == b * 256) ≡ (a == b)
    go (inl x) (inl y) = x.0 ∙ sym y.0
    go (inl x) (inr y) = absurd (y.1 (omega (arith, x.1)))
    go (inr x) (inl y) = absurd (x.1 (omega (arith, y.1)))
    go (inr x) (inr y) = x.0 ∙ sym y.0

-- what is opened has 32 bytes

xor_are_bytes : (xs ys : List ℕ) → AllBytes xs → AllBytes ys → AllBytes (xor_bytes xs ys)
xor_are_bytes [] ys h g k d lt = absurd (omega (arith, lt))
xor_are_bytes (x ∷ xs) [] h g k d lt = absurd (omega (arith, lt))
xor_are_bytes (x ∷ xs) (y ∷ ys) h g zero d lt = xor_of_8 x y (h 0 0 (omega arith)) (g 0 0 (omega arith))
xor_are_bytes (x ∷ xs) (y ∷ ys) h g (suc k) d lt = xor_are_bytes xs ys (λ i d p. h (suc i) d (omega (arith, p))) (λ i d p. g (suc i) d (omega (arith, p))) k d (omega (arith, lt))

zeros : (n : ℕ) → AllBytes (replicate n 0)
zeros zero k d lt = absurd (omega (arith, lt))
zeros (suc n) zero d lt = omega arith
zeros (suc n) (suc k) d lt = zeros n k d (omega (arith, lt))

abbrev pub IsOpened : Option (List ℕ) → Type 0
IsOpened None = Unit {0}
IsOpened (Some body) = (length body ≡ 32) × AllBytes body

pub opened_body : (mac : Mac) (key ad cipher tag : List ℕ) → IsTag mac → length cipher ≤ 32 → AllBytes cipher
    → IsOpened (unwrapped mac key ad cipher tag)
unfolding unwrapped crypt
opened_body mac key ad cipher tag t le h = go (bytes_eq tag (wrap_tag mac key ad cipher))
  where
    go : (b : Bool) → IsOpened (if b then Some (padded (crypt mac key ad cipher)) else None)
    go false = tt
    go true =
        let w = t.width key (0x53 ∷ length ad ∷ (ad ++ 0 ∷ [])) in
        let e = length-xor_bytes cipher (stream mac key ad) (omega (arith, w, le)) in
        let l = length-append (xor_bytes cipher (stream mac key ad)) (replicate (32 - length (xor_bytes cipher (stream mac key ad))) 0) in
        let r = length-replicate {A = ℕ} (32 - length (xor_bytes cipher (stream mac key ad))) 0 in (
          omega (arith, e, l, r, le),
          All-append (λ (b : ℕ). b < 256) (xor_bytes cipher (stream mac key ad)) (replicate (32 - length (xor_bytes cipher (stream mac key ad))) 0)
              (xor_are_bytes cipher (stream mac key ad) h (t.bytes key (0x53 ∷ length ad ∷ (ad ++ 0 ∷ [])))) (zeros (32 - length (xor_bytes cipher (stream mac key ad)))),
        )
