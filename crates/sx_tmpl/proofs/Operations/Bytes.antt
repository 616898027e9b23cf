-- Bytes that are in memory.
use Rattle.std.proofs.Common.{◌≡◌, ℕ, zero, suc, ◌+◌, ◌/◌, ◌%◌, ◌<◌, ◌≤◌, inl, List, [], ◌∷◌, ◌++◌, length, refl, sym, ◌∙◌, ap, subst, arith, slice_index, slice_set}
use Rattle.std.proofs.lemmas.List.{get_or-set_same, length-set}
use Rattle.sx_tag.proofs.TagBytes.{AreBytes}
use Rattle.spec_machine.specs.Memory.{bytes_from, put_bytes}
use Rattle.spec_machine.proofs.Lengths.{length-bytes_from}
use Rattle.spec_machine.proofs.PublicKept.{put_other}
use Rattle.spec_invocation.specs.Windows as outside
use Rattle.sx_tmpl.specs.Running.{cell}

-- bytes are one after the other
abbrev pub BytesAt : List ℕ → ℕ → List ℕ → Type 0
BytesAt m a [] = Unit {0}
BytesAt m a (b ∷ bs) = (slice_index m a ≡ b) × BytesAt m (a + 1) bs

pub bytes_same : (m n : List ℕ) (a : ℕ) (bs : List ℕ) → ((c : ℕ) → a ≤ c → c < a + length bs → slice_index n c ≡ slice_index m c) → BytesAt m a bs → BytesAt n a bs
bytes_same m n a [] h w = tt
bytes_same m n a (b ∷ bs) h w = (h a (omega arith) (omega arith) ∙ w.0, bytes_same m n (a + 1) bs (λ c p q. h c (omega arith) (omega arith)) w.1)

pub bytes_append : (m : List ℕ) (a : ℕ) (xs ys : List ℕ) → BytesAt m a xs → BytesAt m (a + length xs) ys → BytesAt m a (xs ++ ys)
bytes_append m a [] ys h g = subst (λ a. BytesAt m a ys) (omega arith) g
bytes_append m a (x ∷ xs) ys h g = (h.0, bytes_append m (a + 1) xs ys h.1 (subst (λ a. BytesAt m a ys) (omega arith) g))

-- bytes that were written are there
pub bytes_put : (bs m : List ℕ) (a : ℕ) → AreBytes bs → a + length bs ≤ length m → BytesAt (put_bytes m a bs) a bs
bytes_put [] m a h le = tt
bytes_put (b ∷ bs) m a h le = (
  put_other bs (slice_set m a (b % 256)) (a + 1) a (inl (omega arith)) ∙ get_or-set_same m a (b % 256) 0 (omega arith) ∙ (let lt = h.0 in omega arith),
  bytes_put bs (slice_set m a (b % 256)) (a + 1) h.1 (let l = length-set m a (b % 256) in omega arith),
)

pub two_bytes : (m : List ℕ) (a v : ℕ) → ((b : ℕ) → slice_index m b < 256) → cell m a ≡ v → (slice_index m a ≡ v % 256) × (slice_index m (a + 1) ≡ v / 256)
unfolding cell
two_bytes m a v bytes h = let p = bytes a in let q = bytes (a + 1) in (omega arith, omega arith)

pub pair : (m : List ℕ) (a v : ℕ) → ((b : ℕ) → slice_index m b < 256) → cell m a ≡ v → bytes_from m a 2 ≡ outside.two v
unfolding bytes_from
pair m a v bytes h =
    let p = two_bytes m a v bytes h in
    let z : slice_index m (a + 0) ≡ v % 256 = ap (slice_index m) (omega arith) ∙ p.0 in
    ap (λ x. x ∷ slice_index m (a + 1) ∷ []) z ∙ ap (λ y. (v % 256) ∷ y ∷ []) p.1

-- three words one after the other, as six bytes
pub six : (m : List ℕ) (a u v x : ℕ) → ((b : ℕ) → slice_index m b < 256) → cell m a ≡ u → cell m (a + 2) ≡ v → cell m (a + 4) ≡ x
    → bytes_from m a 6 ≡ u % 256 ∷ u / 256 ∷ v % 256 ∷ v / 256 ∷ x % 256 ∷ x / 256 ∷ []
unfolding bytes_from
six m a u v x bytes h0 h1 h2 =
    let p = two_bytes m a u bytes h0 in
    let q = two_bytes m (a + 2) v bytes h1 in
    let r = two_bytes m (a + 4) x bytes h2 in
    let e0 : slice_index m (a + 0) ≡ u % 256 = ap (slice_index m) (omega arith) ∙ p.0 in
    let e3 : slice_index m (a + 3) ≡ v / 256 = ap (slice_index m) (omega arith) ∙ q.1 in
    let e5 : slice_index m (a + 5) ≡ x / 256 = ap (slice_index m) (omega arith) ∙ r.1 in
    rw (e0, p.1, q.0, e3, r.0, e5) refl

-- the same bytes are read from two lists
pub bytes_agree : (m p : List ℕ) (base o n : ℕ) → ((i : ℕ) → i < n → slice_index m (base + (o + i)) ≡ slice_index p (o + i)) → bytes_from m (base + o) n ≡ bytes_from p o n
unfolding bytes_from
bytes_agree m p base o zero h = refl
bytes_agree m p base o (suc n) h =
    let z : base + o + n ≡ base + (o + n) = omega arith in
    let last : slice_index m (base + o + n) ≡ slice_index p (o + n) = ap (slice_index m) z ∙ h n (omega arith) in
    ap (λ l. l ++ slice_index m (base + o + n) ∷ []) (bytes_agree m p base o n (λ i lt. h i (omega arith))) ∙ ap (λ b. bytes_from p o n ++ b ∷ []) last

pub stand_from : (m : List ℕ) (a n : ℕ) → BytesAt m a (bytes_from m a n)
unfolding bytes_from
stand_from m a zero = tt
stand_from m a (suc n) = bytes_append m a (bytes_from m a n) (slice_index m (a + n) ∷ []) (stand_from m a n) (subst (λ k. BytesAt m (a + k) (slice_index m (a + n) ∷ [])) (sym (length-bytes_from m a n))
    (refl, tt))
