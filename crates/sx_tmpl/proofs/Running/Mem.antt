-- Reads after writes of words.
use Rattle.std.proofs.Common.{◌≡◌, ◌≢◌, ℕ, ◌+◌, ◌*◌, ◌/◌, ◌%◌, ◌<◌, List, length, get_or, refl, sym, ap, subst, arith, ⊎_elim}
use Rattle.std.proofs.lemmas.List.{get_or-set_same, get_or-set_other, length-set}
use Rattle.std.proofs.lemmas.Bool.{cases_eq}
use Rattle.std.specs.Prelude.{slice_index, slice_set}
use Rattle.sx_isa.proofs.StandingLemmas.{even_same}
use Rattle.spec_machine.specs.Memory.{word, put_word}
use Rattle.sx_tmpl.specs.Running.{cell}
use Rattle.sx_tmpl.proofs.Running.MidRun.{put_cell}

pub length-put : (m : List ℕ) (a v : ℕ) → length (put_cell m a v) ≡ length m
unfolding put_cell
length-put m a v = simp length-set

pub get-put_other : (m : List ℕ) (a v b : ℕ) → b ≢ a → b ≢ a + 1 → get_or (put_cell m a v) b 0 ≡ get_or m b 0
unfolding put_cell
get-put_other m a v b p q = rw (get_or-set_other, get_or-set_other) refl

pub get-put_low : (m : List ℕ) (a v : ℕ) → a < length m → get_or (put_cell m a v) a 0 ≡ v % 256
unfolding put_cell
get-put_low m a v p = let ne : a ≢ a + 1 = omega arith in rw (get_or-set_other, get_or-set_same) refl

pub get-put_high : (m : List ℕ) (a v : ℕ) → a + 1 < length m → get_or (put_cell m a v) (a + 1) 0 ≡ v / 256
unfolding put_cell
get-put_high m a v p = let le = length-set m a (v % 256) in let q : a + 1 < length (Rattle.std.proofs.Math.ListN.set m a (v % 256)) = omega arith in rw get_or-set_same refl

pub cell-put_same : (m : List ℕ) (a v : ℕ) → a + 1 < length m → cell (put_cell m a v) a ≡ v
unfolding cell
cell-put_same m a v p =
    let lo = get-put_low m a v (omega arith) in
    let hi = get-put_high m a v p in
    omega arith

pub cell-put_other : (m : List ℕ) (a v b : ℕ) → b ≢ a → b ≢ a + 1 → b + 1 ≢ a → cell (put_cell m a v) b ≡ cell m b
unfolding cell
cell-put_other m a v b p q r =
    let lo = get-put_other m a v b p q in
    let hi = get-put_other m a v (b + 1) r (omega arith) in
    omega arith

-- a list of bytes stays one
pub bytes_put : (m : List ℕ) (a v : ℕ) → v < 65536 → a + 1 < length m → ((b : ℕ) → get_or m b 0 < 256) → (b : ℕ) → get_or (put_cell m a v) b 0 < 256
bytes_put m a v lt len h b =
    ⊎_elim
    (λ (e : b ≡ a). subst (λ b. get_or (put_cell m a v) b 0 < 256) (sym e) (let lo = get-put_low m a v (omega arith) in omega arith))
    (λ (ne : b ≢ a).
    ⊎_elim
    (λ (e : b ≡ a + 1). subst (λ b. get_or (put_cell m a v) b 0 < 256) (sym e) (let hi = get-put_high m a v len in omega arith))
    (λ (ne2 : b ≢ a + 1). let o = get-put_other m a v b ne ne2 in let hb = h b in omega arith)
    (cases_eq b (a + 1)))
    (cases_eq b a)

pub word_lt : (m : List ℕ) (a : ℕ) → ((b : ℕ) → get_or m b 0 < 256) → cell m a < 65536
unfolding cell
word_lt m a h = let p = h a in let q = h (a + 1) in omega arith

pub word_is : (m : List ℕ) (a : ℕ) → a % 2 ≡ 0 → word m a ≡ cell m a
unfolding cell
word_is m a h = ap (λ b. slice_index m b + 256 * slice_index m (b + 1)) (even_same a h)

pub put_word_is : (m : List ℕ) (a v : ℕ) → a % 2 ≡ 0 → put_word m a v ≡ put_cell m a v
unfolding put_cell
put_word_is m a v h = ap (λ b. slice_set (slice_set m b (v % 256)) (b + 1) (v / 256)) (even_same a h)
