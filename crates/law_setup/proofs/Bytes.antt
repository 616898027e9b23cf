-- Bytes that are put into a memory.
use Rattle.std.proofs.Common.{◌≡◌, ℕ, zero, suc, ◌+◌, ◌%◌, ◌<◌, ◌≤◌, inl, List, [], ◌∷◌, length, take, drop, refl, sym, ◌∙◌, ap, arith}
use Rattle.std.specs.Prelude.{All, slice_index, slice_set}
use Rattle.std.proofs.lemmas.List.{get_or-set_same, length-set}
use Rattle.spec_machine.specs.Memory.{bytes_from, put_bytes}
use Rattle.spec_machine.proofs.PublicKept.{put_other}
use Rattle.spec_machine.proofs.BytesFrom.{bytes_first, bytes_none}

-- bytes that are written in two parts
pub put_split : (j : ℕ) (bs m : List ℕ) (a : ℕ) → put_bytes (put_bytes m a (take j bs)) (a + j) (drop j bs) ≡ put_bytes m a bs
put_split zero bs m a = ap (λ k. put_bytes m k bs) (omega arith)
put_split (suc j) [] m a = refl
put_split (suc j) (b ∷ bs) m a =
    let next : a + suc j ≡ a + 1 + j = omega arith in
    ap (λ k. put_bytes (put_bytes (slice_set m a (b % 256)) (a + 1) (take j bs)) k (drop j bs)) next ∙ put_split j bs (slice_set m a (b % 256)) (a + 1)

-- bytes that were written are there
pub bytes_put : (bs m : List ℕ) (a : ℕ) → All (λ b. b < 256) bs → a + length bs ≤ length m → bytes_from (put_bytes m a bs) a (length bs) ≡ bs
bytes_put [] m a h le = bytes_none m a
bytes_put (b ∷ bs) m a h le =
    let lt : b < 256 = h 0 b (omega arith) in
    let n : List ℕ = slice_set m a (b % 256) in
    let one : slice_index (put_bytes n (a + 1) bs) a ≡ b =
    put_other bs n (a + 1) a (inl (omega arith)) ∙ get_or-set_same m a (b % 256) 0 (omega (arith, le)) ∙ omega (arith, lt) in
    let room : a + 1 + length bs ≤ length n = let l = length-set m a (b % 256) in omega (arith, l, le) in
    let rest = bytes_put bs n (a + 1) (λ k d less. h (suc k) d (omega (arith, less))) room in
    sym (bytes_first (put_bytes n (a + 1) bs) a (length bs)) ∙ ap (λ x. x ∷ bytes_from (put_bytes n (a + 1) bs) (a + 1) (length bs)) one ∙ ap (λ r. b ∷ r) rest
