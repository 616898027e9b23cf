-- Three parts that are written into a buffer, one after the other.
use Rattle.std.proofs.Common.{◌≡◌, ℕ, ◌+◌, ◌≤◌, List, ◌++◌, length, take, drop, sym, ap, ◌∙◌, arith, length-append}
use Rattle.std.proofs.lemmas.List.{take_all, length-drop, length-take-le}
use Rattle.std.proofs.lemmas.Slice.{take-put_mid}
use Rattle.std.proofs.Math.Seq.{take-append_seam}
use borrow.Rule.Slice.PartMut.{put_mid, same_len_mid}

pub length-put_mid : (a k : ℕ) (xs ys : List ℕ) → a + k ≤ length xs → length ys ≡ k → length (put_mid a k xs ys) ≡ length xs
length-put_mid a k xs ys h e =
    same_len_mid a k xs ys (e ∙ sym (length-take-le k (drop a xs) (let l = length-drop a xs in omega arith)))

-- the last part ends with the buffer
pub put_last : (a k : ℕ) (xs ys : List ℕ) → length xs ≡ a + k → length ys ≡ k → put_mid a k xs ys ≡ take a xs ++ ys
put_last a k xs ys h e =
    sym (take_all (a + k) (put_mid a k xs ys) (let l = length-put_mid a k xs ys (omega arith) e in omega arith))
    ∙ take-put_mid a k xs ys (a + k) (omega arith) (omega arith)

-- a header, a cipher and a tag
pub put_parts : (k j : ℕ) (header room cipher tag : List ℕ) → length room ≡ k + j → length cipher ≡ k → length tag ≡ j →
    put_mid (length header + k) j (put_mid (length header) k (header ++ room) cipher) tag ≡ header ++ cipher ++ tag
put_parts k j header room cipher tag whole ec et =
    let a = length header in
    let all : length (header ++ room) ≡ a + (k + j) = length-append header room ∙ ap (λ n. a + n) whole in
    let two = length-put_mid a k (header ++ room) cipher (omega arith) ec in
    put_last (a + k) j (put_mid a k (header ++ room) cipher) tag (omega arith) et
    ∙ ap (λ (s : List ℕ). s ++ tag) (take-put_mid a k (header ++ room) cipher (a + k) (omega arith) (omega arith)
    ∙ ap (λ (s : List ℕ). s ++ cipher) (take-append_seam header room))
