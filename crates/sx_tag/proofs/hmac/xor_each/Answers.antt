use Rattle.std.proofs.Common.{◌≡◌, ℕ, ◌+◌, ◌<◌, List, [], ◌∷◌, ◌++◌, length, take, drop, map, get_or, set, bit_xor, sym, ◌∙◌, ap, arith, append_assoc}
use Rattle.std.proofs.lemmas.List.{take_more_set, drop-set-lt, drop_more}
use Rattle.sx_tag.proofs.hmac.xor_each.Goals as goal

-- one more element written
written : (f : ℕ → ℕ) (bytes all : List ℕ) (i : ℕ) → i < length bytes → take i bytes ++ map f (drop i bytes) ≡ map f all →
    take (i + 1) (set bytes i (f (get_or bytes i 0))) ++ map f (drop (i + 1) (set bytes i (f (get_or bytes i 0)))) ≡ map f all
written f bytes all i h e =
    let y = f (get_or bytes i 0) in
    let rest : drop (i + 1) (set bytes i y) ≡ drop (i + 1) bytes = drop-set-lt (i + 1) bytes i y (omega arith) in
    ap (λ (front : List ℕ). front ++ map f (drop (i + 1) (set bytes i y))) (take_more_set bytes i y h)
    ∙ append_assoc (take i bytes) (y ∷ []) (map f (drop (i + 1) (set bytes i y)))
    ∙ ap (λ (behind : List ℕ). take i bytes ++ (y ∷ map f behind)) rest
    ∙ ap (λ (behind : List ℕ). take i bytes ++ map f behind) (sym (drop_more bytes i 0 h))
    ∙ e

pub loop-byte-preserved : goal.loop-byte-preserved
loop-byte-preserved c =
    written (λ b. bit_xor b c.args.pad) c.loop-byte.bytes c.args.bytes.now c.loop-byte.byte-index (omega arith) c.loop-byte.invariant
