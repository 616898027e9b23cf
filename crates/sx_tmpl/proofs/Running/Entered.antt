-- The slot of an end, as it was when the module was entered.
use Rattle.std.proofs.Common.{◌≡◌, ℕ, zero, suc, ◌+◌, ◌*◌, ◌<◌, ◌⊎◌, inl, inr, true, not, ◌==◌, List, length, refl, sym, ap, ap₂, ◌∙◌, subst, arith}
use Rattle.std.specs.Prelude.{slice_index, ◌++◌, ◌∷◌, []}
use Rattle.std.proofs.lemmas.Bool.{true≢false}
use Rattle.sx_mean.specs.Offsets.{end_at, end_key_at, end_open_at}
use Rattle.spec_machine.specs.Memory.{bytes_from, word}
use Rattle.sx_image.specs.Image.{private_bytes}
use Rattle.spec_invocation.specs.ModuleState.{end_state}
use Rattle.spec_invocation.specs.Setup.{Setup}
use Rattle.sx_ir.specs.Meaning.{has_key_mark}
use Rattle.sx_ir.specs.Conf.{Conf}
use Rattle.sx_tmpl.specs.Running.{Fixed, cell}
use Rattle.sx_tmpl.specs.Unseen.{SameSlots, WasOpen}
use Rattle.sx_tmpl.proofs.Running.Mem.{word_is}

-- slots are as the module was entered
abbrev pub IsKept : Fixed → Conf → Type 0
IsKept f c = SameSlots (length f.setup.ends) (private_bytes f.setup.section.layout f.entered) c.priv

-- until a key is unwrapped
abbrev pub AreKept : Fixed → Conf → Type 0
AreKept f c = (has_key_mark c.marks ≡ true) ⊎ IsKept f c

-- so they are where none was
pub are_kept : (f : Fixed) (c : Conf) → not (has_key_mark c.marks) ≡ true → AreKept f c → IsKept f c
are_kept f c none (inl keyed) = absurd (true≢false (sym none ∙ ap not keyed))
are_kept f c none (inr kept) = kept

same_from : (p q : List ℕ) (a n : ℕ) → ((i : ℕ) → i < n → slice_index q (a + i) ≡ slice_index p (a + i)) → bytes_from q a n ≡ bytes_from p a n
unfolding bytes_from
same_from p q a zero f = refl
same_from p q a (suc n) f = ap₂ (λ (l : List ℕ) (b : ℕ). l ++ b ∷ []) (same_from p q a n (λ i lt. f i (omega (arith, lt)))) (f n (omega arith))

module _ (ends : ℕ) (first priv : List ℕ) (same : SameSlots ends first priv) (k : ℕ) (one : k < ends) where
  open_same : word first (end_open_at k) ≡ word priv (end_open_at k)
  unfolding cell
  open_same =
      let low : slice_index priv (end_open_at k) ≡ slice_index first (end_open_at k) = same k 4 one (omega arith) (inr (omega arith)) in
      let next : end_at k + 5 ≡ end_open_at k + 1 = omega arith in
      let high : slice_index priv (end_open_at k + 1) ≡ slice_index first (end_open_at k + 1) =
      subst (λ (o : ℕ). slice_index priv o ≡ slice_index first o) next (same k 5 one (omega arith) (inr (omega arith))) in
      word_is first (end_open_at k) (omega arith) ∙ ap₂ (λ (x y : ℕ). x + 256 * y) (sym low) (sym high) ∙ sym (word_is priv (end_open_at k) (omega arith))

  key_same : bytes_from first (end_key_at k) 16 ≡ bytes_from priv (end_key_at k) 16
  key_same = same_from priv first (end_key_at k) 16 (λ i lt. let at : end_at k + (8 + i) ≡ end_key_at k + i = omega arith in
      sym (subst (λ (o : ℕ). slice_index priv o ≡ slice_index first o) at (same k (8 + i) one (omega (arith, lt)) (inr (omega arith)))))

-- an open end of a slot that is kept was open, with its key
pub was_open : (s : Setup) (entered priv : List ℕ) (k : ℕ) → k < length s.ends → SameSlots (length s.ends) (private_bytes s.section.layout entered) priv
    → not (word priv (end_open_at k) == 0) ≡ true → WasOpen s entered k (bytes_from priv (end_key_at k) 16)
was_open s entered priv k one same is_open =
    let first = private_bytes s.section.layout entered in
    record { is_open = ap (λ (w : ℕ). not (w == 0)) (open_same (length s.ends) first priv same k one) ∙ is_open; key = key_same (length s.ends) first priv same k one }

-- so an end that is open was open
pub end_kept : (s : Setup) (entered priv : List ℕ) (k : ℕ) → k < length s.ends → SameSlots (length s.ends) (private_bytes s.section.layout entered) priv → (end_state priv k).is_open ≡ true
    → WasOpen s entered k (end_state priv k).key
unfolding end_state
end_kept s entered priv k one same is_open = was_open s entered priv k one same is_open
