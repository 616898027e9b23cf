-- What keeps the bytes of a memory in range.
use Rattle.std.proofs.Common.{◌≡◌, ℕ, ◌<◌, inl, inr, List, length, sym, ◌∙◌, subst, arith}
use Rattle.std.specs.Prelude.{slice_index, slice_set}
use Rattle.std.proofs.lemmas.Bool.{cases_eq, cases_lt}
use Rattle.std.proofs.lemmas.List.{length-set, get_or-set_same, get_or-set_other, set_past, length-replicate}
use Rattle.sx_bus.specs.Memory.{blank, AreMemoryBytes}
use Rattle.lemmas.proofs.Lists.{zero_at}

pub AreMemoryBytes-set : (mem : List ℕ) (i v : ℕ) → AreMemoryBytes mem → v < 256 → AreMemoryBytes (slice_set mem i v)
AreMemoryBytes-set mem i v h p = record {
  size = length-set mem i v ∙ h.size;
  bytes = λ r. elim (cases_eq r i) [
    | inl e ↦ elim (cases_lt i (length mem)) [
      | inl lt ↦ subst (λ j. slice_index (slice_set mem i v) j < 256) (sym e) (subst (λ z. z < 256) (sym (get_or-set_same mem i v 0 lt)) p)
      | inr ge ↦ subst (λ (xs : List ℕ). slice_index xs r < 256) (sym (set_past mem i v ge)) (h.bytes r)
    ]
    | inr ne ↦ subst (λ z. z < 256) (sym (get_or-set_other mem i r v 0 ne)) (h.bytes r)
  ];
}

-- The count is a variable, since a proof must never compute a list of 65,536 numbers.
pub AreMemoryBytes-blank : (n : ℕ) → n ≡ 65536 → AreMemoryBytes (blank n)
unfolding blank
AreMemoryBytes-blank n e = record {
  size = length-replicate n 0 ∙ e;
  bytes = λ k. subst (λ z. z < 256) (sym (zero_at n k)) (omega arith);
}
