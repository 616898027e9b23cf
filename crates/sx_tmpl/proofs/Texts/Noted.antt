-- The ends that have a packet routine are noted.
use Rattle.std.proofs.Common.{◌≡◌, ℕ, zero, suc, ◌<◌, Bool, true, false, ◌==◌, inl, inr, List, [], ◌∷◌, length, refl, sym, ap, ◌∙◌, subst}
use Rattle.std.specs.Prelude.{◌||◌, slice_index_or, slice_set}
use Rattle.std.proofs.lemmas.Bool.{cases_eq, eq-eqb, ne_eqb, or_right}
use Rattle.std.proofs.lemmas.List.{get_or-set_same, get_or-set_other, length-set}
use Rattle.lemmas.proofs.Truths.{or_none}
use Rattle.sx_ir.specs.declared.ir.Ir.{Ir}
use Rattle.sx_ir.specs.declared.ir.Ir.TheVariants as ir
use Rattle.sx_ir.specs.Sizes.{has_routine, is_packet}
use Rattle.sx_tmpl.specs.Fits.{AreNoted, none_noted, with_note, with_notes}

or_three : (a b c : Bool) → ((a || b) || c) ≡ (a || (b || c))
or_three true b c = refl
or_three false b c = refl

-- noted are those before and the ends that a test finds
abbrev Adds : List Bool → List Bool → (ℕ → Bool) → Type 0
Adds new old test = (length new ≡ length old) × ((k : ℕ) → k < length old → slice_index_or new k false ≡ (slice_index_or old k false || test k))

same : (noted : List Bool) → Adds noted noted (λ k. false)
same noted = (refl, λ k lt. sym (or_none (slice_index_or noted k false)))

set : (noted : List Bool) (j : ℕ) → Adds (slice_set noted j true) noted (λ k. j == k)
set noted j = (
  length-set noted j true,
  λ k lt. elim (cases_eq j k) [
    | inl e ↦
        let there : j < length noted = subst (λ n. n < length noted) (sym e) lt in
        ap (λ n. slice_index_or (slice_set noted j true) n false) (sym e) ∙ get_or-set_same noted j true false there
        ∙ sym (or_right (slice_index_or noted k false) (j == k) (eq-eqb j k e))
    | inr ne ↦
        get_or-set_other noted j k true false (λ e. ne (sym e)) ∙ sym (or_none (slice_index_or noted k false))
        ∙ ap (λ b. slice_index_or noted k false || b) (sym (ne_eqb j k ne))
  ],
)

-- one operation's
one : (i : Ir) (noted : List Bool) → Adds (with_note i noted) noted (λ k. is_packet k i)
one (ir.Packet j) noted = set noted j
one (ir.Push x) noted = same noted
one (ir.Load o) noted = same noted
one (ir.Store o) noted = same noted
one (ir.LoadAt o x) noted = same noted
one (ir.StoreAt o x) noted = same noted
one (ir.Op f) noted = same noted
one (ir.Jump q) noted = same noted
one (ir.JumpZero q) noted = same noted
one (ir.JumpEqual o n q) noted = same noted
one ir.Drop noted = same noted
one ir.Emit noted = same noted
one ir.Stop noted = same noted
one (ir.Saved r) noted = same noted
one ir.Inside noted = same noted
one (ir.Meets r x) noted = same noted
one (ir.CopyIn x o) noted = same noted
one (ir.CopyOut x o) noted = same noted
one (ir.Seal x y z u v) noted = same noted
one (ir.Open x y z u v) noted = same noted
one (ir.SetEnd x) noted = same noted
one ir.Sense noted = same noted
one (ir.Handler x) noted = same noted
one ir.Leave noted = same noted

-- those of all
each : (ops : List Ir) (noted : List Bool) → Adds (with_notes ops noted) noted (λ k. has_routine ops k)
each [] noted = same noted
each (i ∷ ops) noted =
    let h = one i noted in
    let rest = each ops (with_note i noted) in (
      rest.0 ∙ h.0,
      λ k lt.
          rest.1 k (subst (λ n. k < n) (sym h.0) lt) ∙ ap (λ b. b || has_routine ops k) (h.1 k lt)
          ∙ or_three (slice_index_or noted k false) (is_packet k i) (has_routine ops k),
    )

none_index : (n k : ℕ) → slice_index_or (none_noted n) k false ≡ false
unfolding none_noted
none_index zero k = refl
none_index (suc n) zero = refl
none_index (suc n) (suc k) = none_index n k

none_length : (n : ℕ) → length (none_noted n) ≡ n
unfolding none_noted
none_length zero = refl
none_length (suc n) = ap suc (none_length n)

pub are_noted : (ops : List Ir) (noted : List Bool) → noted ≡ with_notes ops (none_noted 256) → AreNoted ops noted
are_noted ops noted e =
    let h = each ops (none_noted 256) in
    let n = none_length 256 in
    record {
      count = ap (λ (l : List Bool). length l) e ∙ h.0 ∙ n;
      each = λ k lt. ap (λ (l : List Bool). slice_index_or l k false) e ∙ h.1 k (subst (λ n. k < n) (sym n) lt) ∙ ap (λ b. b || has_routine ops k) (none_index 256 k);
    }
