-- The epoch of one connection after an attestation.
use Rattle.std.proofs.Common.{◌≡◌, ℕ, zero, suc, ◌+◌, ◌≤◌, Bool, true, false, if◌then◌else◌, List, [], ◌∷◌, Option, Some, None, refl, ap, ◌∙◌, arith}
use Rattle.std.specs.Prelude.{slice_get}
use Rattle.std.proofs.lemmas.Option.{same_Some}
use Rattle.sx_mean.specs.declared.apps.Link.{Link}
use Rattle.sx_model.specs.Renewal.{is_of, raised_epochs, renewed}

raised_at : (m : ℕ) (ls : List Link) (es : List ℕ) (c : ℕ) (l : Link) (e : ℕ) → slice_get ls c ≡ Some l → slice_get es c ≡ Some e
    → slice_get (raised_epochs m ls es) c ≡ Some (if is_of m l then e + 1 else e)
raised_at m [] es c l e f g = absurd cc
raised_at m (k ∷ ls) [] c l e f g = absurd cc
raised_at m (k ∷ ls) (x ∷ es) zero l e f g =
    let kl : k ≡ l = same_Some k l f in
    let xe : x ≡ e = same_Some x e g in
    ap (λ (k : Link). Some (if is_of m k then x + 1 else x)) kl ∙ ap (λ x. Some (if is_of m l then x + 1 else x)) xe
raised_at m (k ∷ ls) (x ∷ es) (suc c) l e f g = raised_at m ls es c l e f g

-- it is at least the one before, and one more where the module was attested before
pub record RenewedAt (m c : ℕ) (ls : List Link) (l : Link) (o : Option ℕ) (es : List ℕ) (e : ℕ) : Type 0 where
  pub epoch : ℕ
  pub there : slice_get (renewed m ls o es) c ≡ Some epoch
  pub kept : e ≤ epoch
  pub higher : (b : ℕ) → o ≡ Some b → is_of m l ≡ true → epoch ≡ e + 1

pub renewed_at : (m c : ℕ) (ls : List Link) (l : Link) (o : Option ℕ) (es : List ℕ) (e : ℕ) → slice_get ls c ≡ Some l → slice_get es c ≡ Some e → RenewedAt m c ls l o es e
renewed_at m c ls l None es e f g = record { epoch = e; there = g; kept = omega arith; higher = λ b none. absurd cc }
renewed_at m c ls l (Some last) es e f g =
    record { epoch = if is_of m l then e + 1 else e; there = raised_at m ls es c l e f g; kept = at_least (is_of m l); higher = λ b _ own. rw own refl }
  where
    at_least : (b : Bool) → e ≤ (if b then e + 1 else e)
    at_least true = omega arith
    at_least false = omega arith
