-- Each and one of a list.
use Rattle.std.proofs.Common.{◌⊎◌, inl, inr, List, [], ◌∷◌, ◌++◌}
use Rattle.law_never.specs.Rules.{Each}
use Rattle.law_never.specs.Intervals.{OneOf}

pub one_with : {A : Type 0} → (P Q : A → Type 0) → (xs : List A) → Each P xs → OneOf Q xs → (x : A) × P x × Q x
one_with P Q [] ps o = absurd o
one_with P Q (x ∷ xs) ps o = elim o as (λ o. (x : _) × P x × Q x) [ inl q ↦ (x, ps.0, q) | inr r ↦ one_with P Q xs ps.1 r ]

pub one_map : {A : Type 0} → (P Q : A → Type 0) → ((x : A) → P x → Q x) → (xs : List A) → OneOf P xs → OneOf Q xs
one_map P Q f [] o = absurd o
one_map P Q f (x ∷ xs) o = elim o as (λ o. Q x ⊎ OneOf Q xs) [ inl p ↦ inl (f x p) | inr r ↦ inr (one_map P Q f xs r) ]

pub each_map : {A : Type 0} → (P Q : A → Type 0) → ((x : A) → P x → Q x) → (xs : List A) → Each P xs → Each Q xs
each_map P Q f [] e = tt
each_map P Q f (x ∷ xs) e = (f x e.0, each_map P Q f xs e.1)

pub each_append : {A : Type 0} → (P : A → Type 0) → (xs ys : List A) → Each P xs → Each P ys → Each P (xs ++ ys)
each_append P [] ys e f = f
each_append P (x ∷ xs) ys e f = (e.0, each_append P xs ys e.1 f)
