-- Choices of other keys are movings of keys.
use Rattle.std.proofs.Common.{◌≡◌, ◌≢◌, ℕ, ◌<◌, inl, inr, Bool, true, false, cond, bytes_eq, List, [], ◌∷◌, length, refl, sym, ◌∙◌, ap, subst}
use Rattle.std.specs.Prelude.{All}
use Rattle.std.proofs.lemmas.Bool.{true≢false}
use Rattle.std.proofs.lemmas.Slice.Eq.{bytes_eq-Decides}
use Rattle.law_connections.specs.Choices.{Choice, exchanged, chosen, unchosen, AreKeys, IsNotIn, AreDistinct, IsChosen, ChoicesMove}

equal : (xs ys : List ℕ) → xs ≡ ys → bytes_eq xs ys ≡ true
equal xs ys e = (bytes_eq-Decides xs ys).1 e

other : (xs ys : List ℕ) → xs ≢ ys → bytes_eq xs ys ≡ false
other xs ys ne = by (bytes_eq xs ys) refl
  where
    by : (b : Bool) → bytes_eq xs ys ≡ b → b ≡ false
    by true e = absurd (ne ((bytes_eq-Decides xs ys).0 e))
    by false e = refl

at_old : (c : Choice) → exchanged c c.old ≡ c.new
at_old c = ap (λ (t : Bool). cond t c.new (cond (bytes_eq c.old c.new) c.old c.old)) (equal c.old c.old refl)

at_new : (c : Choice) → exchanged c c.new ≡ c.old
at_new c = by (bytes_eq c.new c.old) refl
  where
    by : (b : Bool) → bytes_eq c.new c.old ≡ b → cond b c.new (cond (bytes_eq c.new c.new) c.old c.new) ≡ c.old
    by true e = (bytes_eq-Decides c.new c.old).0 e
    by false e = ap (λ (t : Bool). cond t c.old c.new) (equal c.new c.new refl)

at_else : (c : Choice) (k : List ℕ) → k ≢ c.old → k ≢ c.new → exchanged c k ≡ k
at_else c k o n =
    ap (λ (t : Bool). cond t c.new (cond (bytes_eq k c.new) c.old k)) (other k c.old o)
    ∙ ap (λ (t : Bool). cond t c.old k) (other k c.new n)

-- what holds of each key, if it holds of the two and of the others
by_key : (P : List ℕ → Type 0) (c : Choice) (k : List ℕ) → (k ≡ c.old → P k) → (k ≡ c.new → P k) → (k ≢ c.old → k ≢ c.new → P k) → P k
by_key P c k one two three = by (bytes_eq k c.old) (bytes_eq k c.new) refl refl
  where
    differ : (x : List ℕ) → bytes_eq k x ≡ false → k ≢ x
    differ x e same = true≢false (sym (equal k x same) ∙ e)

    by : (b d : Bool) → bytes_eq k c.old ≡ b → bytes_eq k c.new ≡ d → P k
    by true d e h = one ((bytes_eq-Decides k c.old).0 e)
    by false true e h = two ((bytes_eq-Decides k c.new).0 h)
    by false false e h = three (differ c.old e) (differ c.new h)

twice : (c : Choice) (k : List ℕ) → exchanged c (exchanged c k) ≡ k
twice c k = by_key (λ z. exchanged c (exchanged c z) ≡ z) c k
    (λ e. subst (λ (z : List ℕ). exchanged c (exchanged c z) ≡ z) (sym e) (ap (exchanged c) (at_old c) ∙ at_new c))
    (λ e. subst (λ (z : List ℕ). exchanged c (exchanged c z) ≡ z) (sym e) (ap (exchanged c) (at_new c) ∙ at_old c))
    (λ o n. ap (exchanged c) (at_else c k o n) ∙ at_else c k o n)

back_is : (cs : List Choice) (k : List ℕ) → unchosen cs (chosen cs k) ≡ k
back_is [] k = refl
back_is (c ∷ cs) k = ap (exchanged c) (back_is cs (exchanged c k)) ∙ twice c k

one_width : (c : Choice) (k : List ℕ) → length c.new ≡ length c.old → length (exchanged c k) ≡ length k
one_width c k w = by_key (λ z. length (exchanged c z) ≡ length z) c k
    (λ e. subst (λ (z : List ℕ). length (exchanged c z) ≡ length z) (sym e) (ap length (at_old c) ∙ w))
    (λ e. subst (λ (z : List ℕ). length (exchanged c z) ≡ length z) (sym e) (ap length (at_new c) ∙ sym w))
    (λ o n. ap length (at_else c k o n))

one_bytes : (c : Choice) (k : List ℕ) → All (λ b. b < 256) c.old → All (λ b. b < 256) c.new → All (λ b. b < 256) k → All (λ b. b < 256) (exchanged c k)
one_bytes c k old new h = by_key (λ z. All (λ b. b < 256) (exchanged c z)) c k
    (λ e. subst (λ (z : List ℕ). All (λ b. b < 256) (exchanged c z)) (sym e) (subst (λ (z : List ℕ). All (λ b. b < 256) z) (sym (at_old c)) new))
    (λ e. subst (λ (z : List ℕ). All (λ b. b < 256) (exchanged c z)) (sym e) (subst (λ (z : List ℕ). All (λ b. b < 256) z) (sym (at_new c)) old))
    (λ o n. subst (λ (z : List ℕ). All (λ b. b < 256) z) (sym (at_else c k o n)) h)

width : (cs : List Choice) (k : List ℕ) → AreKeys cs → length (chosen cs k) ≡ length k
width [] k h = refl
width (c ∷ cs) k h = width cs (exchanged c k) h.3 ∙ one_width c k h.0

bytes : (cs : List Choice) (k : List ℕ) → AreKeys cs → All (λ b. b < 256) k → All (λ b. b < 256) (chosen cs k)
bytes [] k h all = all
bytes (c ∷ cs) k h all = bytes cs (exchanged c k) h.3 (one_bytes c k h.1 h.2 all)

stays : (cs : List Choice) (k : List ℕ) → IsNotIn cs k → chosen cs k ≡ k
stays [] k h = refl
stays (c ∷ cs) k h = ap (chosen cs) (at_else c k h.0 h.1) ∙ stays cs k h.2

-- a key of a choice is none of those that a key differs from
apart_old : (cs : List Choice) (x : Choice) (k : List ℕ) → IsNotIn cs k → IsChosen cs x → x.old ≢ k
apart_old [] x k h is same = absurd is
apart_old (c ∷ cs) x k h (inl e) same = h.0 (sym same ∙ ap (λ (z : Choice). z.old) e)
apart_old (c ∷ cs) x k h (inr later) same = apart_old cs x k h.2 later same

gets : (cs : List Choice) (x : Choice) → AreDistinct cs → IsChosen cs x → chosen cs x.old ≡ x.new
gets [] x d is = absurd is
gets (c ∷ cs) x d (inl e) =
    subst (λ (z : Choice). chosen cs (exchanged c z.old) ≡ z.new) (sym e) (ap (chosen cs) (at_old c) ∙ stays cs c.new d.1)
gets (c ∷ cs) x d (inr later) =
    ap (chosen cs) (at_else c x.old (apart_old cs x c.old d.0 later) (apart_old cs x c.new d.1 later)) ∙ gets cs x d.2 later

pub choices_move : ChoicesMove
choices_move cs keys = (
  record { back_is = back_is cs; width = λ k. width cs k keys; bytes = λ k. bytes cs k keys },
  λ d x is. gets cs x d is,
  λ k h. stays cs k h,
)
