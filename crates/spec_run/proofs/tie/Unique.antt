-- A module holds each side of a connection once.
use Rattle.std.proofs.Common.{◌≡◌, ℕ, ◌+◌, ◌*◌, inl, inr, ◌==◌, ◌&&◌, Bool, true, false, if◌then◌else◌, List, [], ◌∷◌, Option, Some, None, refl, sym, ◌∙◌, subst, arith}
use Rattle.std.specs.Prelude.{is_some}
use Rattle.std.specs.List.{cons_option}
use Rattle.std.proofs.lemmas.Bool.{true≢false, and_parts, eqb-true, eq-eqb}
use Rattle.sx_lang.specs.declared.sides.Side.{Side}
use Rattle.sx_lang.specs.declared.sides.Side.TheVariants.{From, To}
use Rattle.sx_mean.specs.declared.apps.Link.{Link}
use Rattle.sx_mean.specs.declared.events.End.{End}
use Rattle.sx_mean.specs.Ends.{receiving, ends_after, same_side}
use Rattle.sx_mean.proofs.Ends.{same_side-refl}
use Rattle.sx_model.specs.State.{EndView}
use Rattle.sx_model.specs.Reaction.{field_at}
use Rattle.spec_run.proofs.tie.Tied.{HasEnd, open_at}
use Rattle.spec_run.proofs.tie.Ends.{has_link}
use Rattle.spec_run.proofs.tie.Flows.{AllSending}
use Rattle.sx_model.proofs.EndViews.{same_side-true}

-- no end of the list is of this connection and side
abbrev pub NotIn : End → List End → Type 0
NotIn e es = (x : End) → HasEnd es x → ((x.link ≡ e.link) × (x.side ≡ e.side)) → ⊥

abbrev pub Distinct : List End → Type 0
Distinct [] = Unit {0}
Distinct (e ∷ es) = NotIn e es × Distinct es

cons_distinct : (b : Bool) (e : End) (es : List End) → NotIn e es → Distinct es → Distinct (cons_option (if b then Some e else None) es)
cons_distinct true e es n d = (n, d)
cons_distinct false e es n d = d

cons_not : (b : Bool) (e x : End) (es : List End) → (((x.link ≡ e.link) × (x.side ≡ e.side)) → ⊥) → NotIn e es → NotIn e (cons_option (if b then Some x else None) es)
cons_not true e x es d n y (inl h) s = subst (λ (z : End). ((z.link ≡ e.link) × (z.side ≡ e.side)) → ⊥) h d s
cons_not true e x es d n y (inr h) s = n y h s
cons_not false e x es d n y h s = n y h s

later_not : (n m : ℕ) (ls : List Link) (e : End) → e.link ≡ n → NotIn e (ends_after (n + 1) m ls)
later_not n m ls e at x h s = let r = (has_link (n + 1) m ls x h).at in absurd (omega (arith, r, s.0, at))

to_from : ◌≡◌ {A = Side} To From → ⊥
to_from e = cc

pub distinct : (n m : ℕ) (ls : List Link) → Distinct (ends_after n m ls)
distinct n m [] = tt
distinct n m (l ∷ ls) =
    let rest = ends_after (n + 1) m ls in
    let s : End = record { link = n; side = From; port = l.output } in
    let r : End = record { link = n; side = To; port = l.input } in
    cons_distinct (l.from == m) s (cons_option (receiving n m l) rest)
    (cons_not (l.to == m) s r rest (λ h. to_from h.1) (later_not n m ls s refl))
    (cons_distinct (l.to == m) r rest (later_not n m ls r refl) (distinct (n + 1) m ls))

open_first : (link : ℕ) (side : Side) (e : End) (es : List End) (v : EndView) (vs : List EndView) → e.link ≡ link → e.side ≡ side → open_at link side (e ∷ es) (v ∷ vs) ≡ v.epoch
open_first link side e es v vs a b =
    let t : (e.link == link) ≡ true = subst (λ k. (e.link == k) ≡ true) a (eq-eqb e.link e.link refl) in
    let u : same_side e.side side ≡ true = subst (λ k. same_side e.side k ≡ true) b (same_side-refl e.side) in
    rw (t, u) refl

open_rest : (link : ℕ) (side : Side) (e : End) (es : List End) (v : EndView) (vs : List EndView) (b : Bool) → ((e.link == link) && same_side e.side side) ≡ b
    → (((e.link ≡ link) × (e.side ≡ side)) → ⊥) → open_at link side (e ∷ es) (v ∷ vs) ≡ open_at link side es vs
open_rest link side e es v vs true t n =
    let p = and_parts (e.link == link) (same_side e.side side) t in
    absurd (n (eqb-true e.link link p.0, same_side-true e.side side p.1))
open_rest link side e es v vs false t n = rw t refl

some_epoch : (o : Option ℕ) (link : ℕ) → is_some o ≡ true → (k : ℕ) × (o ≡ Some k) × (field_at link o ≡ link + 256 * k)
some_epoch None link h = absurd (true≢false (sym h))
some_epoch (Some k) link h = (k, refl, refl)

-- an open sending end is open with its epoch
pub sending_open : (es : List End) (vs : List EndView) (P : ℕ → Type 0) → Distinct es
    → ((c k : ℕ) → open_at c From es vs ≡ Some k → (e : End) → HasEnd es e → (e.link ≡ c) → (e.side ≡ From) → P (c + 256 * k)) → AllSending P es vs
sending_open [] vs P d f = tt
sending_open (e ∷ es) [] P d f = tt
sending_open (e ∷ es) (v ∷ vs) P d f = (
  λ s o. let k = some_epoch v.epoch e.link o in
      subst P (sym k.2) (f e.link k.0 (open_first e.link From e es v vs refl s ∙ k.1) e (inl refl) refl s),
  sending_open es vs P d.1 (λ c k o x h a s.
      f c k (open_rest c From e es v vs ((e.link == c) && same_side e.side From) refl (λ g. d.0 x h (a ∙ sym g.0, s ∙ sym g.1)) ∙ o) x (inr h) a s),
)
