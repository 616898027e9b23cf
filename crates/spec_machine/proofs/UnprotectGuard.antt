-- Ending a module, by its own code, leaves the others alone, where the sections are placed.
use Rattle.std.proofs.Common.{◌≡◌, ◌≢◌, ℕ, ◌-◌, true, false, cond, ◌==◌, inl, inr, List, [], ◌∷◌, refl, sym, ◌∙◌, ap, Option, Some, None}
use Rattle.std.proofs.lemmas.Bool.{and_parts, eqb-true}
use Rattle.sx_rules.specs.declared.section.Section.{Section}
use Rattle.sx_rules.specs.Access.{Lives}
use Rattle.sx_rules.specs.Admission.{apart, without}
use Rattle.sx_rules.specs.Placed.{Placed, Beside}
use Rattle.sx_rules.proofs.Placing.{placed_beside}
use Rattle.spec_machine.specs.Given.{Given, own_section}
use Rattle.spec_machine.specs.Protect.{removed_if, unprotect}
use Rattle.spec_machine.specs.Guard.{Alike}
use Rattle.spec_machine.proofs.PlanGuard.{SameOutcome, KeptBy}
use Rattle.spec_machine.proofs.ProtectGuard.{outside, zeroed_alike, zeroed_kept}
use Rattle.spec_machine.proofs.Stays.{found_lives}

-- a section stays where another one is removed
pub lives_still : (s : Section) (live : List Section) (id : ℕ) → Lives live s → id ≢ s.id → Lives (without live id) s
lives_still s [] id l ne = absurd l
lives_still s (x ∷ xs) id l ne =
    elim l [
      | inl q ↦ elim (x.id == id) as (λ b. (x.id == id) ≡ b → Lives (cond b xs (x ∷ without xs id)) s)
          [ true ↦ λ e. absurd (ne (sym (eqb-true x.id id e) ∙ ap (λ (z : Section). z.id) q)) | false ↦ λ e. inl q ] refl
      | inr r ↦ elim (x.id == id) as (λ b. Lives (cond b xs (x ∷ without xs id)) s) [ true ↦ r | false ↦ inr (lives_still s xs id r ne) ]
    ]

-- the private parts of two sections that are beside one another don't meet
privates_apart : (u s : Section) → Beside u s → apart u.layout.priv_from u.layout.priv_to s.layout.priv_from s.layout.priv_to ≡ true
privates_apart u s b =
    let p1 = and_parts (apart u.layout.pub_from u.layout.pub_to s.layout.pub_from s.layout.pub_to) _ b.parts in
    let p2 = and_parts (apart u.layout.pub_from u.layout.pub_to s.layout.priv_from s.layout.priv_to) _ p1.1 in
    let p3 = and_parts (apart u.layout.priv_from u.layout.priv_to s.layout.pub_from s.layout.pub_to) _ p2.1 in
    p3.1

removed_kept : (s : Section) (g : Given) (m : List ℕ) (o : Option Section) → Placed g.sections → Lives g.sections.live s → g.own ≢ s.id → own_section g ≡ o
    → KeptBy s m (removed_if g m o)
removed_kept s g m None p l ne e = (λ k q. refl, l)
removed_kept s g m (Some u) p l ne e =
    let found = found_lives g.sections.live g.own u e in
    let differ : u.id ≢ s.id = λ q. ne (sym found.1 ∙ q) in
    let clear = privates_apart u s (placed_beside g.sections u s p found.0 l differ) in (
      zeroed_kept s m u.layout.priv_from (u.layout.priv_to - u.layout.priv_from) (λ k a b. outside s u.layout.priv_from u.layout.priv_to k clear a b),
      lives_still s g.sections.live g.own l ne,
    )

pub unprotect_kept : (s : Section) (g : Given) (m : List ℕ) → Placed g.sections → Lives g.sections.live s → g.own ≢ s.id → KeptBy s m (unprotect g m)
unfolding unprotect
unprotect_kept s g m p l ne = removed_kept s g m (own_section g) p l ne refl

removed_alike : (s : Section) (g : Given) (m n : List ℕ) (o : Option Section) → Alike s m n → SameOutcome s (removed_if g m o) (removed_if g n o)
removed_alike s g m n None h = (refl, record { rest = refl; mem = h }, refl, refl, refl)
removed_alike s g m n (Some u) h =
    (refl, record { rest = refl; mem = zeroed_alike s m n u.layout.priv_from (u.layout.priv_to - u.layout.priv_from) h }, refl, refl, refl)

pub unprotect_alike : (s : Section) (g : Given) (m n : List ℕ) → Alike s m n → SameOutcome s (unprotect g m) (unprotect g n)
unfolding unprotect
unprotect_alike s g m n h = removed_alike s g m n (own_section g) h
