-- Which deployed module a section is doesn't depend on private bytes.
use Rattle.std.proofs.Common.{◌≡◌, ℕ, ◌-◌, ◌==◌, inl, inr, true, List, [], ◌∷◌, Option, Some, None, refl, sym, ◌∙◌, ap, subst}
use Rattle.std.specs.Prelude.{option_and_then, ◌&&◌, bytes_eq}
use Rattle.std.specs.List.{position_from}
use Rattle.std.proofs.lemmas.Bool.{and_parts, cases_eq}
use Rattle.sx_rules.specs.declared.section.Section.{Section}
use Rattle.sx_rules.specs.Access.{Sections, Lives, section_of}
use Rattle.sx_rules.specs.Admission.{apart, parts_apart}
use Rattle.sx_rules.specs.Placed.{Placed, Beside, AllSound}
use Rattle.sx_rules.proofs.Placing.{placed_beside, placed_found}
use Rattle.spec_machine.specs.Memory.{bytes_from}
use Rattle.spec_machine.specs.State.{State}
use Rattle.spec_machine.specs.Guard.{Alike}
use Rattle.spec_machine.proofs.StepGuard.{with_mem}
use Rattle.spec_machine.proofs.PlanGuard.{bytes_alike}
use Rattle.spec_machine.proofs.ProtectGuard.{outside}
use Rattle.spec_run.specs.Setting.{Site, same_layout, deployed, module_of}
use Rattle.spec_run.proofs.tie.Lists.{some_inj}
use Rattle.spec_machine.proofs.Stays.{found_lives}

sound_parts : (next : ℕ) (live : List Section) (s : Section) → AllSound next live → Lives live s → parts_apart s.layout ≡ true
sound_parts next [] s a l = absurd l
sound_parts next (x ∷ xs) s a l = elim l [ inl e ↦ subst (λ (u : Section). parts_apart u.layout ≡ true) e a.0.parts | inr r ↦ sound_parts next xs s a.1 r ]

beside_parts : (x s : Section) → Beside x s → apart x.layout.pub_from x.layout.pub_to s.layout.priv_from s.layout.priv_to ≡ true
beside_parts x s b =
    let p1 = and_parts (apart x.layout.pub_from x.layout.pub_to s.layout.pub_from s.layout.pub_to) _ b.parts in
    let p2 = and_parts (apart x.layout.pub_from x.layout.pub_to s.layout.priv_from s.layout.priv_to) _ p1.1 in
    p2.0

same_section : (t : Sections) (x s : Section) → Placed t → Lives t.live x → Lives t.live s → x.id ≡ s.id → x ≡ s
same_section t x s p l k e = some_inj x s (sym (placed_found t x p l) ∙ ap (section_of t.live) e ∙ placed_found t s p k)

-- no public part of a live section meets the private part of one
parts : (t : Sections) (x s : Section) → Placed t → Lives t.live x → Lives t.live s → apart x.layout.pub_from x.layout.pub_to s.layout.priv_from s.layout.priv_to ≡ true
parts t x s p l k = elim (cases_eq x.id s.id) [
  | inl e ↦ subst (λ (u : Section). apart u.layout.pub_from u.layout.pub_to s.layout.priv_from s.layout.priv_to ≡ true) (sym (same_section t x s p l k e)) (sound_parts t.next t.live s p.each k)
  | inr n ↦ beside_parts x s (placed_beside t x s p l k n)
]

-- the deployed module that a section with these public bytes is
abbrev found_at : List Site → ℕ → Section → List ℕ → Option ℕ
found_at sites n x bytes = position_from (λ (site : Site). (site.node == n) && (same_layout x.layout site.layout && ((x.provider == site.provider) && bytes_eq bytes site.text))) 0 sites

deployed_alike : (sites : List Site) (n : ℕ) (t : Sections) (x s : Section) (a b : List ℕ) → Placed t → Lives t.live x → Lives t.live s → Alike s a b → deployed sites n a x ≡ deployed sites n b x
deployed_alike sites n t x s a b p l k h =
    let same : bytes_from a x.layout.pub_from (x.layout.pub_to - x.layout.pub_from) ≡ bytes_from b x.layout.pub_from (x.layout.pub_to - x.layout.pub_from) =
    bytes_alike s a b x.layout.pub_from (x.layout.pub_to - x.layout.pub_from) h (λ i from to. outside s x.layout.pub_from x.layout.pub_to i (parts t x s p l k) from to) in
    by_bytes sites n x a b same
  where
    by_bytes : (sites : List Site) (n : ℕ) (x : Section) (a b : List ℕ)
        → bytes_from a x.layout.pub_from (x.layout.pub_to - x.layout.pub_from) ≡ bytes_from b x.layout.pub_from (x.layout.pub_to - x.layout.pub_from)
        → deployed sites n a x ≡ deployed sites n b x
    by_bytes sites n x a b same = ap (λ (bytes : List ℕ). found_at sites n x bytes) same

module_found : (sites : List Site) (n : ℕ) (t : Sections) (s : Section) (a b : List ℕ) (o : Option Section) → Placed t → Lives t.live s → Alike s a b → ((x : Section) → o ≡ Some x → Lives t.live x)
    → option_and_then (deployed sites n a) o ≡ option_and_then (deployed sites n b) o
module_found sites n t s a b None p l h f = refl
module_found sites n t s a b (Some x) p l h f = deployed_alike sites n t x s a b p (f x refl) l h

pub module_alike : (sites : List Site) (n : ℕ) (s : Section) (a : State) (mem : List ℕ) (id : ℕ)
    → Placed a.sections → Lives a.sections.live s → Alike s a.mem mem → module_of sites n a id ≡ module_of sites n (with_mem a mem) id
module_alike sites n s a mem id p l h = module_found sites n a.sections s a.mem mem (section_of a.sections.live id) p l h (λ x e. (found_lives a.sections.live id x e).0)
