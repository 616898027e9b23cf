-- Whose code runs: the deployed module of the section that holds PC.
use Rattle.std.proofs.Common.{◌≡◌, ℕ, inl, inr, ◌==◌, Bool, true, List, Option, Some, None, refl, sym, ◌∙◌, ap, subst, arith, bytes_eq}
use Rattle.std.specs.Prelude.{slice_get, option_and_then}
use Rattle.std.specs.List.{position_from}
use Rattle.std.proofs.lemmas.Bool.{and_from, eq-eqb}
use Rattle.std.proofs.lemmas.Slice.Eq.{bytes_eq-Decides}
use Rattle.sx_rules.specs.declared.section.Section.{Section}
use Rattle.sx_rules.specs.declared.section.Layout.{Layout}
use Rattle.sx_rules.specs.Access.{Lives, section_of}
use Rattle.sx_rules.specs.Admission.{apart}
use Rattle.sx_rules.proofs.Placing.{placed_found}
use Rattle.spec_machine.specs.State.{State}
use Rattle.spec_machine.specs.Step.{own_of}
use Rattle.spec_machine.specs.Node.{IsNode}
use Rattle.sx_image.specs.Image.{public_bytes}
use Rattle.sx_mean.specs.Application.{PartTree}
use Rattle.spec_run.specs.Setting.{Site, Setting, same_layout, is_at_site, deployed, module_of}
use Rattle.spec_run.specs.Law.{IsSoundSetting}
use Rattle.spec_run.proofs.steps.Entry.{at_site, layout_self}
use Rattle.spec_run.proofs.steps.Bystanders.{apart_self}
use Rattle.spec_run.proofs.steps.Foreign.{position_some}
use Rattle.spec_machine.proofs.Devices.{position_is}
use Rattle.spec_run.proofs.steps.Steps.{bounds_of}

-- the section is at its site
pub own_site : (site : Site) (mem : List ℕ) (sec : Section) → sec.layout ≡ site.layout → sec.provider ≡ site.provider → public_bytes sec.layout mem ≡ site.text
    → is_at_site site.node mem sec site ≡ true
own_site site mem sec layout provider text =
    and_from (site.node == site.node) _ (eq-eqb site.node site.node refl)
    (and_from (same_layout sec.layout site.layout) _ (ap (λ l. same_layout sec.layout l) (sym layout) ∙ layout_self sec.layout)
    (and_from (sec.provider == site.provider) (bytes_eq (public_bytes sec.layout mem) site.text) (eq-eqb sec.provider site.provider provider)
    ((bytes_eq-Decides (public_bytes sec.layout mem) site.text).1 text)))

-- the first that passes a test is the only one
pub first_is : {X : Type 0} → (test : X → Bool) (xs : List X) (m : ℕ) (x : X) → slice_get xs m ≡ Some x → test x ≡ true
    → ((k : ℕ) (y : X) → slice_get xs k ≡ Some y → test y ≡ true → k ≡ m) → position_from test 0 xs ≡ Some m
first_is test xs m x here is one = by_place (position_from test 0 xs) refl
  where
    by_place : (o : Option ℕ) → position_from test 0 xs ≡ o → position_from test 0 xs ≡ Some m
    by_place None e = absurd (position_some test 0 xs m x here is e)
    by_place (Some j) e =
        let p = position_is test 0 xs j e in
        let k : p.0 ≡ m = one p.0 p.1 p.3 p.4 in
        e ∙ ap (λ i. Some i) (let a = p.2 in omega (arith, a, k))

pub runs_as : (set : Setting) (m : ℕ) (q : PartTree) (site : Site) (sec : Section) (s : State) → IsSoundSetting set → slice_get set.app.parts m ≡ Some q → slice_get set.sites m ≡ Some site
    → IsNode s → Lives s.sections.live sec → sec.layout ≡ site.layout → sec.provider ≡ site.provider → public_bytes sec.layout s.mem ≡ site.text
    → own_of s ≡ sec.id → module_of set.sites site.node s (own_of s) ≡ Some m
runs_as set m q site sec s sound part sited node lives layout provider text own =
    let found : section_of s.sections.live (own_of s) ≡ Some sec = ap (λ i. section_of s.sections.live i) own ∙ placed_found s.sections sec node.placed lives in
    ap (λ o. option_and_then (deployed set.sites site.node s.mem) o) found
    ∙ first_is (is_at_site site.node s.mem sec) set.sites m site sited (own_site site s.mem sec layout provider text)
    (λ k site2 sk h.
    let b = at_site site.node s.mem sec site2 h in
    elim (sound.apart m k site site2 sited sk (sym b.node)) [
      | inl e ↦ sym e
      | inr p ↦ absurd (apart_self site.layout.pub_from site.layout.pub_to (bounds_of site.layout (sound.deployed m q site part sited).bounds)
          (subst (λ (z : Layout). apart site.layout.pub_from site.layout.pub_to z.pub_from z.pub_to ≡ true) (sym (sym layout ∙ b.layout)) p.0))
    ])
