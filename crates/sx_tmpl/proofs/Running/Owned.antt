-- What the access table and the devices say of the module's own bytes.
use Rattle.std.proofs.Common.{◌≡◌, ℕ, ◌<◌, ◌≤◌, ◌⊎◌, inl, inr, Bool, true, false, not, ◌&&◌, ◌||◌, ◌==◌, nat_le, nat_lt, Some, None, refl, sym, ◌∙◌, ap, subst, arith}
use Rattle.std.specs.List.{list_all}
use Rattle.std.proofs.lemmas.Bool.{and_parts, and_from, and_left, and_right, or_left, or_right, or_cases, cases_eq, cases_Bool, ltb-true, leb-true, lt-ltb, le-leb, le-ltb, lt-leb, eq-eqb, true≢false}
use Rattle.std.proofs.lemmas.Option.{same_Some}
use Rattle.sx_rules.specs.declared.access.Access.TheVariants.{Read, Write}
use Rattle.sx_rules.specs.declared.access.Violation.TheVariants as bad
use Rattle.sx_rules.specs.declared.section.Section.{Section}
use Rattle.sx_rules.specs.Access.{Sections, in_public, in_private, allows, may, holder, outside_private, in_order, extends, Lives, section_of}
use Rattle.sx_rules.specs.Admission.{apart, parts_apart}
use Rattle.sx_rules.specs.Placed.{Beside, Placed}
use Rattle.sx_rules.proofs.Placing.{placed_found, placed_beside, placed_holds}
use Rattle.spec_machine.proofs.PlanGuard.{passes}
use Rattle.sx_tmpl.specs.Running.{sections_of, Fixed}
use Rattle.sx_tmpl.proofs.Running.MidRun.{Stands, PrivateByte, refused}
use Rattle.spec_machine.proofs.Frame.{all_pass, lives_sound, out_of}

same_or_beside : (t : Sections) (s u : Section) → Placed t → Lives t.live s → Lives t.live u → (s ≡ u) ⊎ Beside s u
same_or_beside t s u p ls lu =
    elim (cases_eq s.id u.id) [
      | inl e ↦ inl (same_Some s u (sym (placed_found t s p ls) ∙ ap (section_of t.live) e ∙ placed_found t u p lu))
      | inr ne ↦ inr (placed_beside t s u p ls lu ne)
    ]

out_of_first : (from to start end a : ℕ) → apart from to start end ≡ true → start ≤ a → a < end → (nat_le from a && nat_lt a to) ≡ false
out_of_first from to start end a h p q =
    elim (or_cases (nat_le to start) (nat_le end from) h) [
      | inl e ↦ let le : to ≤ start = leb-true to start e in and_right (nat_le from a) _ (le-ltb a to (omega arith))
      | inr e ↦ let le : end ≤ from = leb-true end from e in and_left _ _ (lt-leb from a (omega arith))
    ]

pub in_public_yes : (s : Section) (a : ℕ) → s.layout.pub_from ≤ a → a < s.layout.pub_to → in_public s a ≡ true
in_public_yes s a p q = and_from _ _ (le-leb s.layout.pub_from a p) (lt-ltb a s.layout.pub_to q)

pub in_private_yes : (s : Section) (a : ℕ) → s.layout.priv_from ≤ a → a < s.layout.priv_to → in_private s a ≡ true
in_private_yes s a p q = and_from _ _ (le-leb s.layout.priv_from a p) (lt-ltb a s.layout.priv_to q)

pub public_bounds : (s : Section) (a : ℕ) → in_public s a ≡ true → (s.layout.pub_from ≤ a) × (a < s.layout.pub_to)
public_bounds s a h =
    let p = and_parts (nat_le s.layout.pub_from a) (nat_lt a s.layout.pub_to) h in
    (leb-true s.layout.pub_from a p.0, ltb-true a s.layout.pub_to p.1)

pub private_bounds : (s : Section) (a : ℕ) → in_private s a ≡ true → (s.layout.priv_from ≤ a) × (a < s.layout.priv_to)
private_bounds s a h =
    let p = and_parts (nat_le s.layout.priv_from a) (nat_lt a s.layout.priv_to) h in
    (leb-true s.layout.priv_from a p.0, ltb-true a s.layout.priv_to p.1)

module _ (f : Fixed) (st : Stands f) where
  parts : parts_apart f.setup.section.layout ≡ true
  parts = (lives_sound f.next f.setup.live f.setup.section st.placed.each st.lives).parts

  -- the module is none of code outside every module
  pub own_above : 0 < f.setup.section.id
  own_above = (lives_sound f.next f.setup.live f.setup.section st.placed.each st.lives).given

  pub private_not_public : (a : ℕ) → f.setup.section.layout.priv_from ≤ a → a < f.setup.section.layout.priv_to → in_public f.setup.section a ≡ false
  private_not_public a p q = out_of_first f.setup.section.layout.pub_from f.setup.section.layout.pub_to f.setup.section.layout.priv_from f.setup.section.layout.priv_to a parts p q

  pub public_not_private : (a : ℕ) → f.setup.section.layout.pub_from ≤ a → a < f.setup.section.layout.pub_to → in_private f.setup.section a ≡ false
  public_not_private a p q = out_of f.setup.section.layout.pub_from f.setup.section.layout.pub_to f.setup.section.layout.priv_from f.setup.section.layout.priv_to a parts p q

  -- where an own byte lies in another section, by what is beside it
  others : (test : Section → Bool) → test f.setup.section ≡ true → ((u : Section) → Beside f.setup.section u → test u ≡ true) → list_all test f.setup.live ≡ true
  others test here there = all_pass test f.setup.live (λ u l.
      elim (same_or_beside (sections_of f) f.setup.section u st.placed st.lives l) [ inl e ↦ subst (λ u. test u ≡ true) e here | inr b ↦ there u b ])

  private_in_private : (a : ℕ) (u : Section) → f.setup.section.layout.priv_from ≤ a → a < f.setup.section.layout.priv_to → Beside f.setup.section u → in_private u a ≡ false
  private_in_private a u p q b =
      let l = f.setup.section.layout in
      let k = u.layout in
      let c4 = apart l.priv_from l.priv_to k.priv_from k.priv_to in
      let c3 = apart l.priv_from l.priv_to k.pub_from k.pub_to in
      let c2 = apart l.pub_from l.pub_to k.priv_from k.priv_to in
      let x = and_parts c3 c4 (and_parts c2 (c3 && c4) (and_parts (apart l.pub_from l.pub_to k.pub_from k.pub_to) (c2 && (c3 && c4)) b.parts).1).1 in
      out_of l.priv_from l.priv_to k.priv_from k.priv_to a x.1 p q

  private_in_public : (a : ℕ) (u : Section) → f.setup.section.layout.priv_from ≤ a → a < f.setup.section.layout.priv_to → Beside f.setup.section u → in_public u a ≡ false
  private_in_public a u p q b =
      let x = and_parts _ _ (and_parts _ _ (and_parts _ _ b.parts).1).1 in
      out_of f.setup.section.layout.priv_from f.setup.section.layout.priv_to u.layout.pub_from u.layout.pub_to a x.0 p q

  public_in_private : (a : ℕ) (u : Section) → f.setup.section.layout.pub_from ≤ a → a < f.setup.section.layout.pub_to → Beside f.setup.section u → in_private u a ≡ false
  public_in_private a u p q b =
      let x = and_parts _ _ (and_parts _ _ b.parts).1 in
      out_of f.setup.section.layout.pub_from f.setup.section.layout.pub_to u.layout.priv_from u.layout.priv_to a x.0 p q

  public_in_public : (a : ℕ) (u : Section) → f.setup.section.layout.pub_from ≤ a → a < f.setup.section.layout.pub_to → Beside f.setup.section u → in_public u a ≡ false
  public_in_public a u p q b =
      let x = and_parts _ _ b.parts in
      out_of f.setup.section.layout.pub_from f.setup.section.layout.pub_to u.layout.pub_from u.layout.pub_to a x.0 p q

  -- own private bytes are read and written
  pub may_read : (a : ℕ) → f.setup.section.layout.priv_from ≤ a → a < f.setup.section.layout.priv_to → may f.setup.live f.setup.section.id Read a ≡ true
  unfolding may
  may_read a p q = others (allows f.setup.section.id Read a) (or_right (not (in_private f.setup.section a)) _ (eq-eqb f.setup.section.id f.setup.section.id refl))
      (λ u b. or_left _ (f.setup.section.id == u.id) (ap not (private_in_private a u p q b)))

  pub may_write : (a : ℕ) → f.setup.section.layout.priv_from ≤ a → a < f.setup.section.layout.priv_to → may f.setup.live f.setup.section.id Write a ≡ true
  unfolding may
  may_write a p q = others (allows f.setup.section.id Write a)
      (and_from _ _ (ap not (private_not_public a p q)) (or_right (not (in_private f.setup.section a)) _ (eq-eqb f.setup.section.id f.setup.section.id refl)))
      (λ u b. and_from _ _ (ap not (private_in_public a u p q b)) (or_left _ (f.setup.section.id == u.id) (ap not (private_in_private a u p q b))))

  -- own public bytes are read
  pub may_read_text : (a : ℕ) → f.setup.section.layout.pub_from ≤ a → a < f.setup.section.layout.pub_to → may f.setup.live f.setup.section.id Read a ≡ true
  unfolding may
  may_read_text a p q = others (allows f.setup.section.id Read a) (or_left _ (f.setup.section.id == f.setup.section.id) (ap not (public_not_private a p q)))
      (λ u b. or_left _ (f.setup.section.id == u.id) (ap not (public_in_private a u p q b)))

  -- they are run, and never written
  pub run_outside : (a : ℕ) → f.setup.section.layout.pub_from ≤ a → a < f.setup.section.layout.pub_to → outside_private f.setup.live a ≡ true
  run_outside a p q = others (λ s. not (in_private s a)) (ap not (public_not_private a p q)) (λ u b. ap not (public_in_private a u p q b))

  pub run_in_order : (a : ℕ) → f.setup.section.layout.pub_from ≤ a → a < f.setup.section.layout.pub_to → in_order f.setup.live f.setup.section.id a ≡ true
  run_in_order a p q = others (λ s. not (in_public s a) || (f.setup.section.id == s.id || a == s.layout.pub_from))
      (or_right (not (in_public f.setup.section a)) _ (or_left _ (a == f.setup.section.layout.pub_from) (eq-eqb f.setup.section.id f.setup.section.id refl)))
      (λ u b. or_left _ (f.setup.section.id == u.id || a == u.layout.pub_from) (ap not (public_in_public a u p q b)))

  -- PC at the entry is in order from anywhere
  pub entry_in_order : (cur : ℕ) → f.setup.section.layout.pub_from < f.setup.section.layout.pub_to → in_order f.setup.live cur f.setup.section.layout.pub_from ≡ true
  entry_in_order cur some = others (λ s. not (in_public s f.setup.section.layout.pub_from) || (cur == s.id || f.setup.section.layout.pub_from == s.layout.pub_from))
      (or_right (not (in_public f.setup.section f.setup.section.layout.pub_from)) _
      (or_right (cur == f.setup.section.id) _ (eq-eqb f.setup.section.layout.pub_from f.setup.section.layout.pub_from refl)))
      (λ u b. or_left _ (cur == u.id || f.setup.section.layout.pub_from == u.layout.pub_from) (ap not (public_in_public f.setup.section.layout.pub_from u (omega arith) some b)))

  pub run_extends : (a : ℕ) → f.setup.section.layout.pub_from ≤ a → a < f.setup.section.layout.pub_to → extends f.setup.live f.setup.section.id a ≡ true
  run_extends a p q = others (λ s. not (in_private s a) && (not (in_public s a) || f.setup.section.id == s.id))
      (and_from _ _ (ap not (public_not_private a p q)) (or_right (not (in_public f.setup.section a)) _ (eq-eqb f.setup.section.id f.setup.section.id refl)))
      (λ u b. and_from _ _ (ap not (public_in_private a u p q b)) (or_left _ (f.setup.section.id == u.id) (ap not (public_in_public a u p q b))))

  pub run_holder : (a : ℕ) → f.setup.section.layout.pub_from ≤ a → a < f.setup.section.layout.pub_to → holder f.setup.live a ≡ f.setup.section.id
  run_holder a p q = placed_holds (sections_of f) f.setup.section a st.placed st.lives (in_public_yes f.setup.section a p q)

  -- a byte that may be written isn't one of the text
  pub written_not_public : (a : ℕ) → may f.setup.live f.setup.section.id Write a ≡ true → in_public f.setup.section a ≡ false
  unfolding may
  written_not_public a h = elim (cases_Bool (in_public f.setup.section a)) [
    | inl e ↦ let w = and_parts _ _ (passes (allows f.setup.section.id Write a) f.setup.live f.setup.section st.lives h) in absurd (true≢false (sym w.0 ∙ ap not e))
    | inr e ↦ e
  ]

  pub own_found : section_of f.setup.live f.setup.section.id ≡ Some f.setup.section
  own_found = placed_found (sections_of f) f.setup.section st.placed st.lives

  -- no private byte beside the first word is refused
  pub read_free : (a : ℕ) → PrivateByte f a → refused f Read bad.Read a ≡ None
  read_free a h = rw (may_read a (omega (arith, h.low)) h.high, st.private_plain a (in_private_yes f.setup.section a (omega (arith, h.low)) h.high) h.low) refl

  pub write_free : (a : ℕ) → PrivateByte f a → refused f Write bad.Write a ≡ None
  write_free a h = rw (may_write a (omega (arith, h.low)) h.high, st.private_plain a (in_private_yes f.setup.section a (omega (arith, h.low)) h.high) h.low) refl
