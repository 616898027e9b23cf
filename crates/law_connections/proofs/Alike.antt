-- Nodes that differ in what deployed modules hold have the same modules.
use Rattle.std.proofs.Common.{◌≡◌, ℕ, ◌-◌, ◌<◌, ◌≤◌, Bool, false, ◌&&◌, inl, inr, List, slice_index, Option, Some, None, refl, sym, ◌∙◌, ap, subst, arith}
use Rattle.std.specs.Prelude.{option_and_then}
use Rattle.std.proofs.lemmas.Bool.{and_parts, cases_eq}
use Rattle.spec_machine.proofs.Meanings.{same_bytes}
use Rattle.sx_rules.specs.declared.section.Section.{Section}
use Rattle.sx_rules.specs.Access.{in_private, section_of, Lives}
use Rattle.sx_rules.specs.Admission.{apart}
use Rattle.sx_rules.specs.Placed.{Placed}
use Rattle.sx_rules.proofs.Placing.{placed_found, placed_beside}
use Rattle.sx_tag.specs.Mac.{Mac}
use Rattle.spec_machine.specs.State.{State}
use Rattle.spec_machine.specs.Step.{own_of}
use Rattle.spec_machine.proofs.Devices.{some_inj}
use Rattle.spec_machine.proofs.Frame.{out_of, lives_sound}
use Rattle.spec_machine.proofs.Stays.{found_lives}
use Rattle.spec_run.specs.Setting.{Site, deployed, module_of}
use Rattle.law_connections.proofs.Outside.{Kind, text_at, is_deployed, Unhidden, AlikeOutside}
use Rattle.law_forgery.proofs.Tables.{holder_like}
use Rattle.law_connections.proofs.Opened.{SameFound, found_same, blank_mac, blank_all}

module _ (mac nac : Mac) (kind : Kind) (s t : State) (placed : Placed s.sections) (h : AlikeOutside mac nac kind s t) where
  abbrev hides : Section → Bool
  hides = is_deployed kind s.mem

  -- a public byte of a live section is in the open
  public_open : (z : Section) → Lives s.sections.live z → (k : ℕ) → z.layout.pub_from ≤ k → k < z.layout.pub_to → Unhidden hides s.sections.live k
  public_open z l k a b x lx d = elim (cases_eq z.id x.id) [
    | inl e ↦
        let one : z ≡ x = some_inj z x (sym (placed_found s.sections z placed l) ∙ ap (λ i. section_of s.sections.live i) e ∙ placed_found s.sections x placed lx) in
        subst (λ (y : Section). in_private y k ≡ false) one
        (out_of z.layout.pub_from z.layout.pub_to z.layout.priv_from z.layout.priv_to k (lives_sound s.sections.next s.sections.live z placed.each l).parts a b)
    | inr ne ↦
        let c = (placed_beside s.sections z x placed l lx ne).parts in
        let p = and_parts (apart z.layout.pub_from z.layout.pub_to x.layout.pub_from x.layout.pub_to) _ c in
        let q = and_parts (apart z.layout.pub_from z.layout.pub_to x.layout.priv_from x.layout.priv_to) _ p.1 in
        out_of z.layout.pub_from z.layout.pub_to x.layout.priv_from x.layout.priv_to k q.0 a b
  ]

  -- live sections have the same texts
  pub texts_same : (z : Section) → Lives s.sections.live z → text_at t.mem z.layout ≡ text_at s.mem z.layout
  texts_same z l = sym (same_bytes t.mem s.mem z.layout.pub_from (z.layout.pub_to - z.layout.pub_from) (λ k a b. h.mem.same k (public_open z l k a (omega (arith, a, b)))))

  pub own_same : own_of t ≡ own_of s
  own_same = subst (λ (z : State). own_of z ≡ own_of s) (sym h.rest)
      (holder_like blank_mac blank_mac s.sections.live t.sections.live (slice_index s.regs 0) (blank_all mac nac hides s.sections.live t.sections.live h.sections))

  -- and are of the same modules
  pub modules_same : (sites : List Site) (n id : ℕ) → module_of sites n t id ≡ module_of sites n s id
  modules_same sites n id = by (section_of s.sections.live id) (section_of t.sections.live id) refl (found_same mac nac hides s.sections.live t.sections.live id h.sections)
    where
      by : (o p : Option Section) → section_of s.sections.live id ≡ o → SameFound mac nac hides o p → option_and_then (deployed sites n t.mem) p ≡ option_and_then (deployed sites n s.mem) o
      by None None e f = refl
      by None (Some y) e f = absurd f
      by (Some x) None e f = absurd f
      by (Some x) (Some y) e f =
          ap (deployed sites n t.mem) f.0
          ∙ ap (λ (text : List ℕ). Rattle.std.specs.List.position_from (λ (site : Site). (Rattle.std.specs.Prelude.◌==◌ site.node n)
          && (Rattle.spec_run.specs.Setting.same_layout x.layout site.layout && ((Rattle.std.specs.Prelude.◌==◌ x.provider site.provider) && Rattle.std.specs.Prelude.bytes_eq text site.text))) 0 sites)
          (texts_same x (found_lives s.sections.live id x e).0)
