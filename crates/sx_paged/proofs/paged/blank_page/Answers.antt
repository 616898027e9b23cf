use Rattle.std.proofs.Common.{◌≡◌, ℕ, ◌/◌, ◌*◌, false, sym, ap, subst, ◌∙◌, arith, get_or, set, None}
use Rattle.sx_pages.specs.Pages.{Pages, is_live, size}
use Rattle.sx_paged.specs.Paged.{IsKept}
use Rattle.sx_paged.proofs.Starts.{IsKept-regain, regain-kept, even-set}
use Rattle.sx_paged.proofs.paged.blank_page.Goals.{in-Some, in_default}
use Rattle.sx_paged.proofs.paged.blank_page.Goals as goal

pub returns-clause-kept : goal.returns-clause-kept
returns-clause-kept c =
    let arena = c.args.arena.now in let starts = c.args.starts.now in
    let is : IsKept arena starts 65535 = subst (IsKept arena starts) c.if-blank-ne-NO_PAGE.false c.requires in
    let freed : c.release.new.self ≡ set arena (get_or starts 0 0 / 256) None = c.release.ensures ∙ ap (λ (n : ℕ). set arena n None) c.number_of.ensures in
    elim c.match-take.branch [
      | in-Some w ↦ let page = w.in-Some.page in let took = w.in-Some.ensures in
          let free : is_live (set arena (get_or starts 0 0 / 256) None) page ≡ false = sym (ap (λ (pages : Pages). is_live pages page) freed) ∙ took.2 in
          rw (w.starts-is, w.start_of.ensures, took.3, freed) (IsKept-regain arena starts page is took.0 free)
      | in_default w ↦ absurd (regain-kept arena starts is (sym (ap size freed) ∙ w.in_default.ensures.0))
    ]

pub returns-clause-page : goal.returns-clause-page
returns-clause-page c =
    elim c.match-take.branch [
      | in-Some w ↦ rw (w.starts-is, w.start_of.ensures) (even-set c.args.starts.now 0 (w.in-Some.page * 256) (omega arith) c.requires.even 0)
      | in_default w ↦ rw w.starts-is (c.requires.even 0)
    ]
