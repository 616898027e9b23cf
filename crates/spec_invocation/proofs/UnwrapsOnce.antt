-- At most one unwrap, and first.
use Rattle.std.proofs.Common.{◌≡◌, ℕ, true, false, List, [], ◌∷◌, ◌++◌, take, refl, sym, subst}
use Rattle.sx_mean.specs.declared.events.SourceEvent.{SourceEvent}
use Rattle.sx_mean.specs.declared.events.SourceEvent.TheVariants as event
use Rattle.sx_tag.specs.Wrap.{wrapped}
use Rattle.spec_machine.specs.Memory.{word}
use Rattle.spec_invocation.specs.Setup.{Setup}
use Rattle.spec_invocation.specs.Marks as mark
use Rattle.spec_invocation.specs.Marks.{Mark}
use Rattle.spec_invocation.specs.ModuleState.{end_of}
use Rattle.spec_invocation.specs.Windows.{two}
use Rattle.spec_invocation.specs.Progress.{Progress, Course, Going, Broken, finished, marks_in}
use Rattle.spec_invocation.specs.Acts.{with_piece, event_header, handled}
use Rattle.spec_invocation.specs.Entries.{attest, sample_read, number_taken, header_in}
use Rattle.spec_invocation.specs.Protocol.{key_size, value_size}
use Rattle.spec_invocation.proofs.ByEntry.{by_entry}
use Rattle.spec_invocation.proofs.Courses.{Kept, come_to, handler_keeps, piece_keeps}
use Rattle.spec_invocation.specs.Laws.{is_unwrap, NoUnwrap, FirstAlone, UnwrapsOnce}

first_more : (ms : List Mark) (m : Mark) → is_unwrap m ≡ false → FirstAlone ms → FirstAlone (ms ++ m ∷ [])
first_more [] m e h = tt
first_more (x ∷ ms) m e h = no_more ms m e h
  where
    no_more : (ms : List Mark) (m : Mark) → is_unwrap m ≡ false → NoUnwrap ms → NoUnwrap (ms ++ m ∷ [])
    no_more [] m e h = (e, tt)
    no_more (y ∷ ms) m e h = (h.0, no_more ms m e h.1)

abbrev Fine : Progress → Type 0
Fine p = FirstAlone p.marks

kept : (s : Setup) → Kept s Fine
kept s = record {
  more_pieces = λ p new h. h;
  other_memory = λ p new h. h;
  other_cells = λ p new h. h;
  wraps = λ p v k e at side o h. first_more p.marks (mark.Wrapped (event_header (end_of p.state.ends k)) (two v) false) refl h;
  writes = λ p device v h. first_more p.marks (mark.Actuated device v) refl h;
}

finished_keeps : (x : Course) → Fine (come_to x) → FirstAlone (marks_in (finished x))
finished_keeps (Going p) h = h
finished_keeps (Broken v p) h = h

pub unwraps_once : UnwrapsOnce
unwraps_once s call p none =
    by_entry s call p (λ r. FirstAlone (marks_in r))
    (record {
      refused = λ status. nothing;
      violated = λ v. nothing;
      keyed = λ good k packet body. one (mark.Unwrapped (header_in packet) (take key_size body) true);
      attested = λ good ask. attests ask;
      taken = λ good e packet body. handles (event.Input e.1.port (word body 0)) (number_taken e.0 packet (take value_size body) (end_of p.state.ends e.0) p)
          (one (mark.Unwrapped (header_in packet) (take value_size body) false));
      sampled = λ good d. handles (event.Sample d.1.value) (sample_read d p) (one (mark.Sampled d.0 d.1.value));
    })
  where
    nothing : FirstAlone p.marks
    nothing = subst FirstAlone (sym none) tt

    one : (m : Mark) → FirstAlone (p.marks ++ m ∷ [])
    one m = subst (λ (l : List Mark). FirstAlone (l ++ m ∷ [])) (sym none) tt

    attests : (ask : List ℕ) → FirstAlone (marks_in (attest s call ask p))
    attests ask =
        let tag = (wrapped s.mac s.section.key ask []).tag in
        let q = record p { marks = p.marks ++ mark.Wrapped ask [] true ∷ [] } in
        finished_keeps (with_piece s call tag q) (piece_keeps s call Fine (kept s) tag q (one (mark.Wrapped ask [] true)))

    handles : (e : SourceEvent) (q : Progress) → FirstAlone q.marks → FirstAlone (marks_in (finished (handled s call e q)))
    handles e q h = finished_keeps (handled s call e q) (handler_keeps s call Fine (kept s) e q h)
