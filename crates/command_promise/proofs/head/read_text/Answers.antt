use Rattle.std.proofs.Common.{◌∙◌, ◌≡◌, ◌++◌, ◌∷◌, [], ℕ, List, length, take, ap, refl, sym, arith, length-append, nat_lt, ◌+◌}
use Rattle.sx_io.specs.Reading.{newline}
use Rattle.command_promise.specs.Head.{most_bytes}
use Rattle.command_promise.proofs.Turns.{came-as, came-end, came-failed, came-line, came-long, came-mark, came-new, came-starved, came-too-long}
use Rattle.command_promise.proofs.head.read_text.Goals as goal

pub lines-init : goal.lines-init
lines-init g c = record { few = omega arith; come = ([], refl, λ _. c.new-text.ensures.items, came-new [] refl) }

pub returns-in-End : goal.returns-in-End
returns-in-End g c = let a = came-end _ c.lines.invariant.come.3 c.in-End.ensures.next in record { first = a.first; further = a.further }

pub returns-in-TooLong : goal.returns-in-TooLong
returns-in-TooLong g c = let a = came-long _ c.lines.invariant.come.3 c.in-TooLong.ensures.next in record { first = a.first; further = a.further }

pub returns-in-Failed : goal.returns-in-Failed
returns-in-Failed g c = let a = came-failed _ c.lines.invariant.come.3 c.in-Failed.ensures.next in record { first = a.first; further = a.further }

pub returns-then-is_kept : goal.returns-then-is_kept
returns-then-is_kept g c =
    let h = c.lines.invariant.come in
    let a = came-mark _ (came-as h.0 c.lines.text.items (sym (h.2 c.if-is_kept.true)) h.3) c.in-Text.ensures.next (sym c.is_mark.ensures ∙ c.if-is_mark.true) in
    record { first = a.first; further = a.further }

pub returns-then-is_mark : goal.returns-then-is_mark
returns-then-is_mark g c =
    let h = c.lines.invariant.come in
    let a = came-starved h.0 h.3 c.in-Text.ensures.next (sym c.is_mark.ensures ∙ c.if-is_mark.true) in
    record { first = a.first; further = a.further }

pub returns-then-passes : goal.returns-then-passes
returns-then-passes g c =
    let h = c.lines.invariant.come in
    let a = came-too-long h.0 h.3 c.in-Text.ensures.next (sym c.is_mark.ensures ∙ c.if-is_mark.false)
    (ap (λ (k : ℕ). nat_lt most_bytes (k + length (take c.in-Text.n c.next.new.into) + 1)) h.1 ∙ sym c.passes.ensures.value ∙ c.if-passes.true) in
    record { first = a.first; further = a.further }

pub lines-preserved : goal.lines-preserved
lines-preserved g c =
    let h = c.lines.invariant.come in
    let line = take c.in-Text.n c.next.new.into in
    let fits = c.passes.ensures.fits c.if-passes.false in
    record {
      few = omega (arith, fits);
      come = (
        h.0 ++ line ++ newline ∷ [],
        omega (arith, h.1, length-append (h.0 ++ line) (newline ∷ []), length-append h.0 line),
        λ kept. let k = c.keep_line-is_kept.ensures kept in k.1 ∙ ap (λ (t : List ℕ). t ++ line ++ newline ∷ []) (h.2 k.0),
        came-line h.0 h.3 c.in-Text.ensures.next (sym c.is_mark.ensures ∙ c.if-is_mark.false)
            (ap (λ (k : ℕ). nat_lt most_bytes (k + length line + 1)) h.1 ∙ sym c.passes.ensures.value ∙ c.if-passes.false),
      );
    }
