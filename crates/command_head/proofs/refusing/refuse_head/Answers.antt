use Rattle.std.proofs.Common.{◌≡◌, ℕ, ◌+◌, ◌<◌, List, [], ◌∷◌, ◌++◌, codes, arith, sym, ap, subst}
use Rattle.std.proofs.lemmas.Fmt.{decimal_digit}
use Rattle.command_promise.specs.declared.status.Status.TheVariants.{Refused, ReadFailed}
use Rattle.command_promise.specs.Told.{Output, read_line}
use Rattle.command_promise.proofs.Laws.{ends-same}
use Rattle.sx_entries.specs.Fault.{fault}
use Rattle.sx_entries.specs.declared.fault.Place.TheVariants.{Nowhere}
use Rattle.command_promise.specs.declared.head.HeadFault.{HeadFault}
use Rattle.command_head.specs.Refused.{fault_line, fault_output}
use Rattle.command_head.specs.Headless.{EndsHeadless}
use Rattle.command_text.specs.Output.{line}
use Rattle.command_text.proofs.Ends.{never_six}
use Rattle.command_head.proofs.refusing.refuse_head.Goals as goal

-- the whole text breaks a rule
abbrev whole_text : ℕ → List ℕ
whole_text n = line (codes "fault deployment " ++ (codes "D" ++ ((48 + n) ∷ []) ++ codes " " ++ codes "-"))

refused_whole : (n : ℕ) → n < 10 → fault_output (fault n Nowhere) ≡ record { text = whole_text n; status = Refused }
unfolding fault_line
refused_whole n h =
    let said : List ℕ → Output = λ d. record { text = line (codes "fault deployment " ++ (codes "D" ++ d ++ codes " " ++ codes "-")); status = Refused } in
    ap said (decimal_digit n h)

pub returns-in-TooLong : goal.returns-in-TooLong
returns-in-TooLong g c =
    let P : HeadFault → Type 0 = λ f. EndsHeadless g.K.Sink.tells (g.K.Sink.at c.args.output.now) (g.K.Sink.at c.finish.new.output) c.finish.result f in
    subst P (sym c.in-TooLong.is) (ends-same _ _ _ _ _ _ (refused_whole 1 (omega arith)) c.finish.ensures.ends, never_six _ Refused c.finish.ensures.status (λ e. cc e))

pub returns-in-NoMark : goal.returns-in-NoMark
returns-in-NoMark g c =
    let P : HeadFault → Type 0 = λ f. EndsHeadless g.K.Sink.tells (g.K.Sink.at c.args.output.now) (g.K.Sink.at c.finish-in-NoMark.new.output) c.finish-in-NoMark.result f in
    subst P (sym c.in-NoMark.is)
    (ends-same _ _ _ _ _ _ (refused_whole 2 (omega arith)) c.finish-in-NoMark.ensures.ends, never_six _ Refused c.finish-in-NoMark.ensures.status (λ e. cc e))

pub returns-in-Failed : goal.returns-in-Failed
unfolding read_line
returns-in-Failed g c =
    let P : HeadFault → Type 0 = λ f. EndsHeadless g.K.Sink.tells (g.K.Sink.at c.args.output.now) (g.K.Sink.at c.finish-in-Failed.new.output) c.finish-in-Failed.result f in
    subst P (sym c.in-Failed.is) (c.finish-in-Failed.ensures.ends, never_six _ ReadFailed c.finish-in-Failed.ensures.status (λ e. cc e))
