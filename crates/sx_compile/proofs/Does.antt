-- From the operations' templates to the whole invocation.
use Rattle.std.proofs.Common.{◌≡◌, ℕ, ◌+◌, ◌-◌, ◌≤◌, ◌⊎◌, inl, inr, Bool, true, false, ◌||◌, List, [], length, refl, sym, ap, ◌∙◌, subst, arith}
use Rattle.std.specs.Prelude.{slice_index, if◌then◌else◌}
use Rattle.std.specs.List.{list_all}
use Rattle.std.proofs.lemmas.List.{append-nil}
use Rattle.sx_rules.specs.declared.access.Violation.{Violation}
use Rattle.sx_rules.specs.declared.access.Violation.TheVariants as bad
use Rattle.sx_lang.specs.Sizes.{module_data_size}
use Rattle.spec_machine.specs.State.{State}
use Rattle.sx_image.specs.Reach.{Comes, Stops, Here, Next, Ends}
use Rattle.sx_image.proofs.Reaching.{and_then, weaken}
use Rattle.sx_tag.specs.Mac.{IsTag}
use Rattle.spec_invocation.specs.Protocol.{no_entry, bad_window}
use Rattle.spec_invocation.specs.Windows.{in_window_size, out_window_size}
use Rattle.spec_invocation.specs.Marks.{Mark, HasPrefix}
use Rattle.spec_invocation.specs.Setup.{Setup, Call}
use Rattle.spec_invocation.specs.Windows.{is_bad_window}
use Rattle.spec_invocation.specs.Progress.{Progress, Invoked, Returns, Violates, marks_in, pieces_in}
use Rattle.spec_invocation.specs.Invocation.{invoke, entered, has_bad_windows, is_no_entry, returns_inside}
use Rattle.sx_image.specs.Watched.{Watched, watch}
use Rattle.sx_image.specs.Image.{call_at, private_bytes, progress_at}
use Rattle.sx_image.specs.Realizes.{Aborted, Exited, Stand, Underway, begins}
use Rattle.sx_ir.specs.declared.ir.Code.{Code}
use Rattle.sx_ir.specs.declared.ir.Ir.{Ir}
use Rattle.sx_ir.specs.Conf.{Conf, Halt}
use Rattle.sx_ir.specs.Conf as conf
use Rattle.sx_ir.specs.Meaning.{no_count, op_step, op_count, part_from, OnViolation}
use Rattle.sx_ir.specs.Sound.{is_sound_op}
use Rattle.sx_stub.specs.Invokes.{CallBegun, EndsSo, Invokes, LeavesSo, ShowsCall}
use Rattle.sx_tmpl.specs.Unseen.{SameSlots, StepShowsNone}
use Rattle.sx_rules.specs.declared.section.Layout.{Layout}
use Rattle.spec_machine.specs.Memory.{put_word}
use Rattle.sx_compile.proofs.Spared.{slots_trans, word_spared}
use Rattle.sx_tmpl.specs.Performs.{IsRegular, LeftFrom, Never, Performs, NodeRuns, With, entry_conf}
use Rattle.sx_compile.proofs.Begun.{state_in_memory}
use Rattle.sx_compile.proofs.Regular.{runs_regular}
use Rattle.sx_tmpl.proofs.Texts.Entering.{outside_window}
use Rattle.sx_compile.proofs.Written.{Written, returns_written, stand_same}
use Rattle.sx_compile.proofs.Returning.{violates_returns, returns_same}

-- a moment of the invocation, whose step shows no key
abbrev pub Unseen : Setup → Invoked → State → Watched → Type 0
Unseen s result before w = Underway s result before w × StepShowsNone s before.mem w

module _ (s : Setup) (code : Code) (before : State) (result : Invoked) (Sim : Conf → Watched → Type 0) (performs : Performs s code before result Sim) (B : Violation → List Mark → Type 0) (Q : Conf
    → Type 0)
    (at_exit : (t : Conf) → Q t → HasPrefix (marks_in result) t.marks) (at_end : (v : Violation) (marks : List Mark) → B v marks → HasPrefix (marks_in result) marks) where
  -- the stack code's run
  abbrev Run : ℕ → Conf → Type 0
  Run n c = Comes Conf Halt (op_step s (part_from code.parts.items) code.ops.items) (op_count no_count code.ops.items) (IsRegular (length s.ends) (private_bytes s.section.layout before.mem) code.ops.items (call_at before) (marks_in result))
      (OnViolation B) Q n c

  -- it has come to a violation, or to an exit
  abbrev Ended : Watched → Violation → Type 0
  Ended w v = (marks : List Mark) × B v marks × (w.marks ≡ marks)

  abbrev Came : Watched → Type 0
  Came w = (t : Conf) × Sim t w × Q t

  marks_of_run : (n : ℕ) (c : Conf) → Run n c → HasPrefix (marks_in result) c.marks
  marks_of_run n c (Here q) = at_exit c q
  marks_of_run n c (Next p e le r) = p.marks
  marks_of_run n c (Ends p e le b) = p.marks

  -- the node follows it
  follows : (n : ℕ) (c : Conf) (w : Watched) → Run n c → Sim c w → NodeRuns s result before Ended Came n w
  follows n c w (Here q) x = Here (c, x, q)
  follows n c w (Next {k = k} {t = t} p e le r) x =
      and_then Watched Violation (watch s.mac) (λ w. 1) (Unseen s result before) Ended (Sim t) Came (op_count no_count code.ops.items c) k n w le
      (weaken Watched Violation (watch s.mac) (λ w. 1) (Unseen s result before) (Unseen s result before) Never Ended (Sim t) (Sim t) (op_count no_count code.ops.items c)
      (op_count no_count code.ops.items c) w (omega arith) (λ w x. x) (λ w v x. absurd x) (λ w x. x) (performs.goes c t w x p (marks_of_run k t r) e))
      (λ u y. follows k t u r y)
  follows n c w (Ends {v = v} p e le b) x = ends v e b
    where
      ends : (v : Halt) → op_step s (part_from code.parts.items) code.ops.items c ≡ Stops v → OnViolation B c v → NodeRuns s result before Ended Came n w
      ends (conf.Violates v marks) e b =
          weaken Watched Violation (watch s.mac) (λ w. 1) (Unseen s result before) (Unseen s result before) (With v marks) Ended (λ y. ⊥) Came (op_count no_count code.ops.items c) n w le
          (λ w x. x)
          (λ y u z. (marks, subst (λ (u : Violation). B u marks) (sym z.0) b, z.1)) (λ y z. absurd z) (performs.stops c v marks w x p (at_end v marks b) e)
      ends conf.Stuck e b = absurd b

-- the caller's registers are saved before the slots
entry_slots : (ends : ℕ) (l : Layout) (n : State) → SameSlots ends (private_bytes l n.mem) (entry_conf l n).priv
entry_slots ends l n =
    let p0 = private_bytes l n.mem in
    let p1 = put_word p0 6 (slice_index n.regs 12) in
    let p2 = put_word p1 8 (slice_index n.regs 13) in
    let p3 = put_word p2 10 (slice_index n.regs 14) in
    let p4 = put_word p3 12 (slice_index n.regs 15) in
    slots_trans ends p0 p1 p4 (word_spared ends p0 6 (slice_index n.regs 12) refl refl)
    (slots_trans ends p1 p2 p4 (word_spared ends p1 8 (slice_index n.regs 13) refl refl)
    (slots_trans ends p2 p3 p4 (word_spared ends p2 10 (slice_index n.regs 14) refl refl) (word_spared ends p3 12 (slice_index n.regs 15) refl refl)))

-- pieces are made only where the window is good
pieces_or_good : (s : Setup) (call : Call) (p q : Progress) (status : ℕ) → p.pieces ≡ [] → invoke s call p ≡ Returns status q → (q.pieces ≡ []) ⊎ (is_bad_window s call.output out_window_size ≡ false)
unfolding invoke
pieces_or_good s call p q status none h = go (returns_inside s call) (is_no_entry s call) (is_bad_window s call.input in_window_size) (is_bad_window s call.output out_window_size) refl h
  where
    none_in : (a : ℕ) → Returns a p ≡ Returns status q → q.pieces ≡ []
    none_in a h = ap (λ (x : Progress). x.pieces) (sym (returns_same a status p q h)) ∙ none

    go : (a b c d : Bool) → is_bad_window s call.output out_window_size ≡ d
        → (if a then Violates bad.Illegal p else if b then Returns no_entry p else if c || d then Returns bad_window p else entered s call p) ≡ Returns status q
        → (q.pieces ≡ []) ⊎ (is_bad_window s call.output out_window_size ≡ false)
    go true b c d w h = absurd (violates_returns bad.Illegal p status q h)
    go false true c d w h = inl (none_in 2 h)
    go false false true d w h = inl (none_in 3 h)
    go false false false true w h = inl (none_in 3 h)
    go false false false false w h = inr w

-- an invocation that returns has a return address that is none of the module's
returns_out : (s : Setup) (call : Call) (p q : Progress) (status : ℕ) → invoke s call p ≡ Returns status q → returns_inside s call ≡ false
unfolding invoke
returns_out s call p q status h = go (returns_inside s call) h
  where
    go : (a : Bool) → (if a then Violates bad.Illegal p else if is_no_entry s call then Returns no_entry p else if has_bad_windows s call then Returns bad_window p else entered s call p) ≡ Returns
        status q → a ≡ false
    go false h = refl
    go true h = absurd (violates_returns bad.Illegal p status q h)

same_prefix : (a b : List Mark) → a ≡ b → HasPrefix b a
same_prefix a b e = ([], append-nil a ∙ e)

exit_prefix : (s : Setup) (call : Call) (ops : List Ir) (r : Invoked) (t : Conf) → LeavesSo s call ops r t → HasPrefix (marks_in r) t.marks
exit_prefix s call ops (Returns status q) t x = same_prefix t.marks q.marks x.0.marks
exit_prefix s call ops (Violates v q) t x = absurd x

end_prefix : (r : Invoked) (v : Violation) (marks : List Mark) → EndsSo r v marks → HasPrefix (marks_in r) marks
end_prefix (Returns status q) v marks x = absurd x
end_prefix (Violates w q) v marks x = same_prefix marks q.marks (sym x.1)

aborts : (r : Invoked) (w : Watched) (v : Violation) → (marks : List Mark) × EndsSo r v marks × (w.marks ≡ marks) → Aborted r w v
aborts (Returns status q) w v x = absurd x.1
aborts (Violates u q) w v x = record { progress = q; violates = ap (λ (z : Violation). Violates z q) x.1.0; marks = x.2 ∙ sym x.1.1 }

module _ (s : Setup) (code : Code) (before : State) (Sim : Conf → Watched → Type 0) where
  abbrev call : Call
  call = call_at before

  abbrev result : Invoked
  result = invoke s call (progress_at s before)

  -- the pieces that the invocation's memory has are in the node's, too
  stands : (status : ℕ) (q : Progress) (t : Conf) (w : Watched) → Written s call before.mem q → (q.pieces ≡ []) ⊎ (is_bad_window s call.output out_window_size ≡ false)
      → LeftFrom s before status (length q.pieces) t w → t.mem ≡ q.mem → Stand w.node.mem call.output q.pieces
  stands status q t w written (inl none) left mem = subst (λ (l : List (List ℕ)). Stand w.node.mem call.output l) (sym none) tt
  stands status q t w written (inr good) left mem =
      let le = written.fits in
      stand_same q.mem w.node.mem call.output q.pieces (λ k lo hi. left.outside k (outside_window s call.output k good lo (omega (arith, hi, le)))
      ∙ ap (λ (m : List ℕ). slice_index m k) mem) written.pieces

  -- the node that has left is as the invocation returns
  exited : (status : ℕ) (q : Progress) (t : Conf) (w : Watched) → result ≡ Returns status q → IsTag s.mac → length before.mem ≡ 65536 → length q.pieces ≤ 16
      → s.section.layout.priv_to - s.section.layout.priv_from ≡ module_data_size s.tree (length s.ends)
      → ShowsCall s call q t → LeftFrom s before status (length q.pieces) t w → Exited s result before w
  exited status q t w e tag size few private shows left =
      let written = returns_written s call (progress_at s before) q status tag refl size e few in
      record {
        status = status;
        progress = q;
        returns = e;
        left = left.left;
        idle = left.idle;
        registers = left.registers;
        state = state_in_memory s.tree s.ends s.section.layout w.node.mem t.priv (shows.size ∙ sym private) (λ o le lt. left.bytes o (omega (arith, le), inr le) lt) ∙ shows.state;
        sections = left.sections;
        outside = λ at out not. left.outside at out ∙ ap (λ (m : List ℕ). slice_index m at) shows.mem ∙ written.outside at out not;
        pieces = stands status q t w written (pieces_or_good s call (progress_at s before) q status refl e) left shows.mem;
        marks = left.marks ∙ shows.marks;
      }

  -- from `Leave` to the exit
  exits : Performs s code before result Sim → IsTag s.mac → length before.mem ≡ 65536 → length (pieces_in result) ≤ 16
      → s.section.layout.priv_to - s.section.layout.priv_from ≡ module_data_size s.tree (length s.ends)
      → (r : Invoked) → result ≡ r → (u : Watched) (t : Conf) → Sim t u → LeavesSo s call code.ops.items r t → NodeRuns s result before (Aborted result) (Exited s result before) 16 u
  exits performs tag size few private (Violates v q) e u t x y = absurd y
  exits performs tag size few private (Returns status q) e u t x y =
      let prefix : HasPrefix (marks_in result) t.marks = subst (λ (r : Invoked). HasPrefix (marks_in r) t.marks) (sym e) (same_prefix t.marks q.marks y.0.marks) in
      let short : length q.pieces ≤ 16 = subst (λ (r : Invoked). length (pieces_in r) ≤ 16) e few in
      weaken Watched Violation (watch s.mac) (λ w. 1) (Unseen s result before) (Unseen s result before) Never (Aborted result) (LeftFrom s before status (length q.pieces) t)
      (Exited s result before) 16 16 u (omega arith) (λ w x. x) (λ w v x. absurd x)
      (λ w left. exited status q t w e tag size short private y.0 left)
      (performs.leaves t u status (length q.pieces) x prefix y.1 y.0.back (returns_out s call (progress_at s before) q status e))

  -- The node does the invocation that sound code does.
  pub does_invocation : (n m size cost : ℕ) → Performs s code before result Sim → list_all (is_sound_op n m size) code.ops.items ≡ true
      → CallBegun s call (progress_at s before) (entry_conf s.section.layout before)
      → Invokes s call (part_from code.parts.items) no_count code.ops.items result cost (entry_conf s.section.layout before)
      → length before.mem ≡ 65536 → length (pieces_in result) ≤ 16 → s.section.layout.priv_to - s.section.layout.priv_from ≡ module_data_size s.tree (length s.ends)
      → NodeRuns s result before (Aborted result) (Exited s result before) (6 + cost + 16) (begins before)
  does_invocation n m size cost performs sound begun run whole few private =
      let first = entry_conf s.section.layout before in
      let After = λ (t : Conf). LeavesSo s call code.ops.items result t in
      let regular = runs_regular s (private_bytes s.section.layout before.mem) code.ops.items code.parts.items n m size sound call (marks_in result) (EndsSo result) After (λ t q. exit_prefix s call code.ops.items result t q)
      (λ v marks e. end_prefix result v marks e) cost first
      begun.shows.output (omega arith) tt begun.samples (inr (entry_slots (length s.ends) s.section.layout before)) run in
      and_then Watched Violation (watch s.mac) (λ w. 1) (Unseen s result before) (Aborted result) (Sim first) (Exited s result before) 6 (cost + 16) (6 + cost + 16) (begins before) (omega arith)
      (weaken Watched Violation (watch s.mac) (λ w. 1) (Unseen s result before) (Unseen s result before) Never (Aborted result) (Sim first) (Sim first) 6 6 (begins before) (omega arith)
      (λ w x. x) (λ w v x. absurd x) (λ w x. x) performs.enters)
      (λ w x.
      and_then Watched Violation (watch s.mac) (λ w. 1) (Unseen s result before) (Aborted result) (λ w. (t : Conf) × Sim t w × After t) (Exited s result before) cost 16 (cost + 16) w (omega arith)
      (weaken Watched Violation (watch s.mac) (λ w. 1) (Unseen s result before) (Unseen s result before) (λ w v. (marks : List Mark) × EndsSo result v marks × (w.marks ≡ marks)) (Aborted result)
      (λ w. (t : Conf) × Sim t w × After t) (λ w. (t : Conf) × Sim t w × After t) cost cost w (omega arith) (λ w x. x) (λ w v x. aborts result w v x) (λ w x. x)
      (follows s code before result Sim performs (EndsSo result) After (λ t q. exit_prefix s call code.ops.items result t q) (λ v marks e. end_prefix result v marks e) cost first w regular.1 x))
      (λ u y. exits performs begun.tag whole few private result refl u y.0 y.1 y.2))
