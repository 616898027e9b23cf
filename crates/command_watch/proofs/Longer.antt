-- What a call took that read with the limits of heads, with the limits of the command.
use Rattle.std.proofs.Common.{◌≡◌, ◌≤◌, ℕ, Bool, List, [], ◌∷◌, ◌++◌, arith}
use Rattle.sx_io.specs.Streams.{SourceAt}
use Rattle.sx_io.specs.Reading.{Answer, Ending, Ended, Broken, End, Limit, scan}
use Rattle.sx_io.specs.Next.{Ahead}
use Rattle.sx_io.specs.declared.lines.ReaderState.{ReaderState}
use Rattle.sx_io.specs.declared.lines.ReaderState.TheVariants as reader
use Rattle.command_promise.specs.Reads.{AtEnd, AtFault, Decides, Enough, IsBound, Left, Reads}
use Rattle.command_promise.specs.Got.{Follows, Got, HoldsBehind}
use Rattle.command_promise.specs.Head.{head_lines}

-- What answers are with the limits of heads says what they are with longer lines.
module _ {A B : Type 0} (limit left : Limit) (F f : List Answer → A) (owed : A) (G g : List Answer → B) (due : B) (also next : List Answer → Type 0)
    (opened : (lines : List ℕ) → ((e : Ending) (more : List ℕ) → F (scan head_lines e [] (lines ++ more)) ≡ f (scan head_lines e [] more))
    → (e : Ending) (more : List ℕ) → G (scan limit e [] (lines ++ more)) ≡ g (scan left e [] more))
    (ended : (lines : List ℕ) → F (scan head_lines Ended [] lines) ≡ f (End ∷ []) → G (scan limit Ended [] lines) ≡ g (End ∷ []))
    (owes : (lines : List ℕ) → F (scan head_lines Broken [] lines) ≡ owed → G (scan limit Broken [] lines) ≡ due)
    (holds : (lines : List ℕ) (e : Ending) → also (scan head_lines e [] lines) → next (scan limit e [] lines))
    (bound : (most : ℕ) → IsBound limit most → IsBound left most) (short : (most : ℕ) → IsBound limit most → 4096 ≤ most) where
  follows_longer : (s : ReaderState) (lines : List ℕ) → Follows s head_lines head_lines lines F f → Follows s limit left lines G g
  follows_longer reader.Open lines w = opened lines w
  follows_longer reader.AtEnd lines w = ended lines w
  follows_longer reader.TooLong lines w = w
  follows_longer reader.Failed lines w = w

  holds_longer : (s : ReaderState) (lines : List ℕ) → HoldsBehind s head_lines lines also → HoldsBehind s limit lines next
  holds_longer reader.Open lines w = λ e more. holds (lines ++ more) e (w e more)
  holds_longer reader.AtEnd lines w = holds lines Ended w
  holds_longer reader.TooLong lines w = tt
  holds_longer reader.Failed lines w = tt

  pub got_longer : {tells : Bool} {s0 s1 : SourceAt} {now : Ahead} → Got tells head_lines head_lines s0 s1 now F f owed also → Got tells limit left s0 s1 now G g due next
  got_longer {tells} {s0} {s1} {now} b = record {
    before = b.before;
    line = b.line;
    from_source = b.from_source;
    follows = follows_longer now.state (b.before ++ b.line) b.follows;
    holds = holds_longer now.state (b.before ++ b.line) b.holds;
    one = b.one;
    few = b.few;
    bound = bound;
    short = λ most h. omega (arith, b.short 4096 (λ lines. omega arith), short most h);
    due = owes b.before b.due;
    no_fault = b.no_fault;
    at_end = b.at_end;
    no_end = b.no_end;
    asked = b.asked;
  }

-- The same of what was read to decide.
module _ {A B : Type 0} (limit : Limit) (F : List Answer → A) (owed : A) (G : List Answer → B) (due : B) (P Q : List Answer → Type 0)
    (owes : (lines : List ℕ) → F (scan head_lines Broken [] lines) ≡ owed → G (scan limit Broken [] lines) ≡ due)
    (says : (lines : List ℕ) (e : Ending) → P (scan head_lines e [] lines) → Q (scan limit e [] lines)) (short : (most : ℕ) → IsBound limit most → 4096 ≤ most) where
  decides_longer : (left : Left) (tells : Bool) (s0 s1 : SourceAt) (taken : List ℕ) → Decides left tells head_lines s0 s1 taken P → Decides left tells limit s0 s1 taken Q
  decides_longer AtEnd tells s0 s1 taken d = (d.0, d.1, says taken Ended d.2)
  decides_longer AtFault tells s0 s1 taken d = (d.0, d.1, says taken Broken d.2)
  decides_longer Enough tells s0 s1 taken d = (d.0, d.1, λ e more. says (taken ++ more) e (d.2 e more))

  pub reads_longer : {tells : Bool} {s0 s1 : SourceAt} → Reads tells head_lines s0 s1 F owed P → Reads tells limit s0 s1 G due Q
  reads_longer {tells} {s0} {s1} r = record {
    taken = r.taken;
    from_source = r.from_source;
    left = r.left;
    decides = decides_longer r.left tells s0 s1 r.taken r.decides;
    reach = record {
      before = r.reach.before;
      line = r.reach.line;
      ahead = r.reach.ahead;
      parts = r.reach.parts;
      one = r.reach.one;
      few = r.reach.few;
      short = λ most h. omega (arith, r.reach.short 4096 (λ lines. omega arith), short most h);
      due = owes r.reach.before r.reach.due;
      asked = r.reach.asked;
    };
  }
