-- The handler of an event, where there is one, and the return.
use Rattle.std.proofs.Common.{◌≡◌, ℕ, ◌+◌, ◌≤◌, List, [], ◌∷◌, Option, Some, None, refl, sym, ap, subst, arith}
use Rattle.sx_lang.specs.Tree.{HandlerTree}
use Rattle.sx_mean.specs.declared.events.SourceEvent.{SourceEvent}
use Rattle.sx_mean.specs.React.{value_of, run}
use Rattle.sx_mean.specs.Handlers.{number_of}
use Rattle.sx_mean.proofs.Handlers.{none_at}
use Rattle.spec_machine.specs.Memory.{word}
use Rattle.sx_image.proofs.Reaching.{and_then, weaken}
use Rattle.spec_invocation.specs.Protocol.{all_done}
use Rattle.spec_invocation.specs.Setup.{Setup, Call}
use Rattle.spec_invocation.specs.Progress.{Progress, Invoked, Returns, Violates, Course, Going, Broken, finished}
use Rattle.spec_invocation.specs.Acts.{handled, with_acts}
use Rattle.sx_ir.specs.Conf.{Conf, Halt}
use Rattle.sx_ir.specs.Conf as conf
use Rattle.sx_ir.specs.Meaning.{OperationResult, op_step, op_count, OnViolation}
use Rattle.sx_ir.specs.Invoking.{Represents, CourseBreaks, CourseGoesOn, DoesCourse}
use Rattle.sx_ir.specs.declared.ir.Ir.{Ir}
use Rattle.sx_ir.specs.declared.ir.Ir.TheVariants as ir
use Rattle.sx_stub.specs.Stub.{handled_by}
use Rattle.sx_stub.specs.Invokes.{ShowsCall, EndsSo, Ready, IsBehind, HandlerDoes, Invokes, LeavesSo}
use Rattle.sx_stub.proofs.Straight.{At, at}
use Rattle.sx_stub.proofs.Slots.{shows_at}
use Rattle.sx_stub.proofs.Refuse.{returned, returns_does, runs_on}

-- without a handler nothing is done
pub none_handled : (s : Setup) (call : Call) (e : SourceEvent) (p : Progress) → number_of s.tree e ≡ None
    → handled s call e p ≡ Going p
unfolding handled
none_handled s call e p h =
    ap (λ (x : Option HandlerTree). let done = run s.tree.decls x (value_of e) p.state.cells in
    with_acts s call done.acts (record p { state = record p.state { cells = done.cells } })) (none_at s.tree e h)

-- where the course goes on, the configuration stands for it, at the next place
abbrev pub IsDone : Setup → Call → Course → Conf → Conf → Type 0
IsDone s call course c t = CourseGoesOn course (λ p. Represents s call p t × IsBehind c t)

-- what stands for a progress shows it, too
pub represents_shows : (s : Setup) (call : Call) (p : Progress) (c : Conf) → Represents s call p c → ShowsCall s call p c
represents_shows s call p c h = record {
  size = h.size;
  bytes = h.bytes;
  state = h.state;
  mem = h.mem;
  devices = h.devices;
  marks = h.marks;
  entry = h.entry;
  input = h.input;
  output = h.output;
  back = h.back;
}

module _ (s : Setup) (call : Call) (handle : ℕ → Conf → OperationResult) (given : ℕ → ℕ) (code : List Ir) where
  abbrev Goal : Invoked → ℕ → Conf → Type 0
  Goal result n c = Invokes s call handle given code result n c

  abbrev behind : List Ir
  behind = ir.Push 1 ∷ ir.Load 4 ∷ ir.Leave ∷ []

  -- what follows a handler
  ends : (p : Progress) (t : Conf) (q n : ℕ) → Represents s call p t → t.place ≡ q → t.stack ≡ [] → At code q behind
      → 16 ≤ n → Goal (Returns all_done p) n t
  ends p t q n h place stack a le =
      let r = Returns all_done p in
      subst (λ (x : ℕ). Goal r n (at t x t.stack)) (sym place)
      (subst (λ (st : List ℕ). Goal r n (at t q st)) (sym stack)
      (runs_on s call handle given code r (ir.Push 1 ∷ ir.Load 4 ∷ []) t q (q + 1 + 1) [] (word t.priv 4 ∷ 1 ∷ []) n 0 (a.0, (a.1.0, tt)) refl (omega arith) (omega (arith, le))
      (returned s call handle given code 1 (word t.priv 4) p t (q + 1 + 1) 0 a.1.1.0 (represents_shows s call p t h) h.count)))

  by_course : (course : Course) (c : Conf) (n : ℕ) → At code (c.place + 1) behind
      → DoesCourse s call handle given code course (IsBehind c) n c → Goal (finished course) (n + 16) c
  by_course (Going p) c n a d =
      let r = Returns all_done p in
      let done = IsDone s call (Going p) c in
      and_then Conf Halt (op_step s handle code) (op_count given code) (λ c. Unit {0}) (OnViolation (EndsSo r)) done (LeavesSo s call code r) n 16 (n + 16) c (omega arith)
      (weaken Conf Halt (op_step s handle code) (op_count given code) (λ c. Unit {0}) (λ c. Unit {0}) (OnViolation (CourseBreaks (Going p))) (OnViolation (EndsSo r)) done done n n c
      (omega arith) (λ t x. x) never (λ t x. x) d)
      (λ t x. ends p t (c.place + 1) 16 x.0 x.1.0 x.1.1 a (omega arith))
    where
      never : (t : Conf) (v : Halt) → OnViolation (CourseBreaks (Going p)) t v → OnViolation (EndsSo (Returns all_done p)) t v
      never t (conf.Violates v marks) x = x
      never t conf.Stuck x = x
  by_course (Broken v p) c n a d =
      let r = Violates v p in
      weaken Conf Halt (op_step s handle code) (op_count given code) (λ c. Unit {0}) (λ c. Unit {0}) (OnViolation (CourseBreaks (Broken v p))) (OnViolation (EndsSo r))
      (IsDone s call (Broken v p) c) (LeavesSo s call code r) n (n + 16) c (omega arith) (λ t x. x) same (λ t x. absurd x) d
    where
      same : (t : Conf) (w : Halt) → OnViolation (CourseBreaks (Broken v p)) t w → OnViolation (EndsSo (Violates v p)) t w
      same t (conf.Violates w marks) x = x
      same t conf.Stuck x = x

  -- the handler of the event, by its number
  pub handles : (e : SourceEvent) (p : Progress) (c : Conf) (q n : ℕ) → Ready s call e p c
      → ((h : ℕ) → number_of s.tree e ≡ Some h → HandlerDoes s handle given code h e n)
      → At code q (handled_by (number_of s.tree e)) → Goal (finished (handled s call e p)) (n + 16) (at c q [])
  handles e p c q n ready does a = go (number_of s.tree e) refl a
    where
      ready_at : Ready s call e p (at c q [])
      ready_at = record {
        shows = shows_at s call p c q [] ready.shows;
        value = ready.value;
        pieces = ready.pieces;
        unkeyed = ready.unkeyed;
        stack = refl;
        back = ready.back;
        window = ready.window;
        devices = ready.devices;
      }

      go : (x : Option ℕ) → number_of s.tree e ≡ x → At code q (handled_by x)
          → Goal (finished (handled s call e p)) (n + 16) (at c q [])
      go None h a =
          subst (λ (x : Course). Goal (finished x) (n + 16) (at c q [])) (sym (none_handled s call e p h))
          (returns_does s call handle given code 1 p c q (n + 16) a ready.shows ready.pieces (omega arith))
      go (Some i) h a =
          by_course (handled s call e p) (at c q []) n a.1 (does i h call p (at c q []) a.0 ready_at)
