-- A handler's part in joined code, as the operation `Handler` does it.
use Rattle.std.proofs.Common.{◌≡◌, ℕ, zero, suc, ◌+◌, ◌⊎◌, inl, inr, List, [], ◌∷◌, length, Option, Some, None, refl, sym, ap, ◌∙◌, arith}
use Rattle.std.specs.Prelude.{slice_get}
use Rattle.sx_mean.specs.declared.events.SourceEvent.{SourceEvent}
use Rattle.spec_machine.specs.Memory.{put_word}
use Rattle.sx_image.specs.Reach.{Goes, Here}
use Rattle.sx_image.proofs.Reaching.{and_then}
use Rattle.spec_invocation.specs.Setup.{Setup, Call}
use Rattle.spec_invocation.specs.Progress.{Progress, Course, Going, Broken}
use Rattle.spec_invocation.specs.Acts.{handled}
use Rattle.spec_invocation.specs.Invocation.{invoke}
use Rattle.sx_ir.specs.Conf.{Conf, Halt}
use Rattle.sx_ir.specs.Meaning.{OperationResult, op_step, op_count, part_from, no_count, OnViolation, CodeReaches, do_op, stop}
use Rattle.sx_ir.specs.Invoking.{Represents, HandlerBegins, CourseBreaks, CourseGoesOn, PartDoes}
use Rattle.sx_ir.specs.declared.ir.Ir.{Ir}
use Rattle.sx_ir.specs.declared.ir.Ir.TheVariants as ir
use Rattle.sx_stub.specs.Invokes.{Ready, HandlerDoes, stub_count}
use Rattle.sx_stub.specs.Joined.{JoinedInvokes}
use Rattle.sx_stub.proofs.Mem.{word-put_same, word-put_other, get-put_other, AllBytes-put_word}
use Rattle.sx_stub.proofs.Straight.{goes}
use Rattle.sx_stub.proofs.Slots.{IsKept, shows_priv}
use Rattle.sx_stub.proofs.Refuse.{within}
use Rattle.sx_stub.proofs.Handling.{IsDone}
use Rattle.sx_stub.proofs.StubInvokes.{stub_invokes}
use Rattle.spec_machine.proofs.Lengths.{length-put_word}

parts_begin : (parts : List (ℕ × ℕ)) (h place end : ℕ) (c : Conf) → slice_get parts h ≡ Some (place, end)
    → part_from parts h c ≡ Goes (record c { place = place; back = Some (c.place + 1) })
parts_begin [] h place end c e = absurd (none_some e)
  where
    none_some : ◌≡◌ {A = Option (ℕ × ℕ)} None (Some (place, end)) → ⊥
    none_some e = cc
parts_begin (part ∷ parts) zero place end c e = ap (λ (x : ℕ × ℕ). Goes (record c { place = x.0; back = Some (c.place + 1) })) (some_same e)
  where
    some_same : ◌≡◌ {A = Option (ℕ × ℕ)} (Some part) (Some (place, end)) → part ≡ (place, end)
    some_same e = cc
parts_begin (part ∷ parts) (suc h) place end c e = parts_begin parts h place end c e

module _ (s : Setup) (code : List Ir) (parts : List (ℕ × ℕ)) where
  abbrev handle : ℕ → Conf → OperationResult
  handle = part_from parts

  low : (i : ℕ) → IsKept i → (b : ℕ) → b ≡ 4 ⊎ b ≡ 5 → (i ≡ b → ⊥)
  low i (inl k) b (inl e) = omega (arith, k.0, e)
  low i (inl k) b (inr e) = omega (arith, k.0, e)
  low i (inr k) b (inl e) = omega (arith, k, e)
  low i (inr k) b (inr e) = omega (arith, k, e)

  -- the operation begins the part
  begins_part : (place : ℕ) (e : SourceEvent) (call : Call) (p : Progress) (c : Conf) → Ready s call e p c
      → HandlerBegins s call e p (record c { place = place; priv = put_word c.priv 4 0; back = Some (c.place + 1) })
  begins_part place e call p c ready =
      let size = ready.shows.size in
      let priv = put_word c.priv 4 0 in
      let shows = shows_priv s call p c priv place c.stack ready.shows (length-put_word c.priv 4 0) (AllBytes-put_word c.priv 4 0 (omega arith) ready.shows.bytes)
      (λ i kept. get-put_other c.priv 4 0 i refl (low i kept 4 (inl refl)) (low i kept 5 (inr refl))) in
      record {
        represents = record {
          size = shows.size;
          bytes = shows.bytes;
          state = shows.state;
          mem = shows.mem;
          devices = shows.devices;
          marks = shows.marks;
          count = word-put_same c.priv 4 0 refl (omega (arith, size)) ∙ ap length (sym ready.pieces);
          entry = shows.entry;
          input = shows.input;
          output = shows.output;
          back = shows.back;
        };
        value = word-put_other c.priv 4 0 2 refl refl (omega arith) ∙ ready.value;
        pieces = ready.pieces;
        unkeyed = ready.unkeyed;
        stack = ready.stack;
        window = ready.window;
        devices = ready.devices;
      }

  -- where the part has come to `Stop`, with this place to return to
  abbrev IsStopped : Call → Course → ℕ → Conf → Type 0
  IsStopped call course back t =
      CourseGoesOn course (λ p. Represents s call p t × ((slice_get code t.place ≡ Some ir.Stop) × (t.stack ≡ []) × (t.back ≡ Some back)))

  -- its `Stop` goes on after the operation
  stops : (call : Call) (course : Course) (c t : Conf) → IsStopped call course (c.place + 1) t
      → CodeReaches s handle no_count code (CourseBreaks course) (IsDone s call course c) 8 t
  stops call (Going p) c t x =
      let t2 = record t { place = c.place + 1; back = None } in
      let r = x.0 in
      let represents : Represents s call p t2 = record {
        size = r.size;
        bytes = r.bytes;
        state = r.state;
        mem = r.mem;
        devices = r.devices;
        marks = r.marks;
        count = r.count;
        entry = r.entry;
        input =
            r.input;
        output = r.output;
        back = r.back;
      } in
      goes s handle no_count code (CourseBreaks (Going p)) (IsDone s call (Going p) c) ir.Stop t t2 8 0 x.1.0 (ap (stop t) x.1.2) refl (omega arith)
      (Here (represents, (refl, x.1.1, refl)))
  stops call (Broken v p) c t x = absurd x

  part_handles : (h place end : ℕ) (e : SourceEvent) (n : ℕ) → slice_get parts h ≡ Some (place, end)
      → PartDoes s handle no_count code place e n → HandlerDoes s handle no_count code h e (16 + n)
  part_handles h place end e n there does call p c at_handler ready =
      let priv = put_word c.priv 4 0 in
      let begun = record c { place = place; priv = priv; back = Some (c.place + 1) } in
      let course = handled s call e p in
      let done = IsDone s call course c in
      let begins : do_op s handle (ir.Handler h) c ≡ Goes begun = parts_begin parts h place end (record c { priv = priv }) there in
      goes s handle no_count code (CourseBreaks course) done (ir.Handler h) c begun (16 + n) (8 + n) at_handler begins refl (omega arith)
      (and_then Conf Halt (op_step s handle code) (op_count no_count code) (λ c. Unit {0}) (OnViolation (CourseBreaks course)) (IsStopped call course (c.place + 1)) done n 8 (8 + n) begun
      (omega arith)
      (does call p begun refl (begins_part place e call p c ready)) (λ t x. stops call course c t x))

pub joined_invokes : JoinedInvokes
joined_invokes s call p code parts c cost b place stack stands does =
    within s call (part_from parts) no_count code (invoke s call p) (stub_count + 16 + cost) (stub_count + (16 + cost)) c (omega arith)
    (stub_invokes s call p (part_from parts) no_count code c (16 + cost) b place stack stands (λ e h n.
    let d = does e h n in
    part_handles s code parts h d.0 d.1.0 e cost d.1.1 d.2))
