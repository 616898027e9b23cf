-- From the operations' templates to a handler's part on a node in mid-run.
use Rattle.std.proofs.Common.{◌≡◌, ℕ, ◌+◌, ◌-◌, ◌*◌, ◌<◌, ◌≤◌, List, [], ◌++◌, length, Some, refl, sym, ap, ◌∙◌, subst, arith}
use Rattle.std.specs.Prelude.{slice_get, slice_index}
use Rattle.sx_lang.specs.Sizes.{handler_cost, module_data_size}
use Rattle.sx_lang.specs.Tree.{HandlerTree, ModuleTree}
use Rattle.sx_mean.specs.declared.events.End.{End}
use Rattle.sx_mean.specs.declared.events.SourceEvent.{SourceEvent}
use Rattle.sx_mean.specs.React.{handler_at}
use Rattle.sx_rules.specs.declared.access.Violation.{Violation}
use Rattle.sx_rules.specs.declared.section.Layout.{Layout}
use Rattle.sx_rules.specs.declared.section.Section.{Section}
use Rattle.sx_tag.specs.Mac.{IsTag, Mac}
use Rattle.spec_machine.specs.Memory.{word}
use Rattle.spec_machine.specs.State.{State}
use Rattle.sx_image.specs.Reach.{Comes, Ends, Here, Next, Stops}
use Rattle.sx_image.proofs.Reaching.{and_then, weaken}
use Rattle.spec_invocation.specs.Marks.{HasPrefix, Mark}
use Rattle.spec_invocation.specs.Pieces.{made_bytes}
use Rattle.spec_invocation.specs.Progress.{Broken, Course, Going, Progress, Violates, bytes_in, finished, marks_in, pieces_in}
use Rattle.spec_invocation.specs.Setup.{Call, Setup}
use Rattle.spec_invocation.proofs.PiecesMarked.{OnCourse, handled_made}
use Rattle.sx_image.specs.Image.{private_bytes, progress_at, setup_at}
use Rattle.sx_image.specs.Realizes.{Aborted, begins}
use Rattle.sx_image.specs.Watched.{Watched, watch}
use Rattle.sx_ir.specs.Conf as conf
use Rattle.sx_ir.specs.Conf.{Conf, Halt}
use Rattle.sx_ir.specs.declared.ir.Code.{Code}
use Rattle.sx_ir.specs.declared.ir.Ir.{Ir}
use Rattle.sx_ir.specs.Invoking.{HandlerBegins, CourseBreaks, DoesCourse, CourseGoesOn, Represents}
use Rattle.sx_ir.specs.Meaning.{OnViolation, no_count, op_count, op_step, part_from}
use Rattle.sx_ir.specs.Sizes.{offset}
use Rattle.sx_lower.specs.Lowering.{IsLowerable, LowersTo}
use Rattle.sx_lower.proofs.Reacts.{lowered_ends}
use Rattle.sx_tmpl.specs.Performs.{IsNarrow, IsRegular, Never, With}
use Rattle.sx_tmpl.specs.Running.{Fixed, pieces_end}
use Rattle.sx_compile.proofs.Spared.{same_slots}
use Rattle.sx_tmpl.specs.Shows.{Stood}
use Rattle.sx_tmpl.specs.Text.{addresses, bytes_of, text_words}
use Rattle.sx_tmpl.proofs.Texts.Going.{op_breaks, op_goes_on}
use Rattle.sx_tmpl.proofs.Running.MidRun.{Held, Runs, Stands}
use Rattle.sx_tmpl.proofs.Texts.SoundOps.{AreSound, are_sound}
use Rattle.spec_invocation.specs.Windows.{is_bad_window}
use Rattle.sx_compile.specs.Body.{BeginsHandler, Handling, HasHandled, course_at, kept_on}
use Rattle.sx_compile.specs.Compiled.{HasSections}
use Rattle.std.proofs.Common.{None, inl, inr, ◌%◌}
use Rattle.std.proofs.lemmas.List.{append-nil}
use Rattle.std.proofs.lemmas.List.Elements.{All-from_get_or}
use Rattle.sx_stub.proofs.Mem.{AllBytes-bytes_from, word_same}
use Rattle.sx_stub.proofs.Packets.{bytes_from_get}
use Rattle.sx_tmpl.proofs.Texts.Resuming.{Resumes, begins_at, conf_at, fixed_from, outside_kept, stands}
use Rattle.sx_tmpl.proofs.Texts.TextBytes.{length-bytes}
use Rattle.sx_tmpl.proofs.Texts.TextPlaces.{bytes_within, place_is}
use Rattle.sx_compile.proofs.Begun.{state_in_memory}
use Rattle.sx_compile.proofs.BodyText.{body_narrow, body_sound, part_within}
use Rattle.sx_tmpl.proofs.Texts.Entering.{outside_window}
use Rattle.sx_compile.proofs.FewPieces.{handled_few, pieces_on}
use Rattle.sx_compile.proofs.Narrow.{AreBelow, bytes_below, ops_below}
use Rattle.sx_compile.proofs.CompiledRealizes.{room_of}
use Rattle.sx_compile.proofs.Regular.{runs_regular}
use Rattle.sx_compile.proofs.Written.{handled_written, stand_same}
use Rattle.spec_machine.proofs.Lengths.{length-bytes_from}

module _ (f : Fixed) (st : Stands f) (all : List Mark) (window : f.to ≡ pieces_end (is_bad_window f.setup f.from 384) f.from (made_bytes all)) (tag : IsTag f.setup.mac) (code : Code)
    (sound : AreSound code.ops.items code.parts.items f.setup.section.layout)
    (narrow : (p : ℕ) (i : Ir) → slice_get code.ops.items p ≡ Some i → IsNarrow i) (text : (k : ℕ) → k < 2 * length (text_words f.setup.section.layout code)
    → slice_index f.entered (f.setup.section.layout.pub_from + k) ≡ slice_index (bytes_of (text_words f.setup.section.layout code)) k)
    (call : Call) (out : call.output ≡ f.from) (B : Violation → List Mark → Type 0) (Q : Conf → Type 0) (at_exit : (t : Conf) → Q t
    → HasPrefix all t.marks) (at_end : (v : Violation) (marks : List Mark) → B v marks → HasPrefix all marks) where
  abbrev Sim : Conf → Watched → Type 0
  Sim c w = Stood f all (addresses f.setup.section.layout code).at c w

  -- the stack code's run
  abbrev Run : ℕ → Conf → Type 0
  Run n c = Comes Conf Halt (op_step f.setup (part_from code.parts.items) code.ops.items) (op_count no_count code.ops.items) (IsRegular (length f.setup.ends) (private_bytes f.setup.section.layout f.entered) code.ops.items call all) (OnViolation B) Q n c

  -- it has come to a violation, or to its end
  abbrev Ended : Watched → Violation → Type 0
  Ended w v = (marks : List Mark) × B v marks × (w.marks ≡ marks)

  abbrev Came : Watched → Type 0
  Came w = (t : Conf) × Sim t w × Q t

  marks_of_run : (n : ℕ) (c : Conf) → Run n c → HasPrefix all c.marks
  marks_of_run n c (Here q) = at_exit c q
  marks_of_run n c (Next p e le r) = p.marks
  marks_of_run n c (Ends p e le b) = p.marks

  -- the node follows it
  pub follows : (n : ℕ) (c : Conf) (w : Watched) → Run n c → Sim c w → Runs f all Ended Came n w
  follows n c w (Here q) x = Here (c, x, q)
  follows n c w (Next {k = k} {t = t} p e le r) x =
      and_then Watched Violation (watch f.setup.mac) (λ w. 1) (Held f all) Ended (Sim t) Came (op_count no_count code.ops.items c) k n w le
      (weaken Watched Violation (watch f.setup.mac) (λ w. 1) (Held f all) (Held f all) Never Ended (Sim t) (Sim t) (op_count no_count code.ops.items c) (op_count no_count code.ops.items c) w
      (omega arith) (λ w x. x) (λ w v x. absurd x) (λ w x. x)
      (op_goes_on f st all window tag code sound narrow text call c t w out x p (marks_of_run k t r) e))
      (λ u y. follows k t u r y)
  follows n c w (Ends {v = v} p e le b) x = ends v e b
    where
      ends : (v : Halt) → op_step f.setup (part_from code.parts.items) code.ops.items c ≡ Stops v → OnViolation B c v → Runs f all Ended Came n w
      ends (conf.Violates v marks) e b =
          weaken Watched Violation (watch f.setup.mac) (λ w. 1) (Held f all) (Held f all) (With v marks) Ended (λ y. ⊥) Came (op_count no_count code.ops.items c) n w le (λ w x. x)
          (λ y u z. (marks, subst (λ (u : Violation). B u marks) (sym z.0) b, z.1)) (λ y z. absurd z) (op_breaks f st all window tag code sound narrow text call c v marks w out x p
          (at_end v marks b) e)
      ends conf.Stuck e b = absurd b

-- The marks of a course's ends are its own.

course_prefix : (r : Course) (P : Progress → Conf → Type 0) (t : Conf) → ((q : Progress) → P q t → t.marks ≡ q.marks) → CourseGoesOn r (λ q. P q t) → HasPrefix (marks_in (finished r)) t.marks
course_prefix (Going q) P t f x = ([], append-nil t.marks ∙ f q x)
course_prefix (Broken v q) P t f x = absurd x

breaks_prefix : (r : Course) (v : Violation) (marks : List Mark) → CourseBreaks r v marks → HasPrefix (marks_in (finished r)) marks
breaks_prefix (Going q) v marks x = absurd x
breaks_prefix (Broken w q) v marks x = ([], append-nil marks ∙ sym x.1)

breaks_aborts : (r : Course) (w : Watched) (v : Violation) (marks : List Mark) → CourseBreaks r v marks → w.marks ≡ marks → Aborted (finished r) w v
breaks_aborts (Going q) w v marks x e = absurd x
breaks_aborts (Broken u q) w v marks x e = record { progress = q; violates = ap (λ (z : Violation). Violates z q) x.0; marks = e ∙ sym x.1 }

course_tallied : (r : Course) → OnCourse r → bytes_in (pieces_in (finished r)) ≡ made_bytes (marks_in (finished r))
course_tallied (Going q) x = x
course_tallied (Broken v q) x = x

-- where a private section's word is in memory
private_word : (l : Layout) (m priv : List ℕ) (o : ℕ) → o % 2 ≡ 0 → length priv ≡ l.priv_to - l.priv_from → o + 2 ≤ length priv
    → ((i : ℕ) → o ≤ i → i < o + 2 → slice_index m (l.priv_from + i) ≡ slice_index priv i) → word (private_bytes l m) o ≡ word priv o
private_word l m priv o even size le f =
    let n = l.priv_to - l.priv_from in
    word_same priv (private_bytes l m) o o even even (bytes_from_get m l.priv_from n o (omega (arith, size, le))
    ∙ f o (omega arith) (omega arith)) (bytes_from_get m l.priv_from n (o + 1) (omega (arith, size, le)) ∙ f (o + 1) (omega arith) (omega arith))

-- Each part does its handler, wherever the section of its layout is.
module _ (mac : Mac) (tree : ModuleTree) (ends : List End) (code : Code) (tag : IsTag mac) (able : IsLowerable tree ends) (low : LowersTo tree ends code) (section : Section)
    (room : HasSections tree ends section.layout)
    (n : State) (e : SourceEvent) (h : HandlerTree) (k from to : ℕ) (is : handler_at tree e ≡ Some h) (handler : slice_get tree.handlers k ≡ Some h)
    (part : slice_get code.parts.items k ≡ Some (from, to)) where
  abbrev s : Setup
  s = setup_at mac tree ends section n

  abbrev l : Layout
  l = section.layout

  abbrev ops : List Ir
  ops = code.ops.items

  abbrev parts : List (ℕ × ℕ)
  parts = code.parts.items

  abbrev call : Call
  call = kept_on s n

  abbrev course : Course
  course = course_at s e n

  abbrev all : List Mark
  all = marks_in (finished course)

  abbrev f : Fixed
  f = fixed_from s n call.output all

  abbrev text : List ℕ
  text = bytes_of (text_words l code)

  abbrev at : ℕ → ℕ
  at = (addresses l code).at

  sound : AreSound ops parts l
  sound = are_sound ops parts l (body_sound tree ends code able low l room)

  size : l.priv_to - l.priv_from ≡ module_data_size tree (length ends)
  size = let private = room.private in omega (arith, private)

  at_is : (p : ℕ) → p ≤ length ops → at p ≡ l.pub_from + offset ops p
  at_is p le = let x = place_is (l.pub_from + 24) ops p le in omega (arith, x)

  -- it ends at the part's last operation
  abbrev AtEnd : Conf → Type 0
  AtEnd t = (t.place + 1 ≡ to) × (t.stack ≡ []) × (t.back ≡ None)

  abbrev After_ : Conf → Type 0
  After_ t = CourseGoesOn course (λ q. Represents s call q t × AtEnd t)

  tallied : bytes_in (pieces_in (finished course)) ≡ made_bytes all
  tallied = course_tallied course (handled_made s call tag e (progress_at s n) refl)

  few : (q : Progress) → course ≡ Going q → length q.pieces ≤ 16
  few q goes = subst (λ (r : Course). length (pieces_on r) ≤ 16) goes (handled_few s call e (progress_at s n) able.few_packets refl)

  module _ (b : BeginsHandler s text (offset ops from) e n) where
    abbrev first : Conf
    first = conf_at l n from

    resumes : Resumes s n call.output
    resumes = record { node = b.node; live = refl; lives = b.lives; current = b.current; last = b.last; stack = b.stack; window = b.window; devices = b.devices; room = room_of tree ends l room }

    stands_ : Stands f
    stands_ = stands s n call.output all resumes

    stands_text : (k : ℕ) → k < 2 * length (text_words l code) → slice_index n.mem (l.pub_from + k) ≡ slice_index text k
    stands_text k lt = let z = length-bytes (text_words l code) in sym (bytes_from_get n.mem l.pub_from (length text) k (omega (arith, lt, z))) ∙ ap (λ (t : List ℕ). slice_index t k) b.text

    narrow : (p : ℕ) (i : Ir) → slice_get ops p ≡ Some i → IsNarrow i
    unfolding text_words
    narrow =
        let memory = b.node.memory in
        let below : AreBelow 256 (text ++ []) = subst (AreBelow 256) (b.text ∙ sym (append-nil text)) (bytes_below n.mem l.pub_from (length text) memory.bytes) in
        body_narrow tree ends code able low l (addresses l code) (ops_below l ops parts [] below)

    -- the first configuration is one with which the handler begins
    begins_part : HandlerBegins s call e (progress_at s n) first
    begins_part =
        let memory = b.node.memory in
        let long = length-bytes_from n.mem l.priv_from (l.priv_to - l.priv_from) in
        record {
          represents = record {
            size = long ∙ size;
            bytes = AllBytes-bytes_from n.mem l.priv_from (l.priv_to - l.priv_from) (All-from_get_or (λ b. b < 256) n.mem 0 (λ i lt. memory.bytes i));
            state = refl;
            mem = refl;
            devices = refl;
            marks = refl;
            count = b.count;
            entry = refl;
            input = refl;
            output = refl;
            back = refl;
          };
          value = b.value;
          pieces = refl;
          unkeyed = refl;
          stack = refl;
          window = b.window;
          devices = b.devices;
        }

    run : DoesCourse s call (part_from parts) no_count ops course AtEnd (handler_cost h) first
    run =
        let listed = ap (λ (l : List (ℕ × ℕ)). slice_get l k) (sym low.is.parts) ∙ part in
        subst (λ (o : List Ir). DoesCourse s call (part_from parts) no_count o course AtEnd (handler_cost h) first) (sym low.is.ops)
        (lowered_ends s (part_from parts) no_count e h k from to able is handler listed call (progress_at s n) first refl begins_part)

    -- the node at the end
    handled_at : (w : Watched) → (t : Conf) × Stood f all at t w × After_ t → HasHandled s call.output course n (offset ops (to - 1)) w
    handled_at w (t, x, y) = go course refl y
      where
        go : (r : Course) → course ≡ r → CourseGoesOn r (λ q. Represents s call q t × AtEnd t) → HasHandled s call.output course n (offset ops (to - 1)) w
        go (Broken v q) goes y = absurd y
        go (Going q) goes y =
            let represents = y.0 in
            let place = y.1.0 in
            let written = handled_written s call e (progress_at s n) q tag refl b.node.memory.size b.window goes (few q goes) in
            let holds = x.shows.holds in
            let memory = ap (λ (w : Watched). w.node.mem) x.state in
            let within = (part_within tree ends code able low k from to part).1 in
            let last : t.place ≡ to - 1 = omega (arith, place) in
            let fits = written.fits in
            let top = holds.top in
            let none = ap length y.1.1 in
            record {
              progress = q;
              goes = goes;
              current = ap (λ (w : Watched). w.node.cur) x.state;
              at = ap (λ (w : Watched). slice_index w.node.regs 0) x.state ∙ x.shows.pc ∙ at_is t.place (omega (arith, place, within)) ∙ ap (λ (p : ℕ). l.pub_from + offset ops p) last;
              stack = ap (λ (w : Watched). slice_index w.node.regs 1) x.state ∙ omega (arith, top, none);
              state = state_in_memory tree ends l w.node.mem t.priv (represents.size ∙ sym size) (λ o le lt. ap (λ (m : List ℕ). slice_index m (l.priv_from + o)) memory
                  ∙ holds.bytes o (record { low = omega (arith, le); beside = inr le }) lt) ∙ represents.state;
              count = (let long = represents.size in private_word l w.node.mem t.priv 4 refl (represents.size ∙ sym size) (omega (arith, long))
                  (λ i lo hi. ap (λ (m : List ℕ). slice_index m (l.priv_from + i)) memory
                  ∙ holds.bytes i (record { low = omega (arith, lo); beside = inl (omega (arith, hi)) }) (omega (arith, hi, long)))) ∙ represents.count;
              sections = ap (λ (w : Watched). w.node.sections) x.state;
              outside = λ a off not. ap (λ (m : List ℕ). slice_index m a) memory ∙ holds.others a off ∙ ap (λ (m : List ℕ). slice_index m a) represents.mem ∙ written.outside a off not;
              pieces = stand_same q.mem w.node.mem call.output q.pieces (λ k lo hi. ap (λ (m : List ℕ). slice_index m k) memory
                  ∙ holds.others k (outside_window s call.output k b.window lo (omega (arith, hi, fits))) ∙ ap (λ (m : List ℕ). slice_index m k) represents.mem) written.pieces;
              marks = ap (λ (w : Watched). w.marks) x.state ∙ x.shows.marks ∙ represents.marks;
            }

    moment : (w : Watched) → Held f all w → Handling s call.output course n w
    moment w x = let safe = x.0 in
        record { inside = safe.inside; sections = safe.sections; outside = outside_kept s n call.output all resumes (pieces_in (finished course)) w tallied safe; marks = safe.marks }

    pub does_handler : Comes Watched Violation (watch mac) (λ w. 1) (Handling s call.output course n) (Aborted (finished course)) (HasHandled s call.output course n (offset ops (to - 1)))
        (handler_cost h) (begins n)
    does_handler =
        let inside = (part_within tree ends code able low k from to part).0 in
        let place = at_is from (omega (arith, inside)) in
        let less = bytes_within from ops in
        let fits = sound.fits in
        let stood = begins_at s n call.output all resumes at from (b.at ∙ sym place) (omega (arith, place)) (omega (arith, place, less, fits)) in
        let at_exit = λ (t : Conf) (y : After_ t). course_prefix course (λ q t. Represents s call q t × AtEnd t) t (λ q z. z.0.marks) y in
        let at_end = λ (v : Violation) (marks : List Mark) (y : CourseBreaks course v marks). breaks_prefix course v marks y in
        let regular = runs_regular s (private_bytes l n.mem) ops parts (length ops) (length parts) (module_data_size tree (length ends)) low.does.fits.sound call all (CourseBreaks course) After_ at_exit at_end
        (handler_cost h) first refl (omega arith) tt b.node.samples (inr (same_slots (length ends) (private_bytes l n.mem))) run in
        weaken Watched Violation (watch mac) (λ w. 1) (Held f all) (Handling s call.output course n) (λ w v. (marks : List Mark) × CourseBreaks course v marks
        × (w.marks ≡ marks)) (Aborted (finished course)) (λ w. (t : Conf) × Stood f all at t w × After_ t) (HasHandled s call.output course n (offset ops (to - 1)))
        (handler_cost h) (handler_cost h) (begins n) (omega arith) moment (λ w v y. breaks_aborts course w v y.0 y.1 y.2) handled_at
        (follows f stands_ all refl tag code sound narrow stands_text call refl (CourseBreaks course) After_ at_exit at_end (handler_cost h) first (begins n) regular.1 stood)
