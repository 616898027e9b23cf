-- The emitted text does its code.
use Rattle.std.proofs.Common.{◌≡◌, ℕ, ◌+◌, ◌-◌, ◌*◌, ◌<◌, ◌≤◌, true, false, List, [], ◌∷◌, ◌++◌, length, Some, refl, sym, ap, ◌∙◌, subst, arith}
use Rattle.std.specs.Prelude.{slice_index, slice_get, replicate}
use Rattle.std.proofs.lemmas.List.{get_or_append_left}
use Rattle.sx_mean.specs.Application.{declared_kind}
use Rattle.sx_rules.specs.declared.access.Violation.{Violation}
use Rattle.sx_rules.specs.declared.section.Layout.{Layout}
use Rattle.sx_rules.specs.Access.{in_public}
use Rattle.sx_tag.specs.Mac.{IsTag, Mac}
use Rattle.spec_machine.specs.Memory.{even}
use Rattle.spec_machine.specs.State.{State}
use Rattle.sx_image.specs.Reach.{Goes, Stops}
use Rattle.sx_image.proofs.Reaching.{and_then, weaken}
use Rattle.spec_invocation.specs.Setup.{Setup}
use Rattle.spec_invocation.specs.Devices.{HasDevices}
use Rattle.spec_invocation.specs.Marks.{HasPrefix, Mark}
use Rattle.spec_invocation.specs.Pieces.{made_bytes}
use Rattle.spec_invocation.specs.Progress.{Invoked, bytes_in, marks_in, pieces_in}
use Rattle.sx_image.specs.Watched.{Watched, watch}
use Rattle.sx_image.specs.Image.{call_at, private_bytes, public_bytes, setup_at}
use Rattle.sx_ir.specs.Conf.{Conf}
use Rattle.sx_ir.specs.Conf as conf
use Rattle.sx_ir.specs.declared.ir.Code.{Code}
use Rattle.sx_ir.specs.declared.ir.Ir.{Ir}
use Rattle.sx_ir.specs.declared.ir.Ir.TheVariants as ir
use Rattle.sx_ir.specs.Meaning.{no_count, Leaving, op_count, op_step, part_from, saved}
use Rattle.sx_ir.specs.Sound.{is_sound}
use Rattle.sx_tmpl.specs.Performs.{DoesCode, HasRoom, IsNarrow, IsRegular, LeftFrom, Never, Performs, With}
use Rattle.sx_tmpl.specs.Performs as upper
use Rattle.sx_tmpl.specs.Running.{Fixed, running, fixed_at, Safe}
use Rattle.sx_tmpl.proofs.Running.MidRun.{Held, Runs, Stands}
use Rattle.sx_tmpl.specs.Shows.{MemoryHolds, ShowsConfiguration, Stood, base_of}
use Rattle.sx_tmpl.specs.Template.{Addresses}
use Rattle.sx_tmpl.specs.Text.{addresses, bytes_of, text_words}
use Rattle.sx_tmpl.proofs.Operations.Branch.{jump_leads}
use Rattle.sx_tmpl.proofs.Texts.Entering.{Ready, bytes_from_get, enters, sections_same, sp_even, stands, weak}
use Rattle.sx_tmpl.proofs.Operations.Leave.{Departed, leave_run}
use Rattle.sx_tmpl.proofs.Texts.SoundOps.{AreSound, are_sound}
use Rattle.sx_tmpl.proofs.Running.Steps.{Text}
use Rattle.sx_tmpl.proofs.Texts.TextBytes.{length-bytes, text_size}
use Rattle.sx_tmpl.proofs.Texts.TextStands.{entry_text, exit_text, first_at}
use Rattle.sx_tmpl.proofs.Texts.Going as going
use Rattle.sx_tmpl.proofs.Texts.Whole.{Emitted}

module _ (s : Setup) (n : State) (result : Invoked) (e : Ready s n) (sizes : bytes_in (pieces_in result) ≡ made_bytes (marks_in result)) (tag : IsTag s.mac) (code : Code)
    (sound : AreSound code.ops.items code.parts.items s.section.layout) (narrow : (p : ℕ) (i : Ir) → slice_get code.ops.items p ≡ Some i → IsNarrow i)
    (text : (k : ℕ) → k < 2 * length (text_words s.section.layout code) → slice_index n.mem (s.section.layout.pub_from + k) ≡ slice_index (bytes_of (text_words s.section.layout code)) k) where
  abbrev f : Fixed
  f = fixed_at s n result

  abbrev ops : List Ir
  ops = code.ops.items

  abbrev parts : List (ℕ × ℕ)
  parts = code.parts.items

  abbrev all : List Mark
  all = marks_in result

  abbrev a : Addresses
  a = addresses s.section.layout code

  abbrev Sim : Conf → Watched → Type 0
  Sim c w = Stood f all a.at c w

  abbrev st : Stands f
  st = stands s n result e

  done : Emitted f a ops
  done = going.done f st all refl tag code sound narrow text

  goes : (c t : Conf) (w : Watched) → Sim c w → IsRegular (length s.ends) (private_bytes s.section.layout n.mem) ops (call_at n) all c → HasPrefix all t.marks → op_step s (part_from parts) ops c ≡ Goes t
      → upper.NodeRuns s result n Never (Sim t) (op_count no_count ops c) w
  goes c t w x h begins is =
      weak s n result e sizes Never Never (Sim t) (Sim t) (op_count no_count ops c) w (λ w v x. x) (λ w x. x)
      (going.op_goes_on f st all refl tag code sound narrow text (call_at n) c t w refl x h begins is)

  stops : (c : Conf) (v : Violation) (marks : List Mark) (w : Watched) → Sim c w → IsRegular (length s.ends) (private_bytes s.section.layout n.mem) ops (call_at n) all c → HasPrefix all marks
      → op_step s (part_from parts) ops c ≡ Stops (conf.Violates v marks)
      → upper.NodeRuns s result n (With v marks) (λ x. ⊥) (op_count no_count ops c) w
  stops c v marks w x h begins is =
      weak s n result e sizes (With v marks) (With v marks) (λ x. ⊥) (λ x. ⊥) (op_count no_count ops c) w (λ w v x. x) (λ w x. x)
      (going.op_breaks f st all refl tag code sound narrow text (call_at n) c v marks w refl x h begins is)

  exit : Text f (a.at a.exit) 17 (Rattle.sx_tmpl.specs.Template.leave_words (base_of f))
  exit = exit_text f (stands s n result e) code text sound.fits

  -- a jump to the exit, and the exit
  departs : (t : Conf) (status count : ℕ) (w : Watched) → Sim t w → Leaving ops status count t → in_public s.section (even (saved t 15)) ≡ false
      → Runs f all Never (λ w. Departed f a.at t status count w) 16 w
  departs t status count w x leaving out =
      let rest = leaving.rest in
      let stack : t.stack ≡ count ∷ status ∷ rest = leaving.stack in
      let at_exit : Conf = record t { place = a.exit } in
      let jump = jump_leads f st all Never a.at t a.exit (record { from = exit.from; to = omega (arith, exit.to) }) exit.is_even x.regs x.rest (done.stands t.place ir.Leave leaving.at)
      (done.following t.place ir.Leave leaving.at) x.shows (subst (λ w. Safe f all w) x.state x.safe) in
      subst (λ u. Runs f all Never (λ w. Departed f a.at t status count w) 16 u) (sym x.state)
      (and_then Watched Violation (watch s.mac) (λ _. 1) (Held f all) Never (Stood f all a.at at_exit) (λ w. Departed f a.at t status count w) 1 15 16 (running f x.regs x.rest) (omega arith) jump
      (λ u z.
      let same : record at_exit { stack = count ∷ status ∷ rest } ≡ at_exit = ap (λ l. record at_exit { stack = l }) (sym stack) in
      let long : 14 ≤ length t.priv = omega (arith, z.shows.holds.size, st.room) in
      let run = leave_run f st all Never a.at at_exit status count rest (sp_even s n result e) out long z.regs z.rest exit (subst (λ c. ShowsConfiguration f a.at c z.regs z.rest) (sym same) z.shows)
      (subst (λ w. Safe f all w) z.state z.safe) in
      weaken Watched Violation (watch s.mac) (λ _. 1) (Held f all) (Held f all) Never Never (Departed f a.at (record at_exit { stack = count ∷ status ∷ rest }) status count)
      (λ w. Departed f a.at t status count w) 15 15 u (omega arith) (λ u p. p) (λ u v b. b)
      (λ y q. record {
        rest = q.rest;
        state = q.state;
        kept = q.kept;
        sp = q.sp;
        holds = subst (λ l. MemoryHolds f a.at t.back l t.priv t.mem q.sp q.rest.mem) (sym stack) q.holds;
        devices =
            q.devices;
        marks = q.marks;
      })
      (subst (λ u. Runs f all Never (Departed f a.at (record at_exit { stack = count ∷ status ∷ rest }) status count) 15 u) (sym z.state) run)))

  left_from : (t : Conf) (status count : ℕ) (w : Watched) → saved t 15 ≡ (call_at n).back → Departed f a.at t status count w → LeftFrom s n status count t w
  left_from t status count w is q = record {
    left = ap (λ (w : Watched). w.event) q.state;
    idle = ap (λ (w : Watched). w.node.cur) q.state;
    registers = ap (λ (w : Watched). w.node.regs) q.state ∙ ap (λ (b : ℕ). even b ∷ slice_index n.regs 1 ∷ 0 ∷ slice_index n.regs 3 ∷ (replicate 8 0 ++ status ∷ count ∷ 0 ∷ 0 ∷ [])) is;
    bytes = λ o counts lt. ap (λ (w : Watched). slice_index w.node.mem (s.section.layout.priv_from + o)) q.state ∙ q.holds.bytes o (record { low = counts.0; beside = counts.1 }) lt;
    outside = λ at off. ap (λ (w : Watched). slice_index w.node.mem at) q.state ∙ q.holds.others at off;
    sections = ap (λ (w : Watched). w.node.sections) q.state ∙ sections_same s n result e;
    marks = ap (λ (w : Watched). w.marks) q.state ∙ q.marks;
  }

  leaves : (t : Conf) (w : Watched) (status count : ℕ) → Sim t w → HasPrefix all t.marks → Leaving ops status count t → saved t 15 ≡ (call_at n).back
      → in_public s.section (even (call_at n).back) ≡ false → upper.NodeRuns s result n Never (LeftFrom s n status count t) 16 w
  leaves t w status count x begins leaving is out =
      weak s n result e sizes Never Never (λ w. Departed f a.at t status count w) (LeftFrom s n status count t) 16 w (λ w v x. x) (λ w q. left_from t status count w is q)
      (departs t status count w x leaving (ap (λ (b : ℕ). in_public s.section (even b)) is ∙ out))

  pub performs : Performs s code n result Sim
  performs = record {
    enters = enters s n result e sizes a.at (entry_text f (stands s n result e) code text sound.fits) (first_at f (stands s n result e) code text sound.fits);
    goes = goes;
    stops = stops;
    leaves = leaves;
  }

-- wherever the text of sound code is
pub text_does : (mac : Mac) (code : Code) (l : Layout) → IsTag mac → HasRoom l → is_sound code.ops.items code.parts.items l ≡ true → DoesCode mac code l (bytes_of (text_words l code))
text_does mac code l tag room sound tree ends image section n result rest same is narrow enters sizes =
    let s = setup_at mac tree ends section n in
    let here : section.layout ≡ l = enters.stands.layout ∙ same in
    let ok : is_sound code.ops.items code.parts.items section.layout ≡ true = ap (λ (l : Layout). is_sound code.ops.items code.parts.items l) here ∙ sound in
    let all_sound = are_sound code.ops.items code.parts.items section.layout ok in
    let fits = all_sound.fits in
    let ready : Ready s n = record {
      node = enters.node;
      live = refl;
      idle = enters.idle;
      entry = enters.entry ∙ ap (λ (l : Layout). l.pub_from) (sym enters.stands.layout);
      lives = enters.stands.lives;
      devices = subst (λ (l : Layout). HasDevices n.devices (declared_kind tree.decls) l) (sym enters.stands.layout) enters.devices;
      room = subst (λ (l : Layout). HasRoom l) (sym here) room;
      begins = omega (arith, fits);
    } in
    let there : public_bytes section.layout n.mem ≡ bytes_of (text_words section.layout code) ++ rest =
    ap (λ (l : Layout). public_bytes l n.mem) enters.stands.layout ∙ enters.stands.text ∙ is ∙ ap (λ (l : Layout). bytes_of (text_words l code) ++ rest) (sym here) in
    let size = text_size section.layout code in
    let words = length-bytes (text_words section.layout code) in
    subst (λ (l : Layout). Performs s code n result (Stood (fixed_at s n result) (marks_in result) (addresses l code).at)) here
    (performs s n result ready sizes tag code all_sound narrow (λ k lt.
    sym (bytes_from_get n.mem section.layout.pub_from (section.layout.pub_to - section.layout.pub_from) k (omega (arith, lt, fits, size, words)))
    ∙ ap (λ (t : List ℕ). slice_index t k) there ∙ get_or_append_left (bytes_of (text_words section.layout code)) rest 0 k (omega (arith, lt, words))))
