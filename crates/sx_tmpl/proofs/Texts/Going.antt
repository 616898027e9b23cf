-- Emitted text in mid-run: from wherever the node stands for a configuration, each operation goes on or ends in its violation.
use Rattle.std.proofs.Common.{◌≡◌, ℕ, zero, suc, ◌+◌, ◌*◌, ◌<◌, ◌≤◌, Bool, true, false, not, List, [], ◌∷◌, length, Some, refl, sym, ap, ◌∙◌, subst, arith}
use Rattle.std.specs.Prelude.{slice_index, slice_get, min}
use Rattle.std.proofs.Math.Nat.{le-min}
use Rattle.std.proofs.lemmas.Bool.{true≢false}
use Rattle.sx_rules.specs.declared.access.Violation.{Violation}
use Rattle.sx_tag.specs.Mac.{IsTag}
use Rattle.spec_machine.proofs.Devices.{device_there, sample_small}
use Rattle.sx_image.specs.Reach.{Goes, Stops}
use Rattle.spec_invocation.specs.Marks.{HasPrefix, Mark}
use Rattle.spec_invocation.specs.Pieces.{made_bytes}
use Rattle.spec_invocation.specs.Windows.{is_bad_window}
use Rattle.sx_image.specs.Watched.{Watched}
use Rattle.sx_ir.specs.Conf.{Conf, Halt}
use Rattle.sx_ir.specs.Conf as conf
use Rattle.sx_ir.specs.declared.ir.Code.{Code}
use Rattle.sx_ir.specs.declared.ir.Ir.{Ir}
use Rattle.sx_ir.specs.Meaning.{no_count, OperationResult, op_count, op_step, part_from}
use Rattle.sx_tmpl.specs.Performs.{IsNarrow, IsRegular, Never, ReturnsBehind, With}
use Rattle.sx_image.specs.Image.{private_bytes}
use Rattle.sx_tmpl.specs.Running.{Fixed, pieces_end}
use Rattle.sx_tmpl.proofs.Running.Outcomes.{goes_same, goes_stops, stops_same}
use Rattle.sx_tmpl.proofs.Running.MidRun.{Runs, Stands}
use Rattle.sx_tmpl.specs.Shows.{Stood}
use Rattle.sx_tmpl.specs.Template.{Addresses}
use Rattle.sx_tmpl.specs.Text.{addresses, bytes_of, part_place, text_words}
use Rattle.sx_tmpl.proofs.Texts.SoundOps.{AreSound, sound_op}
use Rattle.sx_tmpl.proofs.Texts.TextStands.{code_emitted, packet_text, slots_text, target, zero_text}
use Rattle.sx_tmpl.proofs.Texts.Whole.{Emitted, Good, IsTarget, step_goes, step_stops}
use Rattle.spec_invocation.specs.Setup.{Call}

-- What `part_from` does.

stuck_goes : (b : Conf) → ◌≡◌ {A = OperationResult} (Stops conf.Stuck) (Goes b) → ⊥
stuck_goes b e = cc

part_goes : (parts : List (ℕ × ℕ)) (h : ℕ) (c t : Conf) → part_from parts h c ≡ Goes t → record c { place = part_place parts h; back = Some (c.place + 1) } ≡ t
part_goes [] h c t e = absurd (stuck_goes t e)
part_goes (p ∷ parts) zero c t e = goes_same (record c { place = p.0; back = Some (c.place + 1) }) t e
part_goes (p ∷ parts) (suc h) c t e = part_goes parts h c t e

part_stops : (parts : List (ℕ × ℕ)) (h : ℕ) (c : Conf) (w : Halt) → part_from parts h c ≡ Stops w → conf.Stuck ≡ w
part_stops [] h c w e = stops_same conf.Stuck w e
part_stops (p ∷ parts) zero c w e = absurd (goes_stops (record c { place = p.0; back = Some (c.place + 1) }) w e)
part_stops (p ∷ parts) (suc h) c w e = part_stops parts h c w e

module _ (f : Fixed) (st : Stands f) (all : List Mark) (window : f.to ≡ pieces_end (is_bad_window f.setup f.from 384) f.from (made_bytes all)) (tag : IsTag f.setup.mac) (code : Code)
    (sound : AreSound code.ops.items code.parts.items f.setup.section.layout)
    (narrow : (p : ℕ) (i : Ir) → slice_get code.ops.items p ≡ Some i → IsNarrow i) (text : (k : ℕ) → k < 2 * length (text_words f.setup.section.layout code)
    → slice_index f.entered (f.setup.section.layout.pub_from + k) ≡ slice_index (bytes_of (text_words f.setup.section.layout code)) k) where
  abbrev ops : List Ir
  ops = code.ops.items

  abbrev parts : List (ℕ × ℕ)
  parts = code.parts.items

  abbrev a : Addresses
  a = addresses f.setup.section.layout code

  abbrev Sim : Conf → Watched → Type 0
  Sim c w = Stood f all a.at c w

  there : (q : ℕ) → q ≤ length ops → IsTarget f (a.at q)
  there = target f st code text sound.fits

  pub done : Emitted f a ops
  done = code_emitted f st code text sound.fits
      (λ p i h. sound_op f st a parts ops sound (λ h. refl) there (packet_text f st code text sound.fits) (slots_text f st code text sound.fits) (zero_text f st code text sound.fits) narrow p i h (sound.each p i h))

  -- a configuration that is regular is one that templates can run from
  good : (call : Call) (c : Conf) → call.output ≡ f.from → IsRegular (length f.setup.ends) (private_bytes f.setup.section.layout f.entered) ops call all c → Good f all a ops c
  good call c out h = record {
    marks = h.marks;
    stack = h.room;
    from = h.window ∙ out;
    to = λ ok k short few. to (is_bad_window f.setup f.from 384) (sym window) (sym (ap (λ (x : ℕ). not (is_bad_window f.setup x 384)) (h.window ∙ out)) ∙ ok) k short few;
    sensor = λ i w found. sample_small c.devices i w h.samples (device_there c.devices f.setup.section.layout.priv_from i w found);
    back = λ p is. back p (subst (ReturnsBehind ops) is h.back);
    slots = h.slots;
  }
    where
      to : (b : Bool) → pieces_end b f.from (made_bytes all) ≡ f.to → not b ≡ true → (k : ℕ) → k ≤ 384 → k ≤ made_bytes all → f.from + k ≤ f.to
      to false e ok k short few = let m : k ≤ min (made_bytes all) 384 = le-min few short in omega (arith, m, e)
      to true e ok k short few = absurd (true≢false (sym ok))

      back : (p : ℕ) → ReturnsBehind ops (Some p) → IsTarget f (a.at p)
      back p (q, i, is, here) =
          let t = done.stands q i here in
          let next = done.following q i here in
          let from = t.from in
          let to = t.to in
          let ev = t.is_even in
          let z : a.at p ≡ a.at (q + 1) = ap a.at is in
          (record { from = omega (arith, z, next, from); to = omega (arith, z, next, to) }, omega (arith, z, next, ev))

  -- an operation that goes on
  pub op_goes_on : (call : Call) (c t : Conf) (w : Watched) → call.output ≡ f.from → Sim c w → IsRegular (length f.setup.ends) (private_bytes f.setup.section.layout f.entered) ops call all c → HasPrefix all t.marks → op_step f.setup (part_from parts) ops c ≡ Goes t
      → Runs f all Never (Sim t) (op_count no_count ops c) w
  op_goes_on call c t w out x h begins is = step_goes f st all (λ v m. ⊥) (λ v m b. absurd b) tag a ops done (part_from parts) (part_goes parts) (part_stops parts) no_count c t w x
      (good call c out h) is begins

  -- an operation that breaks
  pub op_breaks : (call : Call) (c : Conf) (v : Violation) (marks : List Mark) (w : Watched) → call.output ≡ f.from → Sim c w → IsRegular (length f.setup.ends) (private_bytes f.setup.section.layout f.entered) ops call all c → HasPrefix all marks
      → op_step f.setup (part_from parts) ops c ≡ Stops (conf.Violates v marks) → Runs f all (With v marks) (λ x. ⊥) (op_count no_count ops c) w
  op_breaks call c v marks w out x h begins is =
      step_stops f st all (λ u m. (u ≡ v) × (m ≡ marks)) (λ u m b. subst (λ l. HasPrefix all l) (sym b.1) begins) tag a ops done (part_from parts) (part_goes parts) (part_stops parts) no_count c
      (conf.Violates v marks) w x (good call c out h) is (refl, refl)
