-- What is given and taken below 0x0200.
use Rattle.std.proofs.Common.{◌≡◌, ℕ, ◌+◌, ◌≤◌, ◌||◌, not, if◌then◌else◌, length, Some, None, ◌∙◌, ap, arith}
use Rattle.std.proofs.lemmas.Bool.{eq-eqb, le-ltb, or_from}
use Rattle.sx_bus.specs.Devices.{places_of}
use Rattle.spec_machine.specs.declared.kinds.Refused.TheVariants.{Busy, Guarded}
use Rattle.spec_machine.specs.Memory.{bytes_from}
use Rattle.spec_machine.specs.Ranges.{meets, meets_device, meets_private, passes_end}
use Rattle.spec_machine.specs.State.{State}
use Rattle.spec_machine.specs.Acts.{take as take_from, take_refusal, unless}
use Rattle.spec_machine.proofs.Frame.{none_pass}
use Rattle.spec_run.specs.Acts.{after_take, at_node}
use Rattle.spec_run.specs.Run.{give}
use Rattle.law_setup.proofs.forms.Acting.{PacketGiven, PieceTaken}
use Rattle.law_setup.proofs.Free.{IsOpen, apart_meets, low_open, no_place, one_put, open_free}

pub packet_given : PacketGiven
packet_given set w k n at bytes s got there idle low le =
    ap (give w n at) got ∙ one_put n at bytes w s there (open_free s 0 512 at (length bytes) (low_open s idle low) (omega arith) le)

open_taken : (s : State) (lo hi a n : ℕ) → IsOpen s lo hi → lo ≤ a → a + n ≤ hi → take_refusal s a n ≡ None
open_taken s lo hi a n o la ha =
    let inside = o.within in
    let p : passes_end a n ≡ Rattle.std.proofs.Common.false = le-ltb 65536 (a + n) (omega (arith, ha, inside)) in
    let r : meets_private s.sections.live a n ≡ Rattle.std.proofs.Common.false =
    none_pass (λ x. meets a n x.layout.priv_from x.layout.priv_to) s.sections.live (λ x l. apart_meets lo hi x.layout.priv_from x.layout.priv_to a n (o.private x l) la ha) in
    let d = no_place (places_of s.devices) lo hi a n o.devices la ha in
    let all : (passes_end a n || (meets_private s.sections.live a n || meets_device (places_of s.devices) a n)) ≡ Rattle.std.proofs.Common.false =
    or_from (passes_end a n) _ p (or_from (meets_private s.sections.live a n) (meets_device (places_of s.devices) a n) r d) in
    ap (λ b. if not b then Some Busy else if passes_end a n || (meets_private s.sections.live a n || meets_device (places_of s.devices) a n) then Some Guarded else None) (eq-eqb s.cur 0 o.idle)
    ∙ ap (λ b. if b then Some Guarded else None) all

pub piece_taken : PieceTaken
piece_taken set w n at len s there idle low le =
    ap (at_node w (λ s. after_take w n (take_from s at len).shown)) there
    ∙ ap (λ o. after_take w n (unless o s (record { state = s; shown = bytes_from s.mem at len })).shown) (open_taken s 0 512 at len (low_open s idle low) (omega arith) le)
