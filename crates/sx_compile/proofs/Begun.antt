-- The first configuration of a call, as an entered node gives it; and the state that memory represents.
use Rattle.std.proofs.Common.{◌≡◌, ℕ, ◌+◌, ◌-◌, ◌<◌, ◌≤◌, ⊎_elim, List, length, get_or, All, refl, sym, ◌∙◌, subst, arith}
use Rattle.std.specs.Prelude.{slice_index}
use Rattle.std.proofs.Math.ListN.{get_or-eq_default}
use Rattle.std.proofs.lemmas.Bool.{cases_lt}
use Rattle.sx_lang.specs.Sizes.{module_data_size}
use Rattle.sx_lang.specs.Tree.{ModuleTree}
use Rattle.sx_mean.specs.declared.events.End.{End}
use Rattle.sx_mean.specs.Application.{declared_kind}
use Rattle.sx_rules.specs.declared.section.Layout.{Layout}
use Rattle.sx_rules.specs.declared.section.Section.{Section}
use Rattle.sx_tag.specs.Mac.{IsTag, Mac}
use Rattle.spec_machine.specs.Memory.{put_word}
use Rattle.spec_machine.specs.State.{State}
use Rattle.spec_invocation.specs.ModuleState.{state_of}
use Rattle.spec_invocation.specs.Devices.{HasDevices}
use Rattle.sx_image.specs.Image.{Enters, Image, call_at, private_bytes, progress_at, setup_at}
use Rattle.sx_stub.specs.Invokes.{CallBegun}
use Rattle.sx_stub.proofs.Mem.{AllBytes-bytes_from, AllBytes-put_word, get-put_other, word-put_other, word-put_same}
use Rattle.sx_stub.proofs.Packets.{bytes_from_get}
use Rattle.sx_stub.proofs.Slots.{state_same}
use Rattle.sx_tmpl.specs.Performs.{entry_conf}
use Rattle.spec_machine.proofs.Lengths.{length-bytes_from, length-put_word}

-- memory that has the private section's data from 512 on represents its state
pub state_in_memory : (tree : ModuleTree) (ends : List End) (l : Layout) (mem priv : List ℕ) → length priv ≡ l.priv_to - l.priv_from
    → ((o : ℕ) → 512 ≤ o → o < length priv → get_or mem (l.priv_from + o) 0 ≡ get_or priv o 0) → state_of tree ends (private_bytes l mem) ≡ state_of tree ends priv
state_in_memory tree ends l mem priv size f =
    state_same tree ends priv (private_bytes l mem) (λ i le.
    ⊎_elim (λ (p : i < length priv). bytes_from_get mem l.priv_from (l.priv_to - l.priv_from) i (omega (arith, p, size)) ∙ f i le p)
    (λ (p : length priv ≤ i). let n = length-bytes_from mem l.priv_from (l.priv_to - l.priv_from) in
    let q : length (private_bytes l mem) ≤ i = omega (arith, n, p, size) in
    get_or-eq_default (private_bytes l mem) 0 q ∙ sym (get_or-eq_default priv 0 p))
    (cases_lt i (length priv)))

pub begun_at : (mac : Mac) (tree : ModuleTree) (ends : List End) (image : Image) (section : Section) (n : State) → Enters tree image section n → All (λ b. b < 256) n.mem → IsTag mac
    → length ends ≤ 16 → All (λ e. e.link < 256) ends
    → section.layout.priv_to - section.layout.priv_from ≡ module_data_size tree (length ends)
    → CallBegun (setup_at mac tree ends section n) (call_at n) (progress_at (setup_at mac tree ends section n) n) (entry_conf section.layout n)
begun_at mac tree ends image section n enters bytes tag few links size =
    let p0 = private_bytes section.layout n.mem in
    let p1 = put_word p0 6 (slice_index n.regs 12) in
    let p2 = put_word p1 8 (slice_index n.regs 13) in
    let p3 = put_word p2 10 (slice_index n.regs 14) in
    let p4 = put_word p3 12 (slice_index n.regs 15) in
    let l0 = length-bytes_from n.mem section.layout.priv_from (section.layout.priv_to - section.layout.priv_from) in
    let l1 = length-put_word p0 6 (slice_index n.regs 12) in
    let l2 = length-put_word p1 8 (slice_index n.regs 13) in
    let l3 = length-put_word p2 10 (slice_index n.regs 14) in
    let l4 = length-put_word p3 12 (slice_index n.regs 15) in
    let w = enters.node.registers.words in
    record {
      shows = record {
        size = l4 ∙ l3 ∙ l2 ∙ l1 ∙ l0 ∙ size;
        bytes = AllBytes-put_word p3 12 (slice_index n.regs 15) (w 15) (AllBytes-put_word p2 10 (slice_index n.regs 14) (w 14) (AllBytes-put_word p1 8 (slice_index n.regs 13) (w 13)
            (AllBytes-put_word p0 6 (slice_index n.regs 12) (w 12) (AllBytes-bytes_from n.mem section.layout.priv_from (section.layout.priv_to - section.layout.priv_from) bytes))));
        state = state_same tree ends p0 p4 (λ i le.
            get-put_other p3 12 (slice_index n.regs 15) i refl (omega (arith, le)) (omega (arith, le)) ∙ get-put_other p2 10 (slice_index n.regs 14) i refl (omega (arith, le)) (omega (arith, le))
            ∙ get-put_other p1 8 (slice_index n.regs 13) i refl (omega (arith, le)) (omega (arith, le)) ∙ get-put_other p0 6 (slice_index n.regs 12) i refl (omega (arith, le)) (omega (arith, le)));
        mem = refl;
        devices = refl;
        marks = refl;
        entry = word-put_other p3 12 (slice_index n.regs 15) 6 refl refl (omega arith) ∙ word-put_other p2 10 (slice_index n.regs 14) 6 refl refl (omega arith)
            ∙ word-put_other p1 8 (slice_index n.regs 13) 6 refl refl (omega arith) ∙ word-put_same p0 6 (slice_index n.regs 12) refl (omega (arith, l0, size));
        input = word-put_other p3 12 (slice_index n.regs 15) 8 refl refl (omega arith) ∙ word-put_other p2 10 (slice_index n.regs 14) 8 refl refl (omega arith)
            ∙ word-put_same p1 8 (slice_index n.regs 13) refl (omega (arith, l0, l1, size));
        output = word-put_other p3 12 (slice_index n.regs 15) 10 refl refl (omega arith) ∙ word-put_same p2 10 (slice_index n.regs 14) refl (omega (arith, l0, l1, l2, size));
        back = word-put_same p3 12 (slice_index n.regs 15) refl (omega (arith, l0, l1, l2, l3, size));
      };
      pieces = refl;
      unmarked = refl;
      back = refl;
      mem = bytes;
      tag = tag;
      few = few;
      links = links;
      devices = subst (λ (l : Layout). HasDevices n.devices (declared_kind tree.decls) l) (sym enters.stands.layout) enters.devices;
      samples = enters.node.samples;
    }
