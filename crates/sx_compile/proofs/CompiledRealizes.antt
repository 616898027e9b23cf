-- A module's image realizes it.
use Rattle.std.proofs.Common.{◌≡◌, ℕ, ◌+◌, ◌-◌, ◌<◌, true, List, ◌++◌, length, replicate, Some, refl, sym, ap, ◌∙◌, subst, arith}
use Rattle.std.specs.Prelude.{slice_get}
use Rattle.std.specs.List.{All, list_all}
use Rattle.std.proofs.lemmas.List.Elements.{All-from_get_or}
use Rattle.std.proofs.lemmas.List.{length-append, length-replicate}
use Rattle.sx_lang.specs.Sizes.{module_cost, module_data_size, module_weight}
use Rattle.sx_lang.specs.Tree.{ModuleTree}
use Rattle.sx_mean.specs.declared.events.End.{End}
use Rattle.sx_rules.specs.declared.access.Violation.{Violation}
use Rattle.sx_rules.specs.declared.section.Layout.{Layout}
use Rattle.sx_rules.specs.declared.section.Section.{Section}
use Rattle.sx_tag.specs.Mac.{IsTag, Mac}
use Rattle.spec_machine.specs.State.{State}
use Rattle.sx_image.proofs.Reaching.{weaken}
use Rattle.spec_invocation.specs.Invocation.{invoke}
use Rattle.spec_invocation.specs.Progress.{Invoked, marks_in}
use Rattle.spec_invocation.specs.Setup.{Setup}
use Rattle.spec_invocation.proofs.PiecesMarked.{pieces_marked}
use Rattle.sx_image.specs.Watched.{Watched, watch}
use Rattle.sx_image.specs.Image.{Enters, Image, call_at, progress_at, public_bytes, setup_at}
use Rattle.sx_image.specs.Realizes.{Aborted, DoesInvocation, Exited, Underway, begins}
use Rattle.sx_ir.specs.declared.ir.Code.{Code}
use Rattle.sx_ir.specs.declared.ir.Ir.{Ir}
use Rattle.sx_ir.specs.Sizes.{bytes}
use Rattle.sx_ir.specs.Sound.{is_sound, is_sound_op}
use Rattle.sx_stub.specs.Joined.{PartsDo}
use Rattle.sx_stub.proofs.JoinedInvokes.{joined_invokes}
use Rattle.sx_tmpl.specs.Performs.{HasRoom, IsNarrow, NodeRuns, Performs, entry_conf}
use Rattle.sx_tmpl.specs.Running.{fixed_at}
use Rattle.sx_tmpl.specs.Shows.{Stood}
use Rattle.sx_tmpl.specs.Text.{addresses, addresses_of, bytes_of, text_words, text_words_of}
use Rattle.sx_tmpl.proofs.Texts.Performing.{text_does}
use Rattle.sx_tmpl.proofs.Texts.TextBytes.{text_size}
use Rattle.sx_lower.specs.Lowering.{IsLowerable}
use Rattle.sx_compile.specs.Compiled.{HasSections, IsCompiled, compiled_image, compiled_ops, compiled_parts, compiled_text, padded_to}
use Rattle.sx_compile.specs.Laws.{CompiledRealizes, CompiledShowsNoKey}
use Rattle.sx_compile.proofs.Begun.{begun_at}
use Rattle.sx_compile.proofs.Does.{Unseen, does_invocation}
use Rattle.sx_compile.proofs.FewPieces.{few_pieces}
use Rattle.sx_compile.proofs.Narrow.{AreBelow, all_narrow, bytes_below, ops_below}
use Rattle.sx_compile.proofs.Parts.{parts_do, starts}
use Rattle.sx_compile.proofs.Sizes.{within_weight}
use Rattle.sx_compile.proofs.Sound.{compiled_sound, ops_sound, plain}
use Rattle.sx_compile.proofs.ZerosInitial.{zeros_initial}

-- the zeros after the words
abbrev zeros : Layout → ModuleTree → List End → List ℕ
zeros l tree ends = replicate (module_weight tree (length ends) - length (bytes_of (text_words_of l (compiled_ops tree ends) (compiled_parts tree ends)))) 0

text_parts : (l : Layout) (tree : ModuleTree) (ends : List End) → compiled_text l tree ends ≡ bytes_of (text_words_of l (compiled_ops tree ends) (compiled_parts tree ends)) ++ zeros l tree ends
unfolding compiled_text
text_parts l tree ends = refl

-- the text of the code in memory
code_text : (l : Layout) (tree : ModuleTree) (ends : List End) (code : Code) → IsCompiled tree ends code
    → bytes_of (text_words l code) ≡ bytes_of (text_words_of l (compiled_ops tree ends) (compiled_parts tree ends))
unfolding text_words
code_text l tree ends code is =
    ap (λ (ops : List Ir). bytes_of (text_words_of l ops code.parts.items)) is.ops ∙ ap (λ (parts : List (ℕ × ℕ)). bytes_of (text_words_of l (compiled_ops tree ends) parts)) is.parts

-- the sections are as templates ask, and the code is sound in them
pub room_of : (tree : ModuleTree) (ends : List End) (l : Layout) → HasSections tree ends l → HasRoom l
room_of tree ends l room =
    let public = room.public in
    let even = room.public_even in
    let private = room.private in
    record {
      public_even = even;
      public_end = omega (arith, public, even);
      private_even = room.private_even;
      private_size = omega (arith, private);
      public_below = room.public_below;
      private_below = room.private_below;
    }

pub sound_of : (tree : ModuleTree) (ends : List End) (l : Layout) (code : Code) → IsLowerable tree ends → All (λ e. e.link < 256) ends → HasSections tree ends l → IsCompiled tree ends code
    → is_sound code.ops.items code.parts.items l ≡ true
sound_of tree ends l code able links room is =
    ap (λ (ops : List Ir). is_sound ops code.parts.items l) is.ops ∙ ap (λ (parts : List (ℕ × ℕ)). is_sound (compiled_ops tree ends) parts l) is.parts
    ∙ compiled_sound tree ends able links l room

module _ (mac : Mac) (tree : ModuleTree) (ends : List End) (l : Layout) (provider : ℕ) (code : Code) (tag : IsTag mac) (able : IsLowerable tree ends)
    (links : All (λ e. e.link < 256) ends) (room : HasSections tree ends l) (is : IsCompiled tree ends code) where
  weight : length (compiled_text l tree ends) ≡ module_weight tree (length ends)
  weight =
      let words = bytes_of (text_words_of l (compiled_ops tree ends) (compiled_parts tree ends)) in
      let size = text_size l code in
      let same = ap length (code_text l tree ends code is) in
      let ops = ap bytes is.ops in
      let fits = within_weight tree ends (plain tree ends able links) able in
      let rest = length-replicate {A = ℕ} (module_weight tree (length ends) - length words) 0 in
      let both = length-append words (zeros l tree ends) in
      let all = ap length (text_parts l tree ends) in
      omega (arith, size, same, ops, fits, rest, both, all)

  module _ (section : Section) (n : State) (enters : Enters tree (compiled_image l provider tree ends) section n) where
    abbrev s : Setup
    s = setup_at mac tree ends section n

    abbrev result : Invoked
    result = invoke s (call_at n) (progress_at s n)

    narrow : (p : ℕ) (i : Ir) → slice_get code.ops.items p ≡ Some i → IsNarrow i
    narrow p i e =
        let ops = compiled_ops tree ends in
        let parts = compiled_parts tree ends in
        let text : public_bytes l n.mem ≡ bytes_of (text_words_of l ops parts) ++ zeros l tree ends = enters.stands.text ∙ text_parts l tree ends in
        let below = subst (AreBelow 256) text (bytes_below n.mem l.pub_from (l.pub_to - l.pub_from) enters.node.memory.bytes) in
        all_narrow tree ends l (addresses_of l ops parts) (plain tree ends able links) able (ops_below l ops parts (zeros l tree ends) below) p i
        (ap (λ (c : List Ir). slice_get c p) (sym is.ops) ∙ e)

    performs : Performs s code n result (Stood (fixed_at s n result) (marks_in result) (addresses l code).at)
    performs =
        text_does mac code l tag (room_of tree ends l room) (sound_of tree ends l code able links room is) tree ends (compiled_image l provider tree ends) section n result (zeros l tree ends) refl
        (text_parts l tree ends ∙ ap (λ (t : List ℕ). t ++ zeros l tree ends) (sym (code_text l tree ends code is))) narrow enters (pieces_marked s (call_at n) (progress_at s n) tag refl refl)

    data_size : section.layout.priv_to - section.layout.priv_from ≡ module_data_size tree (length ends)
    data_size =
        let private = room.private in
        let size : l.priv_to - l.priv_from ≡ module_data_size tree (length ends) = omega (arith, private) in
        ap (λ (l : Layout). l.priv_to - l.priv_from) enters.stands.layout ∙ size

    -- the invocation is done, and no step shows a key
    pub shows : NodeRuns s result n (Aborted result) (Exited s result n) (4096 + module_cost tree) (begins n)
    shows =
        let memory = enters.node.memory in
        let begun = begun_at mac tree ends (compiled_image l provider tree ends) section n enters (All-from_get_or (λ b. b < 256) n.mem 0 (λ i lt. memory.bytes i)) tag able.few_ends links data_size in
        let cost = module_cost tree in
        let parts : PartsDo s code.ops.items code.parts.items cost =
        subst (λ (ops : List Ir). PartsDo s ops code.parts.items cost) (sym is.ops) (subst (λ (l : List (ℕ × ℕ)). PartsDo s (compiled_ops tree ends) l cost) (sym is.parts) (parts_do s able)) in
        let run = joined_invokes s (call_at n) (progress_at s n) code.ops.items code.parts.items (entry_conf section.layout n) cost begun refl refl
        (λ i lt. ap (λ (c : List Ir). slice_get c i) is.ops ∙ starts s i lt) parts in
        let sound : list_all (is_sound_op (length (compiled_ops tree ends)) (length (compiled_parts tree ends)) (module_data_size tree (length ends))) code.ops.items ≡ true =
        ap (λ (ops : List Ir). list_all (is_sound_op (length (compiled_ops tree ends)) (length (compiled_parts tree ends)) (module_data_size tree (length ends))) ops) is.ops
        ∙ ops_sound tree ends able links in
        let Sim = Stood (fixed_at s n result) (marks_in result) (addresses l code).at in
        weaken Watched Violation (watch mac) (λ w. 1) (Unseen s result n) (Unseen s result n) (Aborted result) (Aborted result) (Exited s result n) (Exited s result n) (6 + (3316 + cost) + 16)
        (4096 + cost) (begins n) (omega arith) (λ w x. x) (λ w v x. x) (λ w x. x)
        (does_invocation s code n Sim (length (compiled_ops tree ends)) (length (compiled_parts tree ends)) (module_data_size tree (length ends)) (3316 + cost) performs sound begun run memory.size
        (few_pieces s (call_at n) (progress_at s n) able refl) data_size)

    pub does : DoesInvocation s n
    does =
        let cost = 4096 + module_cost tree in
        weaken Watched Violation (watch mac) (λ w. 1) (Unseen s result n) (Underway s result n) (Aborted result) (Aborted result) (Exited s result n) (Exited s result n) cost cost
        (begins n) (omega arith) (λ w x. x.0) (λ w v x. x) (λ w x. x) shows

-- The image of a module realizes it.
pub compiled_realizes : CompiledRealizes
compiled_realizes mac tree ends l provider code tag able links room is = record {
  weight = weight mac tree ends l provider code tag able links room is;
  zeros = zeros_initial tree ends (module_data_size tree (length ends)) able.words;
  runs = λ section n enters. does mac tree ends l provider code tag able links room is section n enters;
}

-- No step of an invocation of it shows a key.
pub compiled_shows_no_key : CompiledShowsNoKey
compiled_shows_no_key mac tree ends l provider code tag able links room is =
    record { runs = λ section n enters. shows mac tree ends l provider code tag able links room is section n enters }

-- A text of the code, with zeros up to the end of its section, is the module's.
pub image_is : (tree : ModuleTree) (ends : List End) (l : Layout) (provider : ℕ) (code : Code) (words text : List ℕ) → HasSections tree ends l → IsCompiled tree ends code
    → words ≡ bytes_of (text_words l code) → text ≡ padded_to (l.pub_to - l.pub_from) words
    → ◌≡◌ {A = Image} (record { text = text; layout = l; provider = provider }) (compiled_image l provider tree ends)
unfolding compiled_text
image_is tree ends l provider code words text room is made filled =
    let public = room.public in
    let size : l.pub_to - l.pub_from ≡ module_weight tree (length ends) = omega (arith, public) in
    ap (λ (t : List ℕ). record { text = t; layout = l; provider = provider })
    (filled ∙ ap (λ (n : ℕ). padded_to n words) size ∙ ap (λ (w : List ℕ). padded_to (module_weight tree (length ends)) w) (made ∙ code_text l tree ends code is))
