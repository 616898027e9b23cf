-- The text of a code. Nobody has to believe this file for what an image realizes. It has where the
-- instructions of each operation are there, and all words.
use Rattle.std.specs.Prelude.{◌≡◌, ℕ, zero, suc, ◌+◌, ◌*◌, ◌%◌, ◌/◌, if◌then◌else◌, List, [], ◌∷◌}
use Rattle.std.specs.Prelude.{◌++◌, length, slice_index}
use Rattle.sx_rules.specs.declared.section.Layout.{Layout}
use Rattle.sx_ir.specs.declared.ir.Ir.{Ir}
use Rattle.sx_ir.specs.declared.ir.Code.{Code}
use Rattle.sx_ir.specs.Sizes.{entry_bytes, exit_bytes, has_routine, op_bytes, packet_bytes}
use Rattle.sx_ir.specs.Sizes.{routines, slot_bytes}
use Rattle.sx_tmpl.specs.Template.{Addresses, template, entry_words, leave_words, slot_words}
use Rattle.sx_tmpl.specs.Template.{routine_words}

-- the first place of a handler's part
abbrev pub part_place : List (ℕ × ℕ) → ℕ → ℕ
part_place [] h = 0
part_place (p ∷ parts) zero = p.0
part_place (p ∷ parts) (suc h) = part_place parts h

-- the addresses of operations placed from an address on, and last that after them
abbrev pub places_from : ℕ → List Ir → List ℕ
places_from a [] = a ∷ []
places_from a (i ∷ ops) = a ∷ places_from (a + op_bytes i) ops

-- the operations follow the entry
abbrev pub places_of : Layout → Code → List ℕ
places_of l code = places_from (l.pub_from + entry_bytes) code.ops.items

-- After the operations are the exit, the routine that opens a slot, and the packet routines. The
-- third word of the second is an index of 0.
abbrev pub addresses_of : Layout → List Ir → List (ℕ × ℕ) → Addresses
addresses_of l ops parts =
    let at = slice_index (places_from (l.pub_from + entry_bytes) ops) in
    let exit = length ops in
    record {
      at = at;
      packet = λ k. at exit + (exit_bytes + slot_bytes) + packet_bytes * routines ops k;
      part = part_place parts;
      exit = exit;
      slots = at exit + exit_bytes;
      zero = at exit + exit_bytes + 4;
    }

-- those of a code
abbrev pub addresses : Layout → Code → Addresses
addresses l code = addresses_of l code.ops.items code.parts.items

-- the words of operations from a place on
abbrev pub words_of : Layout → Addresses → ℕ → List Ir → List ℕ
words_of l a p [] = []
words_of l a p (i ∷ ops) = template l a p i ++ words_of l a (p + 1) ops

-- the packet routine of the k-th end, where it has one
abbrev pub packet_words_of : ℕ → List Ir → ℕ → List ℕ
packet_words_of base ops k = if has_routine ops k then routine_words base k else []

-- those of the first n ends
unfoldable pub packet_words : ℕ → List Ir → ℕ → List ℕ
packet_words base ops zero = []
packet_words base ops (suc n) = packet_words base ops n ++ packet_words_of base ops n

-- all words of the text of operations with their parts, the last of them 0
abbrev pub text_words_of : Layout → List Ir → List (ℕ × ℕ) → List ℕ
text_words_of l ops parts =
    entry_words l.priv_from ++ (words_of l (addresses_of l ops parts) 0 ops
    ++ (leave_words l.priv_from ++ (slot_words l.priv_from
    ++ (packet_words l.priv_from ops 256 ++ 0 ∷ []))))

-- all words of a code's text
unfoldable pub text_words : Layout → Code → List ℕ
text_words l code = text_words_of l code.ops.items code.parts.items

-- words in memory, the low byte first
abbrev pub bytes_of : List ℕ → List ℕ
bytes_of [] = []
bytes_of (w ∷ ws) = w % 256 ∷ w / 256 ∷ bytes_of ws

-- words were appended to a text
abbrev pub PutsWords : List ℕ → List ℕ → List ℕ → Type 0
PutsWords words old new = new ≡ old ++ bytes_of words
