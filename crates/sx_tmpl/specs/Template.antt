-- The instructions of each operation's template, and their words. Nobody has to believe this file
-- for what an image realizes.
use Rattle.std.specs.Prelude.{◌-◌, ℕ, zero, suc, ◌+◌, ◌*◌, ◌/◌, List, [], ◌∷◌, ◌++◌, ℤ}
use Rattle.sx_rules.specs.declared.section.Layout.{Layout}
use Rattle.sx_isa.specs.declared.instruction.Instr.{Instr}
use Rattle.sx_isa.specs.declared.instruction.Operand.{Operand}
use Rattle.sx_isa.specs.Standing.{words_of}
use Rattle.sx_mean.specs.Offsets as offsets
use Rattle.sx_mean.specs.Working as working
use Rattle.spec_invocation.specs.Protocol as protocol
use Rattle.sx_ir.specs.declared.ir.IrOp.{IrOp}
use Rattle.sx_ir.specs.declared.ir.IrOp.TheVariants as op
use Rattle.sx_ir.specs.declared.ir.Ir.{Ir}
use Rattle.sx_ir.specs.declared.ir.Ir.TheVariants as ir
use Rattle.sx_ir.specs.Sizes.{turn_size}
use Rattle.sx_tmpl.specs.Scratch as scratch
use Rattle.sx_isa.specs.Assembly.{sp, sr, r4, r5, r6, r7, r8, r9, r10, r11, r12, r13, r14, r15}
use Rattle.sx_isa.specs.Assembly.{#◌, ##◌, &◌, ◌⟨◌⟩}
use Rattle.sx_isa.specs.Assembly.{indirect, increment, mov, mov_b, add, sub, cmp, bis, xor, and}
use Rattle.sx_isa.specs.Assembly.{push, call, pop, ret, br, clr, tst, inc, incd, dec, rla, ahead}
use Rattle.sx_isa.specs.Assembly.{back, jnz, jz, jnc, jc, jmp, wrap, unwrap}

-- the addresses of places, of the ends' packet routines, of handlers' parts, the place of the exit,
-- and the addresses of the routine that opens a slot and of a word of zeros
pub record Addresses : Type 0 where
  pub at : ℕ → ℕ
  pub packet : ℕ → ℕ
  pub part : ℕ → ℕ
  pub exit : ℕ
  pub slots : ℕ
  pub zero : ℕ

-- A product by shifts and adds, from the highest bit on.
abbrev pub multiply : List Instr
multiply =
    pop r12
    ∷ pop r13
    ∷ clr r14
    ∷ mov (# 16) r15
    -- turn:
    ∷ rla r14
    ∷ rla r12
    ∷ jnc (ahead 1)
    ∷ add r13 r14
    ∷ dec r15
    ∷ jnz (back 6)  -- turn
    ∷ push r14
    ∷ []

-- 1 where the comparison of the two topmost words doesn't take this jump over two words, else 0
abbrev pub comparison : (ℤ → Instr) → List Instr
comparison jump =
    cmp (increment sp) (0 ⟨ sp ⟩)
    ∷ clr (0 ⟨ sp ⟩)
    ∷ jump (ahead 2)
    ∷ mov (# 1) (0 ⟨ sp ⟩)
    ∷ []

-- a number minus the topmost word
abbrev pub subtraction : Operand → List Instr
subtraction from = mov from r12 ∷ sub (indirect sp) r12 ∷ mov r12 (0 ⟨ sp ⟩) ∷ []

-- the instructions of each operation on words
abbrev pub operator : IrOp → List Instr
operator op.Add = add (increment sp) (0 ⟨ sp ⟩) ∷ []
operator op.Sub = sub (increment sp) (0 ⟨ sp ⟩) ∷ []
operator op.Mul = multiply
operator op.And = and (increment sp) (0 ⟨ sp ⟩) ∷ []
operator op.Or = bis (increment sp) (0 ⟨ sp ⟩) ∷ []
operator op.Xor = xor (increment sp) (0 ⟨ sp ⟩) ∷ []
operator op.Eq = comparison jnz
operator op.Lt = comparison jc
operator op.Neg = subtraction (# 0)
operator op.Inv = subtraction (# 65535)
operator op.Not =
    tst (0 ⟨ sp ⟩) ∷ clr (0 ⟨ sp ⟩) ∷ jnz (ahead 2) ∷ mov (# 1) (0 ⟨ sp ⟩) ∷ []

-- the element at the index on the stack, or 0
abbrev pub load_at : ℕ → ℕ → List Instr
load_at start n =
    pop r12
    ∷ cmp (## n) r12
    ∷ jnc (ahead 2)  -- there
    ∷ push (# 0)
    ∷ jmp (ahead 3)
    -- there:
    ∷ add r12 r12
    ∷ push (start ⟨ r12 ⟩)
    ∷ []

-- the word on the stack goes to the element at the index below it
abbrev pub store_at : ℕ → ℕ → List Instr
store_at start n =
    pop r13
    ∷ pop r12
    ∷ cmp (## n) r12
    ∷ jc (ahead 3)
    ∷ add r12 r12
    ∷ mov r13 (start ⟨ r12 ⟩)
    ∷ []

-- their words
abbrev pub multiply_words : List ℕ
multiply_words = words_of multiply

abbrev pub operator_words : IrOp → List ℕ
operator_words o = words_of (operator o)

abbrev pub load_at_words : ℕ → ℕ → List ℕ
load_at_words start n = words_of (load_at start n)

abbrev pub store_at_words : ℕ → ℕ → List ℕ
store_at_words start n = words_of (store_at start n)

-- an address that is kept here goes on outside the public section; inside, there is a word that is no
-- instruction
abbrev pub inside : ℕ → ℕ → ℕ → List Instr
inside kept from to =
    mov (& kept) r12
    ∷ cmp (## from) r12
    ∷ jnc (ahead 4)
    ∷ cmp (## to) r12
    ∷ jc (ahead 1)
    ∷ []

abbrev pub inside_words : ℕ → ℕ → ℕ → List ℕ
inside_words kept from to = words_of (inside kept from to) ++ 0 ∷ []

-- A window of n bytes at the saved register passes 0xFFFF from 65537 - n on; else it meets the
-- private section where it begins below the section's end and doesn't end before its start.
abbrev pub meets : ℕ → ℕ → ℕ → ℕ → List Instr
meets saved from to n =
    mov (& saved) r12
    ∷ cmp (## (65537 - n)) r12
    ∷ jc (ahead 6)  -- bad
    ∷ cmp (## to) r12
    ∷ jc (ahead 5)  -- good
    ∷ cmp (## (from + 1 - n)) r12
    ∷ jnc (ahead 2)  -- good
    -- bad:
    ∷ push (# 1)
    ∷ jmp (ahead 1)
    -- good:
    ∷ push (# 0)
    ∷ []

abbrev pub meets_words : ℕ → ℕ → ℕ → ℕ → List ℕ
meets_words saved from to n = words_of (meets saved from to n)

-- n bytes from R13 on go to the byte i after R12 and those that follow
abbrev pub copies : ℕ → ℕ → List Instr
copies i zero = []
copies i (suc n) = mov_b (increment r13) (i ⟨ r12 ⟩) ∷ copies (i + 1) n

-- as many turns as R15 says, each of n bytes
abbrev pub turns : ℕ → List Instr
turns n = copies 0 n ++ add (# n) r12 ∷ dec r15 ∷ jnz (back (2 * n + 3)) ∷ []

-- n bytes of the window go to an address
abbrev pub copy_in : ℕ → ℕ → ℕ → List Instr
copy_in window to n =
    mov (& window) r13
    ∷ mov (## to) r12
    ∷ mov (## (n / turn_size n)) r15
    ∷ turns (turn_size n)

abbrev pub copy_in_words : ℕ → ℕ → ℕ → List ℕ
copy_in_words window to n = words_of (copy_in window to n)

-- n bytes from an address go to the window, at the offset on the stack
abbrev pub copy_out : ℕ → ℕ → ℕ → List Instr
copy_out window from n =
    pop r12
    ∷ add (& window) r12
    ∷ mov (## from) r13
    ∷ mov (## (n / turn_size n)) r15
    ∷ turns (turn_size n)

abbrev pub copy_out_words : ℕ → ℕ → ℕ → List ℕ
copy_out_words window from n = words_of (copy_out window from n)

-- the address of a key, or 0 for the module's own
abbrev pub key_word : ℕ → ℕ → ℕ
key_word base zero = 0
key_word base (suc k) = base + suc k

-- a module instruction takes addresses and lengths in R9 to R15
abbrev pub seal : (key header hn body bn cipher tag : ℕ) → List Instr
seal key header hn body bn cipher tag =
    mov (## key) r9
    ∷ mov (## header) r10
    ∷ mov (## hn) r11
    ∷ mov (## body) r12
    ∷ mov (## bn) r13
    ∷ mov (## cipher) r14
    ∷ mov (## tag) r15
    ∷ wrap
    ∷ clr r9
    ∷ []

-- unwrap leaves in R15 whether the tag was right
abbrev pub unseal : (key header hn cipher bn body tag : ℕ) → List Instr
unseal key header hn cipher bn body tag =
    mov (## key) r9
    ∷ mov (## header) r10
    ∷ mov (## hn) r11
    ∷ mov (## cipher) r12
    ∷ mov (## bn) r13
    ∷ mov (## body) r14
    ∷ mov (## tag) r15
    ∷ unwrap
    ∷ push r15
    ∷ []

abbrev pub seal_words : (key header hn body bn cipher tag : ℕ) → List ℕ
seal_words key header hn body bn cipher tag = words_of (seal key header hn body bn cipher tag)

abbrev pub open_words : (key header hn cipher bn body tag : ℕ) → List ℕ
open_words key header hn cipher bn body tag = words_of (unseal key header hn cipher bn body tag)

-- A seal by offsets from the base: after the header are the cipher and the tag.
abbrev pub sealing_words : (base k h hn b bn : ℕ) → List ℕ
sealing_words base k h hn b bn =
    seal_words (key_word base k) (base + h) hn (base + b) bn (base + (h + hn))
    (base + (h + hn + bn))

-- the same of what opens it
abbrev pub opening_words : (base k h hn b bn : ℕ) → List ℕ
opening_words base k h hn b bn =
    open_words (key_word base k) (base + h) hn (base + (h + hn)) bn (base + b)
    (base + (h + hn + bn))

-- a handler's part, which returns to the next operation; no piece is made yet
abbrev pub handler : ℕ → ℕ → ℕ → List Instr
handler base next part =
    clr (& (base + working.pieces_at))
    ∷ mov (## next) (& (base + scratch.return_at))
    ∷ br (## part)
    ∷ []

abbrev pub handler_words : ℕ → ℕ → ℕ → List ℕ
handler_words base next part = words_of (handler base next part)

-- the words of an operation at a place, in a module of this layout
abbrev pub template : Layout → Addresses → ℕ → Ir → List ℕ
template l a p (ir.Push n) = words_of (push (## n) ∷ [])
template l a p (ir.Load o) = words_of (push (& (l.priv_from + o)) ∷ [])
template l a p (ir.Store o) = words_of (pop (& (l.priv_from + o)) ∷ [])
template l a p (ir.LoadAt o n) = load_at_words (l.priv_from + o) n
template l a p (ir.StoreAt o n) = store_at_words (l.priv_from + o) n
template l a p (ir.Op f) = operator_words f
template l a p (ir.Jump q) = words_of (br (## (a.at q)) ∷ [])
template l a p (ir.JumpZero q) =
    words_of (cmp (increment sp) (& a.zero) ∷ jnz (ahead 2) ∷ br (## (a.at q)) ∷ [])
template l a p (ir.JumpEqual o n q) =
    words_of (cmp (## n) (& (l.priv_from + o)) ∷ jnz (ahead 2) ∷ br (## (a.at q)) ∷ [])
template l a p (ir.Packet k) = words_of (call (## (a.packet k)) ∷ [])
template l a p ir.Drop = words_of (incd sp ∷ [])
template l a p ir.Emit = words_of (pop (& l.priv_from) ∷ [])
template l a p ir.Stop = words_of (br (& (l.priv_from + scratch.return_at)) ∷ [])
template l a p (ir.Saved r) = words_of (push (& (l.priv_from + working.saved_at r)) ∷ [])
template l a p ir.Inside = inside_words (l.priv_from + scratch.caller_at) l.pub_from l.pub_to
template l a p (ir.Meets r n) =
    meets_words (l.priv_from + working.saved_at r) l.priv_from l.priv_to n
template l a p (ir.CopyIn n o) =
    copy_in_words (l.priv_from + scratch.in_window_at) (l.priv_from + o) n
template l a p (ir.CopyOut n o) =
    copy_out_words (l.priv_from + scratch.out_window_at) (l.priv_from + o) n
template l a p (ir.Seal k h hn b bn) = sealing_words l.priv_from k h hn b bn
template l a p (ir.Open k h hn b bn) = opening_words l.priv_from k h hn b bn
template l a p (ir.SetEnd k) =
    words_of (mov (## (l.priv_from + offsets.end_at k)) r12 ∷ call (## a.slots) ∷ [])
template l a p ir.Sense = words_of (push (& l.priv_from) ∷ [])
template l a p (ir.Handler h) = handler_words l.priv_from (a.at (p + 1)) (a.at (a.part h))
template l a p ir.Leave = words_of (br (## (a.at a.exit)) ∷ [])

-- The entry keeps SP and the caller's registers, and begins the stack.
abbrev pub entry : ℕ → List Instr
entry base =
    mov sp (& (base + scratch.caller_sp_at))
    ∷ mov r12 (& (base + working.saved_at 12))
    ∷ mov r13 (& (base + working.saved_at 13))
    ∷ mov r14 (& (base + working.saved_at 14))
    ∷ mov r15 (& (base + working.saved_at 15))
    ∷ mov (## (base + working.stack_to)) sp
    ∷ []

abbrev pub entry_words : ℕ → List ℕ
entry_words base = words_of (entry base)

-- The exit takes the number of pieces and the status, sets the other registers to 0, and returns
-- with the caller's SP.
abbrev pub leave : ℕ → List Instr
leave base =
    pop r13
    ∷ pop r12
    ∷ clr r4
    ∷ clr r5
    ∷ clr r6
    ∷ clr r7
    ∷ clr r8
    ∷ clr r9
    ∷ clr r10
    ∷ clr r11
    ∷ clr r14
    ∷ clr r15
    ∷ clr sr
    ∷ mov (& (base + scratch.caller_sp_at)) sp
    ∷ br (& (base + scratch.caller_at))
    ∷ []

abbrev pub leave_words : ℕ → List ℕ
leave_words base = words_of (leave base)

-- two bytes of the plain key go to the slot at R12
abbrev pub key_part : ℕ → ℕ → Instr
key_part base i = mov (& (base + (working.plain_at + i))) ((8 + i) ⟨ r12 ⟩)

-- The routine that opens the slot at R12: the connection field of the copied packet, number 0,
-- open, and the eight words of the plain key.
abbrev pub open_slot : ℕ → List Instr
open_slot base =
    mov (& (base + scratch.copied_connection_at)) (0 ⟨ r12 ⟩)
    ∷ clr (2 ⟨ r12 ⟩)
    ∷ mov (# 1) (4 ⟨ r12 ⟩)
    ∷ key_part base 0
    ∷ key_part base 2
    ∷ key_part base 4
    ∷ key_part base 6
    ∷ key_part base 8
    ∷ key_part base 10
    ∷ key_part base 12
    ∷ key_part base 14
    ∷ ret
    ∷ []

abbrev pub slot_words : ℕ → List ℕ
slot_words base = words_of (open_slot base)

-- The next event of the k-th end is wrapped, if the end is open and its number below 65,535: its
-- header and its body are made first.
abbrev pub wrapping : ℕ → ℕ → List Instr
wrapping base k =
    tst (& (base + offsets.end_open_at k))
    ∷ jz (ahead 66)  -- done
    ∷ cmp (# protocol.last_number) (& (base + offsets.end_number_at k))
    ∷ jz (ahead 63)  -- done
    ∷ mov (# protocol.event_kind) (& (base + scratch.kind_at))
    ∷ mov (& (base + offsets.end_at k)) (& (base + scratch.connection_at))
    ∷ mov (& (base + offsets.end_number_at k)) (& (base + scratch.number_at))
    ∷ mov (2 ⟨ sp ⟩) (& (base + scratch.body_at))
    ∷ mov (## (base + offsets.end_key_at k)) r9
    ∷ mov (## (base + scratch.kind_at)) r10
    ∷ mov (# protocol.header_size) r11
    ∷ mov (## (base + scratch.body_at)) r12
    ∷ mov (# protocol.value_size) r13
    ∷ mov (## (base + scratch.cipher_at)) r14
    ∷ mov (## (base + scratch.tag_at)) r15
    ∷ wrap
    ∷ []

-- The packet is copied to its offset in the out-window, a packet's size times the count of pieces.
abbrev pub packet_copy : ℕ → List Instr
packet_copy base =
    mov (& (base + working.pieces_at)) r12
    ∷ rla r12
    ∷ rla r12
    ∷ rla r12
    ∷ mov r12 r14
    ∷ rla r12
    ∷ add r14 r12
    ∷ add (& (base + scratch.out_window_at)) r12
    ∷ mov (## (base + scratch.kind_at)) r13
    ∷ mov (# (protocol.event_size / 8)) r15
    ∷ turns 8

-- one more packet of the k-th end, and one more piece
abbrev pub counting : ℕ → ℕ → List Instr
counting base k =
    inc (& (base + offsets.end_number_at k))
    ∷ inc (& (base + working.pieces_at))
    -- done:
    ∷ ret
    ∷ []

-- The packet routine of the k-th end wraps, copies the packet, 24 bytes for each piece, and counts.
abbrev pub routine : ℕ → ℕ → List Instr
routine base k = wrapping base k ++ (packet_copy base ++ counting base k)

abbrev pub routine_words : ℕ → ℕ → List ℕ
routine_words base k = words_of (routine base k)
