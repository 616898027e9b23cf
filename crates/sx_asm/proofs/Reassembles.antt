-- The text of an instruction is assembled to its bytes.
use Rattle.std.proofs.Common.{◌≡◌, ◌≢◌, ℕ, ◌+◌, ◌-◌, ◌*◌, ◌/◌, ◌%◌, ◌<◌, ◌≤◌, min, Bool, true, false, ◌||◌, List, [], ◌∷◌, ◌++◌, length, refl, sym, ap, ◌∙◌, arith, Some, append_assoc, length-append}
use Rattle.std.proofs.lemmas.List.{append-nil}
use Rattle.std.specs.Prelude.{codes, ◌==◌, nat_lt, nat_le, Result, Ok, ℤ, pos, negsuc}
use Rattle.std.specs.List.{list_all}
use Rattle.std.proofs.lemmas.Bool.Decides.{nat_tests}
use Rattle.std.proofs.lemmas.Bool.{and_from}
use Rattle.sx_isa.specs.declared.instruction.Operand.{Operand}
use Rattle.sx_isa.specs.declared.instruction.Op1.{Op1}
use Rattle.sx_isa.specs.declared.instruction.Op2.{Op2}
use Rattle.sx_isa.specs.declared.instruction.Instr.{Instr}
use Rattle.sx_isa.specs.declared.instruction.Instr.TheVariants as instr
use Rattle.sx_isa.specs.Legal.{is_allowed}
use Rattle.sx_isa.specs.Instructions.{IsSource, IsDestination, IsInstruction, IsOffset}
use Rattle.sx_isa.specs.Spelling.{spelling, place_of}
use Rattle.sx_asm.specs.declared.written.Token.{Token}
use Rattle.sx_asm.specs.declared.written.Token.TheVariants as token
use Rattle.sx_asm.specs.declared.written.Value.TheVariants.{Number, Name}
use Rattle.sx_asm.specs.declared.written.Written.{Written}
use Rattle.sx_asm.specs.declared.written.Written.TheVariants as written
use Rattle.sx_asm.specs.declared.written.Item.{Item}
use Rattle.sx_asm.specs.declared.written.Item.TheVariants.{Word, Two, One, Jump, Reti, Sancus}
use Rattle.sx_asm.specs.declared.written.Entry.{Entry}
use Rattle.sx_asm.specs.declared.written.Label.{Label as Placed}
use Rattle.sx_asm.specs.declared.error.AsmError.{AsmError}
use Rattle.sx_asm.specs.Words.{op2_name, op1_name, sized, jump_name, sancus_name}
use Rattle.sx_asm.specs.Tokens.{tokens_of}
use Rattle.sx_asm.specs.Grammar.{piece_of, is_semicolon}
use Rattle.sx_asm.specs.Reading.{◌>>=◌, is_newline, parts, items_in, items_of, line_fits, read_lines, read}
use Rattle.sx_asm.specs.Meaning.{further, distance, offset, extension, size, operand_at, labels_at, words_at, bytes_of, code_of}
use Rattle.sx_asm.specs.Assembled.{is_source, is_destination, has_form, formed, names_known, named, label_count, in_reach, reaches, reached, stands, code_or_fault, assembled}
use Rattle.sx_asm.specs.Shown.{hex, operand_text, source_size, target, shown, word_text}
use Rattle.sx_asm.proofs.Forms.{source_test, destination_test, same_source, same_destination, same_value}
use Rattle.sx_asm.proofs.ShownTokens.{IsToken, hex_token, op2_token, op1_token, jump_token, sancus_token}
use Rattle.sx_asm.proofs.ShownOperands.{HasPlace, place_source, place_destination, operand_tokens, reads_token, reads_operand, reads_last, written_of}
use Rattle.sx_asm.proofs.ShownOperands.{says_operand, parts_operand, is_plain, plain_operand, operand_back, extension_back, known_back, IsFine, all_append}
use Rattle.sx_asm.proofs.ShownOperands.{fine_append, fine_token, fine_operand, parts_none, behind, grouped, further_word}
use Rattle.sx_asm.proofs.Parts.{read_in, reads_blank, reads_sign}

-- One line with one item.

line_says : (text : List ℕ) (ts : List Token) (item : Item) → read_in text ≡ ts → list_all is_plain ts ≡ true → piece_of ts ≡ Some (item ∷ [])
    → items_of text ≡ Some (item ∷ [])
unfolding tokens_of
line_says text ts item h k g =
    ap (λ (us : List Token). items_in (parts is_semicolon us)) h ∙ ap items_in (parts_none is_semicolon ts k) ∙ (rw g refl)

read_one : (text : List ℕ) (item : Item) → IsFine 4096 text → items_of text ≡ Some (item ∷ []) → read text ≡ Ok (record { line = 1; item = item } ∷ [])
unfolding read
read_one text item f g =
    let short : length text ≤ 4096 = f.1 in
    let k : line_fits 262144 text [] ≡ true =
    and_from (nat_le (length text) 4096) (nat_le (length text) 262144) (grind (arith, nat_tests, short)) (grind (arith, nat_tests, short)) in
    ap (read_lines 1 262144) (parts_none is_newline text f.0) ∙ (rw (k, g) refl)

pub all_pass : (a b c d : Result (Unit {0}) AsmError) (x : List ℕ) → a ≡ Ok tt → b ≡ Ok tt → c ≡ Ok tt → d ≡ Ok tt
    → (a >>= (λ e. b >>= (λ f. c >>= (λ g. d >>= (λ h. Ok x))))) ≡ Ok x
all_pass a b c d x h i j k = rw (h, i, j, k) refl

record Fits (at : ℕ) (item : Item) : Type 0 where
  no_label : labels_at item at [] ≡ []
  form : has_form item ≡ true
  known : names_known [] 0 item ≡ true
  reach : reaches [] at item ≡ true
  small : size item ≤ 8192
  room : at + size item ≤ 65536

coded : (at : ℕ) (item : Item) → at % 2 ≡ 0 → Fits at item
    → code_or_fault at (record { line = 1; item = item } ∷ []) ≡ Ok (bytes_of (words_at [] at item))
coded at item even f =
    let e : Entry = record { line = 1; item = item } in
    let es : List Entry = e ∷ [] in
    let fits : size item ≤ min 8192 (65536 - at) = omega (arith, f.small, f.room) in
    let k : nat_le (size item) (min 8192 (65536 - at)) ≡ true = grind (arith, nat_tests, fits) in
    let z : (at % 2 == 0) ≡ true = rw even refl in
    let formed_one : formed (record { line = 1; item = item } ∷ []) ≡ Ok tt = rw f.form refl in
    let named_one : named [] 0 (record { line = 1; item = item } ∷ []) ≡ Ok tt = rw f.known refl in
    let reached_one : reached [] at (record { line = 1; item = item } ∷ []) ≡ Ok tt = rw f.reach refl in
    let stands_one : stands at (record { line = 1; item = item } ∷ []) ≡ Ok tt = rw (z, k) refl in
    rw f.no_label
    (all_pass (formed (record { line = 1; item = item } ∷ [])) (named [] 0 (record { line = 1; item = item } ∷ []))
    (reached [] at (record { line = 1; item = item } ∷ [])) (stands at (record { line = 1; item = item } ∷ []))
    (code_of [] at (record { line = 1; item = item } ∷ [])) formed_one named_one reached_one stands_one
    ∙ ap Ok (append-nil (bytes_of (words_at [] at item))))

assembled_one : (at : ℕ) (text : List ℕ) (item : Item) → IsFine 4096 text → items_of text ≡ Some (item ∷ []) → at % 2 ≡ 0 → Fits at item
    → assembled at text ≡ Ok (bytes_of (words_at [] at item))
unfolding assembled
assembled_one at text item f g even h =
    ap (λ (r : Result (List Entry) AsmError). r >>= code_or_fault at) (read_one text item f g) ∙ coded at item even h

-- a text is one line, with one item of these words
pub record Lined (at : ℕ) (text ws : List ℕ) : Type 0 where
  pub item : Item
  pub fine : IsFine 62 text
  pub says : items_of text ≡ Some (item ∷ [])
  pub no_label : (more : List Placed) → labels_at item at more ≡ more
  pub no_count : label_count item ≡ 0
  pub form : has_form item ≡ true
  pub known : names_known [] 0 item ≡ true
  pub reach : reaches [] at item ≡ true
  pub sized : size item ≡ 2 * length ws
  pub few : length ws ≤ 3
  pub meant : words_at [] at item ≡ ws

pub lined_again : (at : ℕ) (text ws : List ℕ) → Lined at text ws → at % 2 ≡ 0 → at + 2 * length ws ≤ 65536 → assembled at text ≡ Ok (bytes_of ws)
lined_again at text ws l even room =
    assembled_one at text l.item (l.fine.0, omega (arith, l.fine.1)) l.says even
    (record {
      no_label = l.no_label [];
      form = l.form;
      known = l.known;
      reach = l.reach;
      small = omega (arith, l.sized, l.few);
      room = omega (arith, l.sized, room);
    })
    ∙ ap (λ (us : List ℕ). Ok (bytes_of us)) l.meant

extension_few : (w : Written) → extension w ≤ 1
extension_few (written.Reg r) = omega arith
extension_few (written.Indexed v r) = omega arith
extension_few (written.Indirect r) = omega arith
extension_few (written.Increment r) = omega arith
extension_few (written.Hash (Number n)) = grind arith
extension_few (written.Hash (Name s)) = omega arith
extension_few (written.Immediate v) = omega arith
extension_few (written.Absolute v) = omega arith
extension_few (written.Symbolic v) = omega arith

-- Two operands.

two_text : (op : Op2) (byte : Bool) (src dst : Operand) (at : ℕ) → HasPlace src → HasPlace dst
    → read_in (shown (instr.Two op byte src dst) at)
    ≡ token.Two op byte
    ∷ (operand_tokens (further at 2) src ++ token.Comma ∷ operand_tokens (further at (2 + source_size src)) dst)
two_text op byte src dst at h k =
    let n = sized (op2_name op) byte in
    let p = further at 2 in
    let q = further at (2 + source_size src) in
    let s = operand_text p src in
    let d = operand_text q dst in
    ap read_in (grouped n (codes " ") s (codes ", ") d)
    ∙ reads_token (token.Two op byte) n (32 ∷ (s ++ (44 ∷ 32 ∷ d))) (op2_token op byte) refl
    ∙ ap (behind (token.Two op byte))
    (reads_blank (s ++ (44 ∷ 32 ∷ d)) ∙ reads_operand p src (44 ∷ 32 ∷ d) h refl
    ∙ ap (λ (ts : List Token). operand_tokens p src ++ ts)
    (reads_sign 44 (32 ∷ d) token.Comma refl refl refl refl ∙ ap (behind token.Comma) (reads_blank d ∙ reads_last q dst k)))

two_says : (op : Op2) (byte : Bool) (src dst : Operand) (p q : ℕ)
    → piece_of (token.Two op byte ∷ (operand_tokens p src ++ token.Comma ∷ operand_tokens q dst))
    ≡ Some (Two op byte (written_of p src) (written_of q dst) ∷ [])
two_says op byte src dst p q = rw (parts_operand p src (operand_tokens q dst)) (rw (says_operand p src, says_operand q dst) refl)

two_plain : (op : Op2) (byte : Bool) (src dst : Operand) (p q : ℕ)
    → list_all is_plain (token.Two op byte ∷ (operand_tokens p src ++ token.Comma ∷ operand_tokens q dst)) ≡ true
two_plain op byte src dst p q =
    all_append is_plain (operand_tokens p src) (token.Comma ∷ operand_tokens q dst) (plain_operand p src) (plain_operand q dst)

two_fine : (op : Op2) (byte : Bool) (src dst : Operand) (at : ℕ) → HasPlace src → HasPlace dst → IsFine 62 (shown (instr.Two op byte src dst) at)
two_fine op byte src dst at h k =
    let n = sized (op2_name op) byte in
    let s = operand_text (further at 2) src in
    let d = operand_text (further at (2 + source_size src)) dst in
    fine_append 32 20 62 (((n ++ codes " ") ++ s) ++ codes ", ") d
    (fine_append 30 2 32 ((n ++ codes " ") ++ s) (codes ", ")
    (fine_append 10 20 30 (n ++ codes " ") s
    (fine_append 9 1 10 n (codes " ") (fine_token (token.Two op byte) n (op2_token op byte)) (refl, omega arith) (omega arith))
    (fine_operand (further at 2) src h) (omega arith))
    (refl, omega arith) (omega arith))
    (fine_operand (further at (2 + source_size src)) dst k) (omega arith)

two_lined : (op : Op2) (byte : Bool) (src dst : Operand) (at : ℕ) → IsSource src → IsDestination dst
    → Lined at (shown (instr.Two op byte src dst) at) (spelling (instr.Two op byte src dst))
two_lined op byte src dst at hs hd =
    let h = place_source src hs in
    let k = place_destination dst hd in
    let p = further at 2 in
    let q = further at (2 + source_size src) in
    let ws = written_of p src in
    let wd = written_of q dst in
    let x : 2 * extension ws ≡ source_size src = extension_back p src h in
    let y : 2 * extension wd ≡ source_size dst = extension_back q dst k in
    let a : operand_at [] p ws ≡ src = operand_back p src (further_word at 2) h in
    let b : operand_at [] q wd ≡ dst = operand_back q dst (further_word at (2 + source_size src)) k in
    let words : words_at [] at (Two op byte ws wd) ≡ spelling (instr.Two op byte src dst) =
    ap (λ (n : ℕ). spelling (instr.Two op byte (operand_at [] p ws) (operand_at [] (further at (2 + n)) wd))) x
    ∙ ap (λ (s : Operand). spelling (instr.Two op byte s (operand_at [] q wd))) a ∙ ap (λ (d : Operand). spelling (instr.Two op byte src d)) b in
    let form : has_form (Two op byte ws wd) ≡ true =
    and_from (is_source (operand_at [] 0 ws)) (is_destination (operand_at [] 0 wd))
    (sym (same_source [] p ws) ∙ ap is_source a ∙ source_test src hs)
    (sym (same_destination [] q wd) ∙ ap is_destination b ∙ destination_test dst hd) in
    record {
      item = Two op byte ws wd;
      fine = two_fine op byte src dst at h k;
      says =
          line_says (shown (instr.Two op byte src dst) at) (token.Two op byte ∷ (operand_tokens p src ++ token.Comma ∷ operand_tokens q dst)) (Two op byte ws wd)
          (two_text op byte src dst at h k) (two_plain op byte src dst p q) (two_says op byte src dst p q);
      no_label = λ more. refl;
      no_count = refl;
      form = form;
      known = and_from _ _ (known_back p src) (known_back q dst);
      reach = refl;
      sized = omega (arith, x, y, length-append (place_of src).words (place_of dst).words);
      few = omega (arith, x, y, extension_few ws, extension_few wd, length-append (place_of src).words (place_of dst).words);
      meant = words;
    }

-- One operand.

one_text : (op : Op1) (byte : Bool) (arg : Operand) (at : ℕ) → HasPlace arg
    → read_in (shown (instr.One op byte arg) at) ≡ token.One op byte ∷ operand_tokens (further at 2) arg
one_text op byte arg at h =
    let n = sized (op1_name op) byte in
    let p = further at 2 in
    ap read_in (append_assoc n (codes " ") (operand_text p arg))
    ∙ reads_token (token.One op byte) n (32 ∷ operand_text p arg) (op1_token op byte) refl
    ∙ ap (behind (token.One op byte)) (reads_blank (operand_text p arg) ∙ reads_last p arg h)

one_says : (op : Op1) (byte : Bool) (arg : Operand) (p : ℕ)
    → piece_of (token.One op byte ∷ operand_tokens p arg) ≡ Some (One op byte (written_of p arg) ∷ [])
one_says op byte arg p = rw (says_operand p arg) refl

one_lined : (op : Op1) (byte : Bool) (arg : Operand) (at : ℕ) → IsSource arg → is_allowed op byte arg ≡ true
    → Lined at (shown (instr.One op byte arg) at) (spelling (instr.One op byte arg))
one_lined op byte arg at hs allowed =
    let h = place_source arg hs in
    let p = further at 2 in
    let w = written_of p arg in
    let n = sized (op1_name op) byte in
    let x : 2 * extension w ≡ source_size arg = extension_back p arg h in
    let a : operand_at [] p w ≡ arg = operand_back p arg (further_word at 2) h in
    let b : is_allowed op byte (operand_at [] 0 w) ≡ true =
    rw (sym (same_value [] p w)) (ap (is_allowed op byte) a ∙ allowed) in
    let form : has_form (One op byte w) ≡ true =
    and_from (is_source (operand_at [] 0 w)) (is_allowed op byte (operand_at [] 0 w))
    (sym (same_source [] p w) ∙ ap is_source a ∙ source_test arg hs) b in
    record {
      item = One op byte w;
      fine =
          fine_append 10 20 62 (n ++ codes " ") (operand_text p arg)
          (fine_append 9 1 10 n (codes " ") (fine_token (token.One op byte) n (op1_token op byte)) (refl, omega arith) (omega arith))
          (fine_operand p arg h) (omega arith);
      says =
          line_says (shown (instr.One op byte arg) at) (token.One op byte ∷ operand_tokens p arg) (One op byte w)
          (one_text op byte arg at h) (plain_operand p arg) (one_says op byte arg p);
      no_label = λ more. refl;
      no_count = refl;
      form = form;
      known = known_back p arg;
      reach = refl;
      sized = omega (arith, x);
      few = omega (arith, x, extension_few w);
      meant = ap (λ (s : Operand). spelling (instr.One op byte s)) a;
    }

-- No operand.

reti_lined : (at : ℕ) → Lined at (shown instr.Reti at) (spelling instr.Reti)
reti_lined at = record {
  item = Reti;
  fine = (refl, omega arith);
  says = line_says (codes "reti") (token.Reti ∷ []) Reti refl refl refl;
  no_label = λ more. refl;
  no_count = refl;
  form = refl;
  known = refl;
  reach = refl;
  sized = refl;
  few = omega arith;
  meant = refl;
}

alone_text : (t : Token) (w : List ℕ) → IsToken t w → read_in w ≡ t ∷ []
alone_text t w f = ap read_in (sym (append-nil w)) ∙ reads_token t w [] f tt

sancus_form : (code : ℕ) → code < 8 → code ≢ 3 → has_form (Sancus code) ≡ true
sancus_form code h n = grind (arith, nat_tests, h, n)

sancus_lined : (code at : ℕ) → code < 8 → code ≢ 3 → Lined at (shown (instr.Sancus code) at) (spelling (instr.Sancus code))
sancus_lined code at h n =
    let t = sancus_token code h n in
    let f = fine_token (token.Sancus code) (sancus_name code) t in
    record {
      item = Sancus code;
      fine = (f.0, omega (arith, f.1));
      says = line_says (sancus_name code) (token.Sancus code ∷ []) (Sancus code) (alone_text (token.Sancus code) (sancus_name code) t) refl refl;
      no_label = λ more. refl;
      no_count = refl;
      form = sancus_form code h n;
      known = refl;
      reach = refl;
      sized = refl;
      few = omega arith;
      meant = refl;
    }

-- Jumps.

offset_back : (n : ℕ) (o : ℤ) → n < 65536 → IsOffset o → offset (distance n (target n o)) ≡ o
offset_back n (pos k) w h =
    let d : distance n (target n (pos k)) ≡ 2 * k = omega (arith, w, h) in
    let s : nat_lt (2 * k) 32768 ≡ true = grind (arith, nat_tests, h) in
    let e : 2 * k / 2 ≡ k = omega arith in
    ap offset d ∙ (rw s (ap pos e))
offset_back n (negsuc k) w h =
    let d : distance n (target n (negsuc k)) ≡ 65536 - 2 * (k + 1) = omega (arith, w, h) in
    let s : nat_lt (65536 - 2 * (k + 1)) 32768 ≡ false = grind (arith, nat_tests, h) in
    let e : (65535 - (65536 - 2 * (k + 1))) / 2 ≡ k = omega (arith, h) in
    ap offset d ∙ (rw s (ap negsuc e))

target_word : (n : ℕ) (o : ℤ) → target n o < 65536
target_word n (pos k) = omega arith
target_word n (negsuc k) = omega arith

target_even : (n : ℕ) (o : ℤ) → n % 2 ≡ 0 → IsOffset o → target n o % 2 ≡ 0
target_even n (pos k) e h = omega (arith, e)
target_even n (negsuc k) e h = omega (arith, e, h)

near_back : (n : ℕ) (o : ℤ) → n < 65536 → IsOffset o → (nat_le (distance n (target n o)) 1022 || nat_le 64512 (distance n (target n o))) ≡ true
near_back n (pos k) w h =
    let d : distance n (target n (pos k)) ≤ 1022 = omega (arith, w, h) in
    let s : nat_le (distance n (target n (pos k))) 1022 ≡ true = grind (arith, nat_tests, d) in rw s refl
near_back n (negsuc k) w h =
    let d : 64512 ≤ distance n (target n (negsuc k)) = omega (arith, w, h) in
    let e : 1022 < distance n (target n (negsuc k)) = omega (arith, d) in
    let s : nat_le 64512 (distance n (target n (negsuc k))) ≡ true = grind (arith, nat_tests, d) in
    let t : nat_le (distance n (target n (negsuc k))) 1022 ≡ false = grind (arith, nat_tests, e) in rw (t, s) refl

reach_back : (n : ℕ) (o : ℤ) → n < 65536 → n % 2 ≡ 0 → IsOffset o → in_reach n (target n o) ≡ true
reach_back n o w e h =
    let z : (target n o % 2 == 0) ≡ true = rw (target_even n o e h) refl in
    and_from (target n o % 2 == 0) (nat_le (distance n (target n o)) 1022 || nat_le 64512 (distance n (target n o))) z (near_back n o w h)

jump_lined : (cond at : ℕ) (o : ℤ) → cond < 8 → IsOffset o → at % 2 ≡ 0
    → Lined at (shown (instr.Jump cond o) at) (spelling (instr.Jump cond o))
jump_lined cond at o h ho even =
    let n = further at 2 in
    let w : n < 65536 = further_word at 2 in
    let t = target n o in
    let number = hex_token t (target_word n o) in
    let name = jump_token cond h in
    let f = fine_append 9 1 10 (jump_name cond) (codes " ") (fine_token (token.Jump cond) (jump_name cond) name) (refl, omega arith) (omega arith) in
    let text : read_in (shown (instr.Jump cond o) at) ≡ token.Jump cond ∷ token.Number t ∷ [] =
    ap read_in (append_assoc (jump_name cond) (codes " ") (hex t))
    ∙ reads_token (token.Jump cond) (jump_name cond) (32 ∷ hex t) name refl
    ∙ ap (behind (token.Jump cond)) (reads_blank (hex t) ∙ alone_text (token.Number t) (hex t) number) in
    record {
      item = Jump cond (Number t);
      fine = fine_append 10 9 62 (jump_name cond ++ codes " ") (hex t) f (fine_token (token.Number t) (hex t) number) (omega arith);
      says = line_says (shown (instr.Jump cond o) at) (token.Jump cond ∷ token.Number t ∷ []) (Jump cond (Number t)) text refl refl;
      no_label = λ more. refl;
      no_count = refl;
      form = grind (arith, nat_tests, h);
      known = refl;
      reach = reach_back n o w (omega (arith, even)) ho;
      sized = refl;
      few = omega arith;
      meant = ap (λ (d : ℤ). spelling (instr.Jump cond d)) (offset_back n o w ho);
    }

pub lined : (i : Instr) (at : ℕ) → IsInstruction i → at % 2 ≡ 0 → Lined at (shown i at) (spelling i)
lined (instr.Two op byte src dst) at h even = two_lined op byte src dst at h.0 h.1
lined (instr.One op byte arg) at h even = one_lined op byte arg at h.0 h.1
lined instr.Reti at h even = reti_lined at
lined (instr.Jump cond o) at h even = jump_lined cond at o h.0 h.1 even
lined (instr.Sancus code) at h even = sancus_lined code at h.0 h.1

pub reassembles : (i : Instr) (at : ℕ) → IsInstruction i → at % 2 ≡ 0 → at + 2 * length (spelling i) ≤ 65536
    → assembled at (shown i at) ≡ Ok (bytes_of (spelling i))
reassembles i at h even room = lined_again at (shown i at) (spelling i) (lined i at h even) even room

-- A word of data.

word_token : IsToken token.Word (codes ".word")
word_token = (refl, refl, refl)

pub word_lined : (w at : ℕ) → w < 65536 → Lined at (word_text w) (w ∷ [])
word_lined w at h =
    let number = hex_token w h in
    let text : read_in (word_text w) ≡ token.Word ∷ token.Number w ∷ [] =
    reads_token token.Word (codes ".word") (32 ∷ hex w) word_token refl
    ∙ ap (behind token.Word) (reads_blank (hex w) ∙ alone_text (token.Number w) (hex w) number) in
    record {
      item = Word (Number w);
      fine = fine_append 6 9 62 (codes ".word ") (hex w) (refl, omega arith) (fine_token (token.Number w) (hex w) number) (omega arith);
      says = line_says (word_text w) (token.Word ∷ token.Number w ∷ []) (Word (Number w)) text refl refl;
      no_label = λ more. refl;
      no_count = refl;
      form = refl;
      known = refl;
      reach = refl;
      sized = refl;
      few = omega arith;
      meant = refl;
    }
