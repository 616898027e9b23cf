-- The instruction that is spelled is the one that is read.
use Rattle.std.proofs.Common.{◌≡◌, ◌≢◌, ℕ, suc, ◌+◌, ◌-◌, ◌/◌, ◌%◌, ◌<◌, ◌≤◌, ◌==◌, Bool, true, false, cond, List, [], ◌∷◌, ◌++◌, length, take, get_or, refl}
use Rattle.std.proofs.Common.{ap, sym, subst, ◌∙◌, arith, length-append, Option, Some, None}
use Rattle.std.specs.Prelude.{if◌then◌else◌, ℤ}
use Rattle.sx_isa.specs.declared.instruction.Operand.{Operand}
use Rattle.sx_isa.specs.declared.instruction.Op2.{Op2}
use Rattle.sx_isa.specs.declared.instruction.Op1.{Op1}
use Rattle.sx_isa.specs.declared.instruction.Instr.{Instr}
use Rattle.sx_isa.specs.declared.instruction.Instr.TheVariants.{Two, One, Reti, Jump, Sancus}
use Rattle.sx_isa.specs.Spelling.{place_of, op2_code, op1_code, two_word, one_word, spelling}
use Rattle.sx_isa.specs.Instructions.{first_word, IsSource, IsDestination, IsInstruction, IsOffset, BeginsWith}
use Rattle.sx_isa.specs.Legal.{is_allowed}
use Rattle.sx_isa.specs.Reading.{source_at, destination_at, takes_word, op2_at, op1_at, offset_at, two_of, one_of, two_at, one_at, instruction_at}
use Rattle.sx_isa.proofs.Codes.{op2_back, op1_back, bit_back, offset_back}
use Rattle.sx_isa.proofs.Operands.{source_back, destination_back, words_few}
use Rattle.sx_isa.proofs.FirstWords.{two_fields, one_fields}
use Rattle.sx_isa.proofs.Formats.{by_format, jump_format, one_format, sancus_format, two_format}
use Rattle.lemmas.specs.Truth.{truth}

two_of_parts : (o : Option Op2) (b byte : Bool) (s src : Operand) (d : Option Operand) (m n : ℕ) (op : Op2) (dst : Operand) →
    o ≡ Some op → b ≡ byte → s ≡ src → d ≡ Some dst → m ≡ n → two_of o b s d m ≡ Some
    (Two op byte src dst, n)
two_of_parts o b byte s src d m n op dst e f g h k =
    ap (λ o. two_of o b s d m) e ∙ ap (λ d. two_of (Some op) b s d m) h ∙ cc

one_of_parts : (o : Option Op1) (b byte : Bool) (a arg : Operand) (m n : ℕ) (op : Op1) →
    o ≡ Some op → b ≡ byte → a ≡ arg → is_allowed op byte arg ≡ true → m ≡ n → one_of o b a m ≡ Some
    (One op byte arg, n)
one_of_parts o b byte a arg m n op e f g h k =
    ap (λ o. one_of o b a m) e ∙ ap (λ b. one_of (Some op) b a m) f ∙ ap
    (λ a. one_of (Some op) byte a m) g ∙ ap (λ t. cond t (Some (One op byte arg, m)) None) h ∙ ap
    (λ m. Some (One op byte arg, m)) k

-- reading by fields that are known
two_by_fields : (w0 w1 w2 op s ad y m d : ℕ) →
    (w0 / 4096 ≡ op) × (w0 / 256 % 16 ≡ s) × (w0 / 128 % 2 ≡ ad) × (w0 / 64 % 2 ≡ y) × (w0 / 16 % 4 ≡ m) × (w0 % 16 ≡ d) →
    two_at w0 w1 w2 ≡ two_of (op2_at op) (y == 1) (source_at s m w1)
    (destination_at d ad (if takes_word s m then w2 else w1))
    (1 + truth (takes_word s m) + truth (takes_word d ad))
unfolding two_at
two_by_fields w0 w1 w2 op s ad y m d f =
    let a = f.0 in let b = f.1 in let c = f.2 in let e = f.3 in let g = f.4 in let h = f.5 in rw
    (a, b, c, e, g, h) refl

one_by_fields : (w0 w1 op y m r : ℕ) →
    (w0 / 128 % 8 ≡ op) × (w0 / 64 % 2 ≡ y) × (w0 / 16 % 4 ≡ m) × (w0 % 16 ≡ r) →
    one_at w0 w1 ≡ one_of (op1_at op) (y == 1) (source_at r m w1) (1 + truth (takes_word r m))
unfolding one_at
one_by_fields w0 w1 op y m r f =
    let a = f.0 in let b = f.1 in let c = f.2 in let e = f.3 in rw (a, b, c, e) refl

-- the extension words of two operands, in the words that follow the first
second_word : (n w1 w2 : ℕ) (first : Bool) → n ≡ truth first →
    (if n == 0 then w1 else w2) ≡ (if first then w2 else w1)
second_word n w1 w2 true e = rw e refl
second_word n w1 w2 false e = rw e refl

shared_words : (s d : List ℕ) (w0 w1 w2 w : ℕ) → length s ≤ 1 → length d ≤ 1 →
    take (suc (length (s ++ d))) (w0 ∷ w1 ∷ w2 ∷ []) ≡ w ∷ (s ++ d) →
    (w0 ≡ w) × (take (length s) (w1 ∷ []) ≡ s) ×
    (take (length d) ((if length s == 0 then w1 else w2) ∷ []) ≡ d)
shared_words [] [] w0 w1 w2 w h k e = (cc, refl, refl)
shared_words [] (y ∷ []) w0 w1 w2 w h k e = (cc, refl, cc)
shared_words (x ∷ []) [] w0 w1 w2 w h k e = (cc, cc, refl)
shared_words (x ∷ []) (y ∷ []) w0 w1 w2 w h k e = (cc, cc, cc)
shared_words (x ∷ x' ∷ s) d w0 w1 w2 w h k e = absurd (omega arith)
shared_words [] (y ∷ y' ∷ d) w0 w1 w2 w h k e = absurd (omega arith)
shared_words (x ∷ []) (y ∷ y' ∷ d) w0 w1 w2 w h k e = absurd (omega arith)

bit_below : (b : Bool) (n : ℕ) → n ≡ truth b → n ≤ 1
bit_below true n e = omega arith
bit_below false n e = omega arith

reads_two : (op : Op2) (byte : Bool) (src dst : Operand) (w0 w1 w2 : ℕ) → IsSource src →
    IsDestination dst →
    take (length (spelling (Two op byte src dst))) (w0 ∷ w1 ∷ w2 ∷ []) ≡ spelling
    (Two op byte src dst) →
    instruction_at w0 w1 w2 ≡ Some (Two op byte src dst, length (spelling (Two op byte src dst)))
reads_two op byte src dst w0 w1 w2 h k e =
    let o = op2_back op in let y = bit_back byte in let p = source_back src h in
    let q = destination_back dst k in
    let s = place_of src in let d = place_of dst in
    let few_s : length s.words ≤ 1 = bit_below _ _ p.count in
    let few_d : length d.words ≤ 1 = bit_below _ _ q.count in
    let parts = shared_words s.words d.words w0 w1 w2
    (two_word (op2_code op) s.register d.mode (truth byte) s.mode d.register) few_s few_d e in
    let f = two_fields w0 (op2_code op) s.register d.mode
    (truth byte) s.mode d.register parts.0 p.register q.mode y.1 p.mode q.register in
    let high : 0x4000 ≤ w0 = omega (arith, parts.0, o.1) in
    let x : take (length d.words) ((if takes_word s.register s.mode then w2 else w1) ∷ []) ≡ d.words =
    ap (λ v. take (length d.words) (v ∷ []))
    (sym (second_word (length s.words) w1 w2 (takes_word s.register s.mode) p.count)) ∙ parts.2 in
    let n : 1 + truth (takes_word s.register s.mode) + truth (takes_word d.register d.mode) ≡ length
    (spelling (Two op byte src dst)) =
    omega (arith, p.count, q.count, length-append s.words d.words) in
    ap (λ r. r w1 w2) (two_format w0 high)
    ∙ two_by_fields w0 w1 w2 _ _ _ _ _ _ f
    ∙ two_of_parts _ _ byte _ src _ _ _ op dst o.0 y.0 (p.operand w1 parts.1) (q.operand _ x) n

one_extension : (s : List ℕ) (w0 w1 w2 w : ℕ) → length s ≤ 1 →
    take (suc (length s)) (w0 ∷ w1 ∷ w2 ∷ []) ≡ w ∷ s → (w0 ≡ w) × (take (length s) (w1 ∷ []) ≡ s)
one_extension [] w0 w1 w2 w h e = (cc, refl)
one_extension (x ∷ []) w0 w1 w2 w h e = (cc, cc)
one_extension (x ∷ x' ∷ s) w0 w1 w2 w h e = absurd (omega arith)

reads_one : (op : Op1) (byte : Bool) (arg : Operand) (w0 w1 w2 : ℕ) → IsSource arg →
    is_allowed op byte arg ≡ true →
    take (length (spelling (One op byte arg))) (w0 ∷ w1 ∷ w2 ∷ []) ≡ spelling (One op byte arg) →
    instruction_at w0 w1 w2 ≡ Some (One op byte arg, length (spelling (One op byte arg)))
reads_one op byte arg w0 w1 w2 h k e =
    let o = op1_back op in let y = bit_back byte in let p = source_back arg h in
    let s = place_of arg in
    let few : length s.words ≤ 1 = bit_below _ _ p.count in
    let parts = one_extension s.words w0 w1 w2
    (one_word (op1_code op) (truth byte) s.mode s.register) few e in
    let f = one_fields w0 (op1_code op)
    (truth byte) s.mode s.register parts.0 o.1 y.1 p.mode p.register in
    let n : 1 + truth (takes_word s.register s.mode) ≡ length (spelling (One op byte arg)) = omega
    (arith, p.count) in
    ap (λ r. r w1 w2) (one_format w0 f.4 f.5)
    ∙ one_by_fields w0 w1 _ _ _ _ (f.0, f.1, f.2, f.3)
    ∙ one_of_parts _ _ byte _ arg _ _ op o.0 y.0 (p.operand w1 parts.1) k n

-- the instructions of one word
alone : (w0 w1 w2 n w : ℕ) → n ≡ 1 → take n (w0 ∷ w1 ∷ w2 ∷ []) ≡ w ∷ [] → w0 ≡ w
alone w0 w1 w2 n w e t =
    let s : take 1 (w0 ∷ w1 ∷ w2 ∷ []) ≡ w ∷ [] = ap (λ k. take k (w0 ∷ w1 ∷ w2 ∷ [])) (sym e) ∙ t in cc

reads_reti : (w0 w1 w2 : ℕ) → w0 ≡ 0x1300 → instruction_at w0 w1 w2 ≡ Some (Reti, 1)
reads_reti w0 w1 w2 w =
    by_format (λ r. r w1 w2 ≡ Some (Reti, 1)) w0 (λ a. absurd (omega arith))
    (λ a b. absurd (omega arith)) (λ a b c. absurd (omega arith)) (λ a. refl)
    (λ a b. absurd (omega arith)) (λ c. absurd (omega arith))

jump_parts : (a c : ℕ) (y z : ℤ) → a ≡ c → y ≡ z →
    let n : Option (Instr × ℕ) = Some (Jump a y, 1) in let m : Option (Instr × ℕ) = Some (Jump c z, 1) in n ≡ m
jump_parts a c y z e f = cc

reads_jump : (c : ℕ) (z : ℤ) (w0 w1 w2 : ℕ) → c < 8 → IsOffset z → w0 ≡ first_word (Jump c z) →
    instruction_at w0 w1 w2 ≡ Some (Jump c z, 1)
reads_jump c z w0 w1 w2 h k w =
    let o = offset_back z k in
    let same_c : w0 / 1024 % 8 ≡ c = omega (arith, w, o.1, h) in
    let same_z : offset_at (w0 % 1024) ≡ z = ap offset_at (omega (arith, w, o.1, h)) ∙ o.0 in
    ap (λ r. r w1 w2) (jump_format w0 (omega (arith, w)) (omega (arith, w, o.1, h)))
    ∙ jump_parts _ c _ z same_c same_z

reads_sancus : (code w0 w1 w2 : ℕ) → code < 8 → code ≢ 3 → w0 ≡ 0x1380 + code →
    instruction_at w0 w1 w2 ≡ Some (Sancus code, 1)
reads_sancus code w0 w1 w2 h k w =
    let same : w0 - 0x1380 ≡ code = omega arith in
    ap (λ r. r w1 w2) (sancus_format w0 (omega arith) (omega arith) (omega arith)) ∙ ap
    (λ c. Some (Sancus c, 1)) same

pub reads : (w0 w1 w2 : ℕ) (i : Instr) (n : ℕ) → BeginsWith (w0 ∷ w1 ∷ w2 ∷ []) i n →
    instruction_at w0 w1 w2 ≡ Some (i, n)
reads w0 w1 w2 (Two op byte src dst) n b =
    reads_two op byte src dst w0 w1 w2 b.0.0 b.0.1
    (ap (λ k. take k (w0 ∷ w1 ∷ w2 ∷ [])) (sym b.1) ∙ b.2) ∙ ap (λ k. Some (Two op byte src dst, k))
    (sym b.1)
reads w0 w1 w2 (One op byte arg) n b =
    reads_one op byte arg w0 w1 w2 b.0.0 b.0.1 (ap (λ k. take k (w0 ∷ w1 ∷ w2 ∷ [])) (sym b.1) ∙ b.2)
    ∙ ap (λ k. Some (One op byte arg, k)) (sym b.1)
reads w0 w1 w2 Reti n b =
    reads_reti w0 w1 w2 (alone w0 w1 w2 n _ b.1 b.2) ∙ ap (λ k. Some (Reti, k)) (sym b.1)
reads w0 w1 w2 (Jump c z) n b =
    reads_jump c z w0 w1 w2 b.0.0 b.0.1 (alone w0 w1 w2 n _ b.1 b.2) ∙ ap (λ k. Some (Jump c z, k))
    (sym b.1)
reads w0 w1 w2 (Sancus code) n b =
    reads_sancus code w0 w1 w2 b.0.0 b.0.1 (alone w0 w1 w2 n _ b.1 b.2) ∙ ap
    (λ k. Some (Sancus code, k)) (sym b.1)

-- the start of a spelling, and its reading
fronts : (s x : List ℕ) → length s ≤ 3 →
    take (length s) (get_or (s ++ x) 0 0 ∷ get_or (s ++ x) 1 0 ∷ get_or (s ++ x) 2 0 ∷ []) ≡ s
fronts [] x h = refl
fronts (a ∷ []) x h = refl
fronts (a ∷ b ∷ []) x h = refl
fronts (a ∷ b ∷ c ∷ []) x h = refl
fronts (a ∷ b ∷ c ∷ d ∷ s) x h = absurd (omega arith)

pub spelling_short : (i : Instr) → length (spelling i) ≤ 3
spelling_short (Two op byte src dst) =
    omega (arith, words_few src, words_few dst, length-append (place_of src).words (place_of dst).words)
spelling_short (One op byte arg) = omega (arith, words_few arg)
spelling_short Reti = omega arith
spelling_short (Jump cond offset) = omega arith
spelling_short (Sancus code) = omega arith

pub spelled_reads : (i : Instr) → IsInstruction i → (x : List ℕ) →
    instruction_at (get_or (spelling i ++ x) 0 0) (get_or (spelling i ++ x) 1 0)
    (get_or (spelling i ++ x) 2 0) ≡ Some (i, length (spelling i))
spelled_reads i h x =
    reads _ _ _ i (length (spelling i)) (h, refl, fronts (spelling i) x (spelling_short i))

pub one_found : (i j : Instr) (m n : ℕ) (r : Option (Instr × ℕ)) → r ≡ Some (i, m) → r ≡ Some (j, n) → i ≡ j
one_found i j m n r e f =
    let a : Instr × ℕ = (i, m) in let b : Instr × ℕ = (j, n) in
    let same : a ≡ b = cc in
    ap (λ (f : Instr × ℕ). f.0) same

-- no two instructions have the same words, whatever follows them
pub one_spelling : (i j : Instr) → IsInstruction i → IsInstruction j → (x y : List ℕ) →
    spelling i ++ x ≡ spelling j ++ y → i ≡ j
one_spelling i j h k x y e =
    let read : List ℕ → Option (Instr × ℕ) = λ ws. instruction_at (get_or ws 0 0) (get_or ws 1 0)
    (get_or ws 2 0) in
    one_found i j _ _ (read (spelling i ++ x)) (spelled_reads i h x) (ap read e ∙ spelled_reads j k y)

three : (ws : List ℕ) → length ws ≡ 3 → ws ≡ get_or ws 0 0 ∷ get_or ws 1 0 ∷ get_or ws 2 0 ∷ []
three [] h = absurd (omega arith)
three (a ∷ []) h = absurd (omega arith)
three (a ∷ b ∷ []) h = absurd (omega arith)
three (a ∷ b ∷ c ∷ []) h = refl
three (a ∷ b ∷ c ∷ d ∷ ws) h = absurd (omega arith)

-- three words that begin with an instruction read as it
pub three_read : (ws : List ℕ) (i : Instr) (n : ℕ) → length ws ≡ 3 → BeginsWith ws i n →
    instruction_at (get_or ws 0 0) (get_or ws 1 0) (get_or ws 2 0) ≡ Some (i, n)
three_read ws i n h b = reads _ _ _ i n (subst (λ (v : List ℕ). BeginsWith v i n) (three ws h) b)
