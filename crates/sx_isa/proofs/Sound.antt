-- What is read is an instruction, and its words are there; nothing is read where the first word
-- is illegal.
use Rattle.std.proofs.Common.{◌≡◌, ℕ, zero, suc, ◌+◌, ◌-◌, ◌/◌, ◌%◌, ◌<◌, ◌≤◌, ◌==◌, Bool, true, false, cond, List, [], ◌∷◌, ◌++◌, length, take, refl, ap, sym}
use Rattle.std.proofs.Common.{subst, ◌⊎◌, inl, inr, arith, Option, Some, None}
use Rattle.std.specs.Prelude.{if◌then◌else◌}
use Rattle.std.proofs.lemmas.Bool.Decides.{nat_tests}
use Rattle.std.proofs.lemmas.Option.{cond_some}
use Rattle.sx_isa.specs.declared.instruction.Operand.{Operand}
use Rattle.sx_isa.specs.declared.instruction.Op2.{Op2}
use Rattle.sx_isa.specs.declared.instruction.Op1.{Op1}
use Rattle.sx_isa.specs.declared.instruction.Instr.{Instr}
use Rattle.sx_isa.specs.declared.instruction.Instr.TheVariants.{Two, One, Reti, Jump, Sancus}
use Rattle.sx_isa.specs.Spelling.{Place, place_of, op2_code, op1_code, two_word, one_word}
use Rattle.sx_isa.specs.Instructions.{first_word, IsSource, IsDestination, IsIllegal, BeginsWith}
use Rattle.sx_isa.specs.Legal.{is_allowed}
use Rattle.sx_isa.specs.Reading.{takes_word, offset_at, two_of, one_of, two_at, one_at, instruction_at}
use Rattle.sx_isa.proofs.Codes.{bit_at, offset_field-at, offset_at-valid, op2_code-at, op1_code-at, op2_none, op1_none}
use Rattle.sx_isa.proofs.Operands.{source_stands, destination_stands, destination_none, value_place}
use Rattle.sx_isa.proofs.FirstWords.{two_packed, one_packed, refused_cases, legal}
use Rattle.sx_isa.proofs.Formats.{by_format}
use Rattle.lemmas.specs.Truth.{truth}

two_of_some : {P : Type 0} (o : Option Op2) (b : Bool) (s : Operand) (d : Option Operand) (n : ℕ) (f : Instr × ℕ) → two_of o b s d n ≡ Some f →
    ((op : Op2) (dst : Operand) → o ≡ Some op → d ≡ Some dst → (Two op b s dst, n) ≡ f → P) → P
two_of_some None b s d n f e k = absurd (cc)
two_of_some (Some op) b s None n f e k = absurd (cc)
two_of_some (Some op) b s (Some dst) n f e k = k op dst refl refl (cc)

two_of_none : (o : Option Op2) (b : Bool) (s : Operand) (d : Option Operand) (n : ℕ) →
    two_of o b s d n ≡ None → (o ≡ None) ⊎ (d ≡ None)
two_of_none None b s d n e = inl refl
two_of_none (Some op) b s None n e = inr refl
two_of_none (Some op) b s (Some dst) n e = absurd (cc)

one_of_some : {P : Type 0} (o : Option Op1) (b : Bool) (a : Operand) (n : ℕ) (f : Instr × ℕ) →
    one_of o b a n ≡ Some f →
    ((op : Op1) → o ≡ Some op → is_allowed op b a ≡ true → (One op b a, n) ≡ f → P) → P
one_of_some None b a n f e k = absurd (cc)
one_of_some (Some op) b a n f e k =
    let c = cond_some (is_allowed op b a) (One op b a, n) f e in k op refl c.0 c.1

test_none : {A : Type 0} (b : Bool) (x : A) → cond b (Some x) None ≡ None → b ≡ false
test_none true x e = absurd (cc)
test_none false x e = refl

one_of_none : (o : Option Op1) (b : Bool) (a : Operand) (n : ℕ) → one_of o b a n ≡ None →
    (o ≡ None) ⊎ ((op : Op1) × (o ≡ Some op) × (is_allowed op b a ≡ false))
one_of_none None b a n e = inl refl
one_of_none (Some op) b a n e = inr (op, refl, test_none (is_allowed op b a) (One op b a, n) e)

-- the words of places
placed_two : (first second : Bool) (w0 w1 w2 w : ℕ) → w0 ≡ w →
    let words = (if first then w1 ∷ [] else []) ++
    (if second then (if first then w2 else w1) ∷ [] else []) in
    (1 + truth first + truth second ≡ length (w ∷ words)) ×
    (take (1 + truth first + truth second) (w0 ∷ w1 ∷ w2 ∷ []) ≡ w ∷ words)
placed_two true true w0 w1 w2 w e = (refl, cc)
placed_two true false w0 w1 w2 w e = (refl, cc)
placed_two false true w0 w1 w2 w e = (refl, cc)
placed_two false false w0 w1 w2 w e = (refl, cc)

placed_one : (first : Bool) (w0 w1 w2 w : ℕ) → w0 ≡ w →
    let words = if first then w1 ∷ [] else [] in
    (1 + truth first ≡ length (w ∷ words)) × (take (1 + truth first) (w0 ∷ w1 ∷ w2 ∷ []) ≡ w ∷ words)
placed_one true w0 w1 w2 w e = (refl, cc)
placed_one false w0 w1 w2 w e = (refl, cc)

begins_two : (w0 w1 w2 n : ℕ) (op : Op2) (byte : Bool) (src dst : Operand) (s d : Place) →
    place_of src ≡ s → place_of dst ≡ d → IsSource src → IsDestination dst →
    (let words = two_word (op2_code op) s.register d.mode (truth byte) s.mode d.register ∷ (s.words ++ d.words) in (n ≡ length words) × (take n (w0 ∷ w1 ∷ w2 ∷ []) ≡ words)) →
    BeginsWith (w0 ∷ w1 ∷ w2 ∷ []) (Two op byte src dst) n
begins_two w0 w1 w2 n op byte src dst s d e f h k t = rw (e, f) ((h, k), t.0, t.1)

begins_one : (w0 w1 w2 n : ℕ) (op : Op1) (byte : Bool) (arg : Operand) (s : Place) → place_of arg ≡ s →
    IsSource arg → is_allowed op byte arg ≡ true →
    (let words = one_word (op1_code op) (truth byte) s.mode s.register ∷ s.words in (n ≡ length words) × (take n (w0 ∷ w1 ∷ w2 ∷ []) ≡ words)) →
    BeginsWith (w0 ∷ w1 ∷ w2 ∷ []) (One op byte arg) n
begins_one w0 w1 w2 n op byte arg s e h k t = rw e ((h, k), t.0, t.1)

at_some : (w0 w1 w2 : ℕ) (i : Instr) (n : ℕ) → BeginsWith (w0 ∷ w1 ∷ w2 ∷ []) i n → (f : Instr × ℕ) →
    (i, n) ≡ f → BeginsWith (w0 ∷ w1 ∷ w2 ∷ []) f.0 f.1
at_some w0 w1 w2 i n b f e = subst (λ (g : Instr × ℕ). BeginsWith (w0 ∷ w1 ∷ w2 ∷ []) g.0 g.1) e b

sound_two : (w0 w1 w2 : ℕ) → w0 < 65536 → w1 < 65536 → w2 < 65536 → (f : Instr × ℕ) →
    two_at w0 w1 w2 ≡ Some f → BeginsWith (w0 ∷ w1 ∷ w2 ∷ []) f.0 f.1
unfolding two_at
sound_two w0 w1 w2 a b c f e =
    let r = w0 / 256 % 16 in let m = w0 / 16 % 4 in let d = w0 % 16 in let ad = w0 / 128 % 2 in
    let byte = w0 / 64 % 2 == 1 in
    let first = takes_word r m in let second = takes_word d ad in let x = if first then w2 else w1 in
    let word : x < 65536 = grind arith in
    two_of_some _ _ _ _ _ f e (λ op dst o t same.
    let s = source_stands r m w1 (omega arith) (omega arith) b in
    let q = destination_stands d ad x (omega arith) (omega arith) word dst t in
    let w : w0 ≡ two_word (op2_code op) r ad (truth byte) m d = two_packed w0 _ _ a (op2_code-at _ op o)
    (bit_at (w0 / 64 % 2) (omega arith)) in
    at_some w0 w1 w2 _ _
    (begins_two w0 w1 w2 _ op byte _ dst _ _ s.place q.place s.valid q.valid (placed_two first second w0 w1 w2 _ w)) f same)

sound_one : (w0 w1 w2 : ℕ) → 0x1000 ≤ w0 → w0 < 0x1300 → w1 < 65536 → (f : Instr × ℕ) →
    one_at w0 w1 ≡ Some f → BeginsWith (w0 ∷ w1 ∷ w2 ∷ []) f.0 f.1
unfolding one_at
sound_one w0 w1 w2 low high b f e =
    let r = w0 % 16 in let m = w0 / 16 % 4 in let byte = w0 / 64 % 2 == 1 in
    let first = takes_word r m in
    one_of_some _ _ _ _ f e (λ op o allowed same.
    let s = source_stands r m w1 (omega arith) (omega arith) b in
    let w : w0 ≡ one_word (op1_code op) (truth byte) m r = one_packed w0 _ _ low high
    (op1_code-at _ op o) (bit_at (w0 / 64 % 2) (omega arith)) in
    at_some w0 w1 w2 _ _
    (begins_one w0 w1 w2 _ op byte _ _ s.place s.valid allowed (placed_one first w0 w1 w2 _ w)) f same)

pub sound : (w0 w1 w2 : ℕ) → w0 < 65536 → w1 < 65536 → w2 < 65536 → (f : Instr × ℕ) →
    instruction_at w0 w1 w2 ≡ Some f → BeginsWith (w0 ∷ w1 ∷ w2 ∷ []) f.0 f.1
sound w0 w1 w2 a b c =
    by_format (λ r. (f : Instr × ℕ) → r w1 w2 ≡ Some f → BeginsWith (w0 ∷ w1 ∷ w2 ∷ []) f.0 f.1) w0
    (λ h. sound_two w0 w1 w2 a b c)
    (λ h k f e.
    let o = offset_field-at (w0 % 1024) (omega arith) in
    let w : w0 ≡ first_word (Jump (w0 / 1024 % 8) (offset_at (w0 % 1024))) = omega (arith, o) in
    at_some w0 w1 w2 (Jump (w0 / 1024 % 8) (offset_at (w0 % 1024))) 1
    ((omega arith, offset_at-valid (w0 % 1024) (omega arith)), refl, ap (λ v. v ∷ []) w) f (cc))
    (λ h k l f e. at_some w0 w1 w2 (Sancus (w0 - 0x1380)) 1 ((omega arith, omega arith), refl, ap (λ v. v ∷ []) (omega arith)) f (cc))
    (λ h f e. at_some w0 w1 w2 Reti 1 (tt, refl, ap (λ v. v ∷ []) h) f (cc))
    (λ h k. sound_one w0 w1 w2 h k b)
    (λ h f e. absurd (cc))

none_two : (w0 w1 w2 : ℕ) → 0x4000 ≤ w0 → w0 < 65536 → two_at w0 w1 w2 ≡ None → IsIllegal w0
unfolding two_at
none_two w0 w1 w2 h k e =
    elim (two_of_none _ _ _ _ _ e) [
      | inl o ↦
          (let c = op2_none (w0 / 4096) o in let ten : w0 / 4096 ≡ 10 = omega arith in inr (inr (inr (inr (inr (inr (inl ten)))))))
      | inr d ↦
          (let p = destination_none (w0 % 16) (w0 / 128 % 2) _ (omega arith) d in inr (inr (inr (inr (inr (inr (inr (h, p.0, p.1))))))))
    ]

none_one : (w0 w1 : ℕ) → 0x1000 ≤ w0 → w0 < 0x1300 → one_at w0 w1 ≡ None → IsIllegal w0
unfolding one_at
none_one w0 w1 h k e =
    elim (one_of_none _ _ _ _ e) [
      | inl o ↦ absurd (omega (arith, op1_none (w0 / 128 % 8) o))
      | inr t ↦ (
          let c = op1_code-at (w0 / 128 % 8) t.0 t.1 in
          elim (refused_cases t.0 _ _ t.2) [
            | inl f ↦ inr (inl ((h, k), omega (arith, c, f.0), grind (arith, nat_tests, f.1)))
            | inr f ↦ inr
                (inr (inl ((h, k), omega (arith, c, f.0), value_place (w0 % 16) (w0 / 16 % 4) w1 f.1 (omega arith))))
          ]
          )
    ]

pub none : (w0 w1 w2 : ℕ) → w0 < 65536 → instruction_at w0 w1 w2 ≡ None → IsIllegal w0
none w0 w1 w2 a =
    by_format (λ r. r w1 w2 ≡ None → IsIllegal w0) w0 (λ h. none_two w0 w1 w2 h a)
    (λ h k e. absurd (cc)) (λ h k l e. absurd (cc)) (λ h e. absurd (cc))
    (λ h k. none_one w0 w1 h k) (λ h e. elim h [
      | inl l ↦ inl l
      | inr (inl l) ↦ inr (inr (inr (inl l)))
      | inr (inr (inl l)) ↦ inr (inr (inr (inr (inl l))))
      | inr (inr (inr l)) ↦ inr (inr (inr (inr (inr (inl l)))))
    ])

first_of_take : (w0 : ℕ) (ws : List ℕ) (n x : ℕ) (xs : List ℕ) → take n (w0 ∷ ws) ≡ x ∷ xs → x ≡ w0
first_of_take w0 ws zero x xs e = cc
first_of_take w0 ws (suc n) x xs e = cc

pub first_begins : (w0 : ℕ) (ws : List ℕ) (i : Instr) (n : ℕ) → BeginsWith (w0 ∷ ws) i n → first_word i ≡ w0
first_begins w0 ws (Two op byte src dst) n p = first_of_take w0 ws n _ _ p.2
first_begins w0 ws (One op byte arg) n p = first_of_take w0 ws n _ _ p.2
first_begins w0 ws Reti n p = first_of_take w0 ws n _ _ p.2
first_begins w0 ws (Jump cond offset) n p = first_of_take w0 ws n _ _ p.2
first_begins w0 ws (Sancus code) n p = first_of_take w0 ws n _ _ p.2

unread : (w0 w1 w2 : ℕ) → IsIllegal w0 → (r : Option (Instr × ℕ)) →
    ((f : Instr × ℕ) → r ≡ Some f → BeginsWith (w0 ∷ w1 ∷ w2 ∷ []) f.0 f.1) → r ≡ None
unread w0 w1 w2 h None s = refl
unread w0 w1 w2 h (Some f) s =
    let b = s f refl in absurd
    (legal f.0 b.0 (subst IsIllegal (sym (first_begins w0 (w1 ∷ w2 ∷ []) f.0 f.1 b)) h))

pub illegal : (w0 w1 w2 : ℕ) → w0 < 65536 → w1 < 65536 → w2 < 65536 → IsIllegal w0 →
    instruction_at w0 w1 w2 ≡ None
illegal w0 w1 w2 a b c h = unread w0 w1 w2 h (instruction_at w0 w1 w2) (sound w0 w1 w2 a b c)
