-- How far a command reads.
use Rattle.std.proofs.Common.{ℕ, ◌+◌, ◌<◌, ◌≤◌, ◌≡◌, ◌∙◌, ◌⊎◌, inl, inr, Bool, List, [], ◌∷◌, ◌++◌, length, refl, sym, ap, subst, arith, append_assoc, length-append}
use Rattle.std.specs.Prelude.{IsTrue}
use Rattle.sx_io.specs.Streams.{SourceAt}
use Rattle.sx_io.specs.Reading.{Broken, Answer, Limit, scan, newline, longest, IsPlain}
use Rattle.command_promise.specs.Reads.{IsOneLine, Reach, Reads}
use Rattle.command_promise.specs.Further.{HasEnd}

tail-same : (a b : ℕ) (xs ys : List ℕ) → a ∷ xs ≡ b ∷ ys → xs ≡ ys
tail-same a b xs ys e = cc

head-same : (a b : ℕ) (xs ys : List ℕ) → a ∷ xs ≡ b ∷ ys → a ≡ b
head-same a b xs ys e = cc

one-tail : (x : ℕ) (xs l : List ℕ) → IsPlain l → x ∷ xs ≡ l ++ newline ∷ [] → IsOneLine xs
one-tail x xs [] p e = let n : xs ≡ [] = tail-same x newline xs [] e in inl (subst IsPlain (sym n) tt)
one-tail x xs (y ∷ ys) p e = inr (ys, p.1, tail-same x y xs (ys ++ newline ∷ []) e)

of-tail : (x : ℕ) (xs : List ℕ) → IsOneLine (x ∷ xs) → IsOneLine xs
of-tail x xs (inl p) = inl p.1
of-tail x xs (inr (l, p, e)) = one-tail x xs l p e

none-behind : (x : ℕ) (xs l : List ℕ) → IsPlain l → x ∷ xs ≡ l ++ newline ∷ [] → x ≡ newline → xs ≡ []
none-behind x xs [] p e n = tail-same x newline xs [] e
none-behind x xs (y ∷ ys) p e n = absurd (p.0 (sym (head-same x y xs (ys ++ newline ∷ []) e) ∙ n))

at-newline : (x : ℕ) (xs : List ℕ) → IsOneLine (x ∷ xs) → x ≡ newline → xs ≡ []
at-newline x xs (inl p) n = absurd (p.0 n)
at-newline x xs (inr (l, p, e)) n = none-behind x xs l p e n

-- one line that begins before the end of these lines ends there at the latest
line-short : (line ahead mark rest : List ℕ) → line ++ ahead ≡ mark ++ rest → IsOneLine line → HasEnd mark → length line ≤ length mark
line-short [] ahead mark rest e o h = omega arith
line-short (x ∷ xs) ahead [] rest e o h = absurd h
line-short (x ∷ xs) ahead (m ∷ []) rest e o h =
    let n : xs ≡ [] = at-newline x xs o (head-same x m (xs ++ ahead) rest e ∙ h) in omega (arith, ap (λ (t : List ℕ). length t) n)
line-short (x ∷ xs) ahead (m ∷ c ∷ more) rest e o h =
    omega (arith, line-short xs ahead (c ∷ more) rest (tail-same x m (xs ++ ahead) ((c ∷ more) ++ rest) e) (of-tail x xs o) h)

lines-short : (before line ahead mark rest : List ℕ) → (before ++ line) ++ ahead ≡ mark ++ rest → IsOneLine line → HasEnd mark → length before < length mark
    → length (before ++ line) ≤ length mark
lines-short [] line ahead mark rest e o h l = line-short line ahead mark rest e o h
lines-short (b ∷ bs) line ahead [] rest e o h l = absurd h
lines-short (b ∷ bs) line ahead (m ∷ []) rest e o h l = absurd (omega (arith, l))
lines-short (b ∷ bs) line ahead (m ∷ c ∷ more) rest e o h l =
    omega (arith, lines-short bs line ahead (c ∷ more) rest (tail-same b m ((bs ++ line) ++ ahead) ((c ∷ more) ++ rest) e) o h (omega (arith, l)))

-- the longer of two prefixes begins with the shorter
prefix-of : (mark all tail rest : List ℕ) → all ++ tail ≡ mark ++ rest → length mark ≤ length all → (x : List ℕ) × (all ≡ mark ++ x)
prefix-of [] all tail rest e l = (all, refl)
prefix-of (m ∷ ms) [] tail rest e l = absurd (omega (arith, l))
prefix-of (m ∷ ms) (a ∷ rs) tail rest e l =
    let r = prefix-of ms rs tail rest (tail-same a m (rs ++ tail) (ms ++ rest) e) (omega (arith, l)) in
    (r.0, ap (λ (h : ℕ). h ∷ rs) (head-same a m (rs ++ tail) (ms ++ rest) e) ∙ ap (λ (t : List ℕ). m ∷ t) r.1)

le-or : (a b : ℕ) → (a ≤ b) ⊎ (b < a)
le-or a b = grind arith

-- where more is due of these lines than was written, at most 4,096 bytes were taken past them
pub reach-short : {A : Type 0} {tells : Bool} {limit : Limit} {s0 s1 : SourceAt} {F : List Answer → A} {owed : A} (taken mark x : List ℕ)
    → Reach tells limit s0 s1 taken F owed → taken ≡ mark ++ x → HasEnd mark
    → ((y : List ℕ) → F (scan limit Broken [] (mark ++ y)) ≡ owed → ⊥) → length x ≤ longest
reach-short {A} {tells} {limit} {s0} {s1} {F} {owed} taken mark x r e h more =
    elim (le-or (length mark) (length r.before)) [
      | inl l ↦
          let f = prefix-of mark r.before (r.line ++ r.ahead) x (sym (append_assoc r.before r.line r.ahead) ∙ sym r.parts ∙ e) l in
          absurd (more f.0 (ap (λ (t : List ℕ). F (scan limit Broken [] t)) (sym f.1) ∙ r.due))
      | inr l ↦
          let s = lines-short r.before r.line r.ahead mark x (sym r.parts ∙ e) r.one h l in
          omega (arith, s, r.few, length-append (r.before ++ r.line) r.ahead, length-append mark x, ap (λ (t : List ℕ). length t) (sym r.parts ∙ e))
    ]

pub no-further : {A : Type 0} {tells : Bool} {limit : Limit} {s0 s1 : SourceAt} {F : List Answer → A} {owed : A} {P : List Answer → Type 0} (mark rest : List ℕ)
    → Reads tells limit s0 s1 F owed P → IsTrue tells → s0.rest ≡ mark ++ rest → HasEnd mark
    → ((y : List ℕ) → F (scan limit Broken [] (mark ++ y)) ≡ owed → ⊥) → length rest ≤ longest + length s1.rest
no-further {A} {tells} {limit} {s0} {s1} {F} {owed} {P} mark rest r t e h more =
    let same : r.taken ++ s1.rest ≡ mark ++ rest = sym (r.from_source t) ∙ e in
    let lengths : length r.taken + length s1.rest ≡ length mark + length rest = sym (length-append r.taken s1.rest) ∙ ap (λ (v : List ℕ). length v) same ∙ length-append mark rest in
    elim (le-or (length mark) (length r.taken)) [
      | inl l ↦
          let f = prefix-of mark r.taken s1.rest rest same l in
          omega (arith, lengths, reach-short r.taken mark f.0 r.reach f.1 h more, ap (λ (v : List ℕ). length v) f.1, length-append mark f.0)
      | inr l ↦ omega (arith, lengths, l)
    ]
