-- What a renewal does to the connections' epochs: those of the module's connections are one higher, and none is above 255.
use Rattle.std.proofs.Common.{◌≡◌, ℕ, zero, suc, ◌+◌, ◌<◌, ◌≤◌, inl, inr, ◌==◌, ◌&&◌, not, Bool}
use Rattle.std.proofs.Common.{true, false, if◌then◌else◌, List, [], ◌∷◌, length, Option, Some, None}
use Rattle.std.proofs.Common.{refl, sym, ◌∙◌, ap, subst, arith}
use Rattle.std.specs.Prelude.{slice_get, slice_index, nat_lt, nat_le}
use Rattle.std.specs.List.{cons_option}
use Rattle.std.proofs.lemmas.Bool.{true≢false, and_parts, or_left, or_parts, ltb-true, not-true, eq-eqb}
use Rattle.sx_lang.specs.declared.sides.Side.TheVariants.{From, To}
use Rattle.sx_mean.specs.declared.apps.Link.{Link}
use Rattle.sx_mean.specs.declared.events.End.{End}
use Rattle.sx_mean.specs.Application.{AppTree}
use Rattle.sx_mean.specs.Ends.{receiving, ends_after, ends_of}
use Rattle.sx_model.specs.State.{Attestation}
use Rattle.sx_model.specs.Renewal.{is_of, raised_epochs, is_spent, may_attest, boot_of, renewed}
use Rattle.spec_run.proofs.tie.Lists.{some_inj}
use Rattle.spec_run.proofs.tie.Tied.{HasEnd}

head_grows : (b : Bool) (e : ℕ) → e ≤ (if b then e + 1 else e)
head_grows true e = omega arith
head_grows false e = omega arith

same_le : (n : ℕ) → n ≤ n
same_le n = omega arith

raised_grows : (m : ℕ) (ls : List Link) (es : List ℕ) (c : ℕ) → slice_index es c ≤ slice_index (raised_epochs m ls es) c
raised_grows m [] es c = same_le (slice_index es c)
raised_grows m (l ∷ ls) [] c = same_le 0
raised_grows m (l ∷ ls) (e ∷ es) zero = head_grows (is_of m l) e
raised_grows m (l ∷ ls) (e ∷ es) (suc c) = raised_grows m ls es c

pub renewed_grows : (m : ℕ) (ls : List Link) (o : Option ℕ) (es : List ℕ) (c : ℕ) → slice_index es c ≤ slice_index (renewed m ls o es) c
renewed_grows m ls None es c = same_le (slice_index es c)
renewed_grows m ls (Some b) es c = raised_grows m ls es c

raised_long : (m : ℕ) (ls : List Link) (es : List ℕ) → length (raised_epochs m ls es) ≡ length es
raised_long m [] es = refl
raised_long m (l ∷ ls) [] = refl
raised_long m (l ∷ ls) (e ∷ es) = ap suc (raised_long m ls es)

pub renewed_long : (m : ℕ) (ls : List Link) (o : Option ℕ) (es : List ℕ) → length (renewed m ls o es) ≡ length es
renewed_long m ls None es = refl
renewed_long m ls (Some b) es = raised_long m ls es

-- a connection of the module
raised_own : (m : ℕ) (ls : List Link) (es : List ℕ) (c : ℕ) (l : Link) → slice_get ls c ≡ Some l → is_of m l ≡ true → length es ≡ length ls → slice_index es c < slice_index (raised_epochs m ls es) c
raised_own m [] es c l e h n = absurd cc
raised_own m (k ∷ ls) [] c l e h n = absurd (omega (arith, n))
raised_own m (k ∷ ls) (x ∷ es) zero l e h n = subst (λ b. x < (if b then x + 1 else x)) (sym (subst (λ z. is_of m z ≡ true) (sym (some_inj k l e)) h)) (omega arith)
raised_own m (k ∷ ls) (x ∷ es) (suc c) l e h n = raised_own m ls es c l e h (omega (arith, n))

pub from_is_of : (m : ℕ) (l : Link) → l.from ≡ m → is_of m l ≡ true
from_is_of m l e = or_left (l.from == m) (l.to == m) (subst (λ z. (l.from == z) ≡ true) e (eq-eqb l.from l.from refl))

head_small : (b : Bool) (e : ℕ) → e ≤ 255 → (b && nat_le 255 e) ≡ false → (if b then e + 1 else e) ≤ 255
head_small true e h s = let lt = below_top e s in omega (arith, lt)
  where
    below_top : (e : ℕ) → nat_le 255 e ≡ false → e < 255
    below_top e s = grind (arith, s)
head_small false e h s = h

raised_small : (m : ℕ) (ls : List Link) (es : List ℕ) → is_spent m ls es ≡ false → ((c : ℕ) → slice_index es c ≤ 255) → (c : ℕ) → slice_index (raised_epochs m ls es) c ≤ 255
raised_small m [] es s h c = h c
raised_small m (l ∷ ls) [] s h c = omega arith
raised_small m (l ∷ ls) (e ∷ es) s h zero = head_small (is_of m l) e (h 0) (or_parts (is_of m l && nat_le 255 e) (is_spent m ls es) s).0
raised_small m (l ∷ ls) (e ∷ es) s h (suc c) = raised_small m ls es (or_parts (is_of m l && nat_le 255 e) (is_spent m ls es) s).1 (λ k. h (suc k)) c

pub renewed_small : (m : ℕ) (ls : List Link) (o : Option ℕ) (es : List ℕ) (b : ℕ) → may_attest m ls es o b ≡ true
    → ((c : ℕ) → slice_index es c ≤ 255) → (c : ℕ) → slice_index (renewed m ls o es) c ≤ 255
renewed_small m ls None es b may h c = h c
renewed_small m ls (Some last) es b may h c = raised_small m ls es (not-true (is_spent m ls es) (and_parts (nat_lt last b) (not (is_spent m ls es)) may).1) h c

-- a module that was attested before is so at a later boot, and its connections' epochs are higher
pub later_boot : (m : ℕ) (ls : List Link) (o : Option Attestation) (es : List ℕ) (b : ℕ) (a : Attestation) → may_attest m ls es (boot_of o) b ≡ true → o ≡ Some a → a.boot < b
later_boot m ls None es b a may e = absurd cc
later_boot m ls (Some x) es b a may e =
    ltb-true a.boot b (subst (λ (z : Attestation). nat_lt z.boot b ≡ true) (some_inj x a e) (and_parts (nat_lt x.boot b) (not (is_spent m ls es)) may).0)

pub higher_epoch : (m : ℕ) (ls : List Link) (o : Option Attestation) (es : List ℕ) (a : Attestation) (c : ℕ) (l : Link) → o ≡ Some a → slice_get ls c ≡ Some l → l.from ≡ m → length es ≡ length ls
    → slice_index es c < slice_index (renewed m ls (boot_of o) es) c
higher_epoch m ls None es a c l e lk own n = absurd cc
higher_epoch m ls (Some x) es a c l e lk own n = raised_own m ls es c l lk (from_is_of m l own) n

-- Each connection has its two ends.

head_end : (b : Bool) (e : End) (es : List End) → b ≡ true → HasEnd (cons_option (if b then Some e else None) es) e
head_end true e es h = inl refl
head_end false e es h = absurd (true≢false (sym h))

tail_end : (b : Bool) (x e : End) (es : List End) → HasEnd es e → HasEnd (cons_option (if b then Some x else None) es) e
tail_end true x e es h = inr h
tail_end false x e es h = h

end_from : (n m : ℕ) (ls : List Link) (k : ℕ) (l : Link) → slice_get ls k ≡ Some l → l.from ≡ m → HasEnd (ends_after n m ls) (record { link = n + k; side = From; port = l.output })
end_from n m [] k l e own = absurd cc
end_from n m (x ∷ ls) zero l e own =
    let same = some_inj x l e in
    subst (λ (z : Link). HasEnd (ends_after n m (x ∷ ls)) (record { link = n + 0; side = From; port = z.output })) same
    (subst (λ i. HasEnd (ends_after n m (x ∷ ls)) (record { link = i; side = From; port = x.output })) (omega arith)
    (head_end (x.from == m) (record { link = n; side = From; port = x.output }) (cons_option (receiving n m x) (ends_after (n + 1) m ls)) (eq-eqb x.from m (ap (λ (z : Link). z.from) same ∙ own))))
end_from n m (x ∷ ls) (suc k) l e own =
    let rest = ends_after (n + 1) m ls in
    let s : End = record { link = n; side = From; port = x.output } in
    let r : End = record { link = n; side = To; port = x.input } in
    let f : End = record { link = n + suc k; side = From; port = l.output } in
    let h : HasEnd rest f = subst (λ i. HasEnd rest (record { link = i; side = From; port = l.output })) (omega arith) (end_from (n + 1) m ls k l e own) in
    tail_end (x.from == m) s f (cons_option (receiving n m x) rest) (tail_end (x.to == m) r f rest h)

end_to : (n m : ℕ) (ls : List Link) (k : ℕ) (l : Link) → slice_get ls k ≡ Some l → l.to ≡ m → HasEnd (ends_after n m ls) (record { link = n + k; side = To; port = l.input })
end_to n m [] k l e own = absurd cc
end_to n m (x ∷ ls) zero l e own =
    let same = some_inj x l e in
    let s : End = record { link = n; side = From; port = x.output } in
    subst (λ (z : Link). HasEnd (ends_after n m (x ∷ ls)) (record { link = n + 0; side = To; port = z.input })) same
    (subst (λ i. HasEnd (ends_after n m (x ∷ ls)) (record { link = i; side = To; port = x.input })) (omega arith)
    (tail_end (x.from == m) s (record { link = n; side = To; port = x.input }) (cons_option (receiving n m x) (ends_after (n + 1) m ls))
    (head_end (x.to == m) (record { link = n; side = To; port = x.input }) (ends_after (n + 1) m ls) (eq-eqb x.to m (ap (λ (z : Link). z.to) same ∙ own)))))
end_to n m (x ∷ ls) (suc k) l e own =
    let rest = ends_after (n + 1) m ls in
    let s : End = record { link = n; side = From; port = x.output } in
    let r : End = record { link = n; side = To; port = x.input } in
    let f : End = record { link = n + suc k; side = To; port = l.input } in
    let h : HasEnd rest f = subst (λ i. HasEnd rest (record { link = i; side = To; port = l.input })) (omega arith) (end_to (n + 1) m ls k l e own) in
    tail_end (x.from == m) s f (cons_option (receiving n m x) rest) (tail_end (x.to == m) r f rest h)

pub from_end : (app : AppTree) (c : ℕ) (l : Link) → slice_get app.links c ≡ Some l → HasEnd (ends_of app l.from) (record { link = c; side = From; port = l.output })
from_end app c l e = subst (λ i. HasEnd (ends_of app l.from) (record { link = i; side = From; port = l.output })) (omega arith) (end_from 0 l.from app.links c l e refl)

pub to_end : (app : AppTree) (c : ℕ) (l : Link) → slice_get app.links c ≡ Some l → HasEnd (ends_of app l.to) (record { link = c; side = To; port = l.input })
to_end app c l e = subst (λ i. HasEnd (ends_of app l.to) (record { link = i; side = To; port = l.input })) (omega arith) (end_to 0 l.to app.links c l e refl)
