-- The receiving end of a connection is found among the ends of the module that it goes to.
use Rattle.std.proofs.Common.{◌≡◌, ℕ, zero, suc, ◌+◌, ◌==◌, ◌&&◌, Bool, true, false, if◌then◌else◌, List, [], ◌∷◌, Option, Some, None, slice_get, refl, sym, ◌∙◌, ap, subst, arith}
use Rattle.std.specs.List.{cons_option}
use Rattle.std.proofs.lemmas.Bool.{eq-eqb, ne_eqb, and_right}
use Rattle.std.proofs.lemmas.Option.{same_Some}
use Rattle.sx_lang.specs.declared.sides.Side.TheVariants.{From, To}
use Rattle.sx_mean.specs.declared.apps.Link.{Link}
use Rattle.sx_mean.specs.declared.events.End.{End}
use Rattle.sx_mean.specs.Ends.{ends_after, receiving, sending}
use Rattle.spec_invocation.specs.Entries.{end_found, end_is}
use Rattle.law_setup.proofs.KeyLoop.{placed}

-- the first receiving end of a connection, from the i-th end on
pub record IsFound (c i : ℕ) (es : List End) (e : End) : Type 0 where
  pub place : ℕ
  pub found : end_found c To i es ≡ placed (i + place) e
  pub there : slice_get es place ≡ Some e

found_past : (o : Option End) (c i : ℕ) (es : List End) (e : End) → ((x : End) → o ≡ Some x → end_is c To x ≡ false) → ((k : ℕ) → IsFound c k es e) → IsFound c i (cons_option o es) e
found_past None c i es e other f = f i
found_past (Some x) c i es e other f =
    let r = f (i + 1) in
    let next : i + 1 + r.place ≡ i + suc r.place = omega arith in
    record {
      place = suc r.place;
      found = ap (λ (b : Bool). if b then placed i x else end_found c To (i + 1) es) (other x refl) ∙ r.found ∙ ap (λ (k : ℕ). placed k e) next;
      there = r.there;
    }

abbrev sent_end : ℕ → Link → End
sent_end c l = record { link = c; side = From; port = l.output }

abbrev received_end : ℕ → Link → End
received_end c l = record { link = c; side = To; port = l.input }

sending_not : (n p c : ℕ) (l : Link) (x : End) → sending n p l ≡ Some x → end_is c To x ≡ false
sending_not n p c l x e = go (l.from == p) e
  where
    go : (b : Bool) → (if b then Some (sent_end n l) else None) ≡ Some x → end_is c To x ≡ false
    go true e = subst (λ (z : End). end_is c To z ≡ false) (same_Some (sent_end n l) x e) (and_right (n == c) false refl)
    go false e = absurd cc

receiving_not : (n p c : ℕ) (l : Link) (x : End) → (n ≡ c → ⊥) → receiving n p l ≡ Some x → end_is c To x ≡ false
receiving_not n p c l x apart e = go (l.to == p) e
  where
    go : (b : Bool) → (if b then Some (received_end n l) else None) ≡ Some x → end_is c To x ≡ false
    go true e = subst (λ (z : End). end_is c To z ≡ false) (same_Some (received_end n l) x e) (ap (λ (b : Bool). b && true) (ne_eqb n c apart))
    go false e = absurd cc

here : (n p c i : ℕ) (x : Link) (rest : List End) → x.to ≡ p → n ≡ c → IsFound c i (cons_option (receiving n p x) rest) (received_end c x)
here n p c i x rest to at =
    let first : i ≡ i + 0 = omega arith in
    let same : end_is c To (received_end c x) ≡ true = ap (λ (b : Bool). b && true) (eq-eqb c c refl) in
    let one : IsFound c i (received_end c x ∷ rest) (received_end c x) = record {
      place = 0;
      found = ap (λ (b : Bool). if b then placed i (received_end c x) else end_found c To (i + 1) rest) same ∙ ap (λ (k : ℕ). placed k (received_end c x)) first;
      there = refl;
    } in
    let is : receiving n p x ≡ Some (received_end c x) = (ap (λ (b : Bool). if b then Some (received_end n x) else None) (eq-eqb x.to p to) ∙ ap (λ (k : ℕ). Some (received_end k x)) at) in
    subst (λ (o : Option End). IsFound c i (cons_option o rest) (received_end c x)) (sym is) one

found_from : (n p c : ℕ) (ls : List Link) (j : ℕ) (l : Link) (i : ℕ) → slice_get ls j ≡ Some l → l.to ≡ p → c ≡ n + j → IsFound c i (ends_after n p ls) (received_end c l)
found_from n p c [] j l i there to at = absurd cc
found_from n p c (x ∷ ls) zero l i there to at =
    let same : x ≡ l = same_Some x l there in
    let first : n ≡ c = omega (arith, at) in
    let one : (k : ℕ) → IsFound c k (cons_option (receiving n p x) (ends_after (n + 1) p ls)) (received_end c x) =
    (λ k. here n p c k x (ends_after (n + 1) p ls) (ap (λ (z : Link). z.to) same ∙ to) first) in
    subst (λ (z : Link). IsFound c i (ends_after n p (x ∷ ls)) (received_end c z)) same
    (found_past (sending n p x) c i (cons_option (receiving n p x) (ends_after (n + 1) p ls)) (received_end c x) (sending_not n p c x) one)
found_from n p c (x ∷ ls) (suc j) l i there to at =
    let apart : n ≡ c → ⊥ = (λ z. omega (arith, z, at)) in
    let next : c ≡ n + 1 + j = omega (arith, at) in
    found_past (sending n p x) c i (cons_option (receiving n p x) (ends_after (n + 1) p ls)) (received_end c l) (sending_not n p c x)
    (λ k. found_past (receiving n p x) c k (ends_after (n + 1) p ls) (received_end c l) (λ y. receiving_not n p c x y apart)
    (λ h. found_from (n + 1) p c ls j l h there to next))

pub end_there : (ls : List Link) (c : ℕ) (l : Link) → slice_get ls c ≡ Some l → IsFound c 0 (ends_after 0 l.to ls) (record { link = c; side = To; port = l.input })
end_there ls c l there = found_from 0 l.to c ls c l 0 there refl (omega arith)
