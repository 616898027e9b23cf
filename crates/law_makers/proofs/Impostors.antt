-- What a name tells.
use Rattle.std.proofs.Common.{◌≡◌, ℕ, ◌+◌, ◌-◌, ◌<◌, ◌==◌, Bool, true, false, cond, zero, suc, List, [], ◌∷◌, ◌++◌, length, take, drop, refl, sym, ◌∙◌, ap, subst, arith}
use Rattle.std.specs.Prelude.{bytes_eq}
use Rattle.std.specs.Int.{w16, w32, to_le_bytes, from_le_bytes}
use Rattle.std.proofs.lemmas.Nat.{from_le_bytes-to_le_bytes_2}
use Rattle.std.proofs.lemmas.Bool.{eq-eqb, eqb-true, eqb-false, and_from}
use Rattle.std.proofs.lemmas.List.{length-append, append_cancel_left}
use Rattle.lemmas.proofs.Texts.{bytes_eq-same}
use Rattle.sx_rules.specs.declared.section.Layout.{Layout}
use Rattle.sx_tag.specs.Keys.{identity, layout_bytes}
use Rattle.spec_machine.specs.Memory.{bytes_from}
use Rattle.spec_run.specs.Setting.{same_layout, is_at_site}
use Rattle.spec_run.specs.Deployer.{list_at}
use Rattle.spec_run.proofs.steps.Entry.{layout_self}
use Rattle.spec_run.proofs.steps.Foreign.{position_some}
use Rattle.law_forgery.specs.Named.{code, names}
use Rattle.law_forgery.proofs.Tabling.{bytes_in, read_back}
use Rattle.law_makers.specs.Impostors.{identity_with, IdentitiesDiffer, ImpostorsHaveOtherNames, NamesAreUnlawful}

-- where the ends are as long, the beginnings are one
beginnings : (t u x y : List ℕ) → length x ≡ length y → t ++ x ≡ u ++ y → t ≡ u
beginnings [] [] x y e h = refl
beginnings [] (c ∷ u) x y e h = absurd (omega (arith, e, length-append (c ∷ u) y, ap length h))
beginnings (b ∷ t) [] x y e h = absurd (omega (arith, e, length-append (b ∷ t) x, ap length h))
beginnings (b ∷ t) (c ∷ u) x y e h =
    let first : b ≡ c = ap first_of_list h in
    let rest : t ++ x ≡ u ++ y = ap (drop 1) h in
    subst (λ (z : ℕ). b ∷ t ≡ z ∷ u) first (ap (λ (z : List ℕ). b ∷ z) (beginnings t u x y e rest))
  where
    first_of_list : List ℕ → ℕ
    first_of_list [] = 0
    first_of_list (z ∷ zs) = z

pub word_told : (m n : ℕ) → m < 65536 → n < 65536 → to_le_bytes w16 m ≡ to_le_bytes w16 n → m ≡ n
word_told m n p q h = sym (from_le_bytes-to_le_bytes_2 m p) ∙ ap (from_le_bytes w16) h ∙ from_le_bytes-to_le_bytes_2 n q

pub identities_differ : IdentitiesDiffer
unfolding identity
identities_differ t u a b p q h =
    let same : t ≡ u = beginnings t u (layout_bytes a.pub_from a.pub_to a.priv_from a.priv_to) (layout_bytes b.pub_from b.pub_to b.priv_from b.priv_to) refl h in
    let ends : layout_bytes a.pub_from a.pub_to a.priv_from a.priv_to ≡ layout_bytes b.pub_from b.pub_to b.priv_from b.priv_to
    = append_cancel_left t (layout_bytes a.pub_from a.pub_to a.priv_from a.priv_to) (layout_bytes b.pub_from b.pub_to b.priv_from b.priv_to)
    (h ∙ ap (λ (z : List ℕ). z ++ layout_bytes b.pub_from b.pub_to b.priv_from b.priv_to) (sym same)) in (
      same,
      bounds a b (word_told a.pub_from b.pub_from p.pub_from q.pub_from (ap (take 2) ends))
          (word_told a.pub_to b.pub_to p.pub_to q.pub_to (ap (λ (z : List ℕ). take 2 (drop 2 z)) ends))
          (word_told a.priv_from b.priv_from p.priv_from q.priv_from (ap (λ (z : List ℕ). take 2 (drop 4 z)) ends))
          (word_told a.priv_to b.priv_to p.priv_to q.priv_to (ap (λ (z : List ℕ). take 2 (drop 6 z)) ends)),
    )
  where
    bounds : (a b : Layout) → a.pub_from ≡ b.pub_from → a.pub_to ≡ b.pub_to → a.priv_from ≡ b.priv_from → a.priv_to ≡ b.priv_to → a ≡ b
    bounds a b w x y z =
        ap (λ (v : ℕ). record { pub_from = v; pub_to = a.pub_to; priv_from = a.priv_from; priv_to = a.priv_to }) w
        ∙ ap (λ (v : ℕ). record { pub_from = b.pub_from; pub_to = v; priv_from = a.priv_from; priv_to = a.priv_to }) x
        ∙ ap (λ (v : ℕ). record { pub_from = b.pub_from; pub_to = b.pub_to; priv_from = v; priv_to = a.priv_to }) y
        ∙ ap (λ (v : ℕ). record { pub_from = b.pub_from; pub_to = b.pub_to; priv_from = b.priv_from; priv_to = v }) z

pub name_at : (count i n : ℕ) → n < count → list_at (names i count) n ≡ (i + n) ∷ []
name_at zero i n lt = absurd (omega (arith, lt))
name_at (suc count) i n lt = by (n == 0) refl (name_at count (i + 1) (n - 1))
  where
    by : (b : Bool) → (n == 0) ≡ b → (n - 1 < count → list_at (names (i + 1) count) (n - 1) ≡ (i + 1 + (n - 1)) ∷ [])
        → cond b (i ∷ []) (list_at (names (i + 1) count) (n - 1)) ≡ (i + n) ∷ []
    by true e rec = let none = eqb-true n 0 e in let same : i ≡ i + n = omega (arith, none) in ap (λ (z : ℕ). z ∷ []) same
    by false e rec =
        let some = eqb-false n 0 e in
        let same : i + 1 + (n - 1) ≡ i + n = omega (arith, some) in
        rec (omega (arith, lt, some)) ∙ ap (λ (z : ℕ). z ∷ []) same

pub code_told : (s t : List ℕ) → code s ≡ code t → s ≡ t
code_told s t h = sym (read_back s) ∙ ap bytes_in h ∙ read_back t

pub impostors_have_other_names : ImpostorsHaveOtherNames
impostors_have_other_names set n boot at mem x m site low low2 pr pr2 wx ws sited none same =
    let text = bytes_from mem x.layout.pub_from (x.layout.pub_to - x.layout.pub_from) in
    let here : n ∷ code (to_le_bytes w32 boot) ∷ code (to_le_bytes w16 x.provider) ∷ code (identity_with text x.layout) ∷ []
    ≡ site.node ∷ code (to_le_bytes w32 at) ∷ code (to_le_bytes w16 site.provider) ∷ code (identity_with site.text site.layout) ∷ []
    = sym (ap (λ (z : List ℕ). z ++ code (to_le_bytes w32 boot) ∷ code (to_le_bytes w16 x.provider) ∷ code (identity_with text x.layout) ∷ []) (name_at (length set.keys) 0 n low ∙ ap (λ (z : ℕ). z ∷ []) (zero_first n)))
    ∙ same
    ∙ ap (λ (z : List ℕ). z ++ code (to_le_bytes w32 at) ∷ code (to_le_bytes w16 site.provider) ∷ code (identity_with site.text site.layout) ∷ []) (name_at (length set.keys) 0 site.node low2 ∙ ap (λ (z : ℕ). z ∷ []) (zero_first site.node)) in
    let node : n ≡ site.node = ap (nth 0) here in
    let provider : x.provider ≡ site.provider = word_told x.provider site.provider pr pr2 (code_told (to_le_bytes w16 x.provider) (to_le_bytes w16 site.provider) (ap (nth 2) here)) in
    let parts = identities_differ text site.text x.layout site.layout wx ws (code_told (identity_with text x.layout) (identity_with site.text site.layout) (ap (nth 3) here)) in
    position_some (is_at_site n mem x) 0 set.sites m site sited
    (and_from (site.node == n) _ (eq-eqb site.node n (sym node))
    (and_from (same_layout x.layout site.layout) _ (ap (same_layout x.layout) (sym parts.1) ∙ layout_self x.layout)
    (and_from (x.provider == site.provider) (bytes_eq text site.text) (eq-eqb x.provider site.provider provider)
    (ap (bytes_eq text) (sym parts.0) ∙ bytes_eq-same text)))) none
  where
    zero_first : (k : ℕ) → 0 + k ≡ k
    zero_first k = omega arith

    nth : ℕ → List ℕ → ℕ
    nth k [] = 0
    nth zero (z ∷ zs) = z
    nth (suc k) (z ∷ zs) = nth k zs

pub names_are_unlawful : NamesAreUnlawful
names_are_unlawful table mac h =
    let e : 2 ≡ 32 = h.width (0 ∷ []) (0x4B ∷ []) in absurd (omega (arith, e))
