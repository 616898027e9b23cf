-- A tag that no moment gives, and that each try misses, shows in nothing.
use Rattle.std.proofs.Common.{◌≡◌, ℕ, ◌⊎◌, inl, inr, Bool, true, false, ◌++◌, List, [], ◌∷◌, length, take, bytes_eq, refl, sym, ◌∙◌, ap, ap₂, subst, arith}
use Rattle.std.proofs.lemmas.Bool.{true≢false, cases_Bool}
use Rattle.std.proofs.lemmas.List.{length-take}
use Rattle.std.proofs.lemmas.Slice.Eq.{bytes_eq-Decides}
use Rattle.lemmas.proofs.Texts.{bytes_eq-same}
use Rattle.sx_tag.specs.Mac.{Mac}
use Rattle.sx_tag.specs.Wrap.{xor_bytes, crypt, wrap_tag}
use Rattle.spec_run.specs.Setting.{Setting}
use Rattle.law_uses.specs.Uses.{Holder, key_held, Use, Gives, Tries, Sizes, SameUse, SameUses, uses}
use Rattle.law_uses.specs.Whole.{DeriveTheSame}
use Rattle.law_uses.specs.Unasked.{DifferAt, Spares, AllSpare, UnaskedIsUnseen}
use Rattle.law_uses.proofs.Whole.{keys_are_held}
use Rattle.law_uses.proofs.Alone.{uses_alone}

-- lists are equal, or not
equal_or_not : (xs ys : List ℕ) → (xs ≡ ys) ⊎ (xs ≡ ys → ⊥)
equal_or_not xs ys = elim (cases_Bool (bytes_eq xs ys)) [
  | inl h ↦ inl ((bytes_eq-Decides xs ys).0 h)
  | inr h ↦ inr (λ e. absurd (true≢false (sym (bytes_eq-same xs) ∙ ap (bytes_eq xs) e ∙ h)))
]

abbrev head_of : List ℕ → ℕ
head_of [] = 0
head_of (x ∷ xs) = x

module _ (set : Setting) (nac : Mac) (key rest : List ℕ) (d : DifferAt set.mac nac key rest) where
  abbrev b : Setting
  b = record set { mac = nac }

  pub derive : DeriveTheSame set.mac nac
  derive k r = d.others k (0x4B ∷ r) (λ e f. let z : 0x4B ≡ 0x54 = ap head_of f in absurd (omega (arith, z)))

  pub held : (who : Holder) → key_held set who ≡ key_held b who
  held = (keys_are_held set nac derive).1

  -- elsewhere both give the same
  others : (who : Holder) (m : List ℕ) → (key_held set who ≡ key → m ≡ 0x54 ∷ rest → ⊥) → set.mac (key_held set who) m ≡ nac (key_held b who) m
  others who m f = d.others (key_held set who) m f ∙ ap (λ (k : List ℕ). nac k m) (held who)

  -- it is this entry, or both give the same
  here_or_same : (who : Holder) (m : List ℕ) → ((key_held set who ≡ key) × (m ≡ 0x54 ∷ rest)) ⊎ (set.mac (key_held set who) m ≡ nac (key_held b who) m)
  here_or_same who m = elim (equal_or_not (key_held set who) key) [
    | inr f ↦ inr (others who m (λ e g. f e))
    | inl e ↦ elim (equal_or_not m (0x54 ∷ rest)) [
      | inr f ↦ inr (others who m (λ e2 g. f g))
      | inl g ↦ inl (e, g)
    ]
  ]

  -- at the entry itself
  at_it : (who : Holder) (m : List ℕ) → key_held set who ≡ key → m ≡ 0x54 ∷ rest → (set.mac (key_held set who) m ≡ set.mac key (0x54 ∷ rest)) × (nac (key_held b who) m ≡ nac key (0x54 ∷ rest))
  at_it who m e g = (
    ap (λ (k : List ℕ). set.mac k m) e ∙ ap (set.mac key) g,
    ap (λ (k : List ℕ). nac k m) (sym (held who) ∙ e) ∙ ap (nac key) g,
  )

  pub stream_same : (who : Holder) (header body : List ℕ) → crypt set.mac (key_held set who) header body ≡ crypt nac (key_held b who) header body
  unfolding crypt
  stream_same who header body =
      ap (xor_bytes body) (others who (0x53 ∷ length header ∷ (header ++ 0 ∷ [])) (λ e f. let z : 0x53 ≡ 0x54 = ap head_of f in absurd (omega (arith, z))))

  pub long_here : (who : Holder) (m : List ℕ) → length (set.mac (key_held set who) m) ≡ length (nac (key_held b who) m)
  long_here who m = elim (here_or_same who m) [
    | inl h ↦ let p = at_it who m h.0 h.1 in ap length p.0 ∙ d.size ∙ sym (ap length p.1)
    | inr e ↦ ap length e
  ]

  taken_long : (xs ys : List ℕ) → length xs ≡ length ys → length (take 16 xs) ≡ length (take 16 ys)
  taken_long xs ys e = length-take 16 xs ∙ ap (λ (n : ℕ). Rattle.std.proofs.Common.min 16 n) e ∙ sym (length-take 16 ys)

  pub tag_long : (who : Holder) (header cipher : List ℕ) → length (wrap_tag set.mac (key_held set who) header cipher) ≡ length (wrap_tag nac (key_held b who) header cipher)
  unfolding wrap_tag
  tag_long who header cipher =
      let m = 0x54 ∷ length header ∷ (header ++ cipher) in
      taken_long (set.mac (key_held set who) m) (nac (key_held b who) m) (long_here who m)

  same : (u : Use) → Spares set nac key rest u → SameUse set b u
  same (Gives who kind r) h = others who (kind ∷ r) h
  same (Tries who kind r tag) h = elim (here_or_same who (kind ∷ r)) [
    | inr e ↦ ap (λ (t : List ℕ). bytes_eq tag (take 16 t)) e
    | inl g ↦
        let p = at_it who (kind ∷ r) g.0 g.1 in
        let miss = h g.0 g.1 in
        ap (λ (t : List ℕ). bytes_eq tag (take 16 t)) p.0 ∙ miss.0 ∙ sym miss.1 ∙ sym (ap (λ (t : List ℕ). bytes_eq tag (take 16 t)) p.1)
  ]
  same (Sizes who header body) h = (
    ap length (stream_same who header body),
    tag_long who header (crypt set.mac (key_held set who) header body)
        ∙ ap (λ (c : List ℕ). length (wrap_tag nac (key_held b who) header c)) (stream_same who header body),
  )

  pub all_same : (us : List Use) → AllSpare set nac key rest us → SameUses set b us
  all_same [] h = tt
  all_same (u ∷ us) h = (same u h.0, all_same us h.1)

pub unasked_is_unseen : UnaskedIsUnseen
unasked_is_unseen set nac key rest script k d p =
    uses_alone set (record set { mac = nac }) script k (keys_are_held set nac (derive set nac key rest d)).0
    (λ j now lt e. all_same set nac key rest d (uses set now) (p j now lt e))
