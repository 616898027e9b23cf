-- A setting with names in place of keys agrees with the one that it names.
use Rattle.std.proofs.Common.{◌≡◌, ◌≢◌, ℕ, zero, suc, ◌+◌, ◌*◌, ◌-◌, ◌==◌, ◌⊎◌, inl, inr, Bool, true, false, cond, List, [], ◌∷◌, ◌++◌, length, take, refl, sym, ◌∙◌, ap, subst}
use Rattle.std.specs.Int.{w16, w32, to_le_bytes}
use Rattle.std.proofs.lemmas.Bool.{ne_eqb, eq-eqb}
use Rattle.sx_tag.specs.Mac.{Mac}
use Rattle.sx_tag.specs.Keys.{kdf, boot_key, section_key, module_key}
use Rattle.byteorder.specs.Endian.{little_bytes}
use Rattle.spec_run.specs.Deployer.{list_at}
use Rattle.law_forgery.specs.Named.{code, looked, named, names, NamesAgree}

-- a node's name is one number; past the last node there is none
abbrev IsName : List ℕ → Type 0
IsName l = (l ≡ []) ⊎ ((n : ℕ) × (l ≡ n ∷ []))

pub is_name : (count i k : ℕ) → IsName (list_at (names i count) k)
is_name zero i k = inl refl
is_name (suc count) i k = by (k == 0) (is_name count (i + 1) (k - 1))
  where
    by : (b : Bool) → IsName (list_at (names (i + 1) count) (k - 1)) → IsName (cond b (i ∷ []) (list_at (names (i + 1) count) (k - 1)))
    by true h = inr (i, refl)
    by false h = h

module _ (table mac : Mac) where
  -- the key that comes of a name
  pub key_named : (l : List ℕ) (boot provider : ℕ) (identity : List ℕ) → IsName l
      → module_key (named table mac) l boot provider identity ≡ l ++ code (to_le_bytes w32 boot) ∷ code (to_le_bytes w16 provider) ∷ code identity ∷ []
  unfolding module_key section_key boot_key kdf
  key_named l boot provider identity (inl e) =
      subst (λ (z : List ℕ). module_key (named table mac) z boot provider identity ≡ z ++ code (to_le_bytes w32 boot) ∷ code (to_le_bytes w16 provider) ∷ code identity ∷ []) (sym e) refl
  key_named l boot provider identity (inr h) =
      subst (λ (z : List ℕ). module_key (named table mac) z boot provider identity ≡ z ++ code (to_le_bytes w32 boot) ∷ code (to_le_bytes w16 provider) ∷ code identity ∷ []) (sym h.1) refl

  -- a tag under a module's name is looked up
  tag_named : (l : List ℕ) (a b c kind : ℕ) (rest : List ℕ) → IsName l → kind ≢ 0x4B
      → named table mac (l ++ a ∷ b ∷ c ∷ []) (kind ∷ rest) ≡ table (l ++ a ∷ b ∷ c ∷ []) (kind ∷ rest)
  tag_named l a b c kind rest (inl e) ne =
      subst (λ (z : List ℕ). named table mac (z ++ a ∷ b ∷ c ∷ []) (kind ∷ rest) ≡ table (z ++ a ∷ b ∷ c ∷ []) (kind ∷ rest)) (sym e)
      (ap (λ (t : Bool). cond t (a ∷ b ∷ c ∷ code rest ∷ []) (table (a ∷ b ∷ c ∷ []) (kind ∷ rest))) (ne_eqb kind 0x4B ne))
  tag_named l a b c kind rest (inr h) ne =
      subst (λ (z : List ℕ). named table mac (z ++ a ∷ b ∷ c ∷ []) (kind ∷ rest) ≡ table (z ++ a ∷ b ∷ c ∷ []) (kind ∷ rest)) (sym h.1)
      (ap (λ (t : Bool). cond t (h.0 ∷ a ∷ b ∷ c ∷ code rest ∷ []) (table (h.0 ∷ a ∷ b ∷ c ∷ []) (kind ∷ rest))) (ne_eqb kind 0x4B ne))

  -- under 16 bytes the tags are as before
  tag_held : (k message : List ℕ) → length k ≡ 16 → mac k message ≡ named table mac k message
  tag_held k message e = ap (λ (t : Bool). cond t (mac k message) (looked table k message)) (sym (eq-eqb (length k) 16 e))

pub names_long : (i n : ℕ) → length (names i n) ≡ n
names_long i zero = refl
names_long i (suc n) = ap suc (names_long (i + 1) n)

pub names_agree : NamesAgree
unfolding kdf
names_agree table set secret has = record {
  rest = refl;
  count = sym (names_long 0 (length set.keys));
  modules = λ n boot provider identity kind rest ne.
      let l = list_at (names 0 (length set.keys)) n in
      let is = is_name (length set.keys) 0 n in
      sym (ap (λ (z : List ℕ). named table set.mac z (kind ∷ rest)) (key_named table set.mac l boot provider identity is)
      ∙ tag_named table set.mac l (code (to_le_bytes w32 boot)) (code (to_le_bytes w16 provider)) (code identity) kind rest is ne
      ∙ has n boot provider identity (kind ∷ rest));
  held = λ k e kind rest ne. tag_held table set.mac k (kind ∷ rest) e;
  links = λ link epoch. ap (take 16) (tag_held table set.mac set.secret (0x4B ∷ little_bytes 2 (link + 256 * epoch)) secret);
}
