-- Whether a key is a deployed module's can be found out: boots enter keys as four bytes.
use Rattle.std.proofs.Common.{◌≡◌, ◌≢◌, ℕ, zero, suc, ◌/◌, ◌%◌, ◌<◌, Bool, true, false, cond, bytes_eq, List, [], ◌∷◌, length, refl, sym, ◌∙◌, ap, arith, lit<}
use Rattle.std.specs.Prelude.{slice_get, Option, Some, None}
use Rattle.std.specs.Int.{w32, to_le_bytes}
use Rattle.std.proofs.lemmas.Bool.{true≢false}
use Rattle.std.proofs.lemmas.Nat.{mod_below}
use Rattle.std.proofs.lemmas.Slice.Eq.{bytes_eq-Decides}
use Rattle.std.proofs.lemmas.Option.{slice_get_within}
use Rattle.sx_tag.specs.Keys.{kdf, boot_key, section_key, module_key, identity}
use Rattle.spec_run.specs.Setting.{Setting, Site}
use Rattle.spec_run.specs.Deployer.{list_at, key_of}
use Rattle.law_connections.specs.Unlinks.{IsDeployedKey}
use Rattle.law_connections.specs.Laws.{UnlinksAll}
use Rattle.law_connections.proofs.Moved.{TellsApart, moved_setting}
use Rattle.law_connections.proofs.Unlinking.{moves}

-- the test is true below the bound
any_below : ℕ → (ℕ → Bool) → Bool
any_below zero test = false
any_below (suc n) test = cond (test n) true (any_below n test)

any_found : (n i : ℕ) (test : ℕ → Bool) → i < n → test i ≡ true → any_below n test ≡ true
unfolding any_below
any_found zero i test lt h = absurd (omega (arith, lt))
any_found (suc n) i test lt h = by (test n) refl (λ l. any_found n i test l h)
  where
    differ : test n ≡ false → i ≢ n
    differ e same = true≢false (sym (ap test (sym same) ∙ h) ∙ e)

    by : (b : Bool) → test n ≡ b → (i < n → any_below n test ≡ true) → cond b true (any_below n test) ≡ true
    by true e rest = refl
    by false e rest = rest (omega (arith, lt, differ e))

any_which : (n : ℕ) (test : ℕ → Bool) → any_below n test ≡ true → (i : ℕ) × (test i ≡ true)
unfolding any_below
any_which zero test h = absurd (true≢false (sym h))
any_which (suc n) test h = by (test n) refl h (any_which n test)
  where
    by : (b : Bool) → test n ≡ b → cond b true (any_below n test) ≡ true → (any_below n test ≡ true → (i : ℕ) × (test i ≡ true)) → (i : ℕ) × (test i ≡ true)
    by true e h rest = (n, e)
    by false e h rest = rest h

bytes_mod : (boot : ℕ) → to_le_bytes w32 (boot % 4294967296) ≡ to_le_bytes w32 boot
bytes_mod boot =
    let a : boot % 4294967296 % 256 ≡ boot % 256 = omega arith in
    let b : boot % 4294967296 / 256 % 256 ≡ boot / 256 % 256 = omega arith in
    let c : boot % 4294967296 / 65536 % 256 ≡ boot / 65536 % 256 = omega arith in
    let d : boot % 4294967296 / 16777216 % 256 ≡ boot / 16777216 % 256 = omega arith in
    ap (λ (z : ℕ). z ∷ (boot % 4294967296 / 256 % 256) ∷ (boot % 4294967296 / 65536 % 256) ∷ (boot % 4294967296 / 16777216 % 256) ∷ []) a
    ∙ ap (λ (z : ℕ). (boot % 256) ∷ z ∷ (boot % 4294967296 / 65536 % 256) ∷ (boot % 4294967296 / 16777216 % 256) ∷ []) b
    ∙ ap (λ (z : ℕ). (boot % 256) ∷ (boot / 256 % 256) ∷ z ∷ (boot % 4294967296 / 16777216 % 256) ∷ []) c
    ∙ ap (λ (z : ℕ). (boot % 256) ∷ (boot / 256 % 256) ∷ (boot / 65536 % 256) ∷ z ∷ []) d

module _ (a : Setting) where
  key_mod : (site : Site) (boot : ℕ) → key_of a site (boot % 4294967296) ≡ key_of a site boot
  unfolding module_key boot_key
  key_mod site boot =
      ap (λ (part : List ℕ). section_key a.mac (kdf a.mac (list_at a.keys site.node) part) site.provider
      (identity site.text site.layout.pub_from site.layout.pub_to site.layout.priv_from site.layout.priv_to)) (bytes_mod boot)

  -- the key is the site's below this boot
  of_site : ℕ → List ℕ → Option Site → Bool
  of_site top k None = false
  of_site top k (Some site) = any_below top (λ boot. bytes_eq k (key_of a site boot))

  pub finds : ℕ → List ℕ → Bool
  finds top k = any_below (length a.sites) (λ m. of_site top k (slice_get a.sites m))

  finds_all : (top : ℕ) → (m boot : ℕ) (site : Site) → boot < top → slice_get a.sites m ≡ Some site → finds top (key_of a site boot) ≡ true
  unfolding finds of_site
  finds_all top m boot site lt found =
      any_found (length a.sites) m (λ i. of_site top (key_of a site boot) (slice_get a.sites i)) (slice_get_within a.sites m site found)
      (ap (of_site top (key_of a site boot)) found
      ∙ any_found top boot (λ i. bytes_eq (key_of a site boot) (key_of a site i)) lt ((bytes_eq-Decides (key_of a site boot) (key_of a site boot)).1 refl))

  finds_only : (top : ℕ) (k : List ℕ) → finds top k ≡ true → IsDeployedKey a k
  unfolding finds of_site
  finds_only top k h =
      let w = any_which (length a.sites) (λ i. of_site top k (slice_get a.sites i)) h in
      by w.0 (slice_get a.sites w.0) refl w.1
    where
      by : (m : ℕ) (o : Option Site) → slice_get a.sites m ≡ o → of_site top k o ≡ true → IsDeployedKey a k
      by m None e h = absurd (true≢false (sym h))
      by m (Some site) e h =
          let w = any_which top (λ i. bytes_eq k (key_of a site i)) h in
          (m, w.0, site, e, (bytes_eq-Decides k (key_of a site w.0)).0 w.1)

  finds_none : (top : ℕ) (k : List ℕ) → (IsDeployedKey a k → ⊥) → finds top k ≡ false
  finds_none top k none = by (finds top k) refl
    where
      by : (b : Bool) → finds top k ≡ b → b ≡ false
      by true e = absurd (none (finds_only top k e))
      by false e = refl

  pub tells_apart : (top : ℕ) → ((boot : ℕ) → (boot % 4294967296) < top) → TellsApart a (finds top)
  tells_apart top below = record {
    sites = λ m boot site found.
        ap (finds top) (sym (key_mod site boot)) ∙ finds_all top m (boot % 4294967296) site (below boot) found;
    others = λ k none. finds_none top k none;
  }

pub unlinks_all : UnlinksAll
unlinks_all a sound always move back moving apart =
    let holds = finds a 4294967296 in
    let tells = tells_apart a 4294967296 (λ boot. mod_below boot 4294967296 (lit< tt)) in
    (moved_setting move back holds a, moves a move back holds sound always moving tells apart)
