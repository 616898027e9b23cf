-- There is a table of the tags under all names: the parts of a name tell its module.
use Rattle.std.proofs.Common.{◌≡◌, ◌≢◌, ℕ, zero, suc, ◌+◌, ◌-◌, ◌*◌, ◌/◌, ◌%◌, ◌^◌, ◌<◌, ◌≤◌, ◌==◌, ◌⊎◌, inl, inr, Bool, true, false, cond, List, [], ◌∷◌, ◌++◌, length, refl, sym, ◌∙◌, ap, arith}
use Rattle.std.proofs.Common.{mul_assoc, mul_left_comm, pow-suc}
use Rattle.std.specs.Int.{w16, w32, to_le_bytes}
use Rattle.std.proofs.lemmas.Bool.{ne_eqb, eq-eqb, eqb-true, eqb-false}
use Rattle.sx_tag.specs.Mac.{Mac}
use Rattle.sx_tag.specs.Keys.{kdf, boot_key, section_key, module_key}
use Rattle.spec_run.specs.Setting.{Setting}
use Rattle.spec_run.specs.Deployer.{list_at}
use Rattle.law_forgery.specs.Named.{code, names, HasTags, TagsTabled}

-- the list that a number is the code of, with fuel, after so many halvings
abbrev decoded : ℕ → ℕ → ℕ → List ℕ
decoded zero b n = []
decoded (suc f) b n = cond (n == 0) [] (cond (n % 2 == 0) (decoded f (b + 1) (n / 2)) (b ∷ decoded f 0 (n / 2)))

none_left : (f b : ℕ) → decoded f b 0 ≡ []
none_left zero b = refl
none_left (suc f) b = refl

odd : (f b c : ℕ) → decoded (suc f) b (2 * c + 1) ≡ b ∷ decoded f 0 c
odd f b c =
    let n = 2 * c + 1 in
    let some : n ≢ 0 = λ e. omega (arith, e) in
    let one : n % 2 ≢ 0 = λ e. omega (arith, e) in
    let half : n / 2 ≡ c = omega arith in
    ap (λ (t : Bool). cond t [] (cond (n % 2 == 0) (decoded f (b + 1) (n / 2)) (b ∷ decoded f 0 (n / 2)))) (ne_eqb n 0 some)
    ∙ ap (λ (t : Bool). cond t (decoded f (b + 1) (n / 2)) (b ∷ decoded f 0 (n / 2))) (ne_eqb (n % 2) 0 one)
    ∙ ap (λ (m : ℕ). b ∷ decoded f 0 m) half

even : (f b x : ℕ) → 0 < x → decoded (suc f) b (2 * x) ≡ decoded f (b + 1) x
even f b x lt =
    let n = 2 * x in
    let some : n ≢ 0 = λ e. omega (arith, e, lt) in
    let none : n % 2 ≡ 0 = omega arith in
    let half : n / 2 ≡ x = omega arith in
    ap (λ (t : Bool). cond t [] (cond (n % 2 == 0) (decoded f (b + 1) (n / 2)) (b ∷ decoded f 0 (n / 2)))) (ne_eqb n 0 some)
    ∙ ap (λ (t : Bool). cond t (decoded f (b + 1) (n / 2)) (b ∷ decoded f 0 (n / 2))) (eq-eqb (n % 2) 0 none)
    ∙ ap (decoded f (b + 1)) half

twice : (b x : ℕ) → 2 ^ suc b * x ≡ 2 * (2 ^ b * x)
twice b x = ap (λ (n : ℕ). n * x) (pow-suc 2 b) ∙ mul_assoc (2 ^ b) 2 x ∙ mul_left_comm (2 ^ b) 2 x

-- the product is at least as large as the first number and the second
large : (b c : ℕ) → b + c + 1 ≤ 2 ^ b * (2 * c + 1)
large zero c = let e : 2 ^ 0 * (2 * c + 1) ≡ 2 * c + 1 = omega arith in omega (arith, e)
large (suc b) c = let e = twice b (2 * c + 1) in omega (arith, e, large b c)

first : (b f k c : ℕ) → decoded (b + suc f) k (2 ^ b * (2 * c + 1)) ≡ (k + b) ∷ decoded f 0 c
first zero f k c =
    let fuel : 0 + suc f ≡ suc f = omega arith in
    let e : 2 ^ 0 * (2 * c + 1) ≡ 2 * c + 1 = omega arith in
    let same : k ≡ k + 0 = omega arith in
    ap (λ (n : ℕ). decoded n k (2 ^ 0 * (2 * c + 1))) fuel ∙ ap (decoded (suc f) k) e ∙ odd f k c ∙ ap (λ (n : ℕ). n ∷ decoded f 0 c) same
first (suc b) f k c =
    let fuel : suc b + suc f ≡ suc (b + suc f) = omega arith in
    let same : k + 1 + b ≡ k + suc b = omega arith in
    ap (λ (n : ℕ). decoded n k (2 ^ suc b * (2 * c + 1))) fuel ∙ ap (decoded (suc (b + suc f)) k) (twice b (2 * c + 1))
    ∙ even (b + suc f) k (2 ^ b * (2 * c + 1)) (omega (arith, large b c)) ∙ first b f (k + 1) c ∙ ap (λ (n : ℕ). n ∷ decoded f 0 c) same

all : (bs : List ℕ) (f : ℕ) → code bs ≤ f → decoded f 0 (code bs) ≡ bs
all [] f le = none_left f 0
all (b ∷ bs) f le =
    let big = large b (code bs) in
    let rest = f - b - 1 in
    let fuel : f ≡ b + suc rest = omega (arith, big, le) in
    let same : 0 + b ≡ b = omega arith in
    ap (λ (n : ℕ). decoded n 0 (code (b ∷ bs))) fuel ∙ first b rest 0 (code bs) ∙ ap (λ (n : ℕ). n ∷ decoded rest 0 (code bs)) same
    ∙ ap (λ (xs : List ℕ). b ∷ xs) (all bs rest (omega (arith, big, le)))

pub bytes_in : ℕ → List ℕ
bytes_in n = decoded n 0 n

pub read_back : (bs : List ℕ) → bytes_in (code bs) ≡ bs
unfolding bytes_in
read_back bs = all bs (code bs) (omega arith)

-- A node's name is its number, and where there is no name there is no key.
abbrev IsNode : ℕ → ℕ → (name key : List ℕ) → Type 0
IsNode i n name key = (name ≡ (i + n) ∷ []) ⊎ ((name ≡ []) × (key ≡ []))

node_named : (keys : List (List ℕ)) (i n : ℕ) → IsNode i n (list_at (names i (length keys)) n) (list_at keys n)
node_named [] i n = inr (refl, refl)
node_named (k ∷ keys) i n = by (n == 0) refl (node_named keys (i + 1) (n - 1))
  where
    by : (b : Bool) → (n == 0) ≡ b → IsNode (i + 1) (n - 1) (list_at (names (i + 1) (length keys)) (n - 1)) (list_at keys (n - 1))
        → IsNode i n (cond b (i ∷ []) (list_at (names (i + 1) (length keys)) (n - 1))) (cond b k (list_at keys (n - 1)))
    by true e r = let none = eqb-true n 0 e in let same : i ≡ i + n = omega (arith, none) in inl (ap (λ (z : ℕ). z ∷ []) same)
    by false e (inl h) = let some = eqb-false n 0 e in let same : i + 1 + (n - 1) ≡ i + n = omega (arith, some) in inl (h ∙ ap (λ (z : ℕ). z ∷ []) same)
    by false e (inr h) = inr h

module _ (set : Setting) where
  derived : List ℕ → ℕ → ℕ → ℕ → List ℕ
  derived key b p i = kdf set.mac (kdf set.mac (kdf set.mac key (bytes_in b)) (bytes_in p)) (bytes_in i)

  table : Mac
  table (n ∷ b ∷ p ∷ i ∷ []) message = set.mac (derived (list_at set.keys n) b p i) message
  table (b ∷ p ∷ i ∷ []) message = set.mac (derived [] b p i) message
  table _ message = []

  derived_is : (key : List ℕ) (boot provider : ℕ) (identity : List ℕ)
      → derived key (code (to_le_bytes w32 boot)) (code (to_le_bytes w16 provider)) (code identity) ≡ module_key set.mac key boot provider identity
  unfolding derived module_key section_key boot_key
  derived_is key boot provider identity =
      let mac = set.mac in
      ap (λ (part : List ℕ). kdf mac (kdf mac (kdf mac key part) (bytes_in (code (to_le_bytes w16 provider)))) (bytes_in (code identity))) (read_back (to_le_bytes w32 boot))
      ∙ ap (λ (part : List ℕ). kdf mac (kdf mac (kdf mac key (to_le_bytes w32 boot)) part) (bytes_in (code identity))) (read_back (to_le_bytes w16 provider))
      ∙ ap (kdf mac (kdf mac (kdf mac key (to_le_bytes w32 boot)) (to_le_bytes w16 provider))) (read_back identity)

  has : HasTags table set
  unfolding table
  has n boot provider identity message =
      let b = code (to_le_bytes w32 boot) in
      let p = code (to_le_bytes w16 provider) in
      let i = code identity in
      let key = list_at set.keys n in
      let same : 0 + n ≡ n = omega arith in
      let tag : set.mac (derived key b p i) message ≡ set.mac (module_key set.mac key boot provider identity) message =
      ap (λ (k : List ℕ). set.mac k message) (derived_is key boot provider identity) in
      elim (node_named set.keys 0 n) [
        | inl a ↦ ap (λ (name : List ℕ). table (name ++ b ∷ p ∷ i ∷ []) message) (a ∙ ap (λ (z : ℕ). z ∷ []) same) ∙ tag
        | inr c ↦ ap (λ (name : List ℕ). table (name ++ b ∷ p ∷ i ∷ []) message) c.0 ∙ ap (λ (k : List ℕ). set.mac (derived k b p i) message) (sym c.1) ∙ tag
      ]

pub tags_tabled : TagsTabled
tags_tabled set = (table set, has set)
