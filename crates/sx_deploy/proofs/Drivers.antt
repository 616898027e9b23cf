-- No two modules drive one device: their private sections would meet at its place.
use Rattle.std.proofs.Common.{◌≡◌, ℕ, ◌+◌, ◌-◌, ◌<◌, ◌≤◌, ◌==◌, if◌then◌else◌, Bool, true, false, ◌&&◌, cond, List, [], ◌∷◌, length, map, count_by, min, Option}
use Rattle.std.proofs.Common.{Some, None, refl, sym, ap, subst, ◌∙◌, ◌⊎◌, inl, inr, arith}
use Rattle.std.proofs.lemmas.Bool.{eqb-true, and_parts}
use Rattle.sx_lang.specs.Sizes.{module_data_size}
use Rattle.sx_lang.specs.declared.tree.DeviceKind.{DeviceKind}
use Rattle.sx_mean.specs.Application.{declared_kind, is_at, is_driven, same_kind}
use Rattle.sx_mean.specs.Validity.{same_device}
use Rattle.sx_mean.specs.declared.apps.AppDevice.{AppDevice}
use Rattle.sx_mean.specs.declared.apps.Link.{Link}
use Rattle.sx_entries.proofs.Each.{Each}
use Rattle.sx_entries.specs.Law.{IsThere}
use Rattle.sx_entries.specs.declared.entries.DeviceEntry.{DeviceEntry}
use Rattle.sx_entries.specs.declared.entries.Start.{Start}
use Rattle.sx_entries.specs.declared.entries.Start.TheVariants as start
use Rattle.sx_deploy.specs.Sources.{Coded}
use Rattle.sx_deploy.specs.Ties.{app_device, byte, start_device}
use Rattle.sx_deploy.specs.Places.{ends_of, start_of}
use Rattle.sx_deploy.specs.Law.{AreBeside}
use Rattle.sx_check.proofs.Distinct.{count_by-cons}
use Rattle.sx_deploy.proofs.Apart.{EachPair, stand, stand_after}

-- a device is on one node
one_node : (es : List AppDevice) (d n k : ℕ) (x y : DeviceKind) → is_at es d n x ≡ true → is_at es d k y ≡ true → n ≡ k
one_node [] d n k x y h i = absurd (cc)
one_node (e ∷ es) d n k x y h i = by_case (d == 0) h i (one_node es (d - 1) n k x y)
  where
    by_case : (b : Bool) → (if b then (e.node == n) && same_kind e.kind x else is_at es (d - 1) n x) ≡ true
        → (if b then (e.node == k) && same_kind e.kind y else is_at es (d - 1) k y) ≡ true
        → (is_at es (d - 1) n x ≡ true → is_at es (d - 1) k y ≡ true → n ≡ k) → n ≡ k
    by_case true p q rest = sym (eqb-true e.node n (and_parts _ _ p).0) ∙ eqb-true e.node k (and_parts _ _ q).0
    by_case false p q rest = rest p q

driven_node : (es : List AppDevice) (d n k : ℕ) (x y : Option DeviceKind) → is_driven es n (Some d) x ≡ true → is_driven es k (Some d) y ≡ true → n ≡ k
driven_node es d n k None y h i = absurd (cc)
driven_node es d n k (Some x) None h i = absurd (cc)
driven_node es d n k (Some x) (Some y) h i = one_node es d n k x y h i

pub same_bytes : (a b : ℕ) → a < 255 → b < 255 → min a 255 ≡ min b 255 → a ≡ b
same_bytes a b h k e = omega arith

-- what rules 5 to 9 say of a module and its device
pub record IsFit (devices : List DeviceEntry) (m : Coded) : Type 0 where
  pub node : m.node < 16
  pub there : IsThere m.start (length devices)
  pub driven : is_driven (map app_device devices) (byte m.node) (start_device m.start) (declared_kind m.tree.decls) ≡ true

module _ (devices : List DeviceEntry) (links : List Link) (few : length devices ≤ 32) where
  -- two modules that drive one device aren't beside each other
  two_drivers : (n k : ℕ) (a b : ℕ) (m c : Coded) → m.start ≡ start.Device a → c.start ≡ start.Device b → IsFit devices m → IsFit devices c
      → AreBeside (stand devices links n m) (stand devices links k c)
      → byte a ≡ byte b → ⊥
  two_drivers n k a b m c e f p q apart same =
      let a_there : a < length devices = subst (λ (s : Start). IsThere s (length devices)) e p.there in
      let b_there : b < length devices = subst (λ (s : Start). IsThere s (length devices)) f q.there in
      let one : a ≡ b = same_bytes a b (omega arith) (omega arith) same in
      let m_driven : is_driven (map app_device devices) (byte m.node) (Some (byte a)) (declared_kind m.tree.decls) ≡ true =
      subst (λ (s : Start). is_driven (map app_device devices) (byte m.node) (start_device s) (declared_kind m.tree.decls) ≡ true) e p.driven in
      let c_driven : is_driven (map app_device devices) (byte c.node) (Some (byte b)) (declared_kind c.tree.decls) ≡ true =
      subst (λ (s : Start). is_driven (map app_device devices) (byte c.node) (start_device s) (declared_kind c.tree.decls) ≡ true) f q.driven in
      let c_driven_too : is_driven (map app_device devices) (byte c.node) (Some (byte a)) (declared_kind c.tree.decls) ≡ true =
      subst (λ (x : ℕ). is_driven (map app_device devices) (byte c.node) (Some x) (declared_kind c.tree.decls) ≡ true) (sym same) c_driven in
      let nodes : byte m.node ≡ byte c.node = driven_node (map app_device devices) (byte a) (byte m.node) (byte c.node) (declared_kind m.tree.decls)
      (declared_kind c.tree.decls) m_driven c_driven_too in
      let m_small : m.node < 16 = p.node in
      let c_small : c.node < 16 = q.node in
      let node : m.node ≡ c.node = same_bytes m.node c.node (omega arith) (omega arith) nodes in
      let starts : start_of devices m.start ≡ start_of devices c.start = ap (start_of devices) (e ∙ ap start.Device one ∙ sym f) in
      meet_there (start_of devices m.start) (start_of devices c.start) (module_data_size m.tree (ends_of links n)) (module_data_size c.tree (ends_of links k)) starts
      (omega arith) (omega arith) ((apart.beside node).3)
    where
      meet_there : (x y s t : ℕ) → x ≡ y → 1 ≤ s → 1 ≤ t → (x + s ≤ y) ⊎ (y + t ≤ x) → ⊥
      meet_there x y s t h i j (inl l) = omega arith
      meet_there x y s t h i j (inr r) = omega arith

  unlike : (n k : ℕ) (m c : Coded) (x y : Start) → m.start ≡ x → c.start ≡ y → IsFit devices m → IsFit devices c → AreBeside (stand devices links n m) (stand devices links k c)
      → same_device (start_device x) (start_device y) ≡ false
  unlike n k m c (start.At a) y e f p q apart = refl
  unlike n k m c (start.Device a) (start.At b) e f p q apart = refl
  unlike n k m c (start.Device a) (start.Device b) e f p q apart = by_case (byte a == byte b) refl
    where
      by_case : (t : Bool) → (byte a == byte b) ≡ t → t ≡ false
      by_case true h = absurd (two_drivers n k a b m c e f p q apart (eqb-true (byte a) (byte b) h))
      by_case false h = refl

  abbrev pub IsUnlike : Coded → Coded → Type 0
  IsUnlike m c = same_device (start_device m.start) (start_device c.start) ≡ false

  unlike_all : (n k : ℕ) (m : Coded) (cs : List Coded) → IsFit devices m → Each (IsFit devices) cs → Each (AreBeside (stand devices links n m)) (stand_after devices links k cs) → Each (IsUnlike m) cs
  unlike_all n k m [] p q h = tt
  unlike_all n k m (c ∷ cs) p q h = (unlike n k m c m.start c.start refl refl p q.0 h.0, unlike_all n (k + 1) m cs p q.1 h.1)

  pub all_unlike : (n : ℕ) (ms : List Coded) → Each (IsFit devices) ms → EachPair AreBeside (stand_after devices links n ms) → EachPair IsUnlike ms
  all_unlike n [] p h = tt
  all_unlike n (m ∷ ms) p h = (unlike_all n (n + 1) m ms p.0 p.1 h.0, all_unlike (n + 1) ms p.1 h.1)

-- a device that is another's is none of those that aren't
carried : (d x y : Option ℕ) → same_device d x ≡ true → same_device x y ≡ false → same_device d y ≡ false
carried None x y h k = absurd (cc)
carried (Some a) None y h k = absurd (cc)
carried (Some a) (Some b) None h k = refl
carried (Some a) (Some b) (Some c) h k = let same : b ≡ a = sym (eqb-true a b h) in subst (λ (n : ℕ). (n == c) ≡ false) same k

abbrev pub drives_too : Option ℕ → Coded → Bool
drives_too d c = same_device d (start_device c.start)

none_drives : (d : Option ℕ) (m : Coded) (cs : List Coded) → drives_too d m ≡ true
    → Each (λ (c : Coded). same_device (start_device m.start) (start_device c.start) ≡ false) cs → count_by (drives_too d) cs ≡ 0
none_drives d m [] h k = refl
none_drives d m (c ∷ cs) h k =
    let not_it : drives_too d c ≡ false = carried d (start_device m.start) (start_device c.start) h k.0 in
    count_by-cons (drives_too d) c cs ∙ ap (λ b. cond b 1 0 + count_by (drives_too d) cs) not_it ∙ ap (λ (n : ℕ). 0 + n) (none_drives d m cs h k.1)

pub one_drives : (d : Option ℕ) (ms : List Coded) → EachPair (λ (m c : Coded). same_device (start_device m.start) (start_device c.start) ≡ false) ms → count_by (drives_too d) ms ≤ 1
one_drives d [] h = omega arith
one_drives d (m ∷ ms) h = by_case (drives_too d m) refl (one_drives d ms h.1)
  where
    by_case : (b : Bool) → drives_too d m ≡ b → count_by (drives_too d) ms ≤ 1 → count_by (drives_too d) (m ∷ ms) ≤ 1
    by_case true e i =
        let none : count_by (drives_too d) ms ≡ 0 = none_drives d m ms e h.0 in
        let sum : count_by (drives_too d) (m ∷ ms) ≡ 1 + count_by (drives_too d) ms = count_by-cons (drives_too d) m ms ∙ ap (λ b. cond b 1 0 + count_by (drives_too d) ms) e in
        omega (arith, none, sum)
    by_case false e i =
        let sum : count_by (drives_too d) (m ∷ ms) ≡ 0 + count_by (drives_too d) ms = count_by-cons (drives_too d) m ms ∙ ap (λ b. cond b 1 0 + count_by (drives_too d) ms) e in
        omega (arith, sum, i)
