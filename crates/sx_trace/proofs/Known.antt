-- What is known of a name at its index in a list of names.
use Rattle.std.proofs.Common.{◌≡◌, ℕ, zero, suc, ◌+◌, ◌<◌, Bool, true, false, ◌&&◌, ◌==◌, not, nat_le, nat_lt, List, [], ◌∷◌, length, codes, Some, refl, sym, ap, subst, ◌∙◌, arith, IsTrue}
use Rattle.std.specs.List.{list_all, position_or_len}
use Rattle.std.specs.Str.{bytes_eq}
use Rattle.std.proofs.lemmas.Bool.Decides.{nat_tests}
use Rattle.std.proofs.lemmas.Slice.Eq.{bytes_eq-Decides}
use Rattle.std.proofs.lemmas.Bool.{and_parts, or_parts, not-true}
use Rattle.sx_index.specs.Places.{place_of}
use Rattle.sx_trace.specs.Names.{NameLists, deployer}
use Rattle.sx_trace.specs.ValidNames.{are_valid, are_names, has_name, no_repeat}
use Rattle.sx_lang.specs.Form.{is_lower, is_name, is_name_byte}
use Rattle.sx_trace.specs.Items.{name_at}
use Rattle.sx_trace.proofs.Cut.{is_plain, is_word}
use Rattle.lemmas.proofs.Texts.{bytes_eq-same, bytes_eq-sym}

-- a name in a list that has another name nowhere is another one
pub others : (names : List (List ℕ)) (name : List ℕ) (i : ℕ) → has_name names name ≡ false → i < length names → bytes_eq (name_at names i) name ≡ false
others [] name i h lt = absurd (omega arith)
others (x ∷ xs) name zero h lt = (or_parts (bytes_eq x name) (has_name xs name) h).0
others (x ∷ xs) name (suc i) h lt = others xs name i (or_parts (bytes_eq x name) (has_name xs name) h).1 (omega arith)

place : (names : List (List ℕ)) (i : ℕ) → no_repeat names ≡ true → i < length names → position_or_len (λ x. bytes_eq x (name_at names i)) names ≡ i
place [] i h lt = absurd (omega arith)
place (x ∷ xs) zero h lt = rw (bytes_eq-same x) refl
place (x ∷ xs) (suc i) h lt =
    let both = and_parts (not (has_name xs x)) (no_repeat xs) h in
    let differs : bytes_eq x (name_at xs i) ≡ false =
    bytes_eq-sym x (name_at xs i) ∙ others xs x i (not-true (has_name xs x) both.0) (omega arith) in
    let later = place xs i both.1 (omega arith) in
    let more : 1 + position_or_len (λ x. bytes_eq x (name_at xs i)) xs ≡ suc i = omega (arith, later) in
    rw differs more

form : (names : List (List ℕ)) (i : ℕ) → list_all is_name names ≡ true → i < length names → is_name (name_at names i) ≡ true
form [] i h lt = absurd (omega arith)
form (x ∷ xs) zero h lt = (and_parts (is_name x) (list_all is_name xs) h).0
form (x ∷ xs) (suc i) h lt = form xs i (and_parts (is_name x) (list_all is_name xs) h).1 (omega arith)

plain : (b : ℕ) → is_name_byte b ≡ true → is_plain b ≡ true
plain b h = by_test (b == 32) refl
  where
    by_test : (t : Bool) → (b == 32) ≡ t → is_plain b ≡ true
    by_test false e = rw e refl
    by_test true e =
        let same : b ≡ 32 = grind (arith, nat_tests, e) in
        let no : is_name_byte 32 ≡ true = subst (λ c. is_name_byte c ≡ true) same h in
        absurd (cc no)

all_plain : (w : List ℕ) → list_all is_name_byte w ≡ true → is_word w ≡ true
all_plain [] h = refl
all_plain (b ∷ bs) h =
    let both = and_parts (is_name_byte b) (list_all is_name_byte bs) h in
    rw (plain b both.0) (all_plain bs both.1)

pub lower_byte : (b : ℕ) → is_lower b ≡ true → is_name_byte b ≡ true
lower_byte b h = rw h refl

-- a name has no space
form_word : (w : List ℕ) → is_name w ≡ true → is_word w ≡ true
form_word [] h = absurd (cc)
form_word (b ∷ bs) h =
    let first = and_parts (is_lower b) (list_all is_name_byte bs && nat_le (length bs) 15) h in
    let rest = and_parts (list_all is_name_byte bs) (nat_le (length bs) 15) first.1 in
    rw (plain b (lower_byte b first.0)) (all_plain bs rest.0)

-- the name at an index is there first, has a name's form, is a word, and isn't `-`
pub record Known (names : List (List ℕ)) (i : ℕ) : Type 0 where
  pub found : place_of names (name_at names i) ≡ Some i
  pub formed : is_name (name_at names i) ≡ true
  pub word : is_word (name_at names i) ≡ true
  pub no_dash : bytes_eq (name_at names i) (codes "-") ≡ false

dash : (w : List ℕ) → is_name w ≡ true → bytes_eq w (codes "-") ≡ false
dash w h = by_test (bytes_eq w (codes "-")) refl
  where
    by_test : (t : Bool) → bytes_eq w (codes "-") ≡ t → bytes_eq w (codes "-") ≡ false
    by_test false e = e
    by_test true e =
        let same : w ≡ codes "-" = (bytes_eq-Decides w (codes "-")).0 e in
        let no : is_name (codes "-") ≡ true = subst (λ v. is_name v ≡ true) same h in
        absurd (cc no)

known : (most : ℕ) (names : List (List ℕ)) (i : ℕ) → are_names most names ≡ true → i < length names → Known names i
known most names i h lt =
    let all = and_parts (nat_le (length names) most) _ h in
    let rest = and_parts (list_all is_name names) (no_repeat names) all.1 in
    let at = place names i rest.1 lt in
    let within : nat_lt i (length names) ≡ true = grind (arith, nat_tests) in
    let formed = form names i rest.0 lt in
    record { found = rw (at, within) refl; formed = formed; word = form_word (name_at names i) formed; no_dash = dash (name_at names i) formed }

pub known_node : (n : NameLists) (i : ℕ) → IsTrue (are_valid n) → i < length n.nodes → Known n.nodes i
unfolding are_valid
known_node n i h lt = known 16 n.nodes i (and_parts _ _ (and_parts (are_names 16 n.nodes && are_names 32 n.devices) _ h).0).0 lt

pub known_device : (n : NameLists) (i : ℕ) → IsTrue (are_valid n) → i < length n.devices → Known n.devices i
unfolding are_valid
known_device n i h lt = known 32 n.devices i (and_parts (are_names 16 n.nodes) _ (and_parts (are_names 16 n.nodes && are_names 32 n.devices) _ h).0).1 lt

behind : (n : NameLists) → IsTrue (are_valid n) → ((are_names 32 n.modules && are_names 64 n.links) ≡ true) × (not (has_name n.modules deployer) ≡ true)
unfolding are_valid
behind n h =
    let rest = and_parts (are_names 32 n.modules && are_names 64 n.links) _ (and_parts (are_names 16 n.nodes && are_names 32 n.devices) _ h).1 in
    (rest.0, (and_parts (not (has_name n.modules deployer)) _ rest.1).0)

pub known_module : (n : NameLists) (i : ℕ) → IsTrue (are_valid n) → i < length n.modules → Known n.modules i
known_module n i h lt = known 32 n.modules i (and_parts (are_names 32 n.modules) _ (behind n h).0).0 lt

pub known_link : (n : NameLists) (i : ℕ) → IsTrue (are_valid n) → i < length n.links → Known n.links i
known_link n i h lt = known 64 n.links i (and_parts (are_names 32 n.modules) _ (behind n h).0).1 lt

-- no module is the deployer
pub no_deployer : (n : NameLists) (i : ℕ) → IsTrue (are_valid n) → i < length n.modules → bytes_eq (name_at n.modules i) deployer ≡ false
no_deployer n i h lt = others n.modules deployer i (not-true _ (behind n h).1) lt

-- a name that is at an index of a list without repeats has this place
pub guessed_right : (names : List (List ℕ)) (text : List ℕ) (i : ℕ) → no_repeat names ≡ true → i < length names → bytes_eq (name_at names i) text ≡ true → Some i ≡ place_of names text
guessed_right names text i unique lt named =
    let at = place names i unique lt in
    let within : nat_lt i (length names) ≡ true = grind (arith, nat_tests) in
    let found : place_of names (name_at names i) ≡ Some i = rw (at, within) refl in
    sym found ∙ ap (place_of names) ((bytes_eq-Decides (name_at names i) text).0 named)

unique : (most : ℕ) (names : List (List ℕ)) → are_names most names ≡ true → no_repeat names ≡ true
unique most names h = (and_parts (list_all is_name names) (no_repeat names) (and_parts (nat_le (length names) most) _ h).1).1

pub unique_nodes : (n : NameLists) → IsTrue (are_valid n) → no_repeat n.nodes ≡ true
unfolding are_valid
unique_nodes n h = unique 16 n.nodes (and_parts _ _ (and_parts (are_names 16 n.nodes && are_names 32 n.devices) _ h).0).0

pub unique_devices : (n : NameLists) → IsTrue (are_valid n) → no_repeat n.devices ≡ true
unfolding are_valid
unique_devices n h = unique 32 n.devices (and_parts (are_names 16 n.nodes) _ (and_parts (are_names 16 n.nodes && are_names 32 n.devices) _ h).0).1

pub unique_modules : (n : NameLists) → IsTrue (are_valid n) → no_repeat n.modules ≡ true
unique_modules n h = unique 32 n.modules (and_parts (are_names 32 n.modules) _ (behind n h).0).0

pub unique_links : (n : NameLists) → IsTrue (are_valid n) → no_repeat n.links ≡ true
unique_links n h = unique 64 n.links (and_parts (are_names 32 n.modules) _ (behind n h).0).1
