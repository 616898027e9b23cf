-- The names of rows that are read are in form.
use Rattle.std.proofs.Common.{◌≡◌, ℕ, Bool, true, false, codes, if◌then◌else◌, nat_lt, List, [], ◌∷◌, ◌++◌, length, Option, Some, None, option_map, option_and_then, Ok, refl, subst}
use Rattle.std.specs.Prelude.{ℤ, pos, negsuc}
use Rattle.std.proofs.lemmas.Bool.{ltb-true}
use Rattle.toml.specs.Data.{Members, Items, no_items, item, as_integer, as_table, get_member}
use Rattle.sx_lang.specs.Words.{IsWord}
use Rattle.sx_lang.specs.Form.{is_name}
use Rattle.sx_entries.specs.Stage.{in_entry}
use Rattle.sx_entries.proofs.Each.{Each, each-snoc, bind-Ok}
use Rattle.sx_entries.specs.declared.fault.Sort.{Sort}
use Rattle.sx_entries.specs.Fields.{name_of, name_at, text_at, key_at, word_at, word_of, has_only}
use Rattle.sx_entries.specs.Rows.{holds, node_row, device_row, module_row, link_row, kind_at, start_row, end_at}
use Rattle.sx_entries.specs.Arrays.{made_in}
use Rattle.sx_entries.specs.declared.rows.NodeRow.{NodeRow}
use Rattle.sx_entries.specs.declared.rows.DeviceRow.{DeviceRow}
use Rattle.sx_entries.specs.declared.rows.ModuleRow.{ModuleRow}
use Rattle.sx_entries.specs.declared.rows.LinkRow.{LinkRow}

-- a name that is kept is in form
abbrev pub IsForm : Option (List ℕ) → Type 0
IsForm None = Unit {0}
IsForm (Some name) = is_name name ≡ true

name_of-form : (text : List ℕ) → IsForm (name_of text)
name_of-form text = by_case (is_name text) refl
  where
    by_case : (b : Bool) → is_name text ≡ b → IsForm (if b then Some text else None)
    by_case true h = h
    by_case false h = tt

name_at-form : (key : List ℕ) (t : Members) (o : Option (List ℕ)) → name_at key t ≡ Some o → IsForm o
name_at-form key t o h = by_case (text_at key t) h
  where
    by_case : (text : Option (List ℕ)) → option_map name_of text ≡ Some o → IsForm o
    by_case None e = absurd (cc)
    by_case (Some text) e = let same : name_of text ≡ o = cc in subst IsForm same (name_of-form text)

-- one step of reading a row, which keeps what the rest keeps
pub through : {A R : Type 0} (P : R → Type 0) (o : Option A) (f : A → Option R) (row : R) → ((a : A) → o ≡ Some a → f a ≡ Some row → P row) → option_and_then f o ≡ Some row → P row
through P None f row k h = absurd (cc)
through P (Some a) f row k h = k a refl h

pub node_form : (t : Members) (row : NodeRow) → node_row t ≡ Some row → IsForm row.name
node_form t row h =
    through (λ (r : NodeRow). IsForm r.name) (holds (has_only (codes "name" ∷ codes "key" ∷ []) t)) _ row (λ known e1 h1.
    through (λ (r : NodeRow). IsForm r.name) (name_at (codes "name") t) _ row (λ name e2 h2.
    through (λ (r : NodeRow). IsForm r.name) (key_at (codes "key") t) _ row (λ key e3 h3.
    let same : record { name = name; key = key } ≡ row = cc in
    subst (λ (r : NodeRow). IsForm r.name) same (name_at-form (codes "name") t name e2)) h2) h1) h

pub device_form : (t : Members) (row : DeviceRow) → device_row t ≡ Some row → IsForm row.name
device_form t row h =
    through (λ (r : DeviceRow). IsForm r.name) (holds (has_only (codes "name" ∷ codes "node" ∷ codes "kind" ∷ codes "at" ∷ []) t)) _ row (λ known e1 h1.
    through (λ (r : DeviceRow). IsForm r.name) (name_at (codes "name") t) _ row (λ name e2 h2.
    through (λ (r : DeviceRow). IsForm r.name) (name_at (codes "node") t) _ row (λ node e3 h3.
    through (λ (r : DeviceRow). IsForm r.name) (kind_at (codes "kind") t) _ row (λ kind e4 h4.
    through (λ (r : DeviceRow). IsForm r.name) (word_at (codes "at") t) _ row (λ at e5 h5.
    let same : record { name = name; node = node; kind = kind; at = at } ≡ row = cc in
    subst (λ (r : DeviceRow). IsForm r.name) same (name_at-form (codes "name") t name e2)) h4) h3) h2) h1) h

word_of-word : (z : ℤ) (n : ℕ) → word_of z ≡ Some n → IsWord n
word_of-word (negsuc k) n h = absurd (cc)
word_of-word (pos k) n h = by_case (nat_lt k 65536) refl h
  where
    by_case : (b : Bool) → nat_lt k 65536 ≡ b → (if b then Some k else None) ≡ Some n → IsWord n
    by_case true e i = let same : k ≡ n = cc in subst IsWord same (ltb-true k 65536 e)
    by_case false e i = absurd (cc)

word_at-word : (key : List ℕ) (t : Members) (n : ℕ) → word_at key t ≡ Some n → IsWord n
word_at-word key t n h = through IsWord (option_and_then as_integer (get_member key t)) word_of n (λ z e i. word_of-word z n i) h

-- a module's name is in form, and its provider is a word
pub record IsModuleRow (r : ModuleRow) : Type 0 where
  pub name : IsForm r.name
  pub provider : IsWord r.provider

pub module_form : (t : Members) (row : ModuleRow) → module_row t ≡ Some row → IsModuleRow row
module_form t row h =
    through IsModuleRow (holds (has_only (codes "name" ∷ codes "node" ∷ codes "provider" ∷ codes "text" ∷ codes "data" ∷ codes "device" ∷ codes "source" ∷ []) t)) _ row (λ known e1 h1.
    through IsModuleRow (name_at (codes "name") t) _ row (λ name e2 h2.
    through IsModuleRow (name_at (codes "node") t) _ row (λ node e3 h3.
    through IsModuleRow (word_at (codes "provider") t) _ row (λ provider e4 h4.
    through IsModuleRow (word_at (codes "text") t) _ row (λ text e5 h5.
    through IsModuleRow (start_row t) _ row (λ start e6 h6.
    through IsModuleRow (text_at (codes "source") t) _ row (λ source e7 h7.
    let same : record { name = name; node = node; provider = provider; text = text; start = start; source = source } ≡ row = cc in
    subst IsModuleRow same (record { name = name_at-form (codes "name") t name e2; provider = word_at-word (codes "provider") t provider e4 })) h6) h5) h4) h3) h2) h1) h

pub link_form : (t : Members) (row : LinkRow) → link_row t ≡ Some row → IsForm row.name
link_form t row h =
    through (λ (r : LinkRow). IsForm r.name) (holds (has_only (codes "name" ∷ codes "from" ∷ codes "to" ∷ []) t)) _ row (λ known e1 h1.
    through (λ (r : LinkRow). IsForm r.name) (name_at (codes "name") t) _ row (λ name e2 h2.
    through (λ (r : LinkRow). IsForm r.name) (end_at (codes "from") t) _ row (λ from e3 h3.
    through (λ (r : LinkRow). IsForm r.name) (end_at (codes "to") t) _ row (λ to e4 h4.
    let same : record { name = name; from = from; to = to } ≡ row = cc in
    subst (λ (r : LinkRow). IsForm r.name) same (name_at-form (codes "name") t name e2)) h3) h2) h1) h

-- what holds of each row that is read holds of the rows of an array
module _ {R : Type 0} (P : R → Type 0) (row : Members → Option R) (sort : Sort) (reads : (t : Members) (r : R) → row t ≡ Some r → P r) where
  one_row : (done : List R) (o : Option Members) (r : R) → in_entry 4 sort (length done) (option_and_then row o) ≡ Ok r → P r
  one_row done None r h = absurd (cc)
  one_row done (Some t) r h = by_case (row t) refl h
    where
      by_case : (o : Option R) → row t ≡ o → in_entry 4 sort (length done) o ≡ Ok r → P r
      by_case None e i = absurd (cc)
      by_case (Some s) e i = let same : s ≡ r = cc in subst P same (reads t s e)

  pub rows_each : (done : List R) (items : Items) (out : List R) → Each P done → made_in row sort done items ≡ Ok out → Each P out
  rows_each done no_items out p h = let same : done ≡ out = cc in subst (λ (l : List R). Each P l) same p
  rows_each done (item d ds) out p h =
      let step = bind-Ok (in_entry 4 sort (length done) (option_and_then row (as_table d))) (λ r. made_in row sort (done ++ r ∷ []) ds) out h in
      rows_each (done ++ step.0 ∷ []) ds out (each-snoc P done step.0 p (one_row done (as_table d) step.0 step.1)) step.2
