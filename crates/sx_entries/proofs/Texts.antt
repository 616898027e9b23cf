-- What `table_of` is at a text and at bytes that are none, and that no bytes are both.
use Rattle.std.proofs.Common.{◌≡◌, ℕ, true, false, List, Err, inl, inr}
use Rattle.std.specs.Str.{IsUtf8, is_utf8}
use Rattle.std.proofs.lemmas.Bool.{cases_Bool}
use Rattle.std.proofs.lemmas.Str.{IsUtf8-from_is_utf8, is_utf8-from_IsUtf8}
use Rattle.toml.specs.Parse.{parse_document}
use Rattle.sx_entries.specs.Fault.{fault}
use Rattle.sx_entries.specs.Documents.{table_of, document_of}
use Rattle.sx_entries.specs.declared.fault.Place.TheVariants.{Nowhere}

pub table_of-text : (bs : List ℕ) → IsUtf8 bs → table_of bs ≡ document_of (parse_document bs)
table_of-text bs h = rw (is_utf8-from_IsUtf8 bs h)

pub table_of-no_text : (bs : List ℕ) → (IsUtf8 bs → ⊥) → table_of bs ≡ Err (fault 3 Nowhere)
table_of-no_text bs h = elim (cases_Bool (is_utf8 bs)) [
  | inl yes' ↦ absurd (h (IsUtf8-from_is_utf8 bs yes'))
  | inr no' ↦ rw no'
]

pub never_both : (bs : List ℕ) → IsUtf8 bs → is_utf8 bs ≡ false → ⊥
never_both bs h no' = let yes' : is_utf8 bs ≡ true = is_utf8-from_IsUtf8 bs h in cc
