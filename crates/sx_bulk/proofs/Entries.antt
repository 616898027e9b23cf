-- The deployment's text, read as entries.
use Rattle.std.proofs.Common.{◌≡◌, ℕ, zero, suc, true, nat_lt, arith, codes, List, [], ◌∷◌, Some, None, refl}
use Rattle.std.specs.Prelude.{Ok}
use Rattle.std.specs.List.{list_all}
use Rattle.std.specs.Str.{is_utf8, IsAscii}
use Rattle.std.proofs.lemmas.Bool.Decides.{nat_tests}
use Rattle.std.proofs.lemmas.Str.{is_utf8-from_IsUtf8, IsUtf8-from_ascii}
use Rattle.std.proofs.lemmas.Bool.{and_parts}
use Rattle.hex.specs.Hex.{decode_pairs}
use Rattle.toml.specs.Data.{Members}
use Rattle.toml.specs.Parse.{parse_document}
use Rattle.toml.proofs.OnLiterals.{toml_on_literals}
use Rattle.sx_lang.specs.declared.tree.DeviceKind.TheVariants.{Sensor, Actuator}
use Rattle.sx_entries.specs.Fault.{◌>>=◌}
use Rattle.sx_entries.specs.Documents.{table_of}
use Rattle.sx_entries.specs.Arrays.{RowLists, rows_of}
use Rattle.sx_entries.specs.Entries.{EntryLists, entries_of}
use Rattle.sx_entries.specs.declared.entries.Start.TheVariants as start
use Rattle.sx_deploy.specs.Counts.{counts_fault}
use Rattle.sx_deploy.specs.Deployment.{counted_in}
use Rattle.sx_bulk.specs.Bulk.{head}
use Rattle.sx_bulk.proofs.Trees.{eye_text, logic_text, lamp_text}

unfoldable pub entries : EntryLists
unfolding eye_text logic_text lamp_text
entries = record {
  secret = 0 ∷ 1 ∷ 2 ∷ 3 ∷ 4 ∷ 5 ∷ 6 ∷ 7 ∷ 8 ∷ 9 ∷ 10 ∷ 11 ∷ 12 ∷ 13 ∷ 14 ∷ 15 ∷ [];
  nodes =
      record { name = codes "a"; key = 16 ∷ 17 ∷ 18 ∷ 19 ∷ 20 ∷ 21 ∷ 22 ∷ 23 ∷ 24 ∷ 25 ∷ 26 ∷ 27 ∷ 28 ∷ 29 ∷ 30 ∷ 31 ∷ [] }
      ∷ record { name = codes "b"; key = 32 ∷ 33 ∷ 34 ∷ 35 ∷ 36 ∷ 37 ∷ 38 ∷ 39 ∷ 40 ∷ 41 ∷ 42 ∷ 43 ∷ 44 ∷ 45 ∷ 46 ∷ 47 ∷ [] }
      ∷ [];
  devices =
      record { name = codes "light"; node = 0; kind = Sensor; at = 0x1000 }
      ∷ record { name = codes "bulb"; node = 1; kind = Actuator; at = 0x1000 }
      ∷ [];
  modules =
      record { name = codes "eye"; node = 0; provider = 7; text = 0x4000; start = start.Device 0; source = eye_text }
      ∷ record { name = codes "logic"; node = 0; provider = 7; text = 0x6000; start = start.At 0x2000; source = logic_text }
      ∷ record { name = codes "lamp"; node = 1; provider = 7; text = 0x4000; start = start.Device 1; source = lamp_text }
      ∷ [];
  links =
      record {
        name = codes "up";
        from = record { owner = Some (codes "eye"); port = Some (codes "level") };
        to = record { owner = Some (codes "logic"); port = Some (codes "level") };
      }
      ∷ record {
        name = codes "down";
        from = record { owner = Some (codes "logic"); port = Some (codes "bright") };
        to = record { owner = Some (codes "lamp"); port = Some (codes "show") };
      }
      ∷ [];
}

-- the members of the document
unfoldable table : (t : Members) × (parse_document head ≡ Some t)
unfolding toml_on_literals head
table = (_, refl)

all_ascii : (bs : List ℕ) → list_all (λ b. nat_lt b 128) bs ≡ true → IsAscii bs
all_ascii [] h i = omega arith
all_ascii (b ∷ bs) h zero = let e : nat_lt b 128 ≡ true = (and_parts (nat_lt b 128) (list_all (λ b. nat_lt b 128) bs) h).0 in grind (arith, nat_tests, e)
all_ascii (b ∷ bs) h (suc i) = all_ascii bs (and_parts (nat_lt b 128) (list_all (λ b. nat_lt b 128) bs) h).1 i

utf8 : is_utf8 head ≡ true
unfolding head
utf8 = is_utf8-from_IsUtf8 head (IsUtf8-from_ascii head (all_ascii head refl))

unfoldable rows : (r : RowLists) × (rows_of table.0 ≡ Ok r)
unfolding table toml_on_literals decode_pairs
rows = (_, refl)

named_entries : entries_of rows.0 ≡ Ok entries
unfolding rows entries
named_entries = refl

few : counts_fault entries ≡ None
unfolding entries
few = refl

table_is : table_of head ≡ Ok table.0
table_is = rw (utf8, table.1) refl

pub counted : (table_of head >>= counted_in) ≡ Ok entries
counted = rw (table_is, rows.1, named_entries, few) refl
