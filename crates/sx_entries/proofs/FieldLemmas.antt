-- Keys of a table, and lists of texts.
use Rattle.std.proofs.Common.{◌≡◌, ℕ, ◌&&◌, ◌||◌, List, [], ◌∷◌, map, refl, ap, String, Global, string_bytes, Bor}
use Rattle.std.specs.List.{list_any, list_all}
use Rattle.std.specs.Map.{keys_of}
use Rattle.toml.specs.View.{members_view}
use Rattle.toml.specs.declared.value.Value.{Value}
use Rattle.std.specs.Str.{bytes_eq}
use Rattle.sx_entries.specs.Fields.{knows, has_only}

pub knows-now : (keys : List (Bor (List ℕ))) (key : List ℕ) → list_any (λ (k : Bor (List ℕ)). bytes_eq k.now key) keys ≡ knows (map (λ (k : Bor (List ℕ)). k.now) keys) key
knows-now [] key = refl
knows-now (k ∷ ks) key = ap (λ b. bytes_eq k.now key || b) (knows-now ks key)

pub has_only_keys : (keys : List (List ℕ)) (es : List (String Global × Value)) → has_only keys (members_view es) ≡ list_all (λ k. knows keys (string_bytes k)) (keys_of es)
has_only_keys keys [] = refl
has_only_keys keys (e ∷ es) = ap (λ b. knows keys (string_bytes e.0) && b) (has_only_keys keys es)
