-- What a table holds at a key, as a value of a type.
use Rattle.std.specs.Prelude.{ℕ, ℤ, pos, negsuc, Bool, true, ◌&&◌, nat_lt, if◌then◌else◌, List}
use Rattle.std.specs.Prelude.{Option, Some, None, option_and_then, option_map}
use Rattle.std.specs.List.{list_any}
use Rattle.std.specs.Result.{result_ok}
use Rattle.std.specs.Str.{bytes_eq}
use Rattle.hex.specs.Hex.{decode_sized}
use Rattle.toml.specs.Data.{Members, no_members, member, get_member, as_str, as_integer}
use Rattle.sx_lang.specs.Form.{is_name}

-- the text at a key
abbrev pub text_at : List ℕ → Members → Option (List ℕ)
text_at key t = option_and_then as_str (get_member key t)

-- the name that a text is
abbrev pub name_of : List ℕ → Option (List ℕ)
name_of text = if is_name text then Some text else None

-- the name at a key: Some None where the text isn't a name
abbrev pub name_at : List ℕ → Members → Option (Option (List ℕ))
name_at key t = option_map name_of (text_at key t)

-- an integer from 0 to 65,535
abbrev pub word_of : ℤ → Option ℕ
word_of (pos n) = if nat_lt n 65536 then Some n else None
word_of (negsuc n) = None

-- the number from 0 to 65535 at a key
abbrev pub word_at : List ℕ → Members → Option ℕ
word_at key t = option_and_then word_of (option_and_then as_integer (get_member key t))

-- the sixteen bytes whose 32 digits are at a key
abbrev pub key_at : List ℕ → Members → Option (List ℕ)
key_at key t = option_and_then (λ text. result_ok (decode_sized text 16)) (text_at key t)

-- whether a key is one of these
abbrev pub knows : List (List ℕ) → List ℕ → Bool
knows keys key = list_any (λ k. bytes_eq k key) keys

-- no key but these
abbrev pub has_only : List (List ℕ) → Members → Bool
has_only keys no_members = true
has_only keys (member k d ms) = knows keys k && has_only keys ms
