-- Random numbers in place of some tags.
use Rattle.std.specs.Prelude.{ℕ, zero, suc, ◌%◌, ◌/◌, ◌&&◌, if◌then◌else◌, List, [], ◌∷◌, ◌++◌}
use Rattle.std.specs.Prelude.{drop, bytes_eq}
use Rattle.sx_tag.specs.Mac.{Mac}
use Rattle.spec_run.specs.Setting.{Setting}
use Rattle.law_forgery.specs.Forgery.{OfModule, key_named}

-- what a tag over `T` is of: the bytes after the `T`, under the key of the m-th module at a boot of
-- its node
pub record Entry : Type 0 where
  pub m : ℕ
  pub boot : ℕ
  pub rest : List ℕ

-- the entry's key
abbrev pub key_of_entry : Setting → Entry → List ℕ
key_of_entry set e = key_named set (OfModule e.m e.boot)

-- the message that its tag is over
abbrev pub message_of : Entry → List ℕ
message_of e = 0x54 ∷ e.rest

-- a number as so many bytes, the lowest first
abbrev pub bytes_of : ℕ → ℕ → List ℕ
bytes_of zero v = []
bytes_of (suc n) v = v % 256 ∷ bytes_of n (v / 256)

-- The tag function with these numbers at the entries, each in place of the 16 bytes that are shown;
-- everywhere else it is as before. Of entries with one key and one message the first counts.
abbrev pub tabled : Setting → List Entry → List ℕ → Mac
tabled set [] vs key message = set.mac key message
tabled set (e ∷ es) [] key message = set.mac key message
tabled set (e ∷ es) (v ∷ vs) key message =
    if bytes_eq key (key_of_entry set e) && bytes_eq message (message_of e) then
    bytes_of 16 v ++ drop 16 (set.mac key message)
    else tabled set es vs key message

-- the setting with it
abbrev pub with_tags : Setting → List Entry → List ℕ → Setting
with_tags set es vs = record set { mac = tabled set es vs }
