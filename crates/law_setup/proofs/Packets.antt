-- The lengths and bytes of packets.
use Rattle.std.proofs.Common.{◌≡◌, ℕ, zero, suc, ◌+◌, ◌*◌, ◌/◌, ◌%◌, ◌^◌, ◌<◌, List, ◌++◌, length, length-append, ◌∙◌, arith}
use Rattle.std.specs.Int.{byte_at, bytes_low_first}
use Rattle.sx_tag.specs.Mac.{IsTag}
use Rattle.sx_tag.specs.Wrap.{wrapped}
use Rattle.sx_tag.proofs.TagBytes.{AreBytes, both_bytes, cipher_bytes, cipher_length, kdf_bytes, kdf_length, tag_bytes, tag_length}
use Rattle.spec_run.specs.Setting.{Site, Setting}
use Rattle.byteorder.specs.Endian.{little_bytes}
use Rattle.sx_wire.specs.Headers.{ask_packet}
use Rattle.sx_deployer.specs.Granting.{Grant}
use Rattle.sx_deployer.proofs.Granted.{small_side}
use Rattle.spec_run.specs.Deployer.{connection_key, grant_header, set_key}

-- a set-key packet has 38 bytes
module _ (set : Setting) (tag : IsTag set.mac) (site : Site) (g : Grant) where
  abbrev key : List ℕ
  key = connection_key set g.«end».link g.epoch

  key_length : length key ≡ 16
  key_length = kdf_length set.mac tag set.secret (little_bytes 2 (g.«end».link + 256 * g.epoch))

  pub set_key_length : length (set_key set site g) ≡ 38
  set_key_length =
      let h = grant_header g in
      let k = Rattle.spec_run.specs.Deployer.key_of set site g.boot in
      let c = cipher_length set.mac tag k h key (let e = key_length in omega (arith, e)) ∙ key_length in
      let t = tag_length set.mac tag k h key in
      let w = wrapped set.mac k h key in
      let one = length-append h (w.cipher ++ w.tag) in
      let two = length-append w.cipher w.tag in
      omega (arith, one, two, c, t)

  pub set_key_bytes : g.«end».link < 256 → g.epoch < 256 → AreBytes (set_key set site g)
  set_key_bytes lt le =
      let h = grant_header g in
      let k = Rattle.spec_run.specs.Deployer.key_of set site g.boot in
      let w = wrapped set.mac k h key in
      let head : AreBytes h = (omega arith, (omega arith, (lt, (le, (small_side g.«end».side, (omega arith, tt)))))) in
      both_bytes h (w.cipher ++ w.tag) head (both_bytes w.cipher w.tag
      (cipher_bytes set.mac tag k h key (kdf_bytes set.mac tag set.secret (little_bytes 2 (g.«end».link + 256 * g.epoch)))) (tag_bytes set.mac tag k h key))

-- an ask
is_byte : (v : ℕ) → v % 256 < 256
is_byte v = omega arith

byte_small : (j v : ℕ) → byte_at j v < 256
byte_small zero v = is_byte v
byte_small (suc j) v = is_byte (v / 256 ^ suc j)

low_bytes : (n j v : ℕ) → AreBytes (bytes_low_first j n v)
low_bytes zero j v = tt
low_bytes (suc n) j v = (byte_small j v, low_bytes n (suc j) v)

pub ask_bytes : (a : ℕ) → AreBytes (ask_packet a)
ask_bytes a = (omega arith, (omega arith, low_bytes 16 0 a))
