-- Packets with the same bytes are the same.
use Rattle.std.proofs.Common.{◌≡◌, ℕ, ◌/◌, ◌%◌, ◌<◌, List, ◌++◌, length, take, drop, slice_index, sym, ap, ◌∙◌, arith}
use Rattle.std.proofs.Math.Seq.{take-append_seam, drop-append_seam}
use Rattle.sx_wire.specs.declared.packets.EventPacket.{EventPacket}
use Rattle.sx_wire.specs.declared.packets.SetKeyPacket.{SetKeyPacket}
use Rattle.byteorder.specs.Endian.{little_bytes}
use Rattle.sx_wire.specs.Headers.{header}
use Rattle.sx_wire.specs.Laws.{EventSpelledOnce, SetKeySpelledOnce, AskSpelledOnce}

-- a word is known from its two bytes
word : (a b : ℕ) → a < 65536 → b < 65536 → a % 256 ≡ b % 256 → a / 256 % 256 ≡ b / 256 % 256 → a ≡ b
word a b ha hb low high = omega arith

-- parts of the same lengths
first_part : (xs ys us vs : List ℕ) → length xs ≡ length us → xs ++ ys ≡ us ++ vs → xs ≡ us
first_part xs ys us vs e h =
    sym (take-append_seam xs ys) ∙ ap (λ n. take n (xs ++ ys)) e ∙ ap (λ (s : List ℕ). take (length us) s) h ∙ take-append_seam us vs

last_part : (xs ys us vs : List ℕ) → length xs ≡ length us → xs ++ ys ≡ us ++ vs → ys ≡ vs
last_part xs ys us vs e h =
    sym (drop-append_seam xs ys) ∙ ap (λ n. drop n (xs ++ ys)) e ∙ ap (λ (s : List ℕ). drop (length us) s) h ∙ drop-append_seam us vs

-- a header, a cipher and a tag in the same bytes
record Same (a b c d : ℕ) (xs ys us vs : List ℕ) : Type 0 where
  link : a ≡ c
  last : b ≡ d
  cipher : xs ≡ us
  mac : ys ≡ vs

same : (kind a b c d : ℕ) (xs ys us vs : List ℕ) → a < 65536 → b < 65536 → c < 65536 → d < 65536 → length xs ≡ length us
    → header kind (little_bytes 2 a) (little_bytes 2 b) ++ xs ++ ys ≡ header kind (little_bytes 2 c) (little_bytes 2 d) ++ us ++ vs → Same a b c d xs ys us vs
same kind a b c d xs ys us vs ha hb hc hd e h =
    let rest : xs ++ ys ≡ us ++ vs = ap (drop 6) h in
    record {
      link = word a c ha hc (ap (λ s. slice_index s 2) h) (ap (λ s. slice_index s 3) h);
      last = word b d hb hd (ap (λ s. slice_index s 4) h) (ap (λ s. slice_index s 5) h);
      cipher = first_part xs ys us vs e rest;
      mac = last_part xs ys us vs e rest;
    }

pub event_spelled_once : EventSpelledOnce
event_spelled_once p q hp hq h =
    let s = same 3 p.link p.number q.link q.number p.cipher p.mac q.cipher q.mac hp.link hp.number hq.link hq.number (hp.cipher ∙ sym hq.cipher) h in
    let made : ℕ → ℕ → List ℕ → List ℕ → EventPacket = λ a b c m. record { link = a; number = b; cipher = c; mac = m } in
    ap (λ a. made a p.number p.cipher p.mac) s.link ∙ ap (λ b. made q.link b p.cipher p.mac) s.last
    ∙ ap (λ c. made q.link q.number c p.mac) s.cipher ∙ ap (λ m. made q.link q.number q.cipher m) s.mac

pub set_key_spelled_once : SetKeySpelledOnce
set_key_spelled_once p q hp hq h =
    let s = same 1 p.link p.«end» q.link q.«end» p.cipher p.mac q.cipher q.mac hp.link hp.«end» hq.link hq.«end» (hp.cipher ∙ sym hq.cipher) h in
    let made : ℕ → ℕ → List ℕ → List ℕ → SetKeyPacket = λ a b c m. record { link = a; «end» = b; cipher = c; mac = m } in
    ap (λ a. made a p.«end» p.cipher p.mac) s.link ∙ ap (λ b. made q.link b p.cipher p.mac) s.last
    ∙ ap (λ c. made q.link q.«end» c p.mac) s.cipher ∙ ap (λ m. made q.link q.«end» q.cipher m) s.mac

pub ask_spelled_once : AskSpelledOnce
ask_spelled_once a b h = ap (drop 2) h
