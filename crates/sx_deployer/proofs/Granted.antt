-- A connection key that was wrapped in a room of 32 bytes.
use Rattle.std.proofs.Common.{◌≡◌, ℕ, ◌+◌, ◌*◌, ◌<◌, List, ◌++◌, length, take, drop, replicate, sym, ap, ◌∙◌, arith, length-append}
use Rattle.std.proofs.lemmas.List.{length-drop}
use Rattle.std.proofs.Math.Seq.{take-append_seam}
use Rattle.byteorder.specs.Endian.{little_bytes}
use Rattle.sx_lang.specs.declared.sides.Side.{Side}
use Rattle.sx_lang.specs.declared.sides.Side.TheVariants.{From, To}
use Rattle.sx_tag.specs.Mac.{Mac}
use Rattle.sx_tag.specs.Wrap.{crypt, wrap_tag, wrapped}
use Rattle.sx_wire.specs.Headers.{header, set_key_header}
use Rattle.sx_wire.proofs.Fields.{set_key_header_bytes}
use Rattle.sx_deployer.specs.Granting.{side_number}

pub small_side : (s : Side) → side_number s < 256
small_side From = omega arith
small_side To = omega arith

prefix_part : (xs rest room : List ℕ) → room ≡ xs ++ rest → length room ≡ 32 → length rest ≡ 16 → take 16 room ≡ xs
prefix_part xs rest room e whole half =
    let n : length xs ≡ 16 = omega (arith, whole, half, ap length e, length-append xs rest) in
    ap (λ (s : List ℕ). take 16 s) e ∙ ap (λ (k : ℕ). take k (xs ++ rest)) (sym n) ∙ take-append_seam xs rest

-- what was written is the set-key packet of the connection, the epoch and the side, of the module key and the connection key
pub granted : (mac : Mac) (word last link epoch side : ℕ) (key body body' ad prefix room tag : List ℕ)
    → word ≡ link + 256 * epoch → last ≡ side → link < 256 → epoch < 256 → side < 256 → body ≡ body'
    → ad ≡ header 1 (little_bytes 2 word) (little_bytes 2 last)
    → tag ≡ wrap_tag mac key ad (crypt mac key ad body)
    → room ≡ crypt mac key ad body ++ drop (length body) (replicate 32 0) → length room ≡ 32 → length body ≡ 16 → prefix ≡ take 16 room
    → header 1 (little_bytes 2 word) (little_bytes 2 last) ++ prefix ++ tag
    ≡ set_key_header link epoch side ++ (wrapped mac key (set_key_header link epoch side) body').cipher
    ++ (wrapped mac key (set_key_header link epoch side) body').tag
granted mac word last link epoch side key body body' ad prefix room tag ew el hl he hs eb ea et er whole half ef =
    let rest = length-drop {A = ℕ} (length body) (replicate 32 0) in
    let cipher : prefix ≡ crypt mac key ad body = ef ∙ prefix_part (crypt mac key ad body) (drop (length body) (replicate 32 0)) room er whole (omega (arith, rest, half)) in
    let written = header 1 (little_bytes 2 word) (little_bytes 2 last) in
    let head : written ≡ set_key_header link epoch side =
    ap (λ w. header 1 (little_bytes 2 w) (little_bytes 2 last)) ew ∙ ap (λ w. header 1 (little_bytes 2 (link + 256 * epoch)) (little_bytes 2 w)) el
    ∙ set_key_header_bytes link epoch side hl he hs in
    let made : List ℕ → List ℕ → List ℕ = λ h b. h ++ (wrapped mac key h b).cipher ++ (wrapped mac key h b).tag in
    ap (λ (s : List ℕ). written ++ s ++ tag) cipher
    ∙ ap (λ (s : List ℕ). written ++ crypt mac key ad body ++ s) et
    ∙ ap (λ (s : List ℕ). written ++ crypt mac key s body ++ wrap_tag mac key s (crypt mac key s body)) ea
    ∙ ap (λ (h : List ℕ). made h body) head ∙ ap (λ (b : List ℕ). made (set_key_header link epoch side) b) eb
