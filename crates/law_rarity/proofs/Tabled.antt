-- A setting with a table of tags is sound.
use Rattle.std.proofs.Common.{◌≢◌, ℕ, zero, suc, ◌/◌, ◌<◌, Bool, true, false, cond, List, [], ◌∷◌, ◌++◌, drop, refl, sym, ◌∙◌, subst, arith}
use Rattle.std.specs.Prelude.{All}
use Rattle.std.proofs.lemmas.List.{length-append, length-drop}
use Rattle.sx_tag.proofs.TagBytes.{AreBytes, all_bytes, both_bytes}
use Rattle.spec_run.specs.Setting.{Setting}
use Rattle.spec_run.specs.Law.{IsTagBytes, IsTagUnder, IsSoundSetting}
use Rattle.law_connections.specs.Laws.{RealizesAlways}
use Rattle.law_makers.proofs.NamedSound.{sound_with}
use Rattle.law_rarity.specs.Tables.{Entry, bytes_of, tabled, with_tags}
use Rattle.law_rarity.proofs.Entries.{has, tabled_others}

pub written : (n v : ℕ) → AreBytes (bytes_of n v)
written zero v = tt
written (suc n) v = (omega arith, written n (v / 256))

dropped : (n : ℕ) (xs : List ℕ) → All (λ b. b < 256) xs → AreBytes (drop n xs)
dropped zero [] h = tt
dropped zero (x ∷ xs) h = (h 0 0 (omega arith), dropped zero xs (λ k d lt. h (suc k) d (omega (arith, lt))))
dropped (suc n) [] h = tt
dropped (suc n) (x ∷ xs) h = dropped n xs (λ k d lt. h (suc k) d (omega (arith, lt)))

-- sixteen bytes in place of the first sixteen
pub replaced : (v : ℕ) (tag : List ℕ) → IsTagBytes tag → IsTagBytes (bytes_of 16 v ++ drop 16 tag)
replaced v tag h = (
  length-append (bytes_of 16 v) (drop 16 tag) ∙ (let a = length-drop 16 tag in let b = h.0 in omega (arith, a, b)),
  all_bytes (bytes_of 16 v ++ drop 16 tag) (both_bytes (bytes_of 16 v) (drop 16 tag) (written 16 v) (dropped 16 tag h.1)),
)

module _ (set : Setting) (tag : IsTagUnder set.secret set.mac) where
  made_so : (es : List Entry) (t : List ℕ) (key : List ℕ) (kind : ℕ) (rest : List ℕ) → kind ≢ 0x4B → IsTagBytes (tabled set es t key (kind ∷ rest))
  made_so [] t key kind rest ne = tag.tags key kind rest ne
  made_so (e ∷ es) [] key kind rest ne = tag.tags key kind rest ne
  made_so (e ∷ es) (v ∷ t) key kind rest ne = by (has set e key (kind ∷ rest)) (made_so es t key kind rest ne)
    where
      by : (b : Bool) → IsTagBytes (tabled set es t key (kind ∷ rest)) → IsTagBytes (cond b (bytes_of 16 v ++ drop 16 (set.mac key (kind ∷ rest))) (tabled set es t key (kind ∷ rest)))
      by true h = replaced v (set.mac key (kind ∷ rest)) (tag.tags key kind rest ne)
      by false h = h

  pub tabled_under : (es : List Entry) (t : List ℕ) → IsTagUnder set.secret (tabled set es t)
  tabled_under es t = record {
    tags = made_so es t;
    derived = λ rest. subst IsTagBytes (sym (tabled_others set es t set.secret 0x4B rest (λ e. absurd (omega (arith, e))))) (tag.derived rest);
  }

pub with_tags_sound : (set : Setting) → IsSoundSetting set → RealizesAlways set → (es : List Entry) (t : List ℕ) → IsSoundSetting (with_tags set es t)
with_tags_sound set sound always es t = sound_with set sound always (tabled set es t) set.keys refl (tabled_under set sound.tag es t)
