-- Other keys in the place of those of connections.
use Rattle.std.specs.Prelude.{◌≡◌, ◌≢◌, ℕ, ◌+◌, ◌*◌, ◌^◌, ◌%◌, ◌<◌, ◌≤◌, Bool, true, List, length, None}
use Rattle.sx_tag.specs.Mac.{Mac, IsTag}
use Rattle.sx_model.specs.State.{FIELDS}
use Rattle.sx_sched.specs.Lines.{Line}
use Rattle.spec_run.specs.Setting.{Setting}
use Rattle.spec_run.specs.Deployer.{connection_key}
use Rattle.spec_run.specs.Law.{IsSoundSetting, LinesInForm}
use Rattle.law_forgery.specs.Tags.{SameTags}
use Rattle.law_forgery.specs.Moments.{moment}
use Rattle.law_forgery.specs.Named.{named_setting}
use Rattle.law_connections.specs.Unlinked.{Unlinked}
use Rattle.law_connections.specs.LinksUnseen.{RunKeepsTo, NothingGuessed, RunsAlike}
use Rattle.law_connections.specs.Laws.{HidesKeys, RealizesAlways}
use Rattle.law_counting.specs.Counting.{IsTable, at, count}
use Rattle.law_rarity.specs.Tables.{bytes_of}

-- The place of a connection's key in an epoch, as a table of numbers has it: a key is derived from
-- two bytes, of the connection and the epoch, so the table has an entry for each two bytes.
abbrev pub place_of : List ℕ → (link epoch : ℕ) → List ℕ
place_of t link epoch = bytes_of 16 (at t ((link + 256 * epoch) % 65536))

-- no two connections have one place
abbrev pub AreApart : List ℕ → Type 0
AreApart t = (e f : ℕ) → e < FIELDS → f < FIELDS → at t e ≡ at t f → e ≡ f

-- these bytes are in the place of no connection's key
abbrev pub IsNoPlace : List ℕ → List ℕ → Type 0
IsNoPlace t k = (f : ℕ) → f < FIELDS → k ≢ bytes_of 16 (at t f)

-- until a `forged` is shown, no code outside the deployed modules uses a place as a key
abbrev pub UsesNoPlace : Setting → List ℕ → List Line → Type 0
UsesNoPlace a t = RunKeepsTo a (IsNoPlace t) (λ n boot provider identity. Unit {0})

-- A sound setting whose connections have places for keys. Under its place a connection's tags are
-- those of its true key, and set-key packets are the same, though the keys in them differ. Under 16
-- bytes that are no place the tags are as before, under the true keys too. So nothing is guessed
-- where no place is used.
pub record IsPlaced (a : Setting) (t : List ℕ) (b : Setting) : Type 0 where
  pub sound : IsSoundSetting b
  pub unlinked : Unlinked a b
  pub placed : (link epoch : ℕ) → connection_key b link epoch ≡ place_of t link epoch
  pub stay : (k : List ℕ) → length k ≡ 16 → IsNoPlace t k → SameTags a.mac k b.mac k
  pub guessed : (lines : List Line) → LinesInForm a lines → UsesNoPlace a t lines
      → NothingGuessed a b lines

-- Where modules have names for keys, there is such a setting for every choice of places. So its runs
-- are alike as long as no code outside the deployed modules uses a place.
abbrev pub PlacesUnseen : Type 0
PlacesUnseen = (set : Setting) (base : Mac) → IsSoundSetting set → RealizesAlways set
    → HidesKeys set → IsTag base → length set.secret ≡ 16
    → (t : List ℕ) → IsTable FIELDS (2 ^ 128) t → AreApart t
    → let a = named_setting base set in
    (b : Setting) × IsPlaced a t b × ((lines : List Line) → LinesInForm a lines
    → UsesNoPlace a t lines → RunsAlike a b lines)

-- Places are drawn apart from a run. Of all tables at most the part (q + 2^16) · 2^16 / 2^128 has a
-- place that a run of q moments uses, or one place for two connections. `p` is any test that such a
-- table alone passes.
abbrev pub PlacesRarelyHit : Type 0
PlacesRarelyHit = (a : Setting) (lines : List Line) (q : ℕ) → moment a lines q ≡ None
    → (p : List ℕ → Bool)
    → ((t : List ℕ) → IsTable FIELDS (2 ^ 128) t → p t ≡ true
    → (AreApart t → UsesNoPlace a t lines → ⊥))
    → count FIELDS (2 ^ 128) p * 2 ^ 128 ≤ (q + FIELDS) * FIELDS * (2 ^ 128) ^ FIELDS
