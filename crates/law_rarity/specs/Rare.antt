-- How seldom a tag is accepted that nobody made.
use Rattle.std.specs.Prelude.{◌≡◌, ℕ, ◌*◌, ◌^◌, ◌<◌, ◌≤◌, Bool, true, List, ◌∷◌, ◌++◌, length}
use Rattle.std.specs.Prelude.{slice_get, Some}
use Rattle.sx_sched.specs.Lines.{Line}
use Rattle.spec_run.specs.Setting.{Setting}
use Rattle.spec_run.specs.Law.{IsSoundSetting, LinesInForm}
use Rattle.law_isolation.specs.Happening.{Answer}
use Rattle.law_forgery.specs.Moments.{Moment, moment}
use Rattle.law_connections.specs.Laws.{RealizesAlways}
use Rattle.law_uses.specs.Hit.{IsFreshHit}
use Rattle.law_makers.specs.Makers.{Maker, made}
use Rattle.law_counting.specs.Counting.{IsTable, count}
use Rattle.law_rarity.specs.Tables.{Entry, with_tags}
use Rattle.law_rarity.specs.Names.{HasNames}

-- Before its q-th moment the run tries, rightly, the tag of one of these entries, which no moment
-- before gave.
pub record HitsAt (es : List Entry) (set : Setting) (lines : List Line) (q : ℕ) : Type 0 where
  pub k : ℕ
  pub soon : k < q
  pub now : Moment
  pub at : moment set lines k ≡ Some now
  pub hit : IsFreshHit set lines k now
  pub i : ℕ
  pub there : slice_get es i ≡ Some (record {
    m = hit.m;
    boot = hit.boot;
    rest = length hit.header ∷ (hit.header ++ hit.cipher);
  })

-- the entries are of boots that a name can have
abbrev pub HaveBoots : List Entry → Type 0
HaveBoots es = (i : ℕ) (e : Entry) → slice_get es i ≡ Some e → e.boot < 2 ^ 32

-- the lines are in form, and each answer that they judge is for such a boot
pub record AreInRange (set : Setting) (lines : List Line) : Type 0 where
  pub form : LinesInForm set lines
  pub boots : (k : ℕ) (now : Moment) (m boot packet : ℕ) → moment set lines k ≡ Some now
      → now.next ≡ Answer m boot packet → boot < 2 ^ 32

-- so are the lines that are made, whatever the table
abbrev pub MakesInRange : Setting → List Entry → Maker → ℕ → Type 0
MakesInRange set es make n = (t : List ℕ) → IsTable (length es) (2 ^ 128) t
    → AreInRange (with_tags set es t) (made (with_tags set es t) make n).lines

-- Of all tables at most the part q / 2^128 leads to a run, of whatever maker, that hits before its
-- q-th moment. `p` is any test that such a table alone passes.
abbrev pub ForgeriesAreRare : Type 0
ForgeriesAreRare = (set : Setting) (es : List Entry) (make : Maker) (n q : ℕ) → IsSoundSetting set
    → RealizesAlways set → HasNames set → HaveBoots es → n ≤ 65536
    → MakesInRange set es make n → q ≤ 2 ^ 128
    → (p : List ℕ → Bool)
    → ((t : List ℕ) → IsTable (length es) (2 ^ 128) t → p t ≡ true
    → HitsAt es (with_tags set es t) (made (with_tags set es t) make n).lines q)
    → count (length es) (2 ^ 128) p * 2 ^ 128 ≤ q * (2 ^ 128) ^ length es
