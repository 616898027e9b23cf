-- No pad is used twice.
use Rattle.std.specs.Prelude.{◌≡◌, ℕ, ◌+◌, ◌≤◌, true, List, length, Some}
use Rattle.sx_sched.specs.Lines.{Line}
use Rattle.spec_run.specs.Setting.{Setting}
use Rattle.spec_run.specs.Ledger.{Made, is_made}
use Rattle.spec_run.specs.Law.{IsSoundSetting, LinesInForm}
use Rattle.law_isolation.specs.Happening.{done}
use Rattle.law_forgery.specs.Moments.{Moment, moment, NoneBefore}

-- they are wrapped by one maker, for one module at one boot if they are for one, with one header
abbrev pub SamePad : Made → Made → Type 0
SamePad a b = (a.maker ≡ b.maker) × (a.target ≡ b.target) × (a.boot ≡ b.boot)
    × (a.header ≡ b.header)

-- After a moment, as long as no `forged` was shown, such entries have one body.
abbrev pub PadsOnce : Type 0
PadsOnce = (set : Setting) → IsSoundSetting set → (lines : List Line) → length lines ≤ 65536
    → LinesInForm set lines → (k : ℕ) (now : Moment) → moment set lines k ≡ Some now
    → NoneBefore set lines (k + 1)
    → let ledger = (done set now.next now.world).world.ledger in
    (a b : Made) → is_made ledger a ≡ true → is_made ledger b ≡ true
    → SamePad a b → a.body ≡ b.body
