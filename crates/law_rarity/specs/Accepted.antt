-- How seldom a maker of schedules for an accepted deployment takes a random table for the tags of the
-- key tree.
use Rattle.std.specs.Prelude.{◌≡◌, ℕ, ◌^◌, ◌≤◌, List, length, Ok}
use Rattle.sx_tag.specs.Mac.{Mac, IsTag}
use Rattle.sx_deploy.specs.Deployment.{Deployed, IsRead}
use Rattle.spec_run.specs.Accepted.{setting_of, AreImages}
use Rattle.spec_run.specs.AcceptedLaw.{AreLines}
use Rattle.law_forgery.specs.Named.{named_setting}
use Rattle.law_connections.specs.Laws.{RealizesAlways}
use Rattle.law_makers.specs.Makers.{Maker, made}
use Rattle.law_counting.specs.Counting.{IsTable}
use Rattle.law_rarity.specs.Tables.{with_tags}
use Rattle.law_rarity.specs.Covering.{all_entries}
use Rattle.law_rarity.specs.Erring.{SeldomErrs}

-- For every text that is accepted and has a secret, every lawful tag, all images that realize its
-- modules whatever the tag function is, and every maker of at most 65,536 lines in form: a run has at
-- most 2^37 moments, so a `forged` before an `attested` or an `open` comes for at most the part
-- 2^37 / 2^128 of all tables.
abbrev pub AcceptedSeldomErrs : Type 0
AcceptedSeldomErrs = (text : List ℕ) (d : Deployed) → IsRead text (Ok d) → length d.secret ≡ 16
    → (mac base : Mac) (texts : List (List ℕ)) → IsTag mac → IsTag base → AreImages mac d texts
    → let set = setting_of mac d texts in RealizesAlways set
    → (make : Maker) (n : ℕ) → n ≤ 65536
    → ((t : List ℕ) → IsTable (length (all_entries (length d.app.parts))) (2 ^ 128) t
    → let s = with_tags (named_setting base set) (all_entries (length d.app.parts)) t in
    AreLines d.names (made s make n).lines)
    → SeldomErrs set base make n (2 ^ 37)
