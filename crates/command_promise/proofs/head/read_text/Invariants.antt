use Rattle.std.specs.Prelude.{ℕ, List, ◌≡◌, ◌≤◌, ◌-◌, length, IsTrue}
use Rattle.command_promise.proofs.Turns.{Came}
use Rattle.command_promise.proofs.head.read_text.Given as goal

-- so many bytes have come, and the text is these unless memory ran out
abbrev pub invariant-lines : goal.invariant-lines
invariant-lines g l = record {
  few : l.count ≤ 262144;
  come : (text : List ℕ) × (length text ≡ l.count) × (IsTrue l.is_kept → l.text.items ≡ text)
      × Came g.S.Source.tells (g.S.Source.at l.fn.source) (g.S.Source.at l.source) l.fn.lines l.lines text;
}

abbrev pub decreases-lines : goal.decreases-lines
decreases-lines g l = 262145 - l.count
