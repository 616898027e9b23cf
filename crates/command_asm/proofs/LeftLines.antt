-- How a listing is written, line by line.
use Rattle.std.proofs.Common.{◌≡◌, ◌∙◌, ◌≢◌, ℕ, zero, suc, ◌+◌, ◌%◌, ◌≤◌, ◌==◌, Bool, true, false, List, [], ◌∷◌, ◌++◌}
use Rattle.std.proofs.Common.{length, take, drop, refl, sym, ap, subst, arith, append_assoc, length-drop}
use Rattle.std.specs.Prelude.{nat_lt, codes}
use Rattle.hex.specs.Hex.{encode_lower}
use Rattle.command_text.specs.Address.{address}
use Rattle.std.proofs.lemmas.Bool.Decides.{nat_tests}
use Rattle.std.proofs.Math.Seq.{take-append_seam}
use Rattle.sx_io.specs.Streams.{SinkAt}
use Rattle.command_promise.specs.declared.status.Status.{Status}
use Rattle.command_promise.specs.declared.status.Status.TheVariants.{Done}
use Rattle.command_promise.specs.Told.{Output, CommandEnds, behind}
use Rattle.command_promise.specs.Parts.{WroteSome}
use Rattle.command_promise.proofs.Laws.{ends-behind, ends-same}
use Rattle.sx_io.specs.Reading.{Answer}
use Rattle.sx_asm.specs.Meaning.{further}
use Rattle.sx_asm.specs.Shown.{listed}
use Rattle.command_asm.specs.Listing.{listing_line, listing_lines, listing}
use Rattle.command_text.specs.Output.{end_line}
use Rattle.command_asm.proofs.Sizes.{listed_sized}

-- these lines, and `end`
abbrev pub and_end : List ℕ → Output
and_end text = record { text = text ++ end_line; status = Done }

-- of a listing all was written but the lines of these bytes
pub record LeftLines (to_tell : Bool) (k0 k1 : SinkAt) (whole : Output) (at : ℕ) (bytes : List ℕ) : Type 0 where
  pub most : ℕ
  pub enough : length bytes ≤ most
  pub ends : (k2 : SinkAt) (status : Status) → CommandEnds to_tell k1 k2 status (and_end (listing_lines most at bytes))
      → CommandEnds to_tell k0 k2 status whole

pub left_new : (to_tell : Bool) (k : SinkAt) (at : ℕ) (code : List ℕ) → LeftLines to_tell k k (and_end (listing at code)) at code
unfolding listing
left_new to_tell k at code = record { most = length code; enough = omega arith; ends = λ k2 status w. w }

-- the parts of a line, one after the other
pub line_is : (at size : ℕ) (code shown t0 t1 t2 t3 t4 t5 t6 : List ℕ) → t0 ≡ [] → t1 ≡ t0 ++ address at → t2 ≡ t1 ++ codes " "
    → t3 ≡ t2 ++ encode_lower (take size code) → t4 ≡ t3 ++ codes " " → t5 ≡ t4 ++ shown → t6 ≡ t5 ++ 10 ∷ []
    → size ≡ (listed at code).1 → shown ≡ (listed at code).0 → t6 ≡ listing_line at code
unfolding listing_line
line_is at size code shown t0 t1 t2 t3 t4 t5 t6 h0 h1 h2 h3 h4 h5 h6 s w = rw (h6, h5, h4, h3, h2, h1, h0, s, w) refl

-- the text at the start of a buffer
pub front_is : (text old buffer : List ℕ) (n : ℕ) → buffer ≡ text ++ drop n old → n ≡ length text → take n buffer ≡ text
front_is text old buffer n e h = rw (e, h) (take-append_seam text (drop (length text) old))

-- whole words are left, and so one at least
pub some_word : (bytes : List ℕ) (empty : Bool) → empty ≡ (length bytes == 0) → empty ≡ false → length bytes % 2 ≡ 0 → 2 ≤ length bytes
some_word bytes empty e f even =
    let some : (length bytes == 0) ≡ false = sym e ∙ f in
    let k : length bytes ≢ 0 = grind (arith, nat_tests, some) in omega (arith, k, even)

pub no_word : (bytes : List ℕ) (empty : Bool) → empty ≡ (length bytes == 0) → empty ≡ true → length bytes ≡ 0
no_word bytes empty e f = let none : (length bytes == 0) ≡ true = sym e ∙ f in grind (arith, nat_tests, none)

-- the first line, and those after it
record Next (most at : ℕ) (bytes : List ℕ) : Type 0 where
  pub fewer : ℕ
  pub enough : length (drop (listed at bytes).1 bytes) ≤ fewer
  pub lines : listing_lines most at bytes
      ≡ listing_line at bytes ++ listing_lines fewer (further at (listed at bytes).1) (drop (listed at bytes).1 bytes)

next_line : (most at : ℕ) (bytes : List ℕ) → 2 ≤ length bytes → length bytes ≤ most → Next most at bytes
next_line zero at bytes long enough = absurd (omega (arith, long, enough))
next_line (suc k) at bytes long enough =
    let some : nat_lt (length bytes) 2 ≡ false = grind (arith, nat_tests, long) in
    let sized = listed_sized at bytes long in record {
      fewer = k;
      enough = omega (arith, length-drop (listed at bytes).1 bytes, sized.some, sized.within, enough);
      lines = rw some refl;
    }

next_is : (most at : ℕ) (bytes text : List ℕ) (n : Next most at bytes) → text ≡ listing_line at bytes
    → and_end (listing_lines most at bytes)
    ≡ behind text (and_end (listing_lines n.fewer (further at (listed at bytes).1) (drop (listed at bytes).1 bytes)))
next_is most at bytes text n same =
    let rest : List ℕ = listing_lines n.fewer (further at (listed at bytes).1) (drop (listed at bytes).1 bytes) in
    let e : listing_lines most at bytes ++ end_line ≡ text ++ (rest ++ end_line) =
    ap (λ (t : List ℕ). t ++ end_line) (n.lines ∙ ap (λ (t : List ℕ). t ++ rest) (sym same)) ∙ append_assoc text rest end_line in
    ap (λ (t : List ℕ). record { text = t; status = Done }) e

-- a line was written
pub left_line : {to_tell : Bool} {k0 k1 k2 : SinkAt} {whole : Output} (at to : ℕ) (bytes rest text : List ℕ) → 2 ≤ length bytes
    → LeftLines to_tell k0 k1 whole at bytes → text ≡ listing_line at bytes → to ≡ further at (listed at bytes).1 → rest ≡ drop (listed at bytes).1 bytes
    → ((left : List Answer → Output) → WroteSome to_tell k1 k2 (λ more. behind text (left more)) left)
    → LeftLines to_tell k0 k2 whole to rest
left_line {to_tell} {k0} {k1} {k2} {whole} at to bytes rest text long b same t r wrote =
    let n = next_line b.most at bytes long b.enough in
    let left : Output = and_end (listing_lines n.fewer (further at (listed at bytes).1) (drop (listed at bytes).1 bytes)) in
    let w = wrote (λ more. left) in
    let P : List ℕ → Type 0 = λ x. LeftLines to_tell k0 k2 whole (further at (listed at bytes).1) x in
    let Q : ℕ → Type 0 = λ x. LeftLines to_tell k0 k2 whole x rest in
    subst Q (sym t) (subst P (sym r) (record {
      most = n.fewer;
      enough = n.enough;
      ends = λ k3 status e.
          b.ends k3 status
          (ends-same to_tell k1 k3 status _ _ (next_is b.most at bytes text n same ∙ w.same [])
          (ends-behind to_tell k1 k2 k3 w.text status left w.wrote w.no_fault e));
    }))

-- the command ends at a line
pub left_stop : {to_tell : Bool} {k0 k1 k2 : SinkAt} {whole : Output} {status : Status} (at : ℕ) (bytes text : List ℕ) → 2 ≤ length bytes
    → LeftLines to_tell k0 k1 whole at bytes → text ≡ listing_line at bytes
    → ((left : List Answer → Output) (more : List Answer) → CommandEnds to_tell k1 k2 status (behind text (left more))) → CommandEnds to_tell k0 k2 status whole
left_stop {to_tell} {k0} {k1} {k2} {whole} {status} at bytes text long b same stop =
    let n = next_line b.most at bytes long b.enough in
    let left : Output = and_end (listing_lines n.fewer (further at (listed at bytes).1) (drop (listed at bytes).1 bytes)) in
    b.ends k2 status (ends-same to_tell k1 k2 status _ _ (next_is b.most at bytes text n same) (stop (λ more. left) []))

no_lines : (most at : ℕ) (bytes : List ℕ) → length bytes ≡ 0 → listing_lines most at bytes ≡ []
no_lines zero at bytes h = refl
no_lines (suc k) at bytes h = let none : nat_lt (length bytes) 2 ≡ true = grind (arith, nat_tests, h) in rw none refl

-- the command ends after the last line
pub left_end : {to_tell : Bool} {k0 k1 k2 : SinkAt} {whole : Output} {status : Status} (at : ℕ) (bytes : List ℕ) → length bytes ≡ 0
    → LeftLines to_tell k0 k1 whole at bytes → CommandEnds to_tell k1 k2 status (record { text = end_line; status = Done })
    → CommandEnds to_tell k0 k2 status whole
left_end {to_tell} {k0} {k1} {k2} {whole} {status} at bytes none b e =
    b.ends k2 status (ends-same to_tell k1 k2 status _ _ (ap and_end (no_lines b.most at bytes none)) e)
