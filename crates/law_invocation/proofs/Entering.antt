-- A call with the windows low enters: none of the first three steps of the entry protocol refuses it.
use Rattle.std.proofs.Common.{◌≡◌, ℕ, ◌+◌, ◌≤◌, true, false, ◌||◌, List, Ok, ap, ◌∙◌, arith}
use Rattle.std.specs.Prelude.{if◌then◌else◌}
use Rattle.std.proofs.lemmas.Bool.{cond-true, cond-false}
use Rattle.sx_rules.specs.declared.access.Violation.TheVariants as bad
use Rattle.spec_machine.specs.Memory.{bytes_from}
use Rattle.spec_invocation.specs.Protocol.{no_entry, bad_window}
use Rattle.spec_invocation.specs.Setup.{Setup}
use Rattle.spec_invocation.specs.Windows.{is_bad_window, in_window_size, out_window_size}
use Rattle.spec_invocation.specs.Progress.{Progress, Invoked, Returns, Violates}
use Rattle.spec_invocation.specs.Entries.{received, is_kind, with_received}
use Rattle.spec_invocation.specs.Invocation.{returns_inside, is_no_entry, has_bad_windows, entered, invoke}
use Rattle.law_invocation.specs.Gives.{IsLowFree, low_call, low_end, low_input, low_output}
use Rattle.law_invocation.proofs.Low.{returns_outside, good_window, read_all}

pub enters : (su : Setup) (p : Progress) (e : ℕ) → IsLowFree su p.devices → is_no_entry su (low_call e) ≡ false → invoke su (low_call e) p ≡ entered su (low_call e) p
unfolding invoke
enters su p e low entry =
    let c = low_call e in
    let windows : has_bad_windows su c ≡ false =
    ap (λ b. b || is_bad_window su low_output out_window_size) (good_window su p.devices low low_input in_window_size (omega arith))
    ∙ good_window su p.devices low low_output out_window_size (omega arith) in
    cond-false (returns_inside su c) (Violates bad.Illegal p) (if is_no_entry su c then Returns no_entry p else
    if has_bad_windows su c then Returns bad_window p else entered su c p) (returns_outside su p.devices low)
    ∙ cond-false (is_no_entry su c) (Returns no_entry p) (if has_bad_windows su c then Returns bad_window p else entered su c p) entry
    ∙ cond-false (has_bad_windows su c) (Returns bad_window p) (entered su c p) windows

-- a packet of the kind is received
pub receives : (su : Setup) (p : Progress) (e n kind : ℕ) (packet : List ℕ) (rest : List ℕ → Invoked) → IsLowFree su p.devices → low_input + n ≤ low_end
    → bytes_from p.mem low_input n ≡ packet → is_kind kind packet ≡ true
    → with_received su (low_call e) n kind p rest ≡ rest packet
receives su p e n kind packet rest low le bytes is =
    ap (λ r. received r kind rest p) (read_all su p.devices low p.mem low_input n le ∙ ap (λ bs. Ok bs) bytes)
    ∙ cond-true _ _ _ is
