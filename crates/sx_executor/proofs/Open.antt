-- What may be done to a word on a page that no section meets.
use Rattle.std.proofs.Common.{◌≡◌, ℕ, ◌+◌, ◌-◌, ◌/◌, ◌%◌, Bool, true, false, ◌&&◌, List, refl, arith}
use Rattle.std.proofs.lemmas.Bool.{and_from}
use Rattle.sx_rules.specs.declared.access.Access.{Access}
use Rattle.sx_rules.specs.declared.section.Section.{Section}
use Rattle.sx_rules.specs.Access.{may, extends, outside_private, in_order}
use Rattle.sx_rules.specs.Pages.{is_open}
use Rattle.sx_rules.proofs.Away.{free}
use Rattle.spec_machine.specs.Memory.{even}
use Rattle.spec_machine.specs.Run.{may_at}
use Rattle.spec_machine.specs.Step.{word_outside}

-- both bytes of a word lie on one page
low_byte : (at : ℕ) → (at - at % 2) / 256 ≡ at / 256
low_byte at = first_of (omega arith, grind arith)

high_byte : (at : ℕ) → (at - at % 2 + 1) / 256 ≡ at / 256
high_byte at = first_of (omega arith, grind arith)

-- any code may reach it
pub open_word : (live : List Section) (own : ℕ) (access : Access) (at : ℕ) → is_open live (at / 256) ≡ true
    → (may live own access (even at) && may live own access (even at + 1)) ≡ true
open_word live own access at h =
    and_from (may live own access (even at)) (may live own access (even at + 1))
    ((free live at h (even at) (low_byte at)).reached own access) ((free live at h (even at + 1) (high_byte at)).reached own access)

-- the same of a word or of its byte at the address
pub open_any : (live : List Section) (own at : ℕ) → is_open live (at / 256) ≡ true → (wide : Bool) (access : Access)
    → may_at wide live own access at ≡ true
open_any live own at h true access = open_word live own access at h
open_any live own at h false access = (free live at h at refl).reached own access

-- it may be an extension word of any code
pub open_extends : (live : List Section) (own at : ℕ) → is_open live (at / 256) ≡ true
    → (extends live own (even at) && extends live own (even at + 1)) ≡ true
open_extends live own at h =
    and_from (extends live own (even at)) (extends live own (even at + 1))
    ((free live at h (even at) (low_byte at)).extended own) ((free live at h (even at + 1) (high_byte at)).extended own)

-- it passes the tests of PC, and is of no module's code
pub open_outside : (live : List Section) (at : ℕ) → is_open live (at / 256) ≡ true → word_outside live at ≡ true
open_outside live at h =
    and_from (outside_private live (even at)) (outside_private live (even at + 1))
    (free live at h (even at) (low_byte at)).outside (free live at h (even at + 1) (high_byte at)).outside

pub open_ordered : (live : List Section) (cur at : ℕ) → is_open live (at / 256) ≡ true → in_order live cur at ≡ true
open_ordered live cur at h = (free live at h at refl).ordered cur
