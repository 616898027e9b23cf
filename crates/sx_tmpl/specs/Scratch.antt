-- Where what templates alone use lies in a private section: offsets in bytes from its start. Nobody
-- has to believe this file for what an image realizes.
use Rattle.std.specs.Prelude.{ℕ, ◌+◌}
use Rattle.spec_invocation.specs.Pieces.{tag_size}
use Rattle.spec_invocation.specs.Protocol.{header_size, value_size}
use Rattle.sx_mean.specs.Working.{packet_at, saved_at, scratch_at}

-- where a handler's part returns to
abbrev pub return_at : ℕ
return_at = scratch_at

-- The packet that is being made: its header, which is its kind, its connection field and its
-- number, and after it the cipher and the tag.
abbrev pub kind_at : ℕ
kind_at = return_at + 2

abbrev pub connection_at : ℕ
connection_at = kind_at + 2

abbrev pub number_at : ℕ
number_at = connection_at + 2

abbrev pub cipher_at : ℕ
cipher_at = kind_at + header_size

abbrev pub tag_at : ℕ
tag_at = cipher_at + value_size

-- its body, which is the value that is sent
abbrev pub body_at : ℕ
body_at = tag_at + tag_size

-- the caller's SP
abbrev pub caller_sp_at : ℕ
caller_sp_at = 148

-- the connection field of the copied packet
abbrev pub copied_connection_at : ℕ
copied_connection_at = packet_at + 2

-- the caller's in-window, its out-window and its return address
abbrev pub in_window_at : ℕ
in_window_at = saved_at 13

abbrev pub out_window_at : ℕ
out_window_at = saved_at 14

abbrev pub caller_at : ℕ
caller_at = saved_at 15
