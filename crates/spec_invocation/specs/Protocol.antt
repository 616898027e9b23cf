-- The numbers of the entry protocol (own).
use Rattle.std.specs.Prelude.{ℕ}

-- The entries, as a caller gives them in R12.

-- takes a set-key packet
abbrev pub set_key_entry : ℕ
set_key_entry = 0

-- answers an ask
abbrev pub attest_entry : ℕ
attest_entry = 1

-- takes an event packet
abbrev pub input_entry : ℕ
input_entry = 2

-- reads the sensor; no entry is above it
abbrev pub sample_entry : ℕ
sample_entry = 3

-- The caller's registers: of the entry, the windows and the return address.

-- the entry
abbrev pub entry_register : ℕ
entry_register = 12

-- the in-window
abbrev pub input_register : ℕ
input_register = 13

-- the out-window
abbrev pub output_register : ℕ
output_register = 14

-- the return address
abbrev pub back_register : ℕ
back_register = 15

-- The statuses, as a module gives them back in R12.

-- all is done
abbrev pub all_done : ℕ
all_done = 1

-- there is no such entry
abbrev pub no_entry : ℕ
no_entry = 2

-- a window is bad
abbrev pub bad_window : ℕ
bad_window = 3

-- the packet is of another kind
abbrev pub other_kind : ℕ
other_kind = 4

-- no end takes the packet
abbrev pub no_end : ℕ
no_end = 5

-- the packet's number is past
abbrev pub past_number : ℕ
past_number = 6

-- the packet's tag differs
abbrev pub other_tag : ℕ
other_tag = 7

-- the sensor has no new sample
abbrev pub no_sample : ℕ
no_sample = 8

-- The kinds of packets, in their first byte.

-- gives an end its key
abbrev pub set_key_kind : ℕ
set_key_kind = 1

-- asks who is there
abbrev pub ask_kind : ℕ
ask_kind = 2

-- brings a value
abbrev pub event_kind : ℕ
event_kind = 3

-- How many bytes they have.

-- a header, a key and a tag
abbrev pub set_key_size : ℕ
set_key_size = 38

-- a kind and 16 bytes of the challenge
abbrev pub ask_size : ℕ
ask_size = 18

-- a header, a value and a tag
abbrev pub event_size : ℕ
event_size = 24

-- the header of the first and the third
abbrev pub header_size : ℕ
header_size = 6

-- a connection's key
abbrev pub key_size : ℕ
key_size = 16

-- the value of an event
abbrev pub value_size : ℕ
value_size = 2

-- where the tag begins that follows a header and a key
abbrev pub key_tag_at : ℕ
key_tag_at = 22

-- where the tag begins that follows a header and a value
abbrev pub value_tag_at : ℕ
value_tag_at = 8

-- The last number: no packet with it is made or taken, since none could follow it.
abbrev pub last_number : ℕ
last_number = 65535
