-- RULES 1.3: the limits of the rules. src/limits.rt has the same numbers for the code.
use Rattle.std.specs.Prelude.{ℕ}

-- sessions that a receiver holds, and the places of its table (RULES 4.3)
abbrev pub sessions_max : ℕ
sessions_max = 32

-- subscriptions that a receiver is set up with, at most (RULES 3.2)
abbrev pub subscriptions_max : ℕ
subscriptions_max = 64

-- bytes of a payload, at most (RULES 4.8, 7.3)
abbrev pub payload_max : ℕ
payload_max = 512

-- bytes that a session gathers, at most: the payload and its checksum (RULES 4.8)
abbrev pub gathered_max : ℕ
gathered_max = 514

-- blocks that the gathered bytes of all sessions lie in, and bytes of a block (RULES 4.12)
abbrev pub blocks_max : ℕ
blocks_max = 64

abbrev pub block_size : ℕ
block_size = 64

-- blocks of one session, at most: those of 514 bytes
abbrev pub blocks_each : ℕ
blocks_each = 9

-- a session is old when its age in microseconds is above this (RULES 4.4)
abbrev pub old_age : ℕ
old_age = 2000000

-- interfaces that frames come by, numbered from 0 (RULES 2.7)
abbrev pub interfaces_max : ℕ
interfaces_max = 3

-- a session may follow another interface when its age in microseconds is above this (RULES 4.4)
abbrev pub switch_delay : ℕ
switch_delay = 1000000

-- entries of a transfer-ID map (RULES 8.1)
abbrev pub entries_max : ℕ
entries_max = 32

-- a map's entry may be replaced once it was unused for this many microseconds (RULES 8.2)
abbrev pub unused_age : ℕ
unused_age = 2000000

-- bytes of a frame record (RULES 2.6), and of a subscription record (3.3)
abbrev pub frame_record : ℕ
frame_record = 13

abbrev pub subscription_record : ℕ
subscription_record = 13

-- data bytes of a frame (RULES 2.1), and those of them that are payload (2.3), at most
abbrev pub frame_data : ℕ
frame_data = 8

abbrev pub frame_payload : ℕ
frame_payload = 7
