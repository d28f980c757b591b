-- RULES 5.2: the layout of a receiver's state in lent bytes (docs/ARCHITECTURE.md has the table), and its view as setup and places.
use Rattle.std.specs.Prelude.{List, [], ◌∷◌, ◌++◌, ℕ, ◌+◌, ◌*◌, ◌/◌, ◌%◌, eqb, get_or, take}
use Rattle.bits.specs.Little.{le}
use Rattle.bits.specs.Part.{span}
use Rattle.bits.specs.Tabulate.{tabulate}
use Rattle.frame.specs.Key.{stream_of_key}
use Rattle.rules.specs.Blocks.{need}
use Rattle.rules.specs.Limits.{sessions_max, subscriptions_max, blocks_max, block_size, blocks_each}
use Rattle.rules.specs.Session.{Session}
use Rattle.rules.specs.Setup.{Subscription, Setup}
use Rattle.rules.specs.Table.{Place, empty, held, Places}
use Rattle.rules.specs.Tests.{pick}

-- ── where each part starts; src/layout.rt has the same for the code ──

-- the own node ID and the number of subscriptions; six bytes are unused
abbrev pub own_at : ℕ
own_at = 0

abbrev pub subscription_count_at : ℕ
subscription_count_at = 1

-- signatures of the subscriptions
abbrev pub signatures_at : ℕ
signatures_at = 8

-- times of the sessions
abbrev pub times_at : ℕ
times_at = signatures_at + subscriptions_max * 8

-- the free blocks
abbrev pub free_at : ℕ
free_at = times_at + sessions_max * 8

-- kinds and types of the subscriptions
abbrev pub subscription_keys_at : ℕ
subscription_keys_at = free_at + 8

-- streams of the sessions
abbrev pub stream_keys_at : ℕ
stream_keys_at = subscription_keys_at + subscriptions_max * 4

-- of each session the number of bytes in hand (2), the expected transfer ID (1), and in one byte the toggle (bit 0) and the followed interface
abbrev pub controls_at : ℕ
controls_at = stream_keys_at + sessions_max * 4

-- of each session the numbers of its blocks, in the order taken
abbrev pub block_lists_at : ℕ
block_lists_at = controls_at + sessions_max * 4

-- the blocks, which hold the gathered bytes
abbrev pub blocks_at : ℕ
blocks_at = block_lists_at + sessions_max * blocks_each

-- the bytes of the whole layout
abbrev pub size : ℕ
size = blocks_at + blocks_max * block_size

-- ── the setup: own ID, number of subscriptions, signatures, kinds and types ──

unfoldable pub subscription_key_at : List ℕ → ℕ → ℕ
subscription_key_at m j = le (span m (subscription_keys_at + j * 4) 4)

unfoldable pub subscription_at : List ℕ → ℕ → Subscription
subscription_at m j =
    record { kind = subscription_key_at m j / 65536; type = subscription_key_at m j % 65536; signature = le (span m (signatures_at + j * 8) 8) }

unfoldable pub setup_of : List ℕ → Setup
setup_of m = record { own = get_or m own_at 0; subscriptions = tabulate (subscription_at m) 0 (get_or m subscription_count_at 0) }

-- the free blocks as a set: bit b is 1 where block b is free
unfoldable pub free_of : List ℕ → ℕ
free_of m = le (span m free_at 8)

-- ── the places: times, stream keys, counts of bytes in hand, expected IDs, toggles, followed interfaces, blocks, gathered bytes ──

unfoldable pub time_at : List ℕ → ℕ → ℕ
time_at m i = le (span m (times_at + i * 8) 8)

unfoldable pub key_at : List ℕ → ℕ → ℕ
key_at m i = le (span m (stream_keys_at + i * 4) 4)

unfoldable pub count_at : List ℕ → ℕ → ℕ
count_at m i = le (span m (controls_at + i * 4) 2)

unfoldable pub expected_at : List ℕ → ℕ → ℕ
expected_at m i = le (span m (controls_at + 2 + i * 4) 1)

-- the toggle, and twice the followed interface
unfoldable pub flags_at : List ℕ → ℕ → ℕ
flags_at m i = le (span m (controls_at + 3 + i * 4) 1)

-- as many block numbers as the bytes in hand need
unfoldable pub blocks_of : List ℕ → ℕ → List ℕ
blocks_of m i = span m (block_lists_at + i * blocks_each) (need (count_at m i))

-- the bytes of blocks, one block after the other
unfoldable pub joined : List ℕ → List ℕ → List ℕ
joined m [] = []
joined m (b ∷ bs) = span m (blocks_at + b * block_size) block_size ++ joined m bs

unfoldable pub gathered_at : List ℕ → ℕ → List ℕ
gathered_at m i = take (count_at m i) (joined m (blocks_of m i))

unfoldable pub session_at : List ℕ → ℕ → Session
session_at m i =
    record { expected = expected_at m i; gathered = gathered_at m i; toggle = eqb (flags_at m i % 2) 1; since = time_at m i; follows = flags_at m i / 2 }

unfoldable pub place_at : List ℕ → ℕ → Place
place_at m i = pick (eqb (key_at m i) 0) empty (held (stream_of_key (key_at m i)) (session_at m i) (blocks_of m i))

unfoldable pub places_of : List ℕ → Places
places_of m = tabulate (place_at m) 0 sessions_max
