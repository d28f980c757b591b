-- RULES 5.6: writing a whole table into the state. An empty place has key 0; its other bytes stay as they were, and so do those of a block past
-- the gathered bytes and of a free block.
use Rattle.std.specs.Prelude.{Bool, true, false, List, [], ◌∷◌, ◌++◌, ℕ, suc, ◌+◌, ◌*◌, eqb, length, take, drop}
use Rattle.bits.specs.Little.{le_bytes}
use Rattle.blocks.specs.Set.{set_of}
use Rattle.blocks.specs.Stores.{Store, store_all}
use Rattle.rules.specs.Blocks.{used, times}
use Rattle.rules.specs.Limits.{blocks_max, block_size, blocks_each}
use Rattle.rules.specs.Session.{Session}
use Rattle.rules.specs.Table.{Place, empty, held, Places}
use Rattle.state.specs.Layout.{times_at, free_at, stream_keys_at, controls_at, block_lists_at, blocks_at}
use Rattle.frame.specs.Key.{key_of}

abbrev pub one : Bool → ℕ
one true = 1
one false = 0

-- the toggle, and twice the followed interface
abbrev pub flags_of : Session → ℕ
flags_of s = one s.toggle + 2 * s.follows

-- the number of bytes in hand, the expected transfer ID and the flags
unfoldable pub control_of : Session → List ℕ
control_of s = le_bytes 2 (length s.gathered) ++ (s.expected ∷ flags_of s ∷ [])

-- ── what is stored of a place ──

abbrev pub key_store : ℕ → ℕ → Store
key_store i k = record { at = stream_keys_at + i * 4; bytes = le_bytes 4 k }

abbrev pub control_store : ℕ → Session → Store
control_store i s = record { at = controls_at + i * 4; bytes = control_of s }

abbrev pub time_store : ℕ → Session → Store
time_store i s = record { at = times_at + i * 8; bytes = le_bytes 8 s.since }

abbrev pub list_store : ℕ → List ℕ → Store
list_store i bs = record { at = block_lists_at + i * blocks_each; bytes = bs }

-- the gathered bytes, a block's worth in each block
unfoldable pub block_stores : List ℕ → List ℕ → List Store
block_stores [] g = []
block_stores (b ∷ bs) g = record { at = blocks_at + b * block_size; bytes = take block_size g } ∷ block_stores bs (drop block_size g)

unfoldable pub place_stores : ℕ → Place → List Store
place_stores i empty = key_store i 0 ∷ []
place_stores i (held d s bs) = key_store i (key_of d) ∷ control_store i s ∷ time_store i s ∷ list_store i bs ∷ block_stores bs s.gathered

-- ── and of the table ──

-- the places from i on
unfoldable pub table_stores : ℕ → Places → List Store
table_stores i [] = []
table_stores i (p ∷ ps) = place_stores i p ++ table_stores (suc i) ps

-- the blocks that no session has
unfoldable pub free_set : Places → ℕ
free_set ps = set_of (λ b. eqb (times b (used ps)) 0) 0 blocks_max

abbrev pub free_store : ℕ → Store
free_store n = record { at = free_at; bytes = le_bytes 8 n }

unfoldable pub written : List ℕ → Places → List ℕ
written m ps = store_all m (free_store (free_set ps) ∷ table_stores 0 ps)
