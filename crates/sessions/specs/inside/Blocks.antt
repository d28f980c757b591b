-- RULES 4.12: blocks as the code goes.
use Rattle.std.specs.Prelude.{Bool, not, ◌&&◌, List, [], ◌∷◌, ℕ, ◌+◌, ◌*◌, ◌-◌, ◌/◌, ◌%◌, ◌≤◌, ◌<◌, leb, ltb, eqb, length, get_or, take, drop}
use Rattle.std.specs.Int.Count.{count_trailing_zeros}
use Rattle.bits.specs.Little.{le_bytes}
use Rattle.blocks.specs.Stores.{Store}
use Rattle.blocks.specs.inside.Bit.{bit_at, excluding}
use Rattle.rules.specs.Limits.{sessions_max, gathered_max, blocks_max, block_size, blocks_each, frame_payload}
use Rattle.rules.specs.Tests.{pick}
use Rattle.state.specs.Layout.{size, block_lists_at, blocks_at}
use Rattle.state.specs.Place.{free_store}

-- the number of a block that is not in the set
unfoldable pub new_to : ℕ → ℕ → Bool
new_to all b = ltb b blocks_max && not (eqb (bit_at b all) 1)

-- the lowest of the free blocks is taken, and is number n of place i
abbrev pub claim_stores : ℕ → ℕ → ℕ → List Store
claim_stores free i n =
    free_store (excluding free (count_trailing_zeros blocks_max free))
    ∷ record { at = block_lists_at + i * blocks_each + n; bytes = le_bytes 1 (count_trailing_zeros blocks_max free) } ∷ []

-- block number n of place i
abbrev pub number_at : List ℕ → ℕ → ℕ → ℕ
number_at m i n = get_or m (block_lists_at + i * blocks_each + n) 0

-- the bytes p after n others: up to the end of a block, and what is left in the next
unfoldable pub tail_stores : List ℕ → ℕ → ℕ → List ℕ → List Store
tail_stores m i n p =
    pick (leb (n % block_size + length p) block_size)
    (record { at = blocks_at + number_at m i (n / block_size) * block_size + n % block_size; bytes = p } ∷ [])
    (record { at = blocks_at + number_at m i (n / block_size) * block_size + n % block_size; bytes = take (block_size - n % block_size) p }
    ∷ record { at = blocks_at + number_at m i (n / block_size + 1) * block_size; bytes = drop (block_size - n % block_size) p } ∷ [])

pub record Appends (m : List ℕ) (i n : ℕ) (p : List ℕ) : Type 0 where
  pub long : size ≤ length m
  pub place : i < sessions_max
  pub few : n + length p ≤ gathered_max
  pub some : 0 < length p
  pub short : length p ≤ frame_payload
  pub number : number_at m i (n / block_size) < blocks_max
  pub next : block_size < n % block_size + length p → number_at m i (n / block_size + 1) < blocks_max
