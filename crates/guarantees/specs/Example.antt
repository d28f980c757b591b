-- RULES 14.15 over lent bytes (14.14): the rules' example, in the bytes of states that were set up, and what follows of it.
use Rattle.std.specs.Prelude.{◌≡◌, List, [], ◌∷◌, map, ℕ, replicate}
use Rattle.guarantees.specs.Condition3.{lent_bytes}
use Rattle.guarantees.specs.FromSetup.{SetUp}
use Rattle.guarantees.specs.Run.{Call}
use Rattle.rules.specs.Check.{Reception}
use Rattle.rules.specs.Condition3.{Receiver, frames, Premises, While, Transfer, Claim, rules_table}
use Rattle.rules.specs.Example.{setup, stream, payload, start, spacious, crowded}
use Rattle.setup.specs.Setup.{given, state_of}
use Rattle.state.specs.Layout.{size}
use Rattle.state.specs.Place.{written}

-- the example's subscriptions as setup takes them
unfoldable pub records : List ℕ
records =
    0 ∷ 1 ∷ 0 ∷ 0 ∷ 0 ∷ 7 ∷ 0 ∷ 0 ∷ 0 ∷ 0 ∷ 0 ∷ 0 ∷ 0 ∷
    0 ∷ 0x55 ∷ 0x01 ∷ 0 ∷ 0 ∷ 0 ∷ 0 ∷ 0 ∷ 0 ∷ 0 ∷ 0 ∷ 0 ∷ 0x80 ∷
    0 ∷ 0xF2 ∷ 0x3F ∷ 0 ∷ 0 ∷ 0xEF ∷ 0xCD ∷ 0xAB ∷ 0x89 ∷ 0x67 ∷ 0x45 ∷ 0x23 ∷ 0x01 ∷ []

-- a reception as a call, with an output buffer of zeros
abbrev pub call_of : Reception → Call
call_of r = record { arrival = r.arrival; out = replicate r.room 0 }

-- a receiver of the rules on a lent state, with its table written there
abbrev pub lent_of : List ℕ → Receiver (rules_table setup) → Receiver (lent_bytes setup)
lent_of m x = record { state = written m x.state; start = call_of x.start; list = map call_of x.list }

abbrev pub lent_spacious : Receiver (lent_bytes setup)
lent_spacious = lent_of (state_of setup) spacious

abbrev pub lent_crowded : Receiver (lent_bytes setup)
lent_crowded = lent_of (state_of setup) crowded

pub record LentExample : Type 0 where
  pub premises : Premises (lent_bytes setup) stream lent_spacious lent_crowded
  pub whiles : While (lent_bytes setup) stream 8 lent_spacious × While (lent_bytes setup) stream 8 lent_crowded
  pub transfer : Transfer setup stream start (frames (lent_bytes setup) stream lent_spacious) 16 5 payload
  pub claim : Claim (lent_bytes setup) setup stream lent_spacious lent_crowded
  -- its setup is one that a call makes
  pub set_up : SetUp (replicate size 0) 1 records × (given 1 records ≡ setup)
