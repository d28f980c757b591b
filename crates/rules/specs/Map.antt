-- RULES 8.1 to 8.5: the map that the transfer IDs of messages and requests come from.
use Rattle.std.specs.Prelude.{Bool, true, false, ◌&&◌, List, [], ◌∷◌, ℕ, ◌+◌, ◌-◌, ltb, leb, eqb, length, replicate}
use Rattle.std.proofs.Math.Option.{Option}
use Rattle.rules.specs.Limits.{unused_age, entries_max}
use Rattle.rules.specs.Sent.{flag}
use Rattle.rules.specs.Table.{seek, or_else}
use Rattle.rules.specs.Tests.{pick}

-- RULES 8.1: what transfer IDs are counted by. The own ID is no part of it, so that a node goes on counting when it is given its ID.
pub record Topic : Type 0 where
  pub transfer_type : ℕ
  pub type : ℕ
  pub destination : ℕ

pub data Slot : Type 0 where
  free : Slot
  -- an entry: its topic, the next transfer ID, and the time of the last send
  used : Topic → ℕ → ℕ → Slot

abbrev pub Map : Type 0
Map = List Slot

-- after setup (RULES 8.4)
abbrev pub blank : Map
blank = replicate entries_max free

unfoldable pub same_topic : Topic → Topic → Bool
same_topic a b = eqb a.transfer_type b.transfer_type && (eqb a.type b.type && eqb a.destination b.destination)

abbrev pub is_of : Topic → Slot → Bool
is_of k free = false
is_of k (used e t since) = same_topic e k

abbrev pub is_free : Slot → Bool
is_free free = true
is_free (used e t since) = false

-- RULES 8.2: exactly 2,000,000 is enough, unlike the age of a session (4.4); a last send that is later than now has age 0
abbrev pub is_unused : ℕ → Slot → Bool
is_unused now free = false
is_unused now (used e t since) = leb unused_age (now - since)

-- RULES 8.2: the place of the topic's entry, however long unused; for a new entry the lowest empty place, else the lowest unused entry's
unfoldable pub slot_for : Topic → ℕ → Map → Option ℕ
slot_for k now m = or_else (seek (is_of k) m) (or_else (seek is_free m) (seek (is_unused now) m))

-- RULES 8.3: the transfer ID that a topic gets at a place; a new entry, also in the place of another topic's, counts from 0
abbrev pub drawn : Topic → Slot → ℕ
drawn k free = 0
drawn k (used e t since) = pick (same_topic e k) t 0

-- ── the maps without a fault (RULES 8.5) ──

-- a message's type is below 65536 and its destination 0; a request's type is below 256 and its destination named; a response has no entry
unfoldable pub topic_fits : Topic → Bool
topic_fits k =
    pick (eqb k.transfer_type 0) (ltb k.type 65536 && eqb k.destination 0)
    (eqb k.transfer_type 1 && (ltb k.type 256 && (ltb 0 k.destination && ltb k.destination 128)))

-- how many entries a topic has
unfoldable pub times : Topic → Map → ℕ
times k [] = 0
times k (s ∷ m) = flag (is_of k s) + times k m

-- of a map m: of an empty place nothing else is read, and no other entry has an entry's topic
abbrev pub slot_fits : Map → Slot → Bool
slot_fits m free = true
slot_fits m (used k t since) = topic_fits k && (ltb t 32 && eqb (times k m) 1)

abbrev pub slots_fit : Map → List Slot → Bool
slots_fit m [] = true
slots_fit m (s ∷ more) = slot_fits m s && slots_fit m more

unfoldable pub sound : Map → Bool
sound m = eqb (length m) entries_max && slots_fit m m
