-- RULES 5.7: which tables a lent state can hold.
use Rattle.std.specs.Prelude.{◌≡◌, true, List, [], ◌∷◌, ℕ, ◌^◌, ◌<◌, length, drop}
use Rattle.bits.specs.Order.{Octets}
use Rattle.rules.specs.Session.{Session}
use Rattle.rules.specs.Sound.{sound}
use Rattle.rules.specs.Table.{Place, empty, held, Places}
use Rattle.state.specs.Layout.{size, setup_of, places_of}
use Rattle.state.specs.Place.{written}
use Rattle.state.specs.Sound.{sound_state}

-- the time and the data of a session fit the layout's bytes
pub record Writable (s : Session) : Type 0 where
  pub since : s.since < 2 ^ 64
  pub bytes : Octets s.gathered

abbrev pub WritableAt : Place → Type 0
WritableAt empty = Unit {0}
WritableAt (held d s bs) = Writable s

abbrev pub AllWritable : Places → Type 0
AllWritable [] = Unit {0}
AllWritable (p ∷ ps) = WritableAt p × AllWritable ps

-- with the table ps written a state has no fault and holds ps; all else of it stays
pub record Stands (m : List ℕ) (ps : Places) : Type 0 where
  pub sound : sound_state (written m ps) ≡ true
  pub bytes : Octets (written m ps)
  pub setup : setup_of (written m ps) ≡ setup_of m
  pub places : places_of (written m ps) ≡ ps
  pub as_long : length (written m ps) ≡ length m
  pub past : drop size (written m ps) ≡ drop size m

-- so every past of the rules whose times and data are in range is that of a lent state
abbrev pub TableLaw : Type 0
TableLaw = (m : List ℕ) (ps : Places) → sound_state m ≡ true → Octets m → sound ps ≡ true → AllWritable ps → Stands m ps
