-- RULES 4.10: every number that a reception answers, and every value that 1 gives, is in its range, whatever the table was.
use Rattle.std.specs.Prelude.{◌≡◌, Bool, true, ◌&&◌, ◌||◌, List, ◌⊎◌, ℕ, ◌≤◌, ◌<◌, leb, eqb, length}
use Rattle.rules.specs.Answer.{Answer, taken, handed, refused, full, passed, long, no_block, differs, number_of}
use Rattle.rules.specs.Check.{Reception}
use Rattle.rules.specs.Frame.{Stream}
use Rattle.rules.specs.Limits.{payload_max}
use Rattle.rules.specs.Reception.{step}
use Rattle.rules.specs.Setup.{Setup}
use Rattle.rules.specs.Table.{Places}

pub record HandedRange (p : List ℕ) (d : Stream) (prio t : ℕ) : Type 0 where
  pub length : length p ≤ payload_max
  pub transfer_type : d.transfer_type < 3
  pub type : d.type < 65536
  pub source : d.source < 128
  pub destination : d.destination < 128
  pub priority : prio < 32
  pub transfer : t < 32

abbrev pub Ranged : Answer → Type 0
Ranged taken = Unit {0}
Ranged (handed p d prio t) = HandedRange p d prio t
Ranged (refused n) = ((2 ≤ n) × (n ≤ 8)) ⊎ (n ≡ 19)
Ranged full = Unit {0}
Ranged (passed r) = Unit {0}
Ranged long = Unit {0}
Ranged no_block = Unit {0}
Ranged differs = Unit {0}

abbrev pub RangeLaw : Type 0
RangeLaw = (u : Setup) (ps : Places) (r : Reception) → Ranged (step u ps r).answer

-- the numbers: 10 is none of them
abbrev pub answered : ℕ → Bool
answered n = leb n 9 || (eqb n 11 || (eqb n 12 || (eqb n 19 || (eqb n 26 || (leb 30 n && leb n 34)))))

abbrev pub NumberLaw : Type 0
NumberLaw = (u : Setup) (ps : Places) (r : Reception) → answered (number_of (step u ps r).answer) ≡ true

-- number 1 is a hand-out, and nothing else
pub data HandOut : Answer → Type 0 where
  out : (p : List ℕ) (d : Stream) (prio t : ℕ) → HandOut (handed p d prio t)

abbrev pub OneLaw : Type 0
OneLaw = (u : Setup) (ps : Places) (r : Reception) → number_of (step u ps r).answer ≡ 1 → HandOut (step u ps r).answer
