-- RULES 4.9: a frame that is refused by 2 to 9 or 19 changes no place of the table.
use Rattle.std.specs.Prelude.{◌≡◌, Bool, true, ◌&&◌, ◌||◌, ℕ, leb, eqb}
use Rattle.rules.specs.Answer.{number_of}
use Rattle.rules.specs.Check.{Reception}
use Rattle.rules.specs.Reception.{step}
use Rattle.rules.specs.Setup.{Setup}
use Rattle.rules.specs.Table.{Places}

-- the numbers of a reception that leave everything as it was: those of the frame checks, 9 for a full table, and 20 for a state at fault
abbrev pub refuses : ℕ → Bool
refuses n = (leb 2 n && leb n 9) || (eqb n 19 || eqb n 20)

abbrev pub RefusalLaw : Type 0
RefusalLaw = (u : Setup) (ps : Places) (r : Reception) → refuses (number_of (step u ps r).answer) ≡ true → (step u ps r).places ≡ ps
