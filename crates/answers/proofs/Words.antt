-- Every answer of the rules fits the result word of a reception, and the length of a payload is read back from it.
use mathlib.Core.Path.{◌≡◌, refl, sym, subst}
use mathlib.Core.List.{List}
use mathlib.Core.Logic.{inl, inr}
use Prim.Native.Nat.{ℕ, ◌/◌, ◌%◌, ◌^◌, ◌<◌}
use native.Mathlib.Omega.{arith}
use lib.ListN.{length}
use Rattle.answers.proofs.Reception.{told-number}
use Rattle.answers.specs.Reception.{number_of, no_transfer, transfer_in, transfer_of, told}
use Rattle.answers.specs.Word.{transfer_word, word_of, TransferFits, Fits}
use Rattle.answers.specs.declared.Answer.{Answer}
use Rattle.rules.proofs.Ranges.{reason-range}
use Rattle.rules.specs.Answer as rules
use Rattle.rules.specs.Frame.{Stream}
use Rattle.rules.specs.Range.{HandedRange, Ranged}

in-range : (p : List ℕ) (d : Stream) (priority t : ℕ) → HandedRange p d priority t → TransferFits (transfer_of (length p) d priority t)
in-range p d priority t r =
    record {
      len = r.length;
      transfer_type = r.transfer_type;
      type = r.type;
      source = r.source;
      destination = r.destination;
      priority = r.priority;
      transfer = r.transfer;
    }

-- nothing is handed out, and the number is small
pub small : (a : Answer) → transfer_in a ≡ no_transfer → number_of a < 2 ^ 8 → Fits a
small a e h = record { number = h; transfer = subst TransferFits (sym e) (record { len = omega arith; transfer_type = omega arith; type = omega arith; source = omega arith; destination = omega arith; priority = omega arith; transfer = omega arith }) }

pub told-fits : (a : rules.Answer) → Ranged a → Fits (told a)
told-fits rules.taken r = small _ refl (omega arith)
told-fits (rules.handed p d priority t) r = record { number = omega arith; transfer = in-range p d priority t r }
told-fits (rules.refused n) (inl r) = small _ refl (omega arith)
told-fits (rules.refused n) (inr r) = small _ refl (omega arith)
told-fits rules.full r = small _ refl (omega arith)
told-fits (rules.passed x) r = small _ refl (omega (arith, told-number (rules.passed x), reason-range x))
told-fits rules.long r = small _ refl (omega arith)
told-fits rules.no_block r = small _ refl (omega arith)
told-fits rules.differs r = small _ refl (omega arith)

pub length_back : (a : Answer) → Fits a → word_of a / 2 ^ 8 % 2 ^ 10 ≡ (transfer_in a).len
unfolding word_of transfer_word
length_back a h =
    let n = h.number in
    let t = h.transfer in
    omega (arith, n, t)
