-- RULES 4.9: what the number of a reception says of the lent bytes. The header promises it.
use Rattle.std.specs.Prelude.{◌≡◌, true, List, ℕ}
use Rattle.bits.specs.Order.{Octets}
use Rattle.rules.specs.Frame.{Arrival}
use Rattle.rules.specs.Refusal.{refuses}
use Rattle.receiver.specs.Receive.{received}
use Rattle.answers.specs.Reception.{number_of}

pub record RefusalLaws : Type 0 where
  -- 2 to 9, 19 and 20 leave every byte of the state, which is a slice of u8
  pub state : (m : List ℕ) (f : Arrival) (out : List ℕ) → Octets m → refuses (number_of (received m f out).answer) ≡ true → (received m f out).state ≡ m
  -- and every number but 1 each byte of the output buffer
  pub output : (m : List ℕ) (f : Arrival) (out : List ℕ) → (number_of (received m f out).answer ≡ 1 → ⊥) → (received m f out).out ≡ out
