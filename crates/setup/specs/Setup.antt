-- RULES 3.3 to 3.5: setting a receiver up in lent bytes. The subscriptions come as records of 13 bytes: kind (1), type ID (4, low first),
-- signature (8, low first).
use Rattle.std.specs.Prelude.{Bool, ◌&&◌, List, [], ◌∷◌, ◌++◌, ℕ, ◌+◌, ◌*◌, ◌-◌, ◌/◌, ◌%◌, ltb, eqb, length, get_or, drop, replicate, Ok, Err}
use Rattle.bits.specs.Little.{le, le_bytes}
use Rattle.bits.specs.Part.{span}
use Rattle.rules.specs.Limits.{sessions_max, subscriptions_max, subscription_record}
use Rattle.rules.specs.Setup.{Subscription, Setup, acceptable}
use Rattle.rules.specs.Tests.{pick}
use Rattle.answers.specs.Setup.{Outcome}
use Rattle.answers.specs.declared.SetupError.TheVariants.{Unacceptable, Short}
use Rattle.bits.specs.Tabulate.{tabulate}
use Rattle.state.specs.Layout.{signatures_at, stream_keys_at, size}

unfoldable pub record_at : List ℕ → ℕ → Subscription
record_at r j =
    record {
      kind = get_or r (j * subscription_record) 0;
      type = le (span r (j * subscription_record + 1) 4);
      signature = le (span r (j * subscription_record + 5) 8);
    }

unfoldable pub given : ℕ → List ℕ → Setup
given own r = record { own = own; subscriptions = tabulate (record_at r) 0 (length r / subscription_record) }

-- RULES 3.4: a list that is no whole number of records is refused too
unfoldable pub accepted : ℕ → List ℕ → Bool
accepted own r = eqb (length r % subscription_record) 0 && acceptable (given own r)

-- ── the state of a setup (RULES 3.5): nothing is held, and all blocks are free ──

unfoldable pub signatures : List Subscription → List ℕ
signatures [] = []
signatures (a ∷ more) = le_bytes 8 a.signature ++ signatures more

unfoldable pub keys : List Subscription → List ℕ
keys [] = []
keys (a ∷ more) = le_bytes 4 (a.kind * 65536 + a.type) ++ keys more

-- filled up with zeros to n bytes
abbrev pub filled : ℕ → List ℕ → List ℕ
filled n xs = xs ++ replicate (n - length xs) 0

unfoldable pub state_of : Setup → List ℕ
state_of u =
    u.own ∷ length u.subscriptions ∷ (replicate (signatures_at - 2) 0 ++ (filled (subscriptions_max * 8) (signatures u.subscriptions)
    ++ (replicate (sessions_max * 8) 0 ++ (replicate 8 255 ++ (filled (subscriptions_max * 4) (keys u.subscriptions) ++ replicate (size - stream_keys_at) 0)))))

-- ── the call ──

pub record Result : Type 0 where
  pub answer : Outcome
  pub state : List ℕ

abbrev pub returned : Outcome → List ℕ → Result
returned a m = record { answer = a; state = m }

-- RULES 3.5: 20 comes first; a refused setup leaves the state as it was; bytes past the layout stay
unfoldable pub after_setup : List ℕ → ℕ → List ℕ → Result
after_setup m own r =
    pick (ltb (length m) size) (returned (Err Short) m)
    (pick (accepted own r) (returned (Ok tt) (state_of (given own r) ++ drop size m)) (returned (Err Unacceptable) m))
