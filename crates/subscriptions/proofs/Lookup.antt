-- The lowest subscription with a key is the lowest of its kind and type.
use mathlib.Core.Path.{◌≡◌, refl, sym, ◌∙◌}
use mathlib.Core.Bool.{Bool, true, false, ◌&&◌}
use mathlib.Core.List.{List}
use mathlib.Core.Option.{Option, none, some}
use Prim.Native.Nat.{ℕ, zero, suc, ◌+◌, ◌*◌, ◌/◌, ◌%◌, ◌≤◌, ◌<◌}
use native.Mathlib.Omega.{arith}
use borrow.Author.Tests.{eqb-true, eqb-false, eq-eqb, ne_eqb}
use lib.Dec.{eqb}
use Rattle.bits.specs.Little.{le}
use Rattle.bits.specs.Part.{span}
use Rattle.bits.specs.Tabulate.{tabulate}
use Rattle.keys.specs.inside.Keys.{word_at, lowest}
use Rattle.rules.specs.Setup.{subscribed}
use Rattle.rules.specs.Tests.{pick}
use Rattle.state.specs.Layout.{signatures_at, subscription_keys_at, subscription_key_at, subscription_at}
use Rattle.subscriptions.specs.inside.Subscription.{asked}
use Rattle.std.specs.Prelude.{None, Some}

-- two numbers are equal exactly if their halves are
halves : (k x y : ℕ) → y < 65536 → (eqb (k / 65536) x && eqb (k % 65536) y) ≡ eqb k (x * 65536 + y)
halves k x y h = go (eqb (k / 65536) x) refl (eqb (k % 65536) y) refl where
  go : (a : Bool) → eqb (k / 65536) x ≡ a → (b : Bool) → eqb (k % 65536) y ≡ b → (a && b) ≡ eqb k (x * 65536 + y)
  go true p true q = sym (eq-eqb k (x * 65536 + y) (omega (arith, eqb-true (k / 65536) x p, eqb-true (k % 65536) y q)))
  go true p false q = sym (ne_eqb k (x * 65536 + y) (λ e. eqb-false (k % 65536) y q (omega arith)))
  go false p b q = sym (ne_eqb k (x * 65536 + y) (λ e. eqb-false (k / 65536) x p (omega arith)))

module _ (m : List ℕ) (kind type : ℕ) (h : type < 65536) where
  -- subscription i has the key
  abbrev pub has : ℕ → Bool
  has i = eqb (word_at m subscription_keys_at i) (kind * 65536 + type)

  abbrev pub listed : ℕ → ℕ → Option ℕ
  listed i n = subscribed kind type (tabulate (subscription_at m) i n)

  step : (n i : ℕ) → listed i (suc n) ≡ pick (has i) (some (le (span m (signatures_at + i * 8) 8))) (listed (suc i) n)
  unfolding subscribed subscription_at subscription_key_at tabulate
  step n i = rw (halves (word_at m subscription_keys_at i) kind type h)

  none_left : (i : ℕ) → listed i 0 ≡ none
  unfolding subscribed tabulate
  none_left i = refl

  pub found : (n i : ℕ) → lowest has i n < i + n → listed i n ≡ some (le (span m (signatures_at + lowest has i n * 8) 8))
  unfolding lowest
  found zero i l = absurd (omega arith)
  found (suc n) i l = step n i ∙ go (found n (suc i)) (has i) refl l where
    go : (lowest has (suc i) n < suc i + n → listed (suc i) n ≡ some (le (span m (signatures_at + lowest has (suc i) n * 8) 8))) → (b : Bool) → has i ≡ b
        → pick b i (lowest has (suc i) n) < i + suc n
        → pick b (some (le (span m (signatures_at + i * 8) 8))) (listed (suc i) n) ≡ some (le (span m (signatures_at + pick b i (lowest has (suc i) n) * 8) 8))
    go later true e l = refl
    go later false e l = later (omega arith)

  pub missing : (n i : ℕ) → i + n ≤ lowest has i n → listed i n ≡ none
  unfolding lowest
  missing zero i l = none_left i
  missing (suc n) i l = step n i ∙ go (missing n (suc i)) (has i) refl l where
    go : (suc i + n ≤ lowest has (suc i) n → listed (suc i) n ≡ none) → (b : Bool) → has i ≡ b → i + suc n ≤ pick b i (lowest has (suc i) n)
        → pick b (some (le (span m (signatures_at + i * 8) 8))) (listed (suc i) n) ≡ none
    go later true e l = absurd (omega arith)
    go later false e l = later (omega arith)

-- ── what an answer tells ──

pub under : (o : Option ℕ) (g : ℕ) → asked o ≡ Some g → o ≡ some g
under none g e = cc
under (some n) g e = cc

pub not-asked : (o : Option ℕ) → asked o ≡ None → o ≡ none
not-asked none e = refl
not-asked (some n) e = cc
