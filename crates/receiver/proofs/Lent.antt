-- A step of the rules on the lent bytes.
use mathlib.Core.Path.{◌≡◌, refl, sym, ap, ◌∙◌}
use mathlib.Core.Bool.{true}
use mathlib.Core.List.{List}
use Prim.Native.Nat.{ℕ, ◌<◌}
use native.Mathlib.Omega.{arith}
use Rattle.bits.specs.Order.{Octets}
use Rattle.rules.specs.Frame.{Stream}
use Rattle.rules.specs.Reception.{Step}
use Rattle.receiver.specs.Receive.{returned, lent}
use Rattle.answers.specs.Reception.{told, out_after}
use Rattle.answers.specs.declared.Answer.{Answer}
use Rattle.state.specs.Layout.{places_of}
use Rattle.frame.specs.Key.{key_of, stream_of_key}
use Rattle.state.specs.Place.{written}
use Rattle.state.specs.Sound.{sound_state}
use Rattle.state.specs.inside.Ready.{Ready}
use Rattle.state.proofs.Faultless.{ready}
use Rattle.state.proofs.Good.{same-table}
use Rattle.state.proofs.Keys.{stream-key}

pub results : {a b : Answer} {m n x y : List ℕ} → a ≡ b → m ≡ n → x ≡ y → returned a m x ≡ returned b n y
results p q r = λ i. record { answer = p i; state = q i; out = r i }

-- the same table, from other bytes
pub lent-over : (m m₁ out : List ℕ) (s : Step) → written m₁ s.places ≡ written m s.places → lent m₁ out s ≡ lent m out s
lent-over m m₁ out s e = results refl e refl

module _ (m : List ℕ) (r : Ready m) (bytes : Octets m) where
  -- nothing is written
  pub unwritten : (out : List ℕ) (s : Step) (a : Answer) → s.places ≡ places_of m → a ≡ told s.answer → (out' : List ℕ) → out' ≡ out_after s.answer out
      → returned a m out' ≡ lent m out s
  unwritten out s a e q out' o = results q (sym (ap (written m) e ∙ same-table m r bytes)) o

pub untouched : (m : List ℕ) → sound_state m ≡ true → Octets m → (out : List ℕ) (s : Step) (r : Answer) → s.places ≡ places_of m → r ≡ told s.answer → (out' : List ℕ)
    → out' ≡ out_after s.answer out → returned r m out' ≡ lent m out s
untouched m fine bytes = unwritten m (ready m fine) bytes

-- the key of a head's stream gives the stream, and is not 0 for a named source
pub head-key : (d : Stream) → d.transfer_type < 3 → d.type < 65536 → d.source < 128 → d.destination < 128 → stream_of_key (key_of d) ≡ d
head-key d hk ht hs hd = stream-key d (omega arith) ht hs hd

pub key-some : (d : Stream) → (d.source ≡ 0 → ⊥) → key_of d ≡ 0 → ⊥
unfolding key_of
key-some d n z = n (omega arith)

pub key-word : (d : Stream) → d.transfer_type < 3 → d.type < 65536 → d.source < 128 → d.destination < 128 → key_of d < 4294967296
unfolding key_of
key-word d hk ht hs hd = omega arith
