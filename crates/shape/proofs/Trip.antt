-- The return trip of one type, from what its reader is known to give.
use mathlib.Core.Path.{◌≡◌, refl, sym, ap, ◌∙◌}
use mathlib.Core.List.{List}
use Prim.Native.Nat.{ℕ, ◌≤◌}
use native.Mathlib.Omega.{arith}
use lib.ListN.{length}
use Rattle.bits.specs.Order.{Octets}
use Rattle.shape.specs.Answer.{Answer, refused, got, map_answer}
use Rattle.shape.specs.Shape.{Shape, Values, clipped, decoded, encoded, cleared}
use Rattle.shape.specs.Laws.{Sound, Trips}
use Rattle.shape.proofs.Reading.{got-on}
use Rattle.shape.proofs.RoundTrip.{made, round-there, round-back}

-- a value that comes through a map
pub record Through {A B : Type 0} (f : A → B) (r : Answer A) (x : B) : Type 0 where
  pub from : A
  pub is : r ≡ got from
  pub maps : x ≡ f from

pub through : {A B : Type 0} (f : A → B) (r : Answer A) (x : B) → map_answer f r ≡ got x → Through f r x
unfolding map_answer
through f (refused n) x e = absurd (let z : ◌≡◌ {A = ℕ} 0 1 = cc in omega arith)
through f (got a) x e = record { from = a; is = refl; maps = cc }

-- only: nothing is read but what is at its place
pub trips : (d : Shape) → Sound d → {A : Type 0} (of : Values d → A) (at : List ℕ → Values d)
    → ((p : List ℕ) → Octets p → (v : Values d) → decoded d p ≡ got v → v ≡ at p) → Trips d of at
trips d s {A} of at only = record { placed = only; there = go; back = come } where
  go : (v : Values d) (room : ℕ) (p : List ℕ) → encoded d v room ≡ got p → (map_answer of (decoded d p) ≡ got (of (clipped d v))) × (at p ≡ clipped d v)
  go v room p e =
      let r = round-there d s v room p e in
      (got-on of refl r, sym (only p (made d v room p e).octets (clipped d v) r))

  come : (p : List ℕ) → Octets p → (x : A) (room : ℕ) → map_answer of (decoded d p) ≡ got x → length p ≤ room
      → (x ≡ of (at p)) × (encoded d (at p) room ≡ got (cleared d p))
  come p o x room e l =
      let t = through of (decoded d p) x e in
      let q = only p o t.from t.is in
      (t.maps ∙ ap of q, ap (λ (v : Values d). encoded d v room) (sym q) ∙ round-back d p t.from room t.is l)
