-- `put_payload` meets its contract.
use Rattle.log_answer.specs.Answer.{payload_text}
use Rattle.digits.proofs.Puts.{length-hexes}
use Rattle.digits.specs.Digits.{hexes}
use lib.ListN.{length}
use native.Mathlib.Omega.{arith}
use Prim.Native.Nat.{ℕ}
use mathlib.Core.List.{List, [], ◌∷◌}
use mathlib.Core.Path.{◌≡◌, refl}
use Rattle.log_answer.proofs.put_payload.Goals as goal

empty : (p : List ℕ) → length p ≡ 0 → payload_text p ≡ 45 ∷ []
empty [] e = refl
empty (b ∷ bs) e = absurd (omega arith)

filled : (p : List ℕ) → (length p ≡ 0 → ⊥) → payload_text p ≡ hexes p
filled [] e = absurd (e refl)
filled (b ∷ bs) e = refl

pub returns-then-payload-eq0 : goal.returns-then-payload-eq0
returns-then-payload-eq0 c =
    let e = empty c.args.payload.now c.if-payload-eq0.true in
    (rw e c.put.ensures, omega (arith, c.put.ensures.end))

pub returns : goal.returns
returns c =
    let p = c.args.payload.now in
    let e = filled p c.if-payload-eq0.false in
    (rw e c.put_hexes.ensures, omega (arith, c.put_hexes.ensures.end, length-hexes p))
