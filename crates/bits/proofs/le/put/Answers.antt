-- `le::put` meets its contract. The invariant: what was written, with the bytes that x still has to give, is all the bytes of v.
use mathlib.Core.Path.{◌≡◌, sym, ap, ◌∙◌}
use mathlib.Core.List.{List, [], ◌++◌, append-nil}
use Prim.Native.Nat.{ℕ, suc, ◌-◌, ◌/◌, ◌%◌, ◌≤◌, ◌<◌}
use native.Mathlib.Numerals.{add-one}
use native.Mathlib.Omega.{arith}
use lib.ListN.{length, take, set}
use lib.Seq.{take-suc-set, take_all, append_snoc}
use Rattle.bits.specs.Little.{le_bytes}
use Rattle.bits.proofs.le.put.Goals as goal

-- a turn
turn : (p : List ℕ) (n i x : ℕ) → i < n → length p ≡ n → take (suc i) (set p i (x % 256)) ++ le_bytes (n - suc i) (x / 256) ≡ take i p ++ le_bytes (n - i) x
unfolding le_bytes
turn p n i x h e =
    let l : i < length p = omega arith in
    let k : n - i ≡ suc (n - suc i) = omega arith in
    rw (take-suc-set p i, k, append_snoc)

-- after the last turn
last : (p : List ℕ) (n i x v : ℕ) → n ≤ i → length p ≡ n → take i p ++ le_bytes (n - i) x ≡ le_bytes n v → p ≡ le_bytes n v
unfolding le_bytes
last p n i x v h e inv =
    let z : n - i ≡ 0 = omega arith in
    let l : length p ≤ i = omega arith in
    let inv' : take i p ++ [] ≡ le_bytes n v = rw z at inv in
    sym (append-nil p) ∙ ap (λ (q : List ℕ). q ++ []) (sym (take_all i p l)) ∙ inv'

pub loop-b-preserved : goal.loop-b-preserved
loop-b-preserved c =
    rw add-one (turn c.loop-b.s (length c.args.s.now) c.loop-b.b-index c.loop-b.x (omega arith) (omega arith) ∙ c.loop-b.invariant)

pub returns : goal.returns
returns c =
    last c.loop-b.s (length c.args.s.now) c.loop-b.b-index c.loop-b.x c.args.v (omega arith) (omega arith) c.loop-b.invariant
