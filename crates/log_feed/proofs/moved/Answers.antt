-- `moved` meets its contract.
use mathlib.Core.Path.{◌≡◌, refl, ap, ◌∙◌}
use mathlib.Core.List.{List}
use Prim.Native.Nat.{ℕ, ◌+◌, ◌≤◌}
use native.Mathlib.Omega.{arith}
use lib.ListN.{length, take, replicate}
use Rattle.bits.specs.Part.{span, splice}
use Rattle.bits.proofs.Splice.{length-span, take-splice}
use Rattle.log_feed.proofs.moved.Goals as goal

-- by way of a buffer z
through : (b z z' b' : List ℕ) (from n : ℕ) → from + n ≤ length b → n ≤ length z → z' ≡ splice z 0 (span b from n) → b' ≡ splice b 0 (span z' 0 n)
    → take n b' ≡ span b from n
through b z z' b' from n h k e f =
    let l : length (span b from n) ≡ n = length-span b from n h in
    let y : span z' 0 n ≡ span b from n = ap (λ (x : List ℕ). take n x) e ∙ take-splice z 0 (span b from n) (omega arith) n (omega arith) in
    ap (λ (x : List ℕ). take n x) (f ∙ ap (splice b 0) y) ∙ take-splice b 0 (span b from n) (omega arith) n (omega arith)

pub returns : goal.returns
returns c =
    let a = c.args in (
      through a.block.now (replicate 48 0) c.copy_span.new.dst c.copy_span-2.new.dst a.from a.n c.requires.1 c.requires.0 c.copy_span.ensures
          c.copy_span-2.ensures,
      refl,
    )
