-- `serve::join` meets its contract.
use mathlib.Core.Path.{◌≡◌, refl, ap, ◌∙◌}
use mathlib.Core.List.{List, ◌++◌}
use Prim.Native.Nat.{ℕ, ◌+◌, ◌≤◌}
use native.Mathlib.Omega.{arith}
use lib.ListN.{length, take, replicate}
use Rattle.bits.specs.Part.{span, splice}
use Rattle.bits.proofs.Splice.{length-span, length-splice, take-splice}
use Rattle.allocator_table.specs.Layout.{gathered_at}
use Rattle.allocator.proofs.serve.join.Goals as goal

-- two stores, one behind the other
module _ (z s : List ℕ) (u g₁ g₂ : List ℕ) (n : ℕ) (e : g₁ ≡ splice z 0 s) (f : g₂ ≡ splice g₁ n u) (l : length s ≡ n) (fits : n + length u ≤ length z) where
  first-long : length g₁ ≡ length z
  first-long = ap length e ∙ length-splice z 0 s (omega arith)

  pub both_long : length g₂ ≡ length z
  both_long = ap length f ∙ length-splice g₁ n u (omega (arith, first-long)) ∙ first-long

  pub both : take (n + length u) g₂ ≡ s ++ u
  both =
      ap (take (n + length u)) f ∙ take-splice g₁ n u (omega (arith, first-long)) (n + length u) refl
      ∙ ap (λ (y : List ℕ). y ++ u) (ap (take n) e ∙ take-splice z 0 s (omega arith) n (omega arith))

pub returns : goal.returns
returns c =
    let a = c.args in
    let l = length-span a.state.now gathered_at a.n (omega arith) in
    let z : List ℕ = replicate 16 0 in
    let b = both z (span a.state.now gathered_at a.n) a.u.now c.copy_span.new.dst c.copy_at.new.dst a.n c.copy_span.ensures c.copy_at.ensures l (omega arith) in
    let b' = both_long z (span a.state.now gathered_at a.n) a.u.now c.copy_span.new.dst c.copy_at.new.dst a.n c.copy_span.ensures c.copy_at.ensures l (omega arith) in
    (b, b')
