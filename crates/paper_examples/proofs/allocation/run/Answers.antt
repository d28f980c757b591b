-- `run` sets up a map in as many bytes as one takes, which is not refused.
use mathlib.Core.Path.{◌≡◌, refl, sym, ap, subst, ◌∙◌}
use mathlib.Core.List.{List}
use Prim.Native.Nat.{ℕ, ◌≤◌}
use borrow.Author.Tests.{le-ltb}
use native.Mathlib.Omega.{arith}
use lib.ListN.{length, drop, replicate, length-replicate}
use Rattle.std.specs.Result.{IsOk}
use Rattle.std.specs.declared.result.Result.TheVariants.{Ok}
use Rattle.id_map.specs.Layout.{size}
use Rattle.id_map.specs.Setup.{Result, after_setup}
use Rattle.paper_examples.proofs.allocation.run.Goals as goal

done : (m : List ℕ) → size ≤ length m → (after_setup m).answer ≡ Ok tt
unfolding after_setup
done m h = rw (le-ltb (length m) size h)

pub unwrap-requires : goal.unwrap-requires
unwrap-requires g c =
    let z : List ℕ = replicate size 0 in
    let l : length z ≡ size = length-replicate {A = ℕ} size 0 in
    subst IsOk (sym (ap (λ (x : Result). x.answer) c.setup.ensures ∙ done z (omega arith))) refl
