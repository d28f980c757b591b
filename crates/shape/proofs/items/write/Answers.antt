-- `items::write` meets its contract. The invariant: the first i items are stored.
use mathlib.Core.Path.{refl, sym, ap, ◌∙◌}
use mathlib.Core.List.{List}
use Prim.Native.Nat.{ℕ, ◌+◌, ◌*◌}
use native.Mathlib.Numerals.{add-one}
use native.Mathlib.Omega.{arith}
use lib.ListN.{length, get_or}
use Rattle.bits.specs.Order.{to_bits}
use Rattle.bits.proofs.Bytes.{length-store}
use Rattle.bits.proofs.Octets.{octets-all}
use Rattle.shape.specs.Shape.{item_bits}
use Rattle.shape.proofs.ItemFacts.{place_in, write-turn, store-none}
use Rattle.shape.proofs.items.write.Goals as goal

pub loop-i-init : goal.loop-i-init
unfolding item_bits
loop-i-init c =
    let a = c.args in
    (refl, sym (store-none a.s.now a.at (octets-all a.s.now (λ i. omega (arith, c.slice_known-1.given i)))))

pub loop-i-preserved : goal.loop-i-preserved
loop-i-preserved c =
    let a = c.args in
    let n = c.loop-i.invariant in
    let i = c.loop-i.i in
    let p = place_in i (length a.xs.now) a.w (omega arith) in
    (ap (λ (z : List ℕ). length z) c.write.ensures ∙ length-store c.loop-i.s (a.at + i * a.w) (to_bits a.w (get_or a.xs.now i 0)) ∙ n.0, rw add-one (write-turn a.s.now c.loop-i.s c.write.new.s a.at a.w a.xs.now i (omega arith) (omega arith) n.1 c.write.ensures))
