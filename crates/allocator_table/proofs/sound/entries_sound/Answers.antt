-- `sound::entries_sound` meets its contract. The invariant: the entries passed, from the end, have no fault, and their node IDs are marked.
use mathlib.Core.Path.{◌≡◌, refl, sym, ap, ap₂, ◌∙◌, subst}
use mathlib.Core.Bool.{true, ◌&&◌}
use mathlib.Core.List.{List}
use Prim.Native.Nat.{ℕ, suc, ◌-◌}
use native.Mathlib.Nat.{sub-zero}
use native.Mathlib.Omega.{arith}
use lib.ListN.{set}
use Rattle.bits.specs.Tabulate.{tabulate}
use Rattle.allocator_table.specs.Layout.{node_at, entry_at}
use Rattle.allocator_table.specs.Table.{Entry, sound}
use Rattle.allocator_table.specs.inside.Sound.{Seen}
use Rattle.allocator_table.proofs.Walk.{rest, rest-step, rest_end}
use Rattle.allocator_table.proofs.Soundness.{node-small, sound-step, unsound-before, seen_none, seen_more}
use Rattle.allocator_table.proofs.sound.entries_sound.Goals as goal

-- nothing is passed yet
none : (m : List ℕ) (n : ℕ) → sound (rest m n n) ≡ true
unfolding sound
none m n = ap sound (rest_end m n n (omega arith))

pub loop-i-init : goal.loop-i-init
loop-i-init c =
    let a = c.args in
    (none a.state.now a.n, seen_none a.state.now a.n _ refl)

pub entry_fits-requires : goal.entry_fits-requires
entry_fits-requires c =
    let a = c.args in
    let e : c.loop-i.i ≡ suc (c.loop-i.i - 1) = omega arith in
    record {
      i_lt_n = ((omega arith, omega arith), omega arith);
      seen = subst (λ (k : ℕ). Seen c.loop-i.seen (rest a.state.now k a.n)) e c.loop-i.invariant.1;
    }

pub returns-then-not-entry_fits : goal.returns-then-not-entry_fits
returns-then-not-entry_fits c =
    let k = c in
    let l = k in
    let a = l.args in
    let m = a.state.now in
    let j = l.loop-i.i - 1 in
    let f = sym k.entry_fits.ensures ∙ c.if-not-entry_fits.true in
    sym (unsound-before m a.n j (omega arith) (sound-step m j a.n (omega arith) ∙ ap (λ b. b && sound (rest m (suc j) a.n)) f)) ∙ ap (λ (k : ℕ). sound (tabulate (entry_at m) 0 k)) (sub-zero a.n)

pub bounds-seen-node : goal.bounds-seen-node
bounds-seen-node c =
    let a = c.args in
    let w = node-small (entry_at a.state.now (c.loop-i.i - 1)) _ (sym c.entry_fits.ensures ∙ c.if-not-entry_fits.false) in
    omega (arith, c.node-node.ensures, c.loop-i.invariant.1.long)

pub loop-i-preserved : goal.loop-i-preserved
loop-i-preserved c =
    let a = c.args in
    let m = a.state.now in
    let j = c.loop-i.i - 1 in
    let e : c.loop-i.i ≡ suc j = omega arith in
    let f = sym c.entry_fits.ensures ∙ c.if-not-entry_fits.false in
    let s = ap (λ (i : ℕ). sound (rest m i a.n)) (sym e) ∙ c.loop-i.invariant.0 in
    let q = rest-step m j a.n (omega arith) in
    let w = seen_more c.loop-i.seen (entry_at m j) (rest m (suc j) a.n) (omega (arith, node-small (entry_at m j) _ f)) (subst (λ (i : ℕ). Seen c.loop-i.seen (rest m i a.n)) e c.loop-i.invariant.1) in (
      sound-step m j a.n (omega arith) ∙ ap₂ ◌&&◌ f s,
      subst (λ (t : List ℕ). Seen t (rest m j a.n)) (ap (λ (x : ℕ). set c.loop-i.seen x 1) (sym c.node-node.ensures)) (subst (λ (t : List Entry). Seen (set c.loop-i.seen (node_at m j) 1) t) (sym q) w),
    )

pub returns : goal.returns
returns c =
    let a = c.args in
    let z : c.loop-i.i ≡ 0 = omega arith in
    sym (ap (λ (i : ℕ). sound (rest a.state.now i a.n)) (sym z) ∙ c.loop-i.invariant.0) ∙ ap (λ (k : ℕ). sound (tabulate (entry_at a.state.now) 0 k)) (sub-zero a.n)
