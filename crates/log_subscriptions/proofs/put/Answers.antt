-- `put` meets its contract.
use Rattle.bits.proofs.Little.{length-le_bytes}
use Rattle.bits.proofs.Splice.{length-splice, splice-next}
use Rattle.types.specs.Types.{signature_of}
use Rattle.log_subscriptions.specs.Subscriptions.{record13}
use Rattle.bits.specs.Part.{splice}
use Rattle.bits.specs.Little.{le_bytes}
use lib.ListN.{length}
use native.Mathlib.Omega.{arith}
use native.Mathlib.Nat.{add_assoc}
use Prim.Native.Nat.{ℕ, ◌+◌, ◌*◌, ◌≤◌}
use mathlib.Core.List.{List, ◌++◌}
use mathlib.Core.Path.{◌≡◌, ap, ◌∙◌}
use Rattle.log_subscriptions.proofs.put.Goals as goal

-- three stores side by side
joined : (m m' m'' m''' : List ℕ) (at k t : ℕ) → at + 13 ≤ length m → m' ≡ splice m at (le_bytes 1 k) → m'' ≡ splice m' (at + 1) (le_bytes 4 t)
    → m''' ≡ splice m'' (at + 5) (le_bytes 8 (signature_of k t)) → m''' ≡ splice m at (record13 k t)
unfolding record13
joined m m' m'' m''' at k t h e f g =
    let s = signature_of k t in
    let l : length m' ≡ length m = ap length e ∙ length-splice m at (le_bytes 1 k) (omega (arith, length-le_bytes 1 k)) in
    let f' : m''' ≡ splice m' (at + 1) (le_bytes 4 t ++ le_bytes 8 s) =
    splice-next m' m'' m''' (at + 1) 4 (le_bytes 4 t) (le_bytes 8 s) (omega arith) (length-le_bytes 4 t) f (rw add_assoc g) in
    splice-next m m' m''' at 1 (le_bytes 1 k) (le_bytes 4 t ++ le_bytes 8 s) (omega arith) (length-le_bytes 1 k) e f'

pub returns : goal.returns
returns c =
    let a = c.args in
    joined a.out.now c.put_at.new.s c.put_at-2.new.s c.put_at-3.new.s (a.j * 13) a.kind a.type_id c.requires
    c.put_at.ensures c.put_at-2.ensures (c.put_at-3.ensures
    ∙ ap (λ (x : ℕ). splice c.put_at-2.new.s (a.j * 13 + 5) (le_bytes 8 x)) c.signature.ensures)
