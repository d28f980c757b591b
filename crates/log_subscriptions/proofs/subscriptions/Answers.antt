-- `subscriptions` meets its contract: each turn puts a record after those that are there; what is there after the last is computed.
use mathlib.Core.Path.{◌≡◌, refl, ap, ◌∙◌}
use mathlib.Core.List.{List}
use Prim.Native.Nat.{ℕ, ◌+◌, ◌*◌}
use native.Mathlib.Numerals.{add-one}
use native.Mathlib.Omega.{arith}
use lib.ListN.{get_or}
use Rattle.bits.specs.Little.{le_bytes}
use Rattle.bits.specs.Part.{splice}
use Rattle.rules.specs.Setup.{subscribed}
use Rattle.types.specs.Types.{signature_of}
use Rattle.log_subscriptions.specs.Subscriptions.{types, record13, records, subscriptions}
use Rattle.log_subscriptions.proofs.subscriptions.Invariants.{filled}
use Rattle.log_subscriptions.proofs.subscriptions.Goals as goal

more : (m m' : List ℕ) (j : ℕ) → m ≡ filled j → m' ≡ splice m (j * 13) (record13 (get_or types j (0, 0)).0 (get_or types j (0, 0)).1) → m' ≡ filled (j + 1)
unfolding filled
more m m' j e f = rw (add-one j) (f ∙ ap (λ (x : List ℕ). splice x (j * 13) (record13 (get_or types j (0, 0)).0 (get_or types j (0, 0)).1)) e)

all : filled 9 ≡ subscriptions
unfolding filled record13 records signature_of subscribed le_bytes
all = refl

pub loop-j-init : goal.loop-j-init
unfolding filled
loop-j-init c = refl

pub loop-j-preserved : goal.loop-j-preserved
loop-j-preserved c =
    let l = c.loop-j in
    more l.out c.put.new.out l.j l.invariant c.put.ensures

pub returns : goal.returns
returns c =
    let l = c.loop-j in
    let e : l.j ≡ 9 = omega arith in
    l.invariant ∙ ap filled e ∙ all
