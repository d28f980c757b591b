-- `head::read` meets its contract, field by field.
use mathlib.Core.Path.{◌≡◌, sym, ap, ◌∙◌}
use mathlib.Core.Bool.{Bool}
use Prim.Native.Nat.{ℕ, ◌/◌, ◌%◌}
use native.Mathlib.Nat.{mod-eq_of_lt}
use native.Mathlib.Omega.{arith}
use Rattle.rules.specs.Frame.{priority_of}
use Rattle.frame.specs.inside.Head.{head_of}
use Rattle.frame.specs.declared.head.Head.{Head}
use Rattle.frame.proofs.Heads.{source_is, type-lt}
use Rattle.frame.proofs.head.read.Goals as goal

-- two heads with equal fields
alike : {k k' y y' s s' d d' p p' x : ℕ} {a e o : Bool} → k ≡ k' → y ≡ y' → s ≡ s' → d ≡ d' → p ≡ p'
    → ◌≡◌ {A = Head}
    (record { transfer_type = k; type_id = y; source = s; destination = d; priority = p; start = a; end = e; toggle = o; transfer = x })
    (record { transfer_type = k'; type_id = y'; source = s'; destination = d'; priority = p'; start = a; end = e; toggle = o; transfer = x })
alike {x = x} {a = a} {e = e} {o = o} ek ey es ed ep =
    λ j. record { transfer_type = ek j; type_id = ey j; source = es j; destination = ed j; priority = ep j; start = a; end = e; toggle = o; transfer = x }

pub returns : goal.returns
unfolding head_of
returns c =
    let id = c.args.id in
    let p : id / 16777216 % 256 ≡ priority_of id = omega arith in
    alike c.transfer_type.ensures (ap (λ (x : ℕ). x % 65536) c.type_id.ensures ∙ mod-eq_of_lt (type-lt id)) (sym (source_is id)) c.destination.ensures p
