-- `refuse` meets its contract.
use mathlib.Core.Path.{◌≡◌, refl, ap₂, ◌∙◌}
use mathlib.Core.Bool.{false}
use mathlib.Core.List.{List, [], ◌∷◌}
use mathlib.Core.Option.{none}
use Prim.Native.Nat.{ℕ, ◌+◌, ◌≤◌}
use native.Mathlib.Omega.{arith}
use lib.ListN.{length, set, length-set}
use Rattle.digits.specs.inside.Text.{Puts}
use Rattle.digits.proofs.Puts.{set-splice}
use Rattle.log_answer.specs.Answer.{numbered}
use Rattle.log_answer.proofs.Texts.{char-next}
use Rattle.log_replay.specs.Replay.{counted, reply}
use Rattle.log_replay.specs.inside.Call.{given}
use Rattle.log_replay.specs.declared.Counts.{Counts}
use Rattle.log_replay.specs.declared.Said.{Said}
use Rattle.log_replay.proofs.refuse.Goals as goal

refused : (m m' : List ℕ) (at : ℕ) (c c' : Counts) (p : ℕ) → at + 1200 ≤ length m → Puts (set m at 63) m' (at + 1) p (numbered 45 18) → p ≤ at + 1 + 24
    → c' ≡ counted c false
    → (◌≡◌ {A = Said} (record { past = p; counts = c' }) (given c m at (reply [] none)).said) × ((m' ≡ (given c m at (reply [] none)).out) × (p ≤ at + 80))
unfolding reply
refused m m' at c c' p h f l e =
    let f₀ : Puts m (set m at 63) at (at + 1) (63 ∷ []) = record { out = set-splice m at 63 (omega arith); end = refl } in
    let g = char-next m (set m at 63) m' at (at + 1) p 63 (numbered 45 18) f₀ f (omega arith) in
    (ap₂ (λ (n : ℕ) (k : Counts). record { past = n; counts = k }) g.end e, (g.out, omega arith))

pub numbered-past-requires : goal.numbered-past-requires
numbered-past-requires c = simp length-set (omega (arith, c.requires))

pub shape_of-out : goal.shape_of-out
shape_of-out c =
    c.numbered-past.auto.out ∙ length-set c.args.out.now c.args.at 63

pub returns : goal.returns
returns c =
    refused c.args.out.now c.numbered-past.new.out c.args.at c.args.c c.counted.result c.numbered-past.result c.requires
    c.numbered-past.ensures.0 c.numbered-past.ensures.1 c.counted.ensures
