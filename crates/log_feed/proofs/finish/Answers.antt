-- `finish` meets its contract.
use mathlib.Core.Path.{◌≡◌, refl, sym, ap, ◌∙◌}
use mathlib.Core.List.{List, [], ◌∷◌, ◌++◌, append-nil}
use Prim.Native.Nat.{ℕ, ◌≤◌}
use native.Mathlib.Omega.{arith}
use lib.ListN.{length, take}
use Rattle.bits.proofs.Splice.{take-splice}
use Rattle.digits.specs.inside.Text.{Puts}
use Rattle.digits.proofs.Puts.{puts-next}
use Rattle.log_line.specs.Reading.{said}
use Rattle.log_replay.specs.inside.Call as one
use Rattle.log_replay.specs.Replay.{counted, end_text, reply}
use Rattle.log_replay.specs.inside.Call.{returned, replayed}
use Rattle.log_replay.specs.declared.Counts.{Counts}
use Rattle.log_replay.specs.declared.Said.{Said}
use Rattle.log_feed.specs.Log.{replay}
use Rattle.log_feed.specs.Feed.{finish}
use Rattle.log_feed.proofs.finish.Goals as goal

-- text in front of a buffer
front : (out out' : List ℕ) (r : ℕ) (t : List ℕ) → Puts out out' 0 r t → r ≤ length out → take r out' ≡ t
front out out' r t p h =
    ap (λ (x : List ℕ). take r x) p.out ∙ take-splice out 0 t (omega (arith, p.end)) r p.end

only : (m : List ℕ) (c : Counts) (kept : List ℕ) → length kept ≡ 0 → end_text c ≡ finish m c kept
unfolding replay
only m c [] h = refl
only m c (x ∷ k) h = absurd (omega arith)

both : (m : List ℕ) (c : Counts) (kept : List ℕ) → (length kept ≡ 0 → ⊥)
    → (reply m (said kept)).text ++ end_text (counted c (reply m (said kept)).handed) ≡ finish m c kept
unfolding replay
both m c [] h = absurd (h refl)
both m c (x ∷ k) h = ap (λ (t : List ℕ). t ++ end_text (counted c (reply m (said (x ∷ k))).handed)) (sym (append-nil (reply m (said (x ∷ k))).text))

-- a line, and the end after it
module _ (m kept out m' out₁ out₂ : List ℕ) (c : Counts) (s : Said) (r : ℕ) (e : returned s m' out₁ ≡ replayed m kept c out 0)
    (f : Puts out₁ out₂ s.past r (end_text s.counts)) where
  line : Puts out out₁ 0 s.past (reply m (said kept)).text
  line = record { out = ap (λ (x : one.Result). x.out) e; end = ap (λ (x : one.Result). x.said.past) e }

  counts : s.counts ≡ counted c (reply m (said kept)).handed
  counts = ap (λ (x : one.Result). x.said.counts) e

  closed : s.past ≤ length out → r ≤ length out → (length kept ≡ 0 → ⊥) → take r out₂ ≡ finish m c kept
  closed h k n =
      front out out₂ r _ (puts-next out out₁ out₂ 0 s.past r (reply m (said kept)).text (end_text s.counts) line f (omega (arith, line.end))) k
      ∙ ap (λ (x : Counts). (reply m (said kept)).text ++ end_text x) counts ∙ both m c kept n

pub returns-then-kept-eq0 : goal.returns-then-kept-eq0
returns-then-kept-eq0 c =
    let a = c.args in (
      front a.out.now c.end.new.out c.end.result (end_text a.counts) c.end.ensures.0 (omega (arith, c.end.ensures.1, c.requires.1))
          ∙ only a.state.now a.counts a.kept.now c.if-kept-eq0.true,
      omega (arith, c.end.ensures.1, c.requires.1),
    )

pub returns : goal.returns
returns c =
    let a = c.args in
    let k = c.line-s.ensures.fact.1 in
    let n = c.end-2.ensures.1 in (
      closed a.state.now a.kept.now a.out.now c.line-s.new.state c.line-s.new.out c.end-2.new.out a.counts c.line-s.result
          c.end-2.result c.line-s.ensures.out_after c.end-2.ensures.0 (omega (arith, k, c.requires.1)) (omega (arith, k, n, c.requires.1)) c.if-kept-eq0.false,
      omega (arith, k, n, c.requires.1),
    )
