-- `feed` meets its contract.
use mathlib.Core.Path.{◌≡◌, sym, ap, ap₂, ◌∙◌}
use mathlib.Core.List.{List}
use Prim.Native.Nat.{ℕ, ◌+◌, ◌-◌, ◌≤◌}
use native.Mathlib.Nat.{sub-zero}
use native.Mathlib.Omega.{arith}
use lib.ListN.{length, take, drop}
use lib.Seq.{take-add, drop_at, length-take-le}
use Rattle.bits.specs.Part.{span}
use Rattle.log_replay.specs.declared.Counts.{Counts}
use Rattle.log_feed.specs.Log.{Replay}
use Rattle.log_feed.specs.Feed.{feed}
use Rattle.log_feed.specs.inside.Seen.{seen}
use Rattle.log_feed.specs.inside.Lines.{Lined}
use Rattle.log_feed.specs.declared.Ran.{Ran}
use Rattle.log_feed.proofs.feed.Goals as goal

-- what is left of the first n bytes
left : (b : List ℕ) (from n : ℕ) → from ≤ n → n ≤ length b → drop from (take n b) ≡ span b from (n - from)
left b from n h k =
    let z : n ≡ from + (n - from) = omega arith in
    ap (λ (i : ℕ). drop from (take i b)) z ∙ ap (λ (l : List ℕ). drop from l) (take-add from (n - from) b)
    ∙ drop_at (take from b) (span b from (n - from)) from (length-take-le from b (omega arith))

fed : (m : List ℕ) (c : Counts) (b : List ℕ) (n k : ℕ) (r : Ran) (m' out' b' : List ℕ) → n ≤ length b → Lined m c (take n b) k r m' out'
    → (kept : ℕ) → take kept b' ≡ take 48 (span b r.from (n - r.from))
    → seen (record { kept = kept; len = r.at; counts = r.counts }) m' b' out' ≡ feed m c (take n b)
fed m c b n k r m' out' b' h g kept e =
    let f : r.from ≤ n = omega (arith, g.from, length-take-le n b h) in
    let x = e ∙ ap (λ (l : List ℕ). take 48 l) (sym (left b r.from n f h) ∙ sym g.rest) in
    sym (ap₂ (λ (p : Replay) (q : List ℕ). record { text = p.text; state = p.state; counts = p.counts; kept = q }) g.run (sym x))

pub returns : goal.returns
returns c =
    let a = c.args in
    let g = c.lines-l.ensures in
    let h : Lined a.state.now a.counts (take a.n a.block.now) (length a.out.now) c.lines-l.result c.lines-l.new.state c.lines-l.new.out =
    rw (sub-zero a.n) at g in
    record {
      out_after = fed a.state.now a.counts a.block.now a.n (length a.out.now) c.lines-l.result c.lines-l.new.state c.lines-l.new.out
          c.keep.new.block c.requires.1.0 h c.keep.result c.keep.ensures.0;
      state_after = (h.sound, (c.keep.ensures.1, h.room));
    }
