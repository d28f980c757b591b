-- The loop over the lines of a block, turn by turn.
use mathlib.Core.Path.{◌≡◌, refl, sym, ap, ◌∙◌}
use mathlib.Core.Bool.{true}
use mathlib.Core.List.{List, [], ◌∷◌, ◌++◌, append-nil}
use Prim.Native.Nat.{ℕ, ◌+◌, ◌*◌, ◌-◌, ◌≤◌, ◌<◌}
use native.Mathlib.Omega.{arith}
use lib.ListN.{length, take, drop, length-drop}
use lib.Seq.{drop-drop, length-take-le}
use Rattle.bits.specs.Part.{span}
use Rattle.bits.proofs.Splice.{take-splice}
use Rattle.digits.specs.Find.{before}
use Rattle.state.specs.Sound.{sound_state}
use Rattle.log_line.specs.Reading.{said}
use Rattle.log_replay.specs.inside.Call as one
use Rattle.log_replay.specs.Replay.{counted, reply}
use Rattle.log_replay.specs.inside.Call.{returned, replayed}
use Rattle.log_replay.specs.declared.Counts.{Counts}
use Rattle.log_replay.specs.declared.Said.{Said}
use Rattle.log_line.specs.Lines.{cut}
use Rattle.log_line.proofs.Cutting.{cut_of, cut-none, cut_line}
use Rattle.log_feed.specs.Log.{behind, replay}
use Rattle.log_feed.proofs.Replays.{behind-behind}

-- m₀ and c₀ are the state and the counts at the start, p the block, n the length of the output buffer
pub record Going (m₀ : List ℕ) (c₀ : Counts) (p : List ℕ) (n : ℕ) (m out : List ℕ) (c : Counts) (from at end : ℕ) : Type 0 where
  pub run : replay m₀ c₀ (cut p).whole ≡ behind (take at out) (replay m c (cut (drop from p)).whole)
  pub rest : (cut p).rest ≡ (cut (drop from p)).rest
  pub sound : sound_state m ≡ true
  pub start : from ≤ length p
  pub feed : end ≡ from + before 10 (drop from p)
  pub within : end ≤ length p
  pub room : at + (length p - from) * 80 + 1200 ≤ n
  pub long : length out ≡ n

pub begin : (m p out : List ℕ) (c : Counts) (end : ℕ) → sound_state m ≡ true → length p * 80 + 1200 ≤ length out → end ≡ 0 + before 10 (drop 0 p)
    → end ≤ length p → Going m c p (length out) m out c 0 0 end
begin m p out c end s h e w =
    record { run = refl; rest = refl; sound = s; start = omega arith; feed = e; within = w; room = omega arith; long = refl }

module _ (m₀ : List ℕ) (c₀ : Counts) (p : List ℕ) (n : ℕ) (m out : List ℕ) (c : Counts) (from at end : ℕ)
    (g : Going m₀ c₀ p n m out c from at end) where
  pub line-len : end < length p → length (span p from (end + 1 - from)) ≡ end + 1 - from
  line-len more = length-take-le (end + 1 - from) (drop from p) (omega (arith, g.feed, length-drop from p))

  module _ (more : end < length p) (l : List ℕ) (is : l ≡ span p from (end + 1 - from)) (s : Said) (m' out' : List ℕ)
      (e : returned s m' out' ≡ replayed m l c out at) (few : s.past ≤ at + length l * 80) where
    short : before 10 (drop from p) < length (drop from p)
    short = omega (arith, g.feed, length-drop from p)

    line : take (before 10 (drop from p) + 1) (drop from p) ≡ l
    line = let z : before 10 (drop from p) + 1 ≡ end + 1 - from = omega (arith, g.feed) in
        ap (λ (i : ℕ). take i (drop from p)) z ∙ sym is

    len : length l ≡ end + 1 - from
    len = ap length is ∙ line-len more

    behind-line : drop (before 10 (drop from p) + 1) (drop from p) ≡ drop (end + 1) p
    behind-line =
        let z : from + (before 10 (drop from p) + 1) ≡ end + 1 = omega (arith, g.feed) in
        drop-drop (before 10 (drop from p) + 1) from p ∙ ap (λ (i : ℕ). drop i p) z

    cuts : cut (drop from p) ≡ cut_of (l ∷ (cut (drop (end + 1) p)).whole) (cut (drop (end + 1) p)).rest
    cuts = cut_line (drop from p) short ∙ rw (line, behind-line)

    said-is : s ≡ record { past = at + length (reply m (said l)).text; counts = counted c (reply m (said l)).handed }
    said-is = ap (λ (r : one.Result). r.said) e

    past : s.past ≡ at + length (reply m (said l)).text
    past = ap (λ (x : Said). x.past) said-is

    text : take s.past out' ≡ take at out ++ (reply m (said l)).text
    text =
        ap (λ (x : List ℕ). take s.past x) (ap (λ (r : one.Result). r.out) e)
        ∙ take-splice out at (reply m (said l)).text (omega (arith, past, g.room, g.long, len)) s.past past

    running : replay m c (l ∷ (cut (drop (end + 1) p)).whole)
        ≡ behind (reply m (said l)).text (replay m' s.counts (cut (drop (end + 1) p)).whole)
    unfolding replay
    running =
        rw (ap (λ (r : one.Result). r.state) e, ap (λ (x : Said). x.counts) said-is)

    pub next : sound_state m' ≡ true → length out' ≡ n → (end' : ℕ) → end' ≡ end + 1 + before 10 (drop (end + 1) p) → end' ≤ length p
        → Going m₀ c₀ p n m' out' s.counts (end + 1) s.past end'
    next y z end' f w =
        record {
          run =
              g.run ∙ ap (λ (x : List (List ℕ)). behind (take at out) (replay m c x)) (ap (λ x. x.whole) cuts)
              ∙ ap (behind (take at out)) running
              ∙ behind-behind (take at out) (reply m (said l)).text (replay m' s.counts (cut (drop (end + 1) p)).whole)
              ∙ ap (λ (t : List ℕ). behind t (replay m' s.counts (cut (drop (end + 1) p)).whole)) (sym text);
          rest = g.rest ∙ ap (λ x. x.rest) cuts;
          sound = y;
          start = omega arith;
          feed = f;
          within = w;
          room = omega (arith, few, len, g.room, g.feed);
          long = z;
        }

  none : length p ≤ end → cut (drop from p) ≡ cut_of [] (drop from p)
  none h = cut-none (drop from p) (omega (arith, g.feed, g.within, length-drop from p))

  pub ran : length p ≤ end → replay m₀ c₀ (cut p).whole ≡ record { text = take at out; state = m; counts = c }
  unfolding replay
  ran h =
      g.run ∙ ap (λ (x : List (List ℕ)). behind (take at out) (replay m c x)) (ap (λ x. x.whole) (none h))
      ∙ ap (λ (t : List ℕ). record { text = t; state = m; counts = c }) (append-nil (take at out))

  pub left : length p ≤ end → (cut p).rest ≡ drop from p
  left h = g.rest ∙ ap (λ x. x.rest) (none h)
