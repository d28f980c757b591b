-- Replaying one list of lines after another.
use mathlib.Core.Path.{◌≡◌, refl, ap, ◌∙◌}
use mathlib.Core.List.{List, [], ◌∷◌, ◌++◌, append_assoc}
use Prim.Native.Nat.{ℕ}
use Rattle.log_line.specs.Reading.{said}
use Rattle.log_replay.specs.Replay.{counted, reply}
use Rattle.log_replay.specs.declared.Counts.{Counts}
use Rattle.log_feed.specs.Log.{Replay, behind, replay}

pub behind-behind : (t u : List ℕ) (r : Replay) → behind t (behind u r) ≡ behind (t ++ u) r
behind-behind t u r = rw (append_assoc t u r.text)

pub replay-append : (m : List ℕ) (c : Counts) (xs ys : List (List ℕ))
    → replay m c (xs ++ ys) ≡ behind (replay m c xs).text (replay (replay m c xs).state (replay m c xs).counts ys)
unfolding replay
replay-append m c [] ys = refl
replay-append m c (l ∷ ls) ys =
    let r = reply m (said l) in
    let d = counted c r.handed in
    ap (behind r.text) (replay-append r.state d ls ys)
    ∙ behind-behind r.text (replay r.state d ls).text (replay (replay r.state d ls).state (replay r.state d ls).counts ys)
