-- `line` meets its contract.
use mathlib.Core.Path.{◌≡◌, refl, sym, ap, ap₂, ◌∙◌}
use Rattle.std.specs.Prelude.{None}
use mathlib.Core.List.{List, []}
use mathlib.Core.Option.{Option, none, some}
use Prim.Native.Nat.{ℕ}
use native.Mathlib.Omega.{arith}
use Rattle.digits.specs.Find.{before}
use Rattle.log_line.specs.Reading.{said, line_with}
use Rattle.rules.specs.Frame.{Frame}
use Rattle.log_replay.specs.Replay.{reply}
use Rattle.log_replay.specs.inside.Call.{returned, given, replayed}
use Rattle.log_replay.specs.declared.Counts.{Counts}
use Rattle.log_replay.specs.declared.Said.{Said}
use Rattle.log_replay.proofs.line.Goals as goal

-- a line that is not well formed
unsaid : (s : ℕ) (o : Option Frame) → None ≡ line_with s o → o ≡ none
unsaid s none e = refl
unsaid s (some f) e = let z : ◌≡◌ {A = ℕ} 0 1 = cc in absurd (omega arith)

ill : (m l out out' : List ℕ) (at : ℕ) (c : Counts) (s : Said) → said l ≡ none → s ≡ (given c out at (reply [] none)).said
    → out' ≡ (given c out at (reply [] none)).out → returned s m out' ≡ replayed m l c out at
unfolding reply
ill m l out out' at c s n e f =
    ap₂ (λ (x : Said) (y : List ℕ). returned x m y) e f ∙ ap (λ (o : Option Frame). given c out at (reply m o)) (sym n)

pub returns-in-None : goal.returns-in-None
returns-in-None c =
    let a = c.args in
    let l = a.line.now in
    record {
      out_after = ill a.state.now l a.out.now c.refuse.new.out a.at a.c c.refuse.result
          (unsaid (before 46 l) (said l) c.in-None.ensures) c.refuse.ensures.0 c.refuse.ensures.1.0;
      fact = (c.requires.0, omega (arith, c.refuse.ensures.1.1, c.requires.1.0));
    }
