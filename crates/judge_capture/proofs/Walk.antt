-- A block of records: the pass over them, record by record.
use mathlib.Core.Path.{◌≡◌, sym, ap, ◌∙◌}
use mathlib.Core.List.{List, ◌∷◌, ◌++◌}
use Rattle.std.specs.Prelude.{Ok, Err}
use Prim.Native.Nat.{ℕ, zero, suc, ◌+◌, ◌*◌, ◌-◌, ◌<◌}
use native.Mathlib.Omega.{arith}
use lib.ListN.{length, take, drop}
use lib.Seq.{drop-drop}
use Rattle.bits.specs.Part.{span}
use Rattle.bits.proofs.Splice.{length-span}
use Rattle.capture_record.specs.Record.{record_size}
use Rattle.judge_rules.specs.Verdict.{Judging, on, advance, run}
use Rattle.judge_rules.specs.inside.Brief.{Brief, summing}
use Rattle.judge_rules.proofs.Streams.{off-stays}
use Rattle.judge_rules.proofs.Theorem.{run-append}
use Rattle.judge_streams.specs.inside.Table.{Table, entries_of}
use Rattle.judge_stream.specs.declared.Condition.{Condition}
use Rattle.rules.specs.Frame.{Frame}
use Rattle.rules.specs.Setup.{Setup}
use Rattle.judge_capture.specs.Record.{frame_told, frames_told}
use Rattle.judge_capture.specs.inside.Feed.{count_of, Feeds}
use Rattle.judge_capture.proofs.Checked.{Turned}

pub told-append : (i m : ℕ) (b : List ℕ) → frames_told (i + m) b ≡ frames_told i b ++ frames_told m (drop (i * 21) b)
unfolding frames_told
told-append zero m b = ap (λ (k : ℕ). frames_told k b) (let q : 0 + m ≡ m = omega arith in q)
told-append (suc i) m b =
    ap (λ (k : ℕ). frames_told k b) (let q : suc i + m ≡ suc (i + m) = omega arith in q)
    ∙ ap (λ (l : List Frame). frame_told (take record_size b) ∷ l) (told-append i m (drop 21 b) ∙ ap (λ (x : List ℕ). frames_told i (drop 21 b) ++ frames_told m x)
    (drop-drop (i * 21) 21 b ∙ ap (λ (k : ℕ). drop k b) (let q : 21 + i * 21 ≡ suc i * 21 = omega arith in q)))

-- the first i records have left the table t'
abbrev pub Walked : Setup → List ℕ → List ℕ → ℕ → List ℕ → Type 0
Walked u t b i t' = (k : ℕ) → run summing u (on k (entries_of t)) (frames_told i b) ≡ on (k + i) (entries_of t')

pub walk_none : (u : Setup) (t b : List ℕ) → Walked u t b 0 t
unfolding run frames_told
walk_none u t b k = ap (λ (n : ℕ). on n (entries_of t)) (let q : k ≡ k + 0 = omega arith in q)

module _ (u : Setup) (t b : List ℕ) (i : ℕ) (t' : List ℕ) (w : Walked u t b i t') where
  -- record i, as the code lends it
  abbrev part : Frame
  part = frame_told (span b (i * 21) (i * 21 + 21 - i * 21))

  part-is : part ≡ frame_told (span b (i * 21) 21)
  part-is = ap (λ (n : ℕ). frame_told (span b (i * 21) n)) (let q : i * 21 + 21 - i * 21 ≡ 21 = omega arith in q)

  pub part-long : i < count_of b → length (span b (i * 21) (i * 21 + 21 - i * 21)) ≡ record_size
  part-long l = length-span b (i * 21) (i * 21 + 21 - i * 21) (omega arith) ∙ (let q : i * 21 + 21 - i * 21 ≡ 21 = omega arith in q)

  from-here : (m k : ℕ) → run summing u (on k (entries_of t)) (frames_told (i + suc m) b)
      ≡ run summing u (advance summing u (on (k + i) (entries_of t')) part) (frames_told m (drop 21 (drop (i * 21) b)))
  unfolding run frames_told
  from-here m k =
      ap (run summing u (on k (entries_of t))) (told-append i (suc m) b)
      ∙ run-append summing u (on k (entries_of t)) (frames_told i b) (frames_told (suc m) (drop (i * 21) b))
      ∙ ap (λ (j : Judging Brief). run summing u j (frames_told (suc m) (drop (i * 21) b))) (w k)
      ∙ ap (λ (f : Frame). run summing u (advance summing u (on (k + i) (entries_of t')) f) (frames_told m (drop 21 (drop (i * 21) b)))) (sym part-is)

  pub walk-on : (t'' : List ℕ) → Turned u part t' (Ok tt) t'' → Walked u t b (i + 1) t''
  unfolding run frames_told
  walk-on t'' h k =
      from-here 0 k ∙ sym (h.next (k + i)) ∙ ap (λ (n : ℕ). on n (entries_of t'')) (let q : suc (k + i) ≡ k + (i + 1) = omega arith in q)

  pub walk-off : i < count_of b → (e : Condition) (t'' : List ℕ) → Turned u part t' (Err e) t'' → Feeds u t b (Err (record { condition = e; index = i })) t''
  walk-off l e t'' h =
      record {
        next =
            λ k.
            let q : count_of b ≡ i + suc (count_of b - suc i) = omega arith in
            sym
            (ap (λ (m : ℕ). run summing u (on k (entries_of t)) (frames_told m b)) q ∙ from-here (count_of b - suc i) k
            ∙ ap (λ (j : Judging Brief). run summing u j (frames_told (count_of b - suc i) (drop 21 (drop (i * 21) b)))) (sym (h.next (k + i)))
            ∙ off-stays summing u e.0 (k + i) _);
        table = h.table;
        before = (l, λ k. w k ∙ ap (λ (x : List ℕ). on (k + i) (entries_of x)) (sym h.stays));
      }

  pub walk-all : i ≡ count_of b → Table t' → Feeds u t b (Ok tt) t'
  walk-all e ok =
      record { next = λ k. sym (ap (λ (m : ℕ). run summing u (on k (entries_of t)) (frames_told m b)) (sym e) ∙ w k ∙ ap (λ (m : ℕ). on (k + m) (entries_of t')) e); table = ok; before = tt }
