-- A record as a frame: its data bytes where they stand.
use mathlib.Core.Path.{◌≡◌, ap, ◌∙◌}
use mathlib.Core.List.{List, ◌++◌}
use Prim.Native.Nat.{ℕ, ◌+◌, ◌-◌, ◌≤◌, ◌<◌}
use native.Mathlib.Omega.{arith}
use lib.ListN.{length, get_or, take, drop, replicate, length-append, length-drop, length-replicate}
use lib.Seq.{length-take-le, take-append-le, take-take, get_or-take, get_or-drop}
use Rattle.bits.specs.Little.{le}
use Rattle.bits.specs.Part.{span}
use Rattle.capture_record.specs.Record.{record_size, stamp_of, size_of}
use Rattle.frame.specs.inside.Head.{head_of}
use Rattle.judge_rules.specs.Verdict.{seen}
use Rattle.judge_stream.specs.inside.Kept.{seen_of}
use Rattle.rules.specs.Frame.{tail_of, payload_of, is_start, is_end, toggle_of, transfer_of}
use Rattle.judge_capture.specs.Record.{frame_told}

module _ (r : List ℕ) (long : length r ≡ record_size) (byte : size_of r < 256) where
  data-length : length (drop 13 r ++ replicate 247 0) ≡ 255
  data-length = simp (length-append, length-drop, length-replicate) (omega arith)

  pub told-length : length (frame_told r).bytes ≡ size_of r
  unfolding frame_told
  told-length = length-take-le (size_of r) (drop 13 r ++ replicate 247 0) (omega (arith, data-length))

  module _ (few : size_of r ≤ 8) where
    pub told-bytes : (frame_told r).bytes ≡ span r 13 (size_of r)
    unfolding frame_told
    told-bytes = take-append-le (size_of r) (drop 13 r) (replicate 247 0) (simp length-drop (omega arith))

    module _ (some : 0 < size_of r) where
      pub told-tail : tail_of (frame_told r).bytes ≡ get_or r (12 + size_of r) 0
      told-tail =
          ap (λ (n : ℕ). get_or (frame_told r).bytes (n - 1) 0) told-length
          ∙ ap (λ (bs : List ℕ). get_or bs (size_of r - 1) 0) told-bytes
          ∙ get_or-take (size_of r) (drop 13 r) (size_of r - 1) 0 (omega arith)
          ∙ get_or-drop 13 r (size_of r - 1) 0
          ∙ ap (λ (i : ℕ). get_or r i 0) (let q : 13 + (size_of r - 1) ≡ 12 + size_of r = omega arith in q)

      pub told-payload : payload_of (frame_told r).bytes ≡ span r 13 (12 + size_of r - 13)
      told-payload =
          ap (λ (n : ℕ). take (n - 1) (frame_told r).bytes) told-length
          ∙ ap (take (size_of r - 1)) told-bytes
          ∙ take-take (size_of r - 1) (size_of r) (drop 13 r) (omega arith)
          ∙ ap (λ (n : ℕ). span r 13 n) (let q : size_of r - 1 ≡ 12 + size_of r - 13 = omega arith in q)

      -- what is read of the frame is what the code reads of the record
      pub told-seen : seen (frame_told r)
          ≡ seen_of (record { id = le (span r 8 4); time = stamp_of r; head = head_of (le (span r 8 4)) (get_or r (12 + size_of r) 0) }) (span r 13 (12 + size_of r - 13))
      unfolding seen seen_of head_of frame_told
      told-seen =
          λ i.
          record {
            id = le (span r 8 4);
            start = is_start (told-tail i);
            last = is_end (told-tail i);
            toggle = toggle_of (told-tail i);
            transfer = transfer_of (told-tail i);
            payload = told-payload i;
            time = stamp_of r;
          }
