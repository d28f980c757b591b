-- One record, as the code reads it: the fields are those of its frame.
use mathlib.Core.Path.{◌≡◌, sym, ap, ◌∙◌}
use mathlib.Core.List.{List}
use Rattle.std.specs.Prelude.{Err}
use Prim.Native.Nat.{ℕ, ◌+◌, ◌-◌, ◌≤◌, ◌<◌}
use native.Mathlib.Omega.{arith}
use lib.ListN.{length, get_or}
use Rattle.bits.specs.Little.{le}
use Rattle.bits.specs.Part.{span}
use Rattle.bits.proofs.Splice.{length-span}
use Rattle.capture_record.specs.Record.{record_size, stamp_of, size_of}
use Rattle.frame.specs.inside.Head.{head_of, head_tests_of}
use Rattle.frame.specs.declared.head.Head.{Head}
use Rattle.judge_rules.specs.Verdict as rules
use Rattle.judge_rules.proofs.Views.{hearer, heard}
use Rattle.judge_stream.specs.inside.Kept.{seen_of}
use Rattle.judge_stream.specs.inside.Kept as frame
use Rattle.judge_stream.specs.declared.Seen.{Seen}
use Rattle.judge_streams.specs.inside.Table.{Turn, Table, entries_of, Turns}
use Rattle.rules.specs.Check.{or_zero, first, read_tests}
use Rattle.rules.specs.Frame.{Frame, stream_of, tail_of}
use Rattle.rules.specs.Setup.{Setup}
use Rattle.rules.proofs.Ordered.{Readable, readable, reads, heads, head-passes}
use Rattle.judge_capture.specs.Record.{frame_told}
use Rattle.judge_capture.specs.inside.Feed.{admitting, Admits}
use Rattle.judge_capture.proofs.Told.{told-length, told-tail, told-seen}
use Rattle.judge_capture.proofs.Checked.{Turned, unread, head-refused, admits}

module _ (u : Setup) (t : List ℕ) (ok : Table t) (r : List ℕ) (long : length r ≡ record_size) (byte : size_of r < 256) (id n : ℕ) (is-id : id ≡ le (span r 8 4)) (is-size : n ≡ size_of r) where
  abbrev f : Frame
  f = frame_told r

  same_id : id ≡ f.id
  unfolding frame_told
  same_id = is-id

  same_length : n ≡ length f.bytes
  same_length = is-size ∙ sym (told-length r long byte)

  -- ── 2 and 3 ──

  read_number : (w : ℕ) → w ≡ or_zero (first (read_tests id n 0)) → w ≡ or_zero (reads (hearer u f) (heard f))
  read_number w e = e ∙ (λ i. or_zero (first (read_tests (same_id i) (same_length i) 0)))

  pub not-read : (w : ℕ) → w ≡ or_zero (first (read_tests id n 0)) → 0 < w → Turned u f t (Err (record { 0 = w })) t
  not-read w e h = unread u f t ok w (read_number w e) h

  module _ (w : ℕ) (e : w ≡ or_zero (first (read_tests id n 0))) (z : w ≤ 0) where
    pub can-read : Readable id n 0
    can-read = readable id n 0 w e z

    few : size_of r ≤ 8
    few = omega (arith, can-read.few_bytes)

    some : 0 < size_of r
    some = omega (arith, can-read.some_bytes)

    -- ── 4 and 5 ──

    module _ (h : Head) (is-head : h ≡ head_of id (get_or r (12 + n) 0)) where
      tail-is : get_or r (12 + n) 0 ≡ tail_of f.bytes
      tail-is = ap (λ (x : ℕ). get_or r (12 + x) 0) is-size ∙ sym (told-tail r long byte few some)

      head-is : h ≡ head_of f.id (tail_of f.bytes)
      head-is = is-head ∙ (λ i. head_of (same_id i) (tail-is i))

      head-number : (k : ℕ) → k ≡ or_zero (first (head_tests_of h.destination h n)) → k ≡ or_zero (heads (hearer u f) (heard f))
      unfolding head_of
      head-number k d = d ∙ (λ i. or_zero (first (head_tests_of (head-is i).destination (head-is i) (same_length i))))

      pub head-fails : (k : ℕ) → k ≡ or_zero (first (head_tests_of h.destination h n)) → 0 < k → Turned u f t (Err (record { 0 = k })) t
      head-fails k d p = head-refused u f t ok w (read_number w e) z k (head-number k d) p

      module _ (k : ℕ) (d : k ≡ or_zero (first (head_tests_of h.destination h n))) (y : k ≤ 0) (time : ℕ) (is-time : time ≡ stamp_of r) where
        abbrev v : Seen
        v = record { id = id; time = time; head = h }

        abbrev p : List ℕ
        p = span r 13 (12 + n - 13)

        size_is : length p ≡ n - 1
        size_is = length-span r 13 (12 + n - 13) (omega (arith, few)) ∙ omega (arith, some)

        stream-is : frame.stream_of v ≡ stream_of id
        unfolding head_of
        stream-is = ap (λ (x : Head). frame.stream_of (record { id = id; time = time; head = x })) is-head

        pub fine : Admits v p
        unfolding head_of
        fine =
            record {
              passed =
                  record {
                    transfer = rw is-head (omega arith);
                    size = omega (arith, size_is, few);
                    full =
                        λ l.
                        let q = head-passes h.destination (frame.stream_of v) h.start h.end h.toggle n k d y in
                        omega (arith, size_is, q.whole l, few);
                  };
              stream = stream-is;
            }

        seen-is : rules.seen f ≡ seen_of v p
        seen-is =
            told-seen r long byte few some
            ∙ (λ i. seen_of (record { id = sym is-id i; time = sym is-time i; head = at_place i }) (span r 13 (12 + sym is-size i - 13)))
          where
            at_place : head_of (le (span r 8 4)) (get_or r (12 + size_of r) 0) ≡ h
            at_place = sym (is-head ∙ (λ i. head_of (is-id i) (get_or r (12 + is-size i) 0)))

        pub goes : (a : Turn) (t' : List ℕ) → Turns (admitting u (frame.stream_of v) (entries_of t) (seen_of v p)) t a t' → Turned u f t a t'
        goes a t' q = admits u f t ok w (read_number w e) z k (head-number k d) y a t'
            (rw (ap stream_of (sym same_id) ∙ sym stream-is, seen-is) q)
