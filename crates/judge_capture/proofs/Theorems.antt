-- The laws of the call: those of the verdict, at the frames of a capture.
use mathlib.Core.Path.{◌≡◌, refl, sym, ap, ◌∙◌}
use mathlib.Core.Bool.{Bool, true, false}
use mathlib.Core.List.{List, [], ◌∷◌, ◌++◌, append_assoc, append-nil}
use mathlib.Core.Option.{Option, none, some}
use mathlib.Mathlib.Data.Bool.Basic.{or-eq-false-eq-eq-false-and-eq-false as or_off}
use Rattle.std.specs.Prelude.{Ok, Err}
use Prim.Native.Nat.{ℕ, suc, ◌*◌, ◌^◌, ◌≤◌, ◌<◌}
use native.Mathlib.Omega.{arith}
use borrow.Author.Tests.{leb-false, ltb-false}
use lib.Dec.{ltb, eqb}
use lib.ListN.{length, get_or, take, drop, replicate, length-append, length-drop, take-append-drop}
use lib.Seq.{length-take-le, take_at, drop_at, drop-cons, drop-drop, take-append-le, get_or-drop}
use Rattle.bits.specs.Little.{le}
use Rattle.bits.specs.Order.{Octets}
use Rattle.bits.specs.Part.{span}
use Rattle.capture_convert.specs.Capture.{records_of, capture_of, trailer_in, count_in, trailed}
use Rattle.capture_convert.proofs.Trailers.{Right, right-trailed, trailed-right, records-in, count-in, trailer-right, trailer-kept, records-kept, right_kept}
use Rattle.capture_record.specs.Record as capture
use Rattle.capture_record.specs.Record.{record_size, timed, stamp_of, size_of}
use Rattle.capture_record.proofs.Records.{length-timed, size_back, frame_back}
use Rattle.judge_rules.specs.Good.{frame_check, Checked}
use Rattle.judge_rules.specs.Laws.{Bytes}
use Rattle.judge_rules.specs.Numbers.{Reason, check, stream, long, differs, other}
use Rattle.judge_rules.specs.Sender.{Send, sent_from, Run}
use Rattle.judge_rules.specs.Verdict as rules
use Rattle.judge_rules.specs.Verdict.{pass, fail, verdict}
use Rattle.judge_rules.proofs.Reasons.{number-laws}
use Rattle.judge_rules.proofs.Sender.{sender-passes}
use Rattle.judge_rules.proofs.Theorem.{judge-laws}
use Rattle.judge_rules.proofs.Views.{accepts}
use Rattle.rules.specs.Check.{large_id, bad_length, unnamed_service, not_subscribed}
use Rattle.rules.specs.Condition3.{All}
use Rattle.rules.specs.Frame.{Frame, stream_of}
use Rattle.rules.proofs.Checks.{bad_tail_in}
use Rattle.rules.specs.Map.{Map}
use Rattle.rules.specs.Setup.{Setup}
use Rattle.rules.specs.Tests.{pick}
use Rattle.setup.specs.Setup.{given, accepted}
use Rattle.judge_capture.specs.Answer.{number_of, fails_at}
use Rattle.judge_capture.specs.Judge.{frames_in, told, captured, judges}
use Rattle.judge_capture.specs.Laws.{Fit, VerdictLaws, Held, FrameLaws, SenderLaws}
use Rattle.judge_capture.specs.Record.{frame_told, frames_told}
use Rattle.judge_capture.specs.declared.records.Failure.{Failure}
use Rattle.judge_capture.specs.declared.verdict.Refusal.TheVariants.{NoCapture, Unacceptable}
use Rattle.judge_capture.proofs.Calls.{in-octets}

-- ── the number of a failure is 1 to 24 ──

abbrev Small : ℕ → Type 0
Small n = (0 < n) × (n ≤ 24)

some-small : (a b c d e : Bool) (n : ℕ)
    → pick {A = Option ℕ} a (some 2) (pick b (some 3) (pick c (some 4) (pick d (some 5) (pick e (some 7) none)))) ≡ some n → Small n
some-small true b c d e n q = let z : 2 ≡ n = cc in (omega arith, omega arith)
some-small false true c d e n q = let z : 3 ≡ n = cc in (omega arith, omega arith)
some-small false false true d e n q = let z : 4 ≡ n = cc in (omega arith, omega arith)
some-small false false false true e n q = let z : 5 ≡ n = cc in (omega arith, omega arith)
some-small false false false false true n q = let z : 7 ≡ n = cc in (omega arith, omega arith)
some-small false false false false false n q = cc

reason-small : (u : Setup) (a : List Frame) (f : Frame) (n : ℕ) → Reason u a f n → Small n
unfolding frame_check
reason-small u a f n (check e) =
    some-small (large_id f.id) (bad_length (length f.bytes)) (unnamed_service (stream_of f.id)) (bad_tail_in f) (not_subscribed u f) n e
reason-small u a f _ (stream c m k) = (omega arith, omega arith)
reason-small u a f _ (long s g k) = (omega arith, omega arith)
reason-small u a f _ (differs s g k l w) = (omega arith, omega arith)
reason-small u a f _ (other s k) = (omega arith, omega arith)

parted : (l : List Frame) (i : ℕ) (d : Frame) → i < length l → l ≡ take i l ++ get_or l i d ∷ drop (suc i) l
parted l i d h = sym (take-append-drop i l) ∙ ap (λ (x : List Frame). take i l ++ x) (drop-cons l i d h)

fail-small : (u : Setup) (l : List Frame) (n i : ℕ) → Bytes l → verdict u l ≡ fail n i → Small n
fail-small u l n i b e =
    let h = (judge-laws.first u l n i b e).0 in
    let f : Frame = get_or l i (record { id = 0; bytes = []; time = 0 }) in
    let q : l ≡ take i l ++ f ∷ drop (suc i) l = parted l i (record { id = 0; bytes = []; time = 0 }) h in
    let k : length (take i l) ≡ i = length-take-le i l (omega arith) in
    reason-small u (take i l) f n
    (number-laws.reason u (take i l) f (drop (suc i) l) n (rw q at b) (ap (verdict u) (sym q) ∙ e ∙ ap (fail n) (sym k)))

-- ── the verdict, told ──

told-pass : (v : rules.Verdict) → told v ≡ Ok tt → v ≡ pass
told-pass pass e = refl
told-pass (fail n i) e = cc

told-fail : (v : rules.Verdict) (n i : ℕ) → told v ≡ fails_at n i → v ≡ fail n i
told-fail pass n i e = cc
told-fail (fail m k) n i e =
    let f : ◌≡◌ {A = Failure} (record { condition = record { 0 = m }; index = k }) (record { condition = record { 0 = n }; index = i }) = cc in
    λ j. fail (f j).condition.0 (f j).index

module _ (s c : List ℕ) (fit : Fit s c) where
  abbrev u : Setup
  u = given 0 s

  abbrev l : List Frame
  l = frames_in c

  bytes : Bytes l
  bytes = in-octets c fit.bytes

  is : judges s c ≡ told (verdict u l)
  unfolding judges captured
  is = rw (fit.subscriptions, fit.trailer)

  fails : (n i : ℕ) → judges s c ≡ fails_at n i → verdict u l ≡ fail n i
  fails n i e = told-fail (verdict u l) n i (sym is ∙ e)

  zero-passes : number_of (judges s c) ≡ 0 → verdict u l ≡ pass
  zero-passes e = go (verdict u l) refl (sym (ap number_of is) ∙ e)
    where
      go : (v : rules.Verdict) → verdict u l ≡ v → number_of (told v) ≡ 0 → v ≡ pass
      go pass q z = refl
      go (fail n i) q z = absurd (omega (arith, (fail-small u l n i bytes q).0))

  passes-zero : verdict u l ≡ pass → number_of (judges s c) ≡ 0
  passes-zero e = ap number_of (is ∙ ap told e)

told-small : (u : Setup) (l : List Frame) → Bytes l → number_of (told (verdict u l)) ≤ 24
told-small u l b = go (verdict u l) refl
  where
    go : (v : rules.Verdict) → verdict u l ≡ v → number_of (told v) ≤ 24
    go pass q = omega arith
    go (fail n i) q = (fail-small u l n i b q).1

pub range : (s c : List ℕ) → Octets c → number_of (judges s c) ≤ 24
unfolding judges captured
range s c o = go (accepted 0 s) (trailed c)
  where
    go : (a t : Bool) → number_of (pick a (pick t (told (verdict (given 0 s) (frames_in c))) (Err NoCapture)) (Err Unacceptable)) ≤ 24
    go false t = omega arith
    go true false = omega arith
    go true true = told-small (given 0 s) (frames_in c) (in-octets c o)

pub verdict-laws : VerdictLaws
verdict-laws =
    record {
      passes =
          λ s c f.
          let p = judge-laws.passes (given 0 s) (frames_in c) (bytes s c f) in
          (λ e. p.0 (zero-passes s c f e), λ g. passes-zero s c f (p.1 g));
      first = λ s c n i f e. judge-laws.first (given 0 s) (frames_in c) n i (bytes s c f) (fails s c f n i e);
      named =
          λ s c i f h a b.
          let r = judge-laws.named (given 0 s) (frames_in c) i (bytes s c f) h a b in
          (r.0, is s c f ∙ ap told r.1);
      reason =
          λ s c a f more n w q e.
          number-laws.reason (given 0 s) a f more n (rw q at (bytes s c w)) (ap (verdict (given 0 s)) (sym q) ∙ fails s c w n (length a) e);
      range = range;
    }

-- ── records and frames ──

pub short : (r : List ℕ) → length r ≡ record_size → size_of r ≤ 8 → frame_told r ≡ capture.frame_of r
unfolding frame_told
short r h k =
    let q : take (size_of r) (drop 13 r ++ replicate 247 0) ≡ span (drop 8 r) 5 (get_or (drop 8 r) 4 0) =
    take-append-le (size_of r) (drop 13 r) (replicate 247 0) (simp length-drop (omega arith))
    ∙ (λ i. take (sym (get_or-drop 8 r 4 0) i) (sym (drop-drop 5 8 r) i)) in
    λ i. record { id = le (span r 8 4); bytes = q i; time = stamp_of r }

-- the records of frames, with anything after them
told_back : (fs : List Frame) → All Held fs → (rest : List ℕ) → frames_told (length fs) (records_of fs ++ rest) ≡ fs
unfolding frames_told records_of
told_back [] h rest = refl
told_back (f ∷ fs) h rest =
    let w = h.0 in
    let k = length-timed f w.few in
    let a = append_assoc (timed f) (records_of fs) rest in
    let one : frame_told (timed f) ≡ f =
    short (timed f) k (omega (arith, size_back f w.id w.time w.few, w.few)) ∙ frame_back f w.id w.time w.few in
    λ i.
    (ap (λ (x : List ℕ). frame_told (take 21 x)) a ∙ ap frame_told (take_at (timed f) (records_of fs ++ rest) 21 k) ∙ one) i ∷
    (ap (λ (x : List ℕ). frames_told (length fs) (drop 21 x)) a ∙ ap (frames_told (length fs)) (drop_at (timed f) (records_of fs ++ rest) 21 k) ∙ told_back fs h.1 rest) i

length-records : (fs : List Frame) → All Held fs → length (records_of fs) ≡ 21 * length fs
unfolding records_of
length-records [] h = refl
length-records (f ∷ fs) h =
    length-append (timed f) (records_of fs) ∙ omega (arith, length-timed f h.0.few, length-records fs h.1)

module _ (fs : List Frame) (h : All Held fs) (few : length fs < 2 ^ 32) where
  size : length (records_of fs) ≡ 21 * length fs
  size = length-records fs h

  capture-trailed : trailed (capture_of fs) ≡ true
  unfolding capture_of
  capture-trailed = right-trailed (capture_of fs) (trailer-right (records_of fs) (length fs) size few)

  capture-frames : frames_in (capture_of fs) ≡ fs
  unfolding capture_of frames_in
  capture-frames =
      rw (count-in (records_of fs) (length fs) size few, records-in (records_of fs) (length fs) size few, ← append-nil (records_of fs)) (told_back fs h [])

module _ (p c : List ℕ) (t : trailed c ≡ true) where
  right : Right c
  right = trailed-right c t

  kept-frames : frames_in (p ++ c) ≡ frames_in c
  unfolding frames_in
  kept-frames = rw (trailer-kept p c right, records-kept p c right (count_in (trailer_in c)) right.inside)

  kept : (s : List ℕ) → judges s (p ++ c) ≡ judges s c
  unfolding judges captured
  kept s = rw (right-trailed (p ++ c) (right_kept p c right), t, kept-frames)

pub frame-laws : FrameLaws
frame-laws =
    record {
      short = short;
      frames = λ fs h few. (capture-trailed fs h few, capture-frames fs h few);
      preface = λ s p c t. kept p c t s;
    }

-- ── a run of our sender ──

held_one : (u : Setup) (f : Frame) → frame_check u f ≡ none → f.time < 2 ^ 64 → Held f
held_one u f e t =
    let a = accepts u f e in
    let small = leb-false (2 ^ 29) f.id a.id in
    record { id = omega arith; time = t; few = ltb-false 8 (length f.bytes) ((or_off (eqb (length f.bytes) 0) (ltb 8 (length f.bytes))).0 a.length).1 }

held_all : (u : Setup) (l : List Frame) → Checked u l → All (λ f. f.time < 2 ^ 64) l → All Held l
held_all u [] h t = tt
held_all u (f ∷ l) h t = (held_one u f h.0 t.0, held_all u l h.1 t.1)

pub sender-laws : SenderLaws
unfolding judges captured
sender-laws = record { passes = ok }
  where
    ok : (s : List ℕ) (own : ℕ) (m : Map) (l : List Send) → accepted 0 s ≡ true → Run (given 0 s) own m l → All (λ f. f.time < 2 ^ 64) (sent_from m l)
        → length (sent_from m l) < 2 ^ 32 → judges s (capture_of (sent_from m l)) ≡ Ok tt
    ok s own m l a w t k =
        let h = held_all (given 0 s) (sent_from m l) (sender-passes.good (given 0 s) own m l w).checks t in
        rw (a, capture-trailed (sent_from m l) h k, capture-frames (sent_from m l) h k) (ap told (sender-passes.passes (given 0 s) own m l w))
