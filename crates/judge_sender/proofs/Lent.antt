-- A run on lent bytes is one of the rules on the map that they hold, frame for frame; on a map at fault nothing is sent.
use mathlib.Core.Path.{◌≡◌, refl, ap, ap₂, ◌∙◌, subst}
use mathlib.Core.Bool.{Bool, true, false}
use mathlib.Core.List.{List, [], ◌∷◌, ◌++◌}
use Prim.Native.Nat.{ℕ, zero, suc, ◌+◌, ◌*◌, ◌^◌, ◌≤◌, ◌<◌}
use native.Mathlib.Omega.{arith}
use mathlib.Mathlib.Data.Bool.Basic.{and_elim_right}
use lib.Dec.{leb}
use lib.ListN.{length, get_or, take, drop, length-drop, get_or-append}
use lib.Seq.{take-append-le, drop-append-le, get_or-append-add}
use Rattle.answers.specs.Sending.{number_of}
use Rattle.answers.proofs.Sending.{told-number, told-dispatch}
use Rattle.bits.specs.Little.{le, le_bytes}
use Rattle.bits.specs.Order.{Octets}
use Rattle.bits.specs.Part.{span, splice}
use Rattle.bits.specs.Tabulate.{tabulate}
use Rattle.bits.proofs.Tabulate.{tab-same}
use Rattle.capture_convert.specs.Capture.{capture_of}
use Rattle.id_map.specs.Layout.{size, map_of}
use Rattle.id_map.specs.Sound.{sound_map}
use Rattle.judge_capture.specs.Judge.{captured, judges}
use Rattle.std.specs.Prelude.{Ok}
use Rattle.judge_capture.proofs.Theorems.{frame-laws}
use Rattle.judge_capture.proofs.Theorems as judged
use Rattle.judge_rules.specs.Good.{streams_in}
use Rattle.judge_rules.specs.Verdict.{run, verdict_by, verdict}
use Rattle.judge_rules.proofs.Drawing.{Result, refused, response, placed, returned}
use Rattle.rules.specs.Condition3.{All}
use Rattle.rules.specs.Frame.{Frame}
use Rattle.rules.specs.Map.{Map, free, drawn, sound}
use Rattle.rules.specs.Sending as sending
use Rattle.rules.specs.Sending.{Call, topic_of, id_for, record_of, records_of, Step, transmit, send_step}
use Rattle.rules.specs.SendingLaws.{frame_in}
use Rattle.rules.specs.Sent.{frame_at, sent}
use Rattle.rules.specs.Setup.{Setup}
use Rattle.rules.proofs.Records.{Short, length-record, sent-length, sent-short}
use Rattle.rules.proofs.Sends.{record-laws}
use Rattle.sender.specs.Send.{lent, sends_if, sends}
use Rattle.sender.proofs.After.{send-laws}
use Rattle.setup.specs.Setup.{given, accepted}
use Rattle.judge_sender.specs.Lent.{shown, on_bytes, SenderLaws}
use Rattle.judge_sender.specs.Runs.{Send, recorded, sent_from, last_time, Orderly, Run}
use Rattle.judge_sender.proofs.Answered.{by_rules, answered, same-sent, proper}
use Rattle.judge_sender.proofs.Bytes.{bytes-sent}

-- ── records at the front of a buffer ──

-- the number of data bytes in a record
few : (id : ℕ) (l : List (List ℕ)) (n : ℕ) → Short l → n < length l → get_or (records_of id l) (13 * n + 4) 0 ≤ 8
unfolding records_of record_of le_bytes
few id [] n h k = absurd (omega arith)
few id (c ∷ more) zero h k = h.0
few id (c ∷ more) (suc n) h k =
    let e : 13 * suc n + 4 ≡ length (record_of id c) + (13 * n + 4) = omega (arith, length-record id c h.0) in
    rw (e, get_or-append-add (record_of id c) (records_of id more) (13 * n + 4) 0) (few id more n h.1 (omega arith))

span-front : (r rest : List ℕ) (a n : ℕ) → a + n ≤ length r → span (r ++ rest) a n ≡ span r a n
span-front r rest a n h =
    ap (take n) (drop-append-le a r rest (omega arith)) ∙ take-append-le n (drop a r) rest (omega (arith, length-drop a r))

front : (r rest : List ℕ) (time n : ℕ) → 13 * n + 13 ≤ length r → get_or r (13 * n + 4) 0 ≤ 8 → frame_in (r ++ rest) time n ≡ frame_in r time n
front r rest time n h k =
    let g : get_or (r ++ rest) (13 * n + 4) 0 ≡ get_or r (13 * n + 4) 0 = get_or-append r rest 0 (13 * n + 4) (omega arith) in
    ap₂ (λ (i b : List ℕ). frame_at (le i) b time) (span-front r rest (13 * n) 4 (omega arith))
    (ap (span (r ++ rest) (13 * n + 5)) g ∙ span-front r rest (13 * n + 5) (get_or r (13 * n + 4) 0) (omega arith))

-- ── one call ──

-- each record that a call writes says at most 8 data bytes
few-each : (c : Call) (m : Map) (o : Step) → Result c m o → (k : ℕ) → k < sending.frames_of o.answer → get_or o.records (13 * k + 4) 0 ≤ 8
unfolding transmit
few-each c m _ (refused x z) k h = absurd (omega arith)
few-each c m _ (response r size e) k h =
    few (id_for c) (sent c.signature c.transfer c.payload) k (sent-short c.signature c.transfer c.payload) (omega (arith, sent-length c.signature c.transfer c.payload))
few-each c m _ (placed i r size e p) k h =
    let y = drawn (topic_of c) (get_or m i free) in
    few (id_for c) (sent c.signature y c.payload) k (sent-short c.signature y c.payload) (omega (arith, sent-length c.signature y c.payload))

module _ (m : List ℕ) (fine : sound_map m ≡ true) (s : Send) where
  abbrev o : Step
  o = send_step s.call (map_of m) (length s.out)

  is : sends m s.call s.out ≡ lent m s.out o
  unfolding sends sends_if
  is = rw fine

  same_number : (on_bytes m s).number ≡ (by_rules (map_of m) s).number
  same_number = ap (λ r. number_of r.answer) is ∙ told-number o.answer

  same-frames : (on_bytes m s).frames ≡ (by_rules (map_of m) s).frames
  same-frames =
      let time = s.call.time in
      let room = record-laws.room s.call (map_of m) (length s.out) in
      let size = record-laws.size s.call (map_of m) (length s.out) in
      ap (λ r. (shown time r).frames) is
      ∙ ap (λ d. recorded time (splice s.out 0 o.records) d.frames) (told-dispatch o.answer)
      ∙ tab-same (frame_in (splice s.out 0 o.records) time) (frame_in o.records time) (sending.frames_of o.answer) 0
      (λ k a b. front o.records (drop (0 + length o.records) s.out) time k (omega arith)
      (few-each s.call (map_of m) o (returned s.call (map_of m) (length s.out)) k (omega arith)))

-- ── a run ──

sound_view : (m : List ℕ) → sound_map m ≡ true → sound (map_of m) ≡ true
unfolding sound_map
sound_view m e = and_elim_right (leb size (length m)) _ e

abbrev Typed : List Send → Type 0
Typed l = All (λ x. x.call.time < 2 ^ 64) l

module _ (m : List ℕ) (fine : sound_map m ≡ true) (bytes : Octets m) (s : Send) (time : s.call.time < 2 ^ 64) where
  pub view-after : map_of (on_bytes m s).state ≡ (by_rules (map_of m) s).state
  view-after = send-laws.view m s.call s.out fine bytes time

  pub fine-after : sound_map (on_bytes m s).state ≡ true
  fine-after = send-laws.sound m s.call s.out fine bytes time

  pub bytes_after : Octets (on_bytes m s).state
  bytes_after = bytes-sent m fine bytes s.call s.out

same-run : (l : List Send) (m : List ℕ) → sound_map m ≡ true → Octets m → Typed l → sent_from on_bytes m l ≡ sent_from by_rules (map_of m) l
unfolding sent_from
same-run [] m fine bytes t = refl
same-run (s ∷ l) m fine bytes t =
    ap₂ (λ (a b : List Frame). a ++ b) (same-frames m fine s)
    (same-run l (on_bytes m s).state (fine-after m fine bytes s t.0) (bytes_after m fine bytes s t.0) t.1
    ∙ ap (λ x. sent_from by_rules x l) (view-after m fine bytes s t.0))

orderly : (u : Setup) (own time : ℕ) (l : List Send) (m : List ℕ) → sound_map m ≡ true → Octets m → Typed l → Orderly on_bytes u own time m l
    → Orderly by_rules u own time (map_of m) l
orderly u own time [] m fine bytes t h = tt
orderly u own time (s ∷ l) m fine bytes t h =
    let e = same_number m fine s in (
      λ z. h.0 (e ∙ z),
      subst (λ n. Orderly by_rules u own (last_time n time s.call) (by_rules (map_of m) s).state l) e
          (subst (λ x. Orderly by_rules u own (last_time (on_bytes m s).number time s.call) x l) (view-after m fine bytes s t.0)
          (orderly u own (last_time (on_bytes m s).number time s.call) l (on_bytes m s).state (fine-after m fine bytes s t.0)
          (bytes_after m fine bytes s t.0) t.1 h.1)),
    )

abbrev Timed : List Frame → Type 0
Timed l = All (λ f. f.time < 2 ^ 64) l

timed-append : (a b : List Frame) → Timed a → Timed b → Timed (a ++ b)
timed-append [] b h k = k
timed-append (f ∷ a) b h k = (h.0, timed-append a b h.1 k)

timed-each : (r : List ℕ) (time i n : ℕ) → time < 2 ^ 64 → Timed (tabulate (frame_in r time) i n)
unfolding tabulate
timed-each r time i zero h = tt
timed-each r time i (suc n) h = (h, timed-each r time (suc i) n h)

timed-run : (l : List Send) (m : Map) → Typed l → Timed (sent_from by_rules m l)
unfolding sent_from
timed-run [] m t = tt
timed-run (s ∷ l) m t =
    timed-append (by_rules m s).frames (sent_from by_rules (by_rules m s).state l) (timed-each _ s.call.time 0 _ t.0)
    (timed-run l (by_rules m s).state t.1)

-- ── bytes at fault ──

none-sent : (l : List Send) (m : List ℕ) → sound_map m ≡ false → sent_from on_bytes m l ≡ []
unfolding sent_from sends sends_if tabulate
none-sent [] m e = refl
none-sent (s ∷ l) m e = rw e (none-sent l m e)

none_passes : (s : List ℕ) → accepted 0 s ≡ true → judges s (capture_of []) ≡ Ok tt
unfolding judges captured verdict verdict_by run
none_passes s a =
    let f = frame-laws.frames [] tt (omega arith) in
    rw (a, f.0, f.1)

pub sender-laws : SenderLaws
sender-laws = record { passes = λ s own m l a bytes t h k. go s own m l a bytes t h k (sound_map m) refl }
  where
    go : (s : List ℕ) (own : ℕ) (m : List ℕ) (l : List Send) → accepted 0 s ≡ true → Octets m → Typed l → Run on_bytes (given 0 s) own m l
        → length (sent_from on_bytes m l) < 2 ^ 32 → (b : Bool) → sound_map m ≡ b → judges s (capture_of (sent_from on_bytes m l)) ≡ Ok tt
    go s own m l a bytes t h k false e = ap (λ x. judges s (capture_of x)) (none-sent l m e) ∙ none_passes s a
    go s own m l a bytes t h k true e =
        let n = answered (map_of m) l in
        let q = same-run l m e bytes t ∙ same-sent l (map_of m) in
        ap (λ x. judges s (capture_of x)) q
        ∙ judged.sender-laws.passes s own (map_of m) n a
        (record {
          map = sound_view m e;
          calls = proper (given 0 s) own 0 l (map_of m) (orderly (given 0 s) own 0 l m e bytes t h.calls);
          few = subst (λ x. length (streams_in [] x) ≤ 64) q h.few;
        })
        (subst Timed (same-sent l (map_of m)) (timed-run l (map_of m) t)) (omega (arith, ap length q))
