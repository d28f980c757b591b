-- A run of our sender passes.
use mathlib.Core.Path.{◌≡◌, refl, sym, ap, ap₂, ◌∙◌, subst}
use mathlib.Core.Bool.{Bool, true, false, false≢true}
use mathlib.Core.List.{List, [], ◌∷◌, ◌++◌}
use mathlib.Core.Option.{Option, none, some}
use Prim.Native.Nat.{ℕ, zero, suc, ◌+◌, ◌/◌, ◌^◌, ◌≤◌, ◌<◌}
use Rattle.rules.specs.Sound.{stream_fits}
use native.Mathlib.Omega.{arith}
use lib.Dec.{leb, eqb}
use lib.ListN.{length, get_or, set, replicate, length-replicate}
use borrow.Author.Tests.{eqb-true, eqb-false, eq-eqb, ne_eqb}
use Rattle.bits.specs.Order.{Octets}
use Rattle.bits.specs.Tabulate.{tabulate}
use Rattle.rules.specs.Check.{or_zero}
use Rattle.rules.specs.Condition3.{keep, All}
use Rattle.rules.specs.Frame.{Frame, Stream, same_stream, stream_of, is_anonymous}
use Rattle.rules.specs.Map.{Map, free, used, same_topic, drawn, sound}
use Rattle.rules.specs.Sending as sending
use Rattle.rules.specs.Sending.{Call, topic_of, frame_count, Outcome, anonymous_id, id_for, records_of, Step, refuse, transmit}
use Rattle.rules.specs.SendingLaws.{InRange, frame_in}
use Rattle.rules.specs.Sent.{frame_at, sent, id_of}
use Rattle.rules.specs.Session.{next}
use Rattle.rules.specs.Setup.{Setup, subscribed, kind_of, signature_for}
use Rattle.rules.specs.Tests.{pick}
use Rattle.rules.proofs.Calls.{stream-in, anonymous-id}
use Rattle.rules.proofs.Checks.{named-not-anonymous}
use Rattle.rules.proofs.Draws as draws
use Rattle.rules.proofs.Draws.{all-fit, drawn-small}
use Rattle.rules.proofs.Frames.{sent-laws}
use Rattle.rules.proofs.Ids.{id-laws}
use Rattle.rules.proofs.Records.{sent-length, sent-short, back}
use Rattle.rules.proofs.Sends.{map_lasts}
use Rattle.rules.proofs.Table.{same_refl, same-eq}
use Rattle.judge_rules.specs.Good.{Transfer, stamped, Before, may_follow, WholeBefore, Series, all_frames, signature_of, Sends, frame_check, Checked, of_stream, Good}
use Rattle.judge_rules.specs.Laws.{Bytes}
use Rattle.judge_rules.specs.Sender.{Send, done, recorded, sent_from, Proper, Orderly, Run, SenderPasses}
use Rattle.judge_rules.specs.Verdict.{verdict_by, verdict}
use Rattle.judge_rules.proofs.Bytes.{sent-bytes}
use Rattle.judge_rules.proofs.Drawing.{Result, refused, response, placed, returned, topic, any, Known, later, kept, follows, inside_of, entered}
use Rattle.judge_rules.proofs.Passing.{IdPasses, id-passes, anonymous-passes, sent-passes, single-passes}
use Rattle.judge_rules.proofs.Theorem.{judgement, good-passes, passing-pass}

-- ── the frames of a send ──

abbrev at_once : ℕ → ℕ → List (List ℕ) → List Frame
at_once id time l = stamped id l (replicate (length l) time)

tab-stamped : (id time : ℕ) (l : List (List ℕ)) (f : ℕ → Frame) (i : ℕ) → ((k : ℕ) → k < length l → f (i + k) ≡ frame_at id (get_or l k []) time)
    → tabulate f i (length l) ≡ at_once id time l
unfolding tabulate stamped
tab-stamped id time [] f i h = refl
tab-stamped id time (c ∷ l) f i h =
    let z : i + 0 ≡ i = omega arith in
    ap₂ (λ (r : Frame) (rs : List Frame). r ∷ rs) (ap f (sym z) ∙ h 0 (omega arith))
    (tab-stamped id time l f (suc i) (λ k b. let e : suc i + k ≡ i + suc k = omega arith in ap f e ∙ h (suc k) (omega arith)))

abbrev data_of : Call → ℕ → List (List ℕ)
data_of c t = sent c.signature t c.payload

recorded-is : (c : Call) (t : ℕ) (m : Map) → id_for c < 2 ^ 29 → recorded c.time (transmit c t m) ≡ at_once (id_for c) c.time (data_of c t)
unfolding transmit
recorded-is c t m small =
    ap (tabulate (frame_in (records_of (id_for c) (data_of c t)) c.time) 0) (sym (sent-length c.signature t c.payload))
    ∙ tab-stamped (id_for c) c.time (data_of c t) (frame_in (records_of (id_for c) (data_of c t)) c.time) 0
    (λ k b. let z : 0 + k ≡ k = omega arith in
    ap (frame_in (records_of (id_for c) (data_of c t)) c.time) z ∙ back (id_for c) (omega arith) c.time (data_of c t) k (sent-short c.signature t c.payload) b)

none-recorded : (o : Outcome) (m : Map) (time : ℕ) → sending.frames_of o ≡ 0 → recorded time (refuse o m) ≡ []
unfolding tabulate
none-recorded o m time z = ap (tabulate (frame_in [] time) 0) z

-- ── the ID of a send ──

record Facts (u : Setup) (c : Call) (id : ℕ) : Type 0 where
  pub small : id < 2 ^ 29
  pub stream : stream_of id ≡ sending.stream_of c
  pub checked : (t : ℕ) → t < 32 → (ts : List ℕ) → Checked u (stamped id (data_of c t) ts)

facts : (u : Setup) (c : Call) (own t : ℕ) → InRange c → Proper u own t c → Facts u c (id_for c)
facts u c own t ok pr = go (eqb c.own 0) refl
  where
    types : (id : ℕ) → stream_of id ≡ sending.stream_of c → signature_for u id ≡ some c.signature
    types id e = ap (λ (d : Stream). subscribed (kind_of d) d.type u.subscriptions) e ∙ pr.type

    go : (b : Bool) → eqb c.own 0 ≡ b → Facts u c (pick b (anonymous_id c) (id_of (sending.stream_of c) c.priority))
    go true e =
        let z : c.own ≡ 0 = eqb-true c.own 0 e in
        let a = anonymous-id c ok z in
        let few : length c.payload ≤ 7 = (ok.anonymous z).1.1.0 in
        let p : IdPasses u (anonymous_id c) = anonymous-passes u (anonymous_id c) c.signature a.small a.anonymous (types (anonymous_id c) a.stream) in
        record {
          small = a.small;
          stream = a.stream;
          checked = λ t h ts. subst (λ l. Checked u (stamped (anonymous_id c) l ts)) (sym (sent-laws.single c.signature t c.payload few))
              (single-passes u (anonymous_id c) t h p c.payload few ts);
        }
    go false e =
        let d : Stream = sending.stream_of c in
        let n : 0 < c.own = let q = eqb-false c.own 0 e in omega arith in
        let f = stream-in c ok n in
        let id : ℕ = id_of (sending.stream_of c) c.priority in
        let s : stream_of (id_of (sending.stream_of c) c.priority) ≡ sending.stream_of c = id-laws.stream (sending.stream_of c) c.priority f in
        let l : id_of (sending.stream_of c) c.priority < 2 ^ 29 = id-laws.small (sending.stream_of c) c.priority f ok.priority in
        let p : IdPasses u (id_of (sending.stream_of c) c.priority) =
        id-passes u (id_of (sending.stream_of c) c.priority) c.signature l (ap stream_fits s ∙ f) (types (id_of (sending.stream_of c) c.priority) s) in
        let a : is_anonymous (id_of (sending.stream_of c) c.priority) ≡ false =
        named-not-anonymous (id_of (sending.stream_of c) c.priority) (subst (λ (x : Stream). 0 < x.source) (sym s) n) in
        record { small = l; stream = s; checked = λ t h ts. sent-passes u (id_of (sending.stream_of c) c.priority) t h p a c.signature c.payload ts }

-- ── what holds of each frame ──

all_append : (P : Frame → Type 0) (a b : List Frame) → All P a → All P b → All P (a ++ b)
all_append P [] b h k = k
all_append P (f ∷ a) b h k = (h.0, all_append P a b h.1 k)

module _ (u : Setup) (own : ℕ) (P : Frame → Type 0)
    (each : (t : ℕ) (c : Call) → Proper u own t c → InRange c → (x : ℕ) → x < 32 → All P (at_once (id_for c) c.time (data_of c x))) where
  went-all : (t : ℕ) (c : Call) → Proper u own t c → (x : ℕ) (after : Map) → x < 32 → InRange c → All P (recorded c.time (transmit c x after))
  went-all t c pr x after h r = subst (All P) (sym (recorded-is c x after (facts u c own t r pr).small)) (each t c pr r x h)

  step-all : (t : ℕ) (c : Call) → Proper u own t c → (m : Map) → sound m ≡ true → (o : Step) → Result c m o → All P (recorded c.time o)
  step-all t c pr m ok o (refused x z) = subst (All P) (sym (none-recorded x m c.time z)) tt
  step-all t c pr m ok o (response r size k) = went-all t c pr c.transfer m (r.response k) r
  step-all t c pr m ok o (placed i r size k h) =
      went-all t c pr (drawn (topic_of c) (get_or m i free)) _ (drawn-small (topic_of c) m (get_or m i free) (all-fit m ok i)) r

  run-all : (t : ℕ) (l : List Send) (m : Map) → sound m ≡ true → Orderly u own t l → All P (sent_from m l)
  unfolding sent_from
  run-all t [] m ok h = tt
  run-all t (s ∷ l) m ok h =
      all_append P (recorded s.call.time (done m s)) (sent_from (done m s).map l)
      (step-all t s.call h.0 m ok (done m s) (returned s.call m s.room))
      (run-all s.call.time l (done m s).map (map_lasts.send s.call m s.room ok) h.1)

-- ── the frames of one stream ──

pub of-append : (d : Stream) (a b : List Frame) → of_stream d (a ++ b) ≡ of_stream d a ++ of_stream d b
unfolding of_stream
of-append d [] b = refl
of-append d (f ∷ a) b = go (same_stream (stream_of f.id) d) (of-append d a b)
  where
    go : (x : Bool) → of_stream d (a ++ b) ≡ of_stream d a ++ of_stream d b → keep x f (of_stream d (a ++ b)) ≡ keep x f (of_stream d a) ++ of_stream d b
    go true e = ap (λ l. f ∷ l) e
    go false e = e

of_other : (d : Stream) (id : ℕ) → same_stream (stream_of id) d ≡ false → (l : List (List ℕ)) (ts : List ℕ) → of_stream d (stamped id l ts) ≡ []
unfolding of_stream stamped
of_other d id e [] ts = refl
of_other d id e (c ∷ l) [] = refl
of_other d id e (c ∷ l) (t ∷ ts) = rw e (of_other d id e l ts)

of-same : (d : Stream) (id : ℕ) → same_stream (stream_of id) d ≡ true → (l : List (List ℕ)) (ts : List ℕ) → of_stream d (stamped id l ts) ≡ stamped id l ts
unfolding of_stream stamped
of-same d id e [] ts = refl
of-same d id e (c ∷ l) [] = refl
of-same d id e (c ∷ l) (t ∷ ts) = rw e (ap (λ r. frame_at id c t ∷ r) (of-same d id e l ts))

-- ── a stream that the run sends nothing on, so far ──

module _ (u : Setup) (own t : ℕ) (c : Call) (pr : Proper u own t c) (m : Map) (d : Stream) (x : same_stream (sending.stream_of c) d ≡ false) where
  went-other : (y : ℕ) (after : Map) → InRange c → of_stream d (recorded c.time (transmit c y after)) ≡ []
  went-other y after r =
      let f = facts u c own t r pr in
      ap (of_stream d) (recorded-is c y after f.small) ∙ of_other d (id_for c) (ap (λ s. same_stream s d) f.stream ∙ x) (data_of c y) (replicate (length (data_of c y)) c.time)

  step_other : (o : Step) → Result c m o → of_stream d (recorded c.time o) ≡ []
  unfolding of_stream
  step_other o (refused y z) = ap (of_stream d) (none-recorded y m c.time z)
  step_other o (response r size k) = went-other c.transfer m r
  step_other o (placed i r size k h) = went-other (drawn (topic_of c) (get_or m i free)) _ r

not_same : (a b : Stream) → (a ≡ b → ⊥) → same_stream a b ≡ false
not_same a b n = go (same_stream a b) refl
  where
    go : (y : Bool) → same_stream a b ≡ y → y ≡ false
    go false q = refl
    go true q = absurd (n (same-eq a b q))

foreign : (u : Setup) (own t : ℕ) (l : List Send) (m : Map) (d : Stream) → (d.source ≡ own → ⊥) → Orderly u own t l → of_stream d (sent_from m l) ≡ []
unfolding sent_from of_stream
foreign u own t [] m d n h = refl
foreign u own t (s ∷ l) m d n h =
    of-append d (recorded s.call.time (done m s)) (sent_from (done m s).map l)
    ∙ ap₂ (λ a b. a ++ b)
    (step_other u own t s.call h.0 m d (not_same (sending.stream_of s.call) d (λ e. n (sym (ap (λ (x : Stream). x.source) e) ∙ h.0.stays)))
    (done m s) (returned s.call m s.room))
    (foreign u own s.call.time l (done m s).map d n h.1)

-- ── a stream of the run ──

sent-some : (signature t : ℕ) (p : List ℕ) → 0 < length (sent signature t p)
unfolding frame_count
sent-some signature t p = let e = sent-length signature t p in go (leb (length p) 7) e
  where
    go : (b : Bool) → length (sent signature t p) ≡ pick b 1 ((length p + 8) / 7) → 0 < length (sent signature t p)
    go true e = omega arith
    go false e = omega arith

first_of : (n x : ℕ) → 0 < n → get_or (replicate n x) 0 0 ≡ x
first_of zero x h = absurd (omega arith)
first_of (suc n) x h = refl

module _ (u : Setup) (own t : ℕ) (c : Call) (pr : Proper u own t c) (named : 0 < c.own) (m : Map) (ok : sound m ≡ true) where
  abbrev d : Stream
  d = sending.stream_of c

  signature-is : signature_of u d ≡ c.signature
  unfolding signature_of
  signature-is = ap or_zero pr.type

  -- a transfer in front of others
  went-own : (b : Option Before) (y : ℕ) (after : Map) (rest : List Frame) → y < 32 → InRange c → length c.payload ≤ 512 → may_follow d b y c.time ≡ true
      → Sends (signature_of u d) d (some (record { transfer = y; since = c.time })) (of_stream d rest)
      → Sends (signature_of u d) d b (of_stream d (recorded c.time (transmit c y after) ++ rest))
  unfolding all_frames
  went-own b y after rest hy r size f s =
      let k = facts u c own t r pr in
      let l : List (List ℕ) = sent (signature_of u d) y c.payload in
      let some-frame = sent-some (signature_of u d) y c.payload in
      let n : length (replicate (length l) c.time) ≡ length l = length-replicate (length l) c.time in
      let x : Transfer = record { priority = c.priority; transfer = y; payload = c.payload; times = replicate (length l) c.time } in
      let at : get_or (replicate (length l) c.time) 0 0 ≡ c.time = first_of (length l) c.time some-frame in
      let id : id_for c ≡ id_of d c.priority = ap (λ z. pick z (anonymous_id c) (id_of d c.priority)) (ne_eqb c.own 0 (λ z. omega arith)) in
      let own-frames : of_stream d (recorded c.time (transmit c y after)) ≡ stamped (id_of d c.priority) l (replicate (length l) c.time) =
      ap (of_stream d) (recorded-is c y after k.small)
      ∙ of-same d (id_for c) (ap (λ s. same_stream s d) k.stream ∙ same_refl d) (data_of c y) (replicate (length (data_of c y)) c.time)
      ∙ ap₂ (λ i g. stamped i (sent g y c.payload) (replicate (length (sent g y c.payload)) c.time)) id (sym signature-is) in
      record {
        transfers = x ∷ s.transfers;
        series = (
          record {
            range = record { priority = r.priority; transfer = hy; size = size; bytes = pr.bytes; begun = omega arith; within = omega arith };
            follows = ap (may_follow d b y) at ∙ f;
            whole = whole_before x s.transfers n;
          },
          subst (λ z. Series (signature_of u d) d (some (record { transfer = y; since = z })) s.transfers) (sym at) s.series,
        );
        frames = of-append d (recorded c.time (transmit c y after)) rest ∙ ap₂ (λ a b. a ++ b) own-frames s.frames;
      }
    where
      whole_before : (x : Transfer) (ys : List Transfer) → length x.times ≡ length (sent (signature_of u d) x.transfer x.payload) → WholeBefore (signature_of u d) x ys
      whole_before x [] h = tt
      whole_before x (y ∷ ys) h = h

  step-own : (b : Option Before) (rest : List Frame) (o : Step) → Result c m o → Known d m c.time b
      → ((b : Option Before) → Known d o.map c.time b → Sends (signature_of u d) d b (of_stream d rest))
      → Sends (signature_of u d) d b (of_stream d (recorded c.time o ++ rest))
  unfolding transmit
  step-own b rest o (refused x z) h ih =
      subst (λ l. Sends (signature_of u d) d b (of_stream d (l ++ rest))) (sym (none-recorded x m c.time z)) (ih b h)
  step-own b rest o (response r size k) h ih =
      went-own b c.transfer m rest (r.response k) r size (free-id b) (ih (some (record { transfer = c.transfer; since = c.time })) (any k))
    where
      free-id : (b : Option Before) → may_follow d b c.transfer c.time ≡ true
      free-id none = refl
      free-id (some x) = rw (eq-eqb c.transfer_type 2 k)
  step-own b rest o (placed i r size k ch) h ih =
      went-own b (drawn (topic_of c) (get_or m i free)) (set m i (used (topic_of c) (next (drawn (topic_of c) (get_or m i free))) c.time)) rest (drawn-small (topic_of c) m (get_or m i free) (all-fit m ok i)) r size (follows d m i c.time b ok ch h)
      (ih (some (record { transfer = drawn (topic_of c) (get_or m i free); since = c.time })) (entered d m i (drawn (topic_of c) (get_or m i free)) c.time (inside_of ch)))

  -- another stream of the same source
  step_kept : (e : Stream) → e.source ≡ c.own → same_stream d e ≡ false → (b : Option Before) (o : Step) → Result c m o → Known e m c.time b → Known e o.map c.time b
  unfolding transmit
  step_kept e s x b o (refused y z) h = h
  step_kept e s x b o (response r size k) h = h
  step_kept e s x b o (placed i r size k ch) h = kept e m (topic_of c) (next (drawn (topic_of c) (get_or m i free))) c.time i b ok (topics (same_topic (topic_of c) (topic e)) refl) ch h
    where
      topics : (y : Bool) → same_topic (topic_of c) (topic e) ≡ y → y ≡ false
      topics false q = refl
      topics true q =
          let w : topic_of c ≡ topic e = draws.same-eq (topic_of c) (topic e) q in
          let v : d ≡ e = λ i. record { transfer_type = (w i).transfer_type; type = (w i).type; source = sym s i; destination = (w i).destination } in
          absurd (false≢true (sym x ∙ ap (λ z. same_stream z e) v ∙ same_refl e))

own-stream : (u : Setup) (own t : ℕ) (l : List Send) (m : Map) (d : Stream) (b : Option Before) → 0 < own → d.source ≡ own → sound m ≡ true → Orderly u own t l
    → Known d m t b → Sends (signature_of u d) d b (of_stream d (sent_from m l))
unfolding sent_from of_stream all_frames
own-stream u own t [] m d b named e ok h k = record { transfers = []; series = tt; frames = refl }
own-stream u own t (s ∷ l) m d b named e ok h k =
    go (same_stream (sending.stream_of s.call) d) refl (later d m t s.call.time b h.0.forward k)
    (λ b k. own-stream u own s.call.time l (done m s).map d b named e (map_lasts.send s.call m s.room ok) h.1 k)
  where
    src : 0 < s.call.own
    src = subst (λ x. 0 < x) (sym h.0.stays) named

    go : (x : Bool) → same_stream (sending.stream_of s.call) d ≡ x → Known d m s.call.time b
        → ((b : Option Before) → Known d (done m s).map s.call.time b → Sends (signature_of u d) d b (of_stream d (sent_from (done m s).map l)))
        → Sends (signature_of u d) d b (of_stream d (recorded s.call.time (done m s) ++ sent_from (done m s).map l))
    go false q k ih =
        subst (Sends (signature_of u d) d b)
        (sym (of-append d (recorded s.call.time (done m s)) (sent_from (done m s).map l)
        ∙ ap (λ a. a ++ of_stream d (sent_from (done m s).map l)) (step_other u own t s.call h.0 m d q (done m s) (returned s.call m s.room))))
        (ih b (step_kept u own t s.call h.0 src m ok d (e ∙ sym h.0.stays) q b (done m s) (returned s.call m s.room) k))
    go true q k ih =
        subst (λ (d : Stream). Known d m s.call.time b
        → ((b : Option Before) → Known d (done m s).map s.call.time b → Sends (signature_of u d) d b (of_stream d (sent_from (done m s).map l)))
        → Sends (signature_of u d) d b (of_stream d (recorded s.call.time (done m s) ++ sent_from (done m s).map l)))
        (same-eq (sending.stream_of s.call) d q)
        (step-own u own t s.call h.0 src m ok b (sent_from (done m s).map l) (done m s) (returned s.call m s.room)) k ih

-- ── the run ──

module _ (u : Setup) (own : ℕ) (m : Map) (l : List Send) (h : Run u own m l) where
  run-checked : Checked u (sent_from m l)
  run-checked =
      run-all u own (λ f. frame_check u f ≡ none) (λ t c pr r x k. (facts u c own t r pr).checked x k (replicate (length (data_of c x)) c.time)) 0 l m h.map h.calls

  run-bytes : Bytes (sent_from m l)
  run-bytes =
      run-all u own (λ f. Octets f.bytes)
      (λ t c pr r x k. sent-bytes c.signature x c.payload k pr.bytes (id_for c) (replicate (length (data_of c x)) c.time)) 0 l m h.map h.calls

  run-good : Good u (sent_from m l)
  unfolding all_frames
  run-good = record { checks = run-checked; few = h.few; streams = λ d n. go d n (eqb d.source own) refl }
    where
      go : (d : Stream) → 0 < d.source → (b : Bool) → eqb d.source own ≡ b → Sends (signature_of u d) d none (of_stream d (sent_from m l))
      go d n true e =
          let s : d.source ≡ own = eqb-true d.source own e in
          own-stream u own 0 l m d none (omega arith) s h.map h.calls tt
      go d n false e = record { transfers = []; series = tt; frames = foreign u own 0 l m d (eqb-false d.source own e) h.calls }

pub sender-passes : SenderPasses
unfolding verdict verdict_by
sender-passes = record {
  good = run-good;
  passes = λ u own m l h. passing-pass (judgement u (sent_from m l)) (good-passes u (sent_from m l) (run-good u own m l h));
  bytes = run-bytes;
}
