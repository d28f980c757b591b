-- There and back, lengths, and parts.
use mathlib.Core.Path.{◌≡◌, refl, sym, ap, ap₂, ◌∙◌}
use mathlib.Core.Bool.{Bool, true, false}
use mathlib.Core.List.{List, [], ◌++◌, append-nil}
use mathlib.Core.Option.{Option, none, some}
use Prim.Native.Nat.{ℕ, ◌+◌, ◌*◌, ◌-◌, ◌^◌, ◌≤◌, ◌<◌}
use native.Mathlib.Omega.{arith}
use borrow.Author.Tests.{lt-ltb, le-leb, leb-true, ltb-true}
use lib.Dec.{ltb, leb}
use lib.ListN.{length, take, length-append, length-drop}
use Rattle.bits.specs.Order.{Octets}
use Rattle.bits.specs.Part.{splice}
use Rattle.bits.proofs.Octets.{octets-drop, octets-span}
use Rattle.bits.proofs.Splice.{take-splice, length-span}
use Rattle.checksum.specs.Crc16.{ccitt}
use Rattle.checksum.proofs.Linear.{over-append}
use Rattle.rules.specs.Condition3.{All}
use Rattle.rules.specs.Frame.{Frame}
use Rattle.rules.specs.Tests.{pick}
use Rattle.log_line.specs.Line.{Carried}
use Rattle.capture_convert.specs.Capture.{sum_of, records_of, trailer_of, capture_of, trailer_in, count_in, records_in, trailed, carried_all}
use Rattle.capture_convert.specs.Convert.{stored, packed, captured, unpacked, uncaptured}
use Rattle.capture_convert.specs.Laws.{wrote, feeds, Trips, Lengths, Parts}
use Rattle.capture_convert.specs.Log.{log_of, frames_of}
use Rattle.std.specs.Prelude.{Ok, Err}
use Rattle.capture_convert.specs.declared.answer.ConvertError.TheVariants.{TooMany, NoCapture, OutputSmall}
use Rattle.capture_convert.proofs.Captures.{records-back, carried-count, carried-only, log-bounds, carried-append}
use Rattle.capture_convert.proofs.Frames.{log-append, records-append, length-records, prefixed}
use Rattle.capture_convert.proofs.Logs.{lines-back, whole-log, parts, cut-feeds, log-length}
use Rattle.capture_convert.proofs.Trailers.{count-lt, Right, right-trailed, trailed-right, length-trailer, records-in, count-in, trailer-right, capture-only, trailer-kept, records-kept, right_kept}

-- ── what was written ──

pub stored-fits : (text out : List ℕ) → length text ≤ length out → stored text out ≡ wrote text out
unfolding stored
stored-fits text out h = rw (le-leb (length text) (length out) h)

record Stored (text out : List ℕ) (n : ℕ) : Type 0 where
  fits : length text ≤ length out
  len : n ≡ length text
  done : (stored text out).out ≡ splice out 0 text

stored-done : (text out : List ℕ) (n : ℕ) → (stored text out).answer ≡ Ok n → Stored text out n
unfolding stored
stored-done text out n = go (leb (length text) (length out)) refl where
  go : (t : Bool) → leb (length text) (length out) ≡ t
      → (pick t (wrote text out) (record { answer = Err OutputSmall; out = out })).answer ≡ Ok n → Stored text out n
  go false q e = let z : ◌≡◌ {A = ℕ} 0 1 = cc in absurd (omega arith)
  go true q e = record { fits = leb-true (length text) (length out) q; len = cc; done = rw q }

-- the text is the front of the buffer
front : (text out : List ℕ) (n : ℕ) → Stored text out n → take n (stored text out).out ≡ text
front text out n s =
    ap₂ take s.len s.done ∙ take-splice out 0 text (omega (arith, s.fits)) (length text) (omega arith)

-- ── a log there and back ──

-- a log that was turned into a capture
record Packed (log out : List ℕ) (n : ℕ) : Type 0 where
  frames : List Frame
  read : frames_of log ≡ some frames
  few : length frames < 2 ^ 32
  len : n ≡ length (capture_of frames)
  text : take n (captured log out).out ≡ capture_of frames

packed-done : (log out : List ℕ) (n : ℕ) → (captured log out).answer ≡ Ok n → Packed log out n
unfolding packed
packed-done log out n = go (frames_of log) refl where
  many : (fs : List Frame) → frames_of log ≡ some fs → (t : Bool) → ltb (length fs) (2 ^ 32) ≡ t
      → (pick t (stored (capture_of fs) out) (record { answer = Err TooMany; out = out })).answer ≡ Ok n → Packed log out n
  many fs q false l e = let z : ◌≡◌ {A = ℕ} 0 1 = cc in absurd (omega arith)
  many fs q true l e =
      record {
        frames = fs;
        read = q;
        few = ltb-true (length fs) (2 ^ 32) l;
        len = (stored-done (capture_of fs) out n e).len;
        text = ap (λ (o : Option (List Frame)). take n (packed o out).out) q
            ∙ ap (λ (t : Bool). take n (pick t (stored (capture_of fs) out) (record { answer = Err TooMany; out = out })).out) l
            ∙ front (capture_of fs) out n (stored-done (capture_of fs) out n e);
      }

  go : (o : Option (List Frame)) → frames_of log ≡ o → (packed o out).answer ≡ Ok n → Packed log out n
  go none q e = let z : ◌≡◌ {A = ℕ} 0 1 = cc in absurd (omega arith)
  go (some fs) q e = many fs q (ltb (length fs) (2 ^ 32)) refl e

-- the capture of frames, read
capture-read : (fs : List Frame) (room : List ℕ) → All Carried fs → length fs < 2 ^ 32 → uncaptured (capture_of fs) room ≡ stored (log_of fs) room
unfolding uncaptured unpacked capture_of
capture-read fs room h few =
    let b = records_of fs in
    let size = length-records fs h in
    let t : trailed (b ++ trailer_of (length fs) (sum_of b)) ≡ true = right-trailed (b ++ trailer_of (length fs) (sum_of b)) (trailer-right b (length fs) size few) in
    let r : carried_all (length fs) b ≡ some fs =
    ap (carried_all (length fs)) (sym (append-nil b)) ∙ records-back fs h [] in
    rw (t, count-in b (length fs) size few, records-in b (length fs) size few, r)

log-trip : (log out : List ℕ) (n : ℕ) → (captured log out).answer ≡ Ok n → (room : List ℕ) → length log ≤ length room
    → uncaptured (take n (captured log out).out) room ≡ wrote log room
log-trip log out n e room h =
    let p = packed-done log out n e in
    let w = whole-log log p.frames p.read in
    ap (λ (c : List ℕ). uncaptured c room) p.text ∙ capture-read p.frames room w.carried p.few
    ∙ ap (λ (x : List ℕ). stored x room) w.text ∙ stored-fits log room h

-- ── a capture there and back ──

record Unpacked (c out : List ℕ) (n : ℕ) : Type 0 where
  frames : List Frame
  right : Right c
  read : carried_all (count_in (trailer_in c)) (records_in c (count_in (trailer_in c))) ≡ some frames
  len : n ≡ length (log_of frames)
  text : take n (uncaptured c out).out ≡ log_of frames

unpacked-done : (c out : List ℕ) (n : ℕ) → (uncaptured c out).answer ≡ Ok n → Unpacked c out n
unfolding uncaptured unpacked
unpacked-done c out n = go (trailed c) refl where
  carried : (o : Option (List Frame)) → carried_all (count_in (trailer_in c)) (records_in c (count_in (trailer_in c))) ≡ o → trailed c ≡ true
      → (unpacked o out).answer ≡ Ok n → Unpacked c out n
  carried none q t e = let z : ◌≡◌ {A = ℕ} 0 1 = cc in absurd (omega arith)
  carried (some fs) q t e =
      record {
        frames = fs;
        right = trailed-right c t;
        read = q;
        len = (stored-done (log_of fs) out n e).len;
        text = ap (λ (b : Bool). take n (pick b (unpacked (carried_all (count_in (trailer_in c)) (records_in c (count_in (trailer_in c)))) out)
            (record { answer = Err NoCapture; out = out })).out) t
            ∙ ap (λ (o : Option (List Frame)). take n (unpacked o out).out) q ∙ front (log_of fs) out n (stored-done (log_of fs) out n e);
      }

  go : (t : Bool) → trailed c ≡ t
      → (pick t (unpacked (carried_all (count_in (trailer_in c)) (records_in c (count_in (trailer_in c)))) out) (record { answer = Err NoCapture; out = out })).answer ≡ Ok n
      → Unpacked c out n
  go false q e = let z : ◌≡◌ {A = ℕ} 0 1 = cc in absurd (omega arith)
  go true q e = carried (carried_all (count_in (trailer_in c)) (records_in c (count_in (trailer_in c)))) refl q e

count_small : (c : List ℕ) → Octets c → 16 ≤ length c → count_in (trailer_in c) < 2 ^ 32
count_small c o h = count-lt (trailer_in c) (length-drop (length c - 16) c ∙ omega arith) (octets-drop (length c - 16) c o)

capture-trip : (c out : List ℕ) (n : ℕ) → Octets c → length c ≡ 21 * count_in (trailer_in c) + 16 → (uncaptured c out).answer ≡ Ok n
    → (room : List ℕ) → length c ≤ length room → captured (take n (uncaptured c out).out) room ≡ wrote c room
unfolding packed capture_of
capture-trip c out n o w e room h =
    let u = unpacked-done c out n e in
    let k = count_in (trailer_in c) in
    let b = records_in c k in
    let fs = u.frames in
    let l : length b ≡ 21 * k = length-span c (length c - 16 - 21 * k) (21 * k) (omega (arith, u.right.inside)) in
    let ob : Octets b = octets-span c (length c - 16 - 21 * k) (21 * k) o in
    let only = carried-only k b fs u.read l ob in
    let m : length fs ≡ k = carried-count k b fs u.read in
    let kl = count_small c o u.right.long in
    let f : frames_of (take n (uncaptured c out).out) ≡ some fs = ap frames_of u.text ∙ lines-back fs only.carried in
    let t : capture_of fs ≡ c = ap₂ (λ (x : List ℕ) (y : ℕ). x ++ trailer_of y (sum_of x)) only.text m ∙ capture-only c o u.right w in
    rw (f, lt-ltb (length fs) (2 ^ 32) (omega (arith, m))) (ap (λ (x : List ℕ). stored x room) t ∙ stored-fits c room h)

preface-law : (p c out : List ℕ) → trailed c ≡ true → uncaptured (p ++ c) out ≡ uncaptured c out
unfolding uncaptured
preface-law p c out h =
    let r = trailed-right c h in
    let t : trailed (p ++ c) ≡ true = right-trailed (p ++ c) (right_kept p c r) in
    let k : count_in (trailer_in (p ++ c)) ≡ count_in (trailer_in c) = ap count_in (trailer-kept p c r) in
    rw (t, h, k, records-kept p c r (count_in (trailer_in c)) r.inside)

pub trips : Trips
trips =
    record {
      log = log-trip;
      capture = capture-trip;
      lines = lines-back;
      only = λ log fs e. ((whole-log log fs e).text, (whole-log log fs e).carried);
      preface = preface-law;
    }

-- ── lengths and parts ──

captures-small : (log out : List ℕ) (n : ℕ) → (captured log out).answer ≡ Ok n → n < 2 ^ 37
unfolding capture_of
captures-small log out n e =
    let p = packed-done log out n e in
    let b = records_of p.frames in
    omega (
      arith,
      p.len,
      p.few,
      length-append b (trailer_of (length p.frames) (sum_of b)),
      length-records p.frames (whole-log log p.frames p.read).carried,
      length-trailer (length p.frames) (sum_of b),
    )

logs-small : (c out : List ℕ) (n : ℕ) → Octets c → (uncaptured c out).answer ≡ Ok n → n < 2 ^ 38
logs-small c out n o e =
    let u = unpacked-done c out n e in
    let k = count_in (trailer_in c) in
    omega (arith, u.len, (log-bounds k (records_in c k) u.frames u.read).1, count_small c o u.right.long)

capture-length : (log : List ℕ) (fs : List Frame) → frames_of log ≡ some fs → length (capture_of fs) ≡ 21 * feeds log + 16
unfolding capture_of
capture-length log fs e =
    let w = whole-log log fs e in
    length-append (records_of fs) (trailer_of (length fs) (sum_of (records_of fs)))
    ∙ omega (arith, length-records fs w.carried, length-trailer (length fs) (sum_of (records_of fs)), w.count, cut-feeds log)

pub lengths : Lengths
lengths =
    record {
      capture = capture-length;
      log = log-length;
      captures = captures-small;
      logs = logs-small;
      least = λ n b fs e. (log-bounds n b fs e).0;
      most = λ n b fs e. (log-bounds n b fs e).1;
    }

pub part-laws : Parts
part-laws =
    record {
      frames = parts;
      records = records-append;
      sum = over-append ccitt 0xFFFF;
      lines = log-append;
      carried = λ n m a b fs gs l e f. carried-append n m a b fs l e ∙ ap (prefixed fs) f;
    }
