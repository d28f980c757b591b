-- The records of a capture: what reads is the records of what was read, and the records of frames read as these frames.
use mathlib.Core.Path.{◌≡◌, refl, sym, ap, ap₂, ◌∙◌}
use mathlib.Core.List.{List, [], ◌∷◌, ◌++◌, append_assoc}
use mathlib.Core.Option.{some}
use Prim.Native.Nat.{ℕ, zero, suc, ◌+◌, ◌*◌, ◌/◌, ◌^◌, ◌≤◌, ◌<◌}
use native.Mathlib.Omega.{arith}
use lib.ListN.{length, take, drop, length-append, length-drop, take-append-drop}
use lib.Seq.{length-take-le, take_at, drop_at, take-append-le, drop-append-le}
use Rattle.bits.specs.Order.{Octets}
use Rattle.bits.proofs.Octets.{octets-take, octets-drop}
use Rattle.digits.specs.Digits.{count_of}
use Rattle.digits.proofs.Digits.{count-pos, count-le}
use Rattle.rules.specs.Condition3.{All}
use Rattle.rules.specs.Frame.{Frame}
use Rattle.log_line.specs.Line.{line_of, Carried}
use Rattle.log_line.proofs.Lines.{line-length}
use Rattle.capture_record.specs.Record.{timed, carried}
use Rattle.capture_record.proofs.Records.{length-timed, timed-back, is_read, bytes-few, read-timed, read-carried}
use Rattle.capture_convert.specs.Capture.{records_of, carried_all}
use Rattle.capture_convert.specs.Log.{log_of, joined}
use Rattle.capture_convert.proofs.Frames.{prefixed, prefix-nil, joined-prefix, joined-parts}

-- ── the records of frames ──

pub records-back : (fs : List Frame) → All Carried fs → (rest : List ℕ) → carried_all (length fs) (records_of fs ++ rest) ≡ some fs
unfolding carried_all records_of
records-back [] h rest = refl
records-back (f ∷ fs) h rest =
    let l = length-timed f h.0.few in
    let a = append_assoc (timed f) (records_of fs) rest in
    ap₂ joined
    (ap (λ (x : List ℕ). carried (take 21 x)) a ∙ ap carried (take_at (timed f) (records_of fs ++ rest) 21 l) ∙ timed-back f h.0)
    (ap (λ (x : List ℕ). carried_all (length fs) (drop 21 x)) a ∙ ap (carried_all (length fs)) (drop_at (timed f) (records_of fs ++ rest) 21 l)
    ∙ records-back fs h.1 rest)

-- ── frames that were read ──

pub carried-count : (n : ℕ) (b : List ℕ) (fs : List Frame) → carried_all n b ≡ some fs → length fs ≡ n
unfolding carried_all
carried-count zero b fs e = let q : fs ≡ [] = cc in ap length q
carried-count (suc n) b fs e =
    let j = joined-parts (carried (take 21 b)) (carried_all n (drop 21 b)) fs e in
    ap length j.all ∙ ap suc (carried-count n (drop 21 b) j.more j.rest)

nothing : (b : List ℕ) → length b ≡ 0 → [] ≡ b
nothing [] h = refl
nothing (x ∷ b) h = absurd (omega arith)

pub record Only (b : List ℕ) (fs : List Frame) : Type 0 where
  pub text : records_of fs ≡ b
  pub carried : All Carried fs

pub carried-only : (n : ℕ) (b : List ℕ) (fs : List Frame) → carried_all n b ≡ some fs → length b ≡ 21 * n → Octets b → Only b fs
unfolding carried_all records_of
carried-only zero b fs e l o =
    let q : fs ≡ [] = cc in
    rw q (record { text = nothing b (omega arith); carried = tt })
carried-only (suc n) b fs e l o =
    let r = take 21 b in
    let j = joined-parts (carried (take 21 b)) (carried_all n (drop 21 b)) fs e in
    let i = is_read (take 21 b) j.first j.one in
    let k : length (take 21 b) ≡ 21 = length-take-le 21 b (omega arith) in
    let w = octets-take 21 b o in
    let m = carried-only n (drop 21 b) j.more j.rest (length-drop 21 b ∙ omega arith) (octets-drop 21 b o) in
    rw j.all (record {
      text = ap₂ (λ (x y : List ℕ). x ++ y) (ap timed (sym i.frame) ∙ read-timed (take 21 b) i.fit k w) m.text ∙ take-append-drop 21 b;
      carried = (rw i.frame at (read-carried (take 21 b) i.fit k w), m.carried);
    })

-- ── how long their lines are ──

line-bounds : (f : Frame) → f.time < 10 ^ 15 → length f.bytes ≤ 8 → (15 ≤ length (line_of f)) × (length (line_of f) ≤ 47)
line-bounds f t b =
    let c : count_of (f.time / 1000000) ≤ 9 = count-le 8 (f.time / 1000000) (omega arith) in
    let p = count-pos (f.time / 1000000) in
    let l = line-length f in
    (omega arith, omega arith)

pub log-bounds : (n : ℕ) (b : List ℕ) (fs : List Frame) → carried_all n b ≡ some fs → (15 * n ≤ length (log_of fs)) × (length (log_of fs) ≤ 47 * n)
unfolding carried_all log_of
log-bounds zero b fs e = let q : fs ≡ [] = cc in rw q (omega arith, omega arith)
log-bounds (suc n) b fs e =
    let j = joined-parts (carried (take 21 b)) (carried_all n (drop 21 b)) fs e in
    let i = is_read (take 21 b) j.first j.one in
    let t : j.first.time < 10 ^ 15 = rw (← i.frame) i.fit.time in
    let s : length j.first.bytes ≤ 8 = rw (← i.frame) (bytes-few (take 21 b) i.fit) in
    let o = line-bounds j.first t s in
    let m = log-bounds n (drop 21 b) j.more j.rest in
    let a = length-append (line_of j.first) (log_of j.more) in
    rw j.all (omega (arith, o.0, m.0), omega (arith, o.1, m.1))

-- ── records one after the other ──

pub carried-append : (n m : ℕ) (a b : List ℕ) (fs : List Frame) → length a ≡ 21 * n → carried_all n a ≡ some fs
    → carried_all (n + m) (a ++ b) ≡ prefixed fs (carried_all m b)
unfolding carried_all
carried-append zero m a b fs l e =
    let q : [] ≡ fs = cc in
    let p : 0 + m ≡ m = omega arith in
    ap₂ carried_all p (ap (λ (x : List ℕ). x ++ b) (sym (nothing a (omega arith)))) ∙ sym (prefix-nil (carried_all m b))
    ∙ ap (λ (x : List Frame). prefixed x (carried_all m b)) q
carried-append (suc n) m a b fs l e =
    let j = joined-parts (carried (take 21 a)) (carried_all n (drop 21 a)) fs e in
    let p : suc n + m ≡ suc (n + m) = omega arith in
    ap (λ (k : ℕ). carried_all k (a ++ b)) p
    ∙ ap₂ joined (ap carried (take-append-le 21 a b (omega arith)) ∙ j.one)
    (ap (carried_all (n + m)) (drop-append-le 21 a b (omega arith))
    ∙ carried-append n m (drop 21 a) b j.more (length-drop 21 a ∙ omega arith) j.rest)
    ∙ joined-prefix j.first j.more (carried_all m b) ∙ ap (λ (x : List Frame). prefixed x (carried_all m b)) (sym j.all)
