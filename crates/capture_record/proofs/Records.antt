-- A record that is read is the record of what was read, and the record of a frame reads as that frame.
use mathlib.Core.Path.{◌≡◌, refl, sym, ap, ap₂, ◌∙◌}
use mathlib.Core.Bool.{Bool, true, false, ◌&&◌}
use mathlib.Core.List.{List, [], ◌∷◌, ◌++◌, append-nil}
use mathlib.Core.Option.{none, some}
use Prim.Native.Nat.{ℕ, zero, suc, ◌+◌, ◌-◌, ◌%◌, ◌^◌, ◌≤◌, ◌<◌}
use native.Mathlib.Omega.{arith}
use borrow.Author.Tests.{lt-ltb, le-leb, eq-eqb, ltb-true, leb-true, eqb-true}
use lib.Dec.{ltb, leb, eqb}
use lib.ListN.{length, get_or, take, drop, replicate, length-append, length-drop, length-take, length-replicate, take-append-drop}
use lib.Seq.{length-take-le, take_all, take_at, drop_at, drop-drop, drop-cons, get_or-drop}
use Rattle.bits.specs.Little.{le, le_bytes}
use Rattle.bits.specs.Order.{Octets}
use Rattle.bits.specs.Part.{span}
use Rattle.bits.proofs.Little.{length-le_bytes, le-le_bytes, le_bytes-le, le-lt}
use Rattle.bits.proofs.Octets.{octets-take, octets-drop, octets-span}
use Rattle.rules.specs.Frame.{Frame}
use Rattle.rules.specs.Sending.{record_of, records_of}
use Rattle.rules.specs.SendingLaws.{frame_in}
use Rattle.rules.specs.Tests.{pick}
use Rattle.rules.proofs.Records.{length-record, back}
use Rattle.log_line.specs.Line.{Carried}
use Rattle.capture_record.specs.Record.{stamp_of, size_of, frame_of, carriable, carried, timed}

-- ── what the test asks ──

pub record Fit (r : List ℕ) : Type 0 where
  pub few : size_of r ≤ 8
  pub clear : le (span r (13 + size_of r) (8 - size_of r)) ≡ 0
  pub whole : stamp_of r % 1000 ≡ 0
  pub time : stamp_of r < 10 ^ 15

pub fit-carriable : (r : List ℕ) → Fit r → carriable r ≡ true
unfolding carriable
fit-carriable r h =
    rw (
      le-leb (size_of r) 8 h.few,
      eq-eqb (le (span r (13 + size_of r) (8 - size_of r))) 0 h.clear,
      eq-eqb (stamp_of r % 1000) 0 h.whole,
      lt-ltb (stamp_of r) (10 ^ 15) h.time,
    )

pub carriable-fit : (r : List ℕ) → carriable r ≡ true → Fit r
unfolding carriable
carriable-fit r = go (leb (size_of r) 8) (eqb (le (span r (13 + size_of r) (8 - size_of r))) 0) (eqb (stamp_of r % 1000) 0) (ltb (stamp_of r) (10 ^ 15))
    refl refl refl refl where
      go : (a b d e : Bool) → leb (size_of r) 8 ≡ a → eqb (le (span r (13 + size_of r) (8 - size_of r))) 0 ≡ b → eqb (stamp_of r % 1000) 0 ≡ d
          → ltb (stamp_of r) (10 ^ 15) ≡ e → (a && (b && (d && e))) ≡ true → Fit r
      go false b d e p q s t h = let z : ◌≡◌ {A = Bool} false true = h in let y : ◌≡◌ {A = ℕ} 0 1 = cc in absurd (omega arith)
      go true false d e p q s t h = let z : ◌≡◌ {A = Bool} false true = h in let y : ◌≡◌ {A = ℕ} 0 1 = cc in absurd (omega arith)
      go true true false e p q s t h = let z : ◌≡◌ {A = Bool} false true = h in let y : ◌≡◌ {A = ℕ} 0 1 = cc in absurd (omega arith)
      go true true true false p q s t h = let z : ◌≡◌ {A = Bool} false true = h in let y : ◌≡◌ {A = ℕ} 0 1 = cc in absurd (omega arith)
      go true true true true p q s t h =
          record {
            few = leb-true (size_of r) 8 p;
            clear = eqb-true (le (span r (13 + size_of r) (8 - size_of r))) 0 q;
            whole = eqb-true (stamp_of r % 1000) 0 s;
            time = ltb-true (stamp_of r) (10 ^ 15) t;
          }

-- ── the record of a frame ──

pub length-timed : (f : Frame) → length f.bytes ≤ 8 → length (timed f) ≡ 21
unfolding timed
length-timed f h =
    length-append (le_bytes 8 f.time) (record_of f.id f.bytes)
    ∙ omega (arith, length-le_bytes 8 f.time, length-record f.id f.bytes h)

le-zeros : (n : ℕ) → le (replicate n 0) ≡ 0
unfolding le
le-zeros zero = refl
le-zeros (suc n) = omega (arith, le-zeros n)

module _ (f : Frame) (id : f.id < 2 ^ 32) (time : f.time < 2 ^ 64) (few : length f.bytes ≤ 8) where
  frame-part : drop 8 (timed f) ≡ record_of f.id f.bytes
  unfolding timed
  frame-part = drop_at (le_bytes 8 f.time) (record_of f.id f.bytes) 8 (length-le_bytes 8 f.time)

  stamp-back : stamp_of (timed f) ≡ f.time
  unfolding timed
  stamp-back =
      ap le (take_at (le_bytes 8 f.time) (record_of f.id f.bytes) 8 (length-le_bytes 8 f.time))
      ∙ le-le_bytes 8 f.time (omega arith)

  pub size_back : size_of (timed f) ≡ length f.bytes
  unfolding record_of le_bytes
  size_back = sym (get_or-drop 8 (timed f) 4 0) ∙ ap (λ (x : List ℕ). get_or x 4 0) frame-part

  pub frame_back : frame_of (timed f) ≡ f
  unfolding records_of
  frame_back =
      ap₂ (λ (x : List ℕ) (t : ℕ). frame_in x t 0) (frame-part ∙ sym (append-nil (record_of f.id f.bytes))) stamp-back
      ∙ back f.id id f.time (f.bytes ∷ []) 0 (few, tt) (omega arith)

module _ (f : Frame) (fine : Carried f) where
  stamped : f.time < 2 ^ 64
  stamped = omega (arith, fine.time)

  sized : size_of (timed f) ≡ length f.bytes
  sized = size_back f fine.id stamped fine.few

  zeros-back : le (span (timed f) (13 + size_of (timed f)) (8 - size_of (timed f))) ≡ 0
  unfolding record_of le_bytes
  zeros-back =
      let n = length f.bytes in
      let zs : List ℕ = replicate (8 - n) 0 in
      let p : 13 + n ≡ 8 + (5 + n) = omega arith in
      let d : drop (13 + n) (timed f) ≡ zs =
      ap (λ (k : ℕ). drop k (timed f)) p ∙ sym (drop-drop (5 + n) 8 (timed f)) ∙ ap (drop (5 + n)) (frame-part f fine.id stamped fine.few)
      ∙ sym (drop-drop n 5 (record_of f.id f.bytes)) ∙ drop_at f.bytes zs n refl in
      ap (λ (k : ℕ). le (span (timed f) (13 + k) (8 - k))) sized
      ∙ ap (λ (x : List ℕ). le (take (8 - n) x)) d
      ∙ ap le (take_all (8 - n) zs (omega (arith, length-replicate {A = ℕ} (8 - n) 0))) ∙ le-zeros (8 - n)

  pub timed-back : carried (timed f) ≡ some f
  unfolding carried
  timed-back =
      let t : carriable (timed f) ≡ true =
      fit-carriable (timed f) (record {
        few = omega (arith, sized, fine.few);
        clear = zeros-back;
        whole = rw (stamp-back f fine.id stamped fine.few) fine.whole;
        time = rw (stamp-back f fine.id stamped fine.few) fine.time;
      }) in
      rw (t, frame_back f fine.id stamped fine.few)

-- ── a record that reads ──

le-none : (bs : List ℕ) → le bs ≡ 0 → bs ≡ replicate (length bs) 0
unfolding le
le-none [] h = refl
le-none (b ∷ bs) h =
    let x : b ≡ 0 = omega arith in
    let y : le bs ≡ 0 = omega arith in
    ap₂ (λ (u : ℕ) (v : List ℕ). u ∷ v) x (le-none bs y)

module _ (r : List ℕ) (h : Fit r) where
  pub bytes-few : length (frame_of r).bytes ≤ 8
  bytes-few =
      let k : get_or (drop 8 r) 4 0 ≡ size_of r = get_or-drop 8 r 4 0 in
      omega (arith, length-take (get_or (drop 8 r) 4 0) (drop 5 (drop 8 r)), h.few)

  module _ (len : length r ≡ 21) (o : Octets r) where
    length-d : length (drop 8 r) ≡ 13
    length-d = length-drop 8 r ∙ omega arith

    size-d : get_or (drop 8 r) 4 0 ≡ size_of r
    size-d = get_or-drop 8 r 4 0

    length-bytes : length (frame_of r).bytes ≡ size_of r
    length-bytes =
        ap (λ (k : ℕ). length (take k (drop 5 (drop 8 r)))) size-d
        ∙ length-take-le (size_of r) (drop 5 (drop 8 r)) (omega (arith, h.few, length-drop 5 (drop 8 r), length-d))

    time-text : le_bytes 8 (stamp_of r) ≡ take 8 r
    time-text =
        ap (λ (k : ℕ). le_bytes k (le (take 8 r))) (sym (length-take-le 8 r (omega arith))) ∙ le_bytes-le (take 8 r) (octets-take 8 r o)

    id-text : le_bytes 4 (le (take 4 (drop 8 r))) ≡ take 4 (drop 8 r)
    id-text =
        ap (λ (k : ℕ). le_bytes k (le (take 4 (drop 8 r)))) (sym (length-take-le 4 (drop 8 r) (omega (arith, length-d))))
        ∙ le_bytes-le (take 4 (drop 8 r)) (octets-take 4 (drop 8 r) (octets-drop 8 r o))

    -- what is past the data bytes
    zeros : drop (size_of r) (drop 5 (drop 8 r)) ≡ replicate (8 - size_of r) 0
    zeros =
        let n = size_of r in
        let x = drop n (drop 5 (drop 8 r)) in
        let p : 8 + (5 + n) ≡ 13 + n = omega arith in
        let m : x ≡ drop (13 + n) r = drop-drop n 5 (drop 8 r) ∙ drop-drop (5 + n) 8 r ∙ ap (λ (k : ℕ). drop k r) p in
        let l : length x ≡ 8 - n = ap length m ∙ length-drop (13 + n) r ∙ omega arith in
        let z : le x ≡ 0 = ap le (m ∙ sym (take_all (8 - n) (drop (13 + n) r) (omega (arith, ap length m)))) ∙ h.clear in
        le-none x z ∙ ap (λ (k : ℕ). replicate k 0) l

    data-text : (frame_of r).bytes ++ replicate (8 - length (frame_of r).bytes) 0 ≡ drop 5 (drop 8 r)
    data-text =
        let n = size_of r in
        ap (λ (k : ℕ). (frame_of r).bytes ++ replicate (8 - k) 0) length-bytes
        ∙ ap (λ (x : List ℕ). (frame_of r).bytes ++ x) (sym zeros)
        ∙ ap (λ (k : ℕ). take k (drop 5 (drop 8 r)) ++ drop n (drop 5 (drop 8 r))) size-d
        ∙ take-append-drop n (drop 5 (drop 8 r))

    frame-text : record_of (frame_of r).id (frame_of r).bytes ≡ drop 8 r
    unfolding record_of
    frame-text =
        ap₂ (λ (x y : List ℕ). x ++ y) id-text
        (ap₂ (λ (k : ℕ) (y : List ℕ). k ∷ y) (length-bytes ∙ sym size-d) data-text ∙ sym (drop-cons (drop 8 r) 4 0 (omega (arith, length-d))))
        ∙ take-append-drop 4 (drop 8 r)

    pub read-timed : timed (frame_of r) ≡ r
    unfolding timed
    read-timed = ap₂ (λ (x y : List ℕ). x ++ y) time-text frame-text ∙ take-append-drop 8 r

    pub read-carried : Carried (frame_of r)
    read-carried =
        record {
          whole = h.whole;
          time = h.time;
          id = rw (length-take-le 4 (drop 8 r) (omega (arith, length-d))) at (le-lt (take 4 (drop 8 r)) (octets-take 4 (drop 8 r) (octets-drop 8 r o)));
          few = omega (arith, length-bytes, h.few);
          octets = octets-span (drop 8 r) 5 (get_or (drop 8 r) 4 0) (octets-drop 8 r o);
        }

-- what was read is the frame of the record, which a line can carry
pub record Is (r : List ℕ) (f : Frame) : Type 0 where
  pub fit : Fit r
  pub frame : frame_of r ≡ f

pub is_read : (r : List ℕ) (f : Frame) → carried r ≡ some f → Is r f
unfolding carried
is_read r f = go (carriable r) refl where
  go : (t : Bool) → carriable r ≡ t → pick t (some (frame_of r)) none ≡ some f → Is r f
  go false q e = let z : ◌≡◌ {A = ℕ} 0 1 = cc in absurd (omega arith)
  go true q e = record { fit = carriable-fit r q; frame = cc }

pub carried-is : (r : List ℕ) → carriable r ≡ true → carried r ≡ some (frame_of r)
unfolding carried
carried-is r h = rw h

pub carried-not : (r : List ℕ) → carriable r ≡ false → carried r ≡ none
unfolding carried
carried-not r h = rw h
