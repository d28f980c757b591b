-- What the calls and the programs use of the walks' contracts.
use mathlib.Core.Path.{◌≡◌, sym, ap, ap₂, ◌∙◌}
use mathlib.Core.Bool.{true, false}
use mathlib.Core.List.{List, ◌++◌}
use mathlib.Core.Option.{Option, none, some}
use Prim.Native.Nat.{ℕ, ◌+◌, ◌*◌, ◌-◌, ◌/◌, ◌^◌, ◌≤◌, ◌<◌}
use native.Mathlib.Omega.{arith}
use borrow.Author.Tests.{lt-ltb, le-ltb, le-leb, lt-leb}
use lib.ListN.{length, take, drop, length-append, length-drop}
use lib.Seq.{take_all}
use Rattle.bits.specs.Little.{le}
use Rattle.bits.specs.Part.{span, splice}
use Rattle.bits.proofs.Splice.{length-span, splice-next, take-splice}
use Rattle.rules.specs.Condition3.{All}
use Rattle.rules.specs.Frame.{Frame}
use Rattle.log_line.specs.Line.{Carried}
use Rattle.log_line.specs.Lines.{cut}
use Rattle.capture_convert.specs.Capture.{sum_of, records_of, trailer_of, capture_of, trailer_in, count_in, formed, records_in, trailed, carried_all}
use Rattle.capture_convert.specs.Convert.{stored, packed, captured, unpacked, uncaptured}
use Rattle.capture_convert.specs.Log.{log_of, frames_of}
use Rattle.std.specs.Prelude.{Ok, Err, MatchResult}
use Rattle.std.specs.Prelude as std
use Rattle.capture_convert.specs.inside.Walks.{Walked, Recorded, Broken, count_of, Measured, Halted, Prints, Lined, Read, Located}
use Rattle.capture_convert.specs.declared.answer.ConvertError.TheVariants.{IllFormed, TooMany, NoCapture, NotCarried, OutputSmall}
use Rattle.capture_convert.specs.declared.records.Ran as ran
use Rattle.capture_convert.specs.declared.trailer.Trailer as trailer
use Rattle.capture_convert.proofs.Captures.{log-bounds}
use Rattle.capture_convert.proofs.Frames.{length-records}
use Rattle.capture_convert.proofs.Logs.{whole-log}
use Rattle.capture_convert.proofs.Trailers.{right-trailed, not-formed, not-inside, wrong-sum, length-trailer}

-- ── a log to a capture ──

pub ill-formed : (p out : List ℕ) → frames_of p ≡ none → record { answer = Err IllFormed; out = out } ≡ captured p out
unfolding packed
ill-formed p out e = ap (λ (x : Option (List Frame)). packed x out) (sym e)

module _ (p out : List ℕ) (n : ℕ) (f : Walked p n) where
  carried-frames : All Carried f.frames
  carried-frames = (whole-log p f.frames f.read).carried

  pub size : length (capture_of f.frames) ≡ n * 21 + 16
  unfolding capture_of
  size =
      length-append (records_of f.frames) (trailer_of (length f.frames) (sum_of (records_of f.frames)))
      ∙ omega (arith, length-records f.frames carried-frames, length-trailer (length f.frames) (sum_of (records_of f.frames)), f.count)

  pub too_many : 2 ^ 32 ≤ n → record { answer = Err TooMany; out = out } ≡ captured p out
  unfolding packed
  too_many h = rw (f.read, le-ltb (length f.frames) (2 ^ 32) (omega (arith, f.count)))

  module _ (few : n < 2 ^ 32) where
    fits : captured p out ≡ stored (capture_of f.frames) out
    unfolding packed
    fits = rw (f.read, lt-ltb (length f.frames) (2 ^ 32) (omega (arith, f.count)))

    pub too_small : length out < n * 21 + 16 → record { answer = Err OutputSmall; out = out } ≡ captured p out
    unfolding stored
    too_small h = sym (fits ∙ rw (lt-leb (length (capture_of f.frames)) (length out) (omega (arith, size))))

    pub room : n * 21 + 16 ≤ length out → 21 * length (cut p).whole ≤ length out
    room h = omega (arith, f.count, f.lines)

    module _ (h : n * 21 + 16 ≤ length out) (r : std.Result ran.Ran ℕ) (out' : List ℕ)
        (d : MatchResult r (λ x. Recorded p out x out') (λ k. Broken p k out')) where
      records-there : out' ≡ splice out 0 (records_of f.frames)
      records-there = go r d where
        go : (r : std.Result ran.Ran ℕ) → MatchResult r (λ x. Recorded p out x out') (λ k. Broken p k out') → out' ≡ splice out 0 (records_of f.frames)
        go (Ok x) q =
            let e : some q.frames ≡ some f.frames = sym q.said ∙ (whole-log p f.frames f.read).said in
            let y : q.frames ≡ f.frames = cc in
            q.text ∙ ap (λ (gs : List Frame). splice out 0 (records_of gs)) y
        go (Err k) q =
            let x : ◌≡◌ {A = Option (List Frame)} none (some f.frames) = sym q.said ∙ (whole-log p f.frames f.read).said in
            let z : ◌≡◌ {A = ℕ} 0 1 = cc in
            absurd (omega arith)

      length-there : length (records_of f.frames) ≡ n * 21
      length-there = length-records f.frames carried-frames ∙ omega (arith, f.count)

      front : take (n * 21) out' ≡ records_of f.frames
      front = ap (take (n * 21)) records-there
          ∙ take-splice out 0 (records_of f.frames) (omega (arith, length-there)) (n * 21) (omega (arith, length-there))

      pub made : (sum : ℕ) (out'' : List ℕ) → sum ≡ sum_of (span out' 0 (n * 21 - 0)) → out'' ≡ splice out' (n * 21) (trailer_of n sum)
          → record { answer = Ok (n * 21 + 16); out = out'' } ≡ captured p out
      unfolding stored capture_of
      made sum out'' e q =
          let k : n * 21 ≡ 0 + n * 21 = omega arith in
          let z : n * 21 - 0 ≡ n * 21 = omega arith in
          let w : out'' ≡ splice out 0 (records_of f.frames ++ trailer_of n sum) =
          splice-next out out' out'' 0 (n * 21) (records_of f.frames) (trailer_of n sum) (omega arith) length-there records-there
          (q ∙ ap (λ (i : ℕ). splice out' i (trailer_of n sum)) k) in
          let s : records_of f.frames ++ trailer_of n sum ≡ capture_of f.frames =
          ap₂ (λ (a b : ℕ). records_of f.frames ++ trailer_of a b) f.count (e ∙ ap (λ (i : ℕ). sum_of (take i out')) z ∙ ap sum_of front) in
          sym (fits ∙ rw (le-leb (length (capture_of f.frames)) (length out) (omega (arith, size)))
          (ap₂ (λ (a : ℕ) (b : List ℕ). record { answer = Ok a; out = b }) size (sym (w ∙ ap (λ (x : List ℕ). splice out 0 x) s))))

-- ── a capture to a log ──

module _ (c : List ℕ) (long : 16 ≤ length c) where
  tail : span c (length c - 16) (length c - (length c - 16)) ≡ trailer_in c
  tail = take_all (length c - (length c - 16)) (drop (length c - 16) c) (omega (arith, length-drop (length c - 16) c))

  pub unformed : formed (span c (length c - 16) (length c - (length c - 16))) ≡ false → trailed c ≡ false
  unformed h = not-formed c long (ap formed (sym tail) ∙ h)

  module _ (t : trailer.Trailer) (rd : Read (span c (length c - 16) (length c - (length c - 16))) t) where
    count-there : t.count ≡ count_in (trailer_in c)
    count-there = rd.count ∙ ap count_in tail

    formed-there : formed (trailer_in c) ≡ true
    formed-there = ap formed (sym tail) ∙ rd.ok

    pub outside : length c - 16 < t.count * 21 → trailed c ≡ false
    outside h = not-inside c long formed-there (omega (arith, count-there))

    module _ (inside : t.count * 21 ≤ length c - 16) (s : ℕ)
        (is : s ≡ sum_of (span c (length c - 16 - t.count * 21) (length c - 16 - (length c - 16 - t.count * 21)))) where
      sum-there : s ≡ sum_of (records_in c (count_in (trailer_in c)))
      sum-there =
          let a : length c - 16 - t.count * 21 ≡ length c - 16 - 21 * count_in (trailer_in c) = omega (arith, count-there) in
          let b : length c - 16 - (length c - 16 - t.count * 21) ≡ 21 * count_in (trailer_in c) = omega (arith, count-there) in
          is ∙ ap₂ (λ (i j : ℕ). sum_of (span c i j)) a b

      pub matched : s ≡ t.sum → Located c (length c - 16 - t.count * 21)
      matched h =
          record {
            right = right-trailed c (record {
              long = long;
              formed = formed-there;
              inside = omega (arith, count-there);
              sum = ap (λ (x : List ℕ). le (span x 12 2)) (sym tail) ∙ sym rd.sum ∙ sym h ∙ sum-there;
            });
            start = omega (arith, count-there);
            end = omega (arith, count-there);
            few = omega (arith, count-there, rd.few);
          }

      pub mismatched : (s ≡ t.sum → ⊥) → trailed c ≡ false
      mismatched h =
          wrong-sum c long formed-there (omega (arith, count-there))
          (λ q. h (sum-there ∙ sym q ∙ ap (λ (x : List ℕ). le (span x 12 2)) (sym tail) ∙ sym rd.sum))

pub size-there : (c : List ℕ) (from : ℕ) → Located c from → length (span c from (length c - 16 - from)) ≡ 21 * count_in (trailer_in c)
size-there c from p = length-span c from (length c - 16 - from) (omega (arith, p.end)) ∙ omega (arith, p.end)

pub no_capture : (c out : List ℕ) → trailed c ≡ false → record { answer = Err NoCapture; out = out } ≡ uncaptured c out
unfolding uncaptured
no_capture c out t = rw t

module _ (c out : List ℕ) (from : ℕ) (p : Located c from) (b : List ℕ) (is : b ≡ span c from (length c - 16 - from)) where
  pub records-are : records_in c (count_in (trailer_in c)) ≡ b
  records-are =
      let k : length c - 16 - from ≡ 21 * count_in (trailer_in c) = omega (arith, p.end) in
      sym (is ∙ ap₂ (λ (i j : ℕ). span c i j) p.start k)

  count-is : length b ≡ 21 * count_in (trailer_in c) → count_of b ≡ count_in (trailer_in c)
  count-is l = omega (arith, l)

  module _ (l : length b ≡ 21 * count_in (trailer_in c)) where
    answered : uncaptured c out ≡ unpacked (carried_all (count_of b) b) out
    unfolding uncaptured
    answered = rw (p.right, records-are, count-is l)

    pub not_carried : Halted b → record { answer = Err NotCarried; out = out } ≡ uncaptured c out
    unfolding unpacked
    not_carried e = sym (answered ∙ ap (λ (x : Option (List Frame)). unpacked x out) e)

-- a block of records with room for as many of the longest lines
pub prints : (b : List ℕ) (n room : ℕ) → Measured b n → 47 * (length b / 21) ≤ room → Prints b room
prints b n room p r =
    record { frames = p.frames; carried = p.carried; room = omega (arith, (log-bounds (length b / 21) b p.frames p.carried).1) }

module _ (c out : List ℕ) (from : ℕ) (p : Located c from) (b : List ℕ) (is : b ≡ span c from (length c - 16 - from))
    (l : length b ≡ 21 * count_in (trailer_in c)) (n : ℕ) (q : Measured b n) where
  log-answer : uncaptured c out ≡ stored (log_of q.frames) out
  unfolding unpacked
  log-answer = answered c out from p b is l ∙ ap (λ (x : Option (List Frame)). unpacked x out) q.carried

  pub short-log : n < 2 ^ 38
  short-log = omega (arith, q.len, (log-bounds (count_of b) b q.frames q.carried).1, l, p.few)

  pub small-log : length out < n → record { answer = Err OutputSmall; out = out } ≡ uncaptured c out
  unfolding stored
  small-log h = sym (log-answer ∙ rw (lt-leb (length (log_of q.frames)) (length out) (omega (arith, q.len))))

  pub enough : n ≤ length out → Prints b (length out)
  enough h = record { frames = q.frames; carried = q.carried; room = omega (arith, q.len) }

  pub printed : (e : ℕ) (out' : List ℕ) → n ≤ length out → Lined b out e out' → record { answer = Ok n; out = out' } ≡ uncaptured c out
  unfolding stored
  printed e out' h d =
      sym (log-answer ∙ rw (le-leb (length (log_of q.frames)) (length out) (omega (arith, q.len)))
      (ap₂ (λ (a : ℕ) (x : List ℕ). record { answer = Ok a; out = x }) (sym q.len) (sym (d.text q.frames q.carried))))
