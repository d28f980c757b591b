-- A line that reads is the line of what was read, and the line of a frame reads as that frame.
use mathlib.Core.Path.{◌≡◌, refl, sym, ap, ap₂, ◌∙◌}
use mathlib.Core.Bool.{Bool, true, false}
use mathlib.Core.List.{List, [], ◌∷◌, ◌++◌, append_assoc}
use mathlib.Core.Option.{Option, none, some}
use Prim.Native.Nat.{ℕ, zero, suc, ◌+◌, ◌*◌, ◌-◌, ◌/◌, ◌%◌, ◌^◌, ◌≤◌, ◌<◌}
use native.Mathlib.Numerals.{add-one}
use native.Mathlib.Nat.{add-zero}
use native.Mathlib.Omega.{arith}
use borrow.Author.Tests.{eq-eqb, eqb-true}
use lib.Dec.{eqb}
use lib.ListN.{length, get_or, take, drop, length-append, length-drop, take-append-drop}
use lib.Seq.{take-add, take-suc, drop-cons, drop-drop, drop-length, take_at, drop_at, drop-append-add, get_or-drop}
use Rattle.bits.specs.Order.{Octets}
use Rattle.bits.specs.Part.{span}
use Rattle.bits.proofs.Splice.{length-span}
use Rattle.rules.specs.Frame.{Frame}
use Rattle.rules.specs.Tests.{pick}
use Rattle.digits.specs.Digits.{digits, count_of, decimal, number}
use Rattle.digits.specs.Find.{before}
use Rattle.digits.proofs.Before.{at_before}
use Rattle.digits.proofs.Digits.{length_digits, number_digits, digits-read, count-pos, count-le, count_fits, before-dot}
use Rattle.log_line.specs.Line.{time_text, data_text, line_of, Carried}
use Rattle.log_line.specs.Reading.{pair_of, paired, pairs, shaped, framed, fields_of, said}
use Rattle.log_line.proofs.Steps.{Shape, shape, reshape, pair_lt, field_lt, sec-lt}

-- a field that reads is the digits of its number
field-text : (b : ℕ) → b ≤ 16 → 0 < b → (l : List ℕ) (at n v : ℕ) → at + n ≤ length l → number b (span l at n) ≡ some v
    → digits b n v ≡ span l at n
field-text b few pos l at n v h e = rw (length-span l at n h) at (digits-read b few pos 0 (span l at n) v e).digits

-- ── data bytes that read ──

record Data (k : ℕ) (l bs : List ℕ) : Type 0 where
  text : data_text bs ≡ take (k * 3) l
  len : length bs ≡ k
  octets : Octets bs

pair-text : (l : List ℕ) (b : ℕ) → 3 ≤ length l → pair_of l ≡ some b → 32 ∷ digits 16 2 b ≡ take 3 l
unfolding pair_of
pair-text l b h e = go (eqb (get_or l 0 0) 32) refl e where
  go : (t : Bool) → eqb (get_or l 0 0) 32 ≡ t → pick t (number 16 (span l 1 2)) none ≡ some b → 32 ∷ digits 16 2 b ≡ take 3 l
  go false q r = let z : ◌≡◌ {A = ℕ} 0 1 = cc in absurd (omega arith)
  go true q r =
      ap₂ (λ (x : ℕ) (y : List ℕ). x ∷ y) (sym (eqb-true (get_or l 0 0) 32 q)) (field-text 16 (omega arith) (omega arith) l 1 2 b (omega arith) r)
      ∙ ap (λ (x : List ℕ). x ++ span l 1 2) (sym (take-suc l 0 0 (omega arith))) ∙ sym (take-add 1 2 l)

data-text : (k : ℕ) (l bs : List ℕ) → k * 3 ≤ length l → pairs k l ≡ some bs → Data k l bs
unfolding pairs data_text
data-text zero l bs h e =
    let q : bs ≡ [] = cc in
    record { text = rw q; len = rw q; octets = rw q tt }
data-text (suc k) l bs h e = go (pair_of l) (pairs k (drop 3 l)) refl refl (λ x y. data-text k (drop 3 l) x (rw (length-drop 3 l) (omega arith))
    y) e where
      go : (o : Option ℕ) (p : Option (List ℕ)) → pair_of l ≡ o → pairs k (drop 3 l) ≡ p
          → ((x : List ℕ) → pairs k (drop 3 l) ≡ some x → Data k (drop 3 l) x) → paired o p ≡ some bs
          → Data (suc k) l bs
      go none p a d ih r = let z : ◌≡◌ {A = ℕ} 0 1 = cc in absurd (omega arith)
      go (some b) none a d ih r = let z : ◌≡◌ {A = ℕ} 0 1 = cc in absurd (omega arith)
      go (some b) (some more) a d ih r =
          let q : bs ≡ b ∷ more = cc in
          let i = ih more d in
          let n : suc k * 3 ≡ 3 + k * 3 = omega arith in
          record {
            text = rw (q, n, take-add 3 (k * 3) l, ← pair-text l b (omega arith) a, ← i.text);
            len = rw q (ap suc i.len);
            octets = rw q (pair_lt l b (omega arith) a, i.octets);
          }

-- ── a line that reads ──

module _ (s sec ms id : ℕ) (l bs : List ℕ) (dot : get_or l s 0 ≡ 46) (h : Shape s l) (e₁ : number 10 (span l 0 s) ≡ some sec)
    (e₂ : number 10 (span l (s + 1) 3) ≡ some ms)
    (e₃ : number 16 (span l (s + 5) 8) ≡ some id) (e₄ : pairs ((length l - (s + 14)) / 3) (drop (s + 13) l) ≡ some bs) (c : count_of sec ≡ s)
  where
    k : ℕ
    k = (length l - (s + 14)) / 3

    all-data : Data k (drop (s + 13) l) bs
    unfolding k
    all-data = data-text ((length l - (s + 14)) / 3) (drop (s + 13) l) bs (rw (length-drop (s + 13) l) (omega (arith, h.long))) e₄

    from_end : drop (k * 3) (drop (s + 13) l) ≡ 10 ∷ []
    unfolding k
    from_end =
        let e : s + 13 + (length l - (s + 14)) / 3 * 3 ≡ length l - 1 = omega (arith, h.long, h.whole) in
        let f : suc (length l - 1) ≡ length l = omega (arith, h.long) in
        drop-drop ((length l - (s + 14)) / 3 * 3) (s + 13) l ∙ ap (λ (n : ℕ). drop n l) e
        ∙ drop-cons l (length l - 1) 0 (omega (arith, h.long)) ∙ ap₂ (λ (x : ℕ) (y : List ℕ). x ∷ y) h.end (ap (λ (n : ℕ). drop n l) f
        ∙ drop-length l)

    from-data : data_text bs ++ (10 ∷ []) ≡ drop (s + 13) l
    from-data = ap₂ (λ (x y : List ℕ). x ++ y) all-data.text (sym from_end) ∙ take-append-drop (k * 3) (drop (s + 13) l)

    from-id : 32 ∷ (digits 16 8 id ++ (data_text bs ++ (10 ∷ []))) ≡ drop (s + 4) l
    from-id =
        let e : suc (s + 4) ≡ s + 5 = omega arith in
        let f : s + 5 + 8 ≡ s + 13 = omega arith in
        ap₂ (λ (x : ℕ) (y : List ℕ). x ∷ y) (sym h.space)
        (ap₂ (λ (x y : List ℕ). x ++ y) (field-text 16 (omega arith) (omega arith) l (s + 5) 8 id (omega (arith, h.long)) e₃) (from-data
        ∙ ap (λ (n : ℕ). drop n l) (sym f) ∙ sym (drop-drop 8 (s + 5) l))
        ∙ take-append-drop 8 (drop (s + 5) l) ∙ ap (λ (n : ℕ). drop n l) (sym e))
        ∙ sym (drop-cons l (s + 4) 0 (omega (arith, h.long)))

    from-dot : 46 ∷ (digits 10 3 ms ++ (32 ∷ (digits 16 8 id ++ (data_text bs ++ (10 ∷ []))))) ≡ drop s l
    from-dot =
        let f : s + 1 + 3 ≡ s + 4 = omega arith in
        ap₂ (λ (x : ℕ) (y : List ℕ). x ∷ y) (sym dot)
        (ap₂ (λ (x y : List ℕ). x ++ y) (field-text 10 (omega arith) (omega arith) l (s + 1) 3 ms (omega (arith, h.long)) e₂)
        (from-id ∙ ap (λ (n : ℕ). drop n l) (sym f) ∙ sym (drop-drop 3 (s + 1) l))
        ∙ take-append-drop 3 (drop (s + 1) l) ∙ ap (λ (n : ℕ). drop n l) (add-one s))
        ∙ sym (drop-cons l s 0 (omega (arith, h.long)))

    ms-lt : ms < 1000
    ms-lt = field_lt 10 (omega arith) (omega arith) l (s + 1) 3 ms (omega (arith, h.long)) e₂

    time-text : time_text (sec * 1000000 + ms * 1000) ≡ digits 10 s sec ++ (46 ∷ digits 10 3 ms)
    unfolding time_text decimal
    time-text =
        let x : (sec * 1000000 + ms * 1000) / 1000000 ≡ sec = omega (arith, ms-lt) in
        let y : (sec * 1000000 + ms * 1000) / 1000 % 1000 ≡ ms = omega (arith, ms-lt) in
        rw (x, y, c)

    line-text : line_of (record { id = id; bytes = bs; time = sec * 1000000 + ms * 1000 }) ≡ l
    unfolding line_of
    line-text =
        ap (λ (x : List ℕ). x ++ (32 ∷ (digits 16 8 id ++ (data_text bs ++ (10 ∷ []))))) time-text
        ∙ append_assoc (digits 10 s sec) (46 ∷ digits 10 3 ms) (32 ∷ (digits 16 8 id ++ (data_text bs ++ (10 ∷ []))))
        ∙ ap₂ (λ (x y : List ℕ). x ++ y) (field-text 10 (omega arith) (omega arith) l 0 s sec (omega (arith, h.long)) e₁) from-dot
        ∙ take-append-drop s l

    is_carried : Carried (record { id = id; bytes = bs; time = sec * 1000000 + ms * 1000 })
    unfolding k
    is_carried =
        let x : sec < 10 ^ 9 = sec-lt s l sec h.few (omega (arith, h.long)) e₁ in
        let z : id < 16 ^ 8 = field_lt 16 (omega arith) (omega arith) l (s + 5) 8 id (omega (arith, h.long)) e₃ in
        record {
          whole = omega arith;
          time = omega (arith, x, ms-lt);
          id = omega (arith, z);
          few = omega (arith, all-data.len, h.short);
          octets = all-data.octets;
        }

-- the steps of reading, taken apart
pub record Read (l : List ℕ) (f : Frame) : Type 0 where
  pub line : line_of f ≡ l
  pub carried : Carried f

took : (s : ℕ) (l : List ℕ) (f : Frame) → get_or l s 0 ≡ 46 → Shape s l → fields_of s l ≡ some f → Read l f
unfolding fields_of framed
took s l f dot h e = go (number 10 (span l 0 s)) (number 10 (span l (s + 1) 3)) (number 16 (span l (s + 5) 8))
    (pairs ((length l - (s + 14)) / 3) (drop (s + 13) l)) refl refl refl refl e where
      counted : (sec ms id : ℕ) (bs : List ℕ) (t : Bool) → eqb (count_of sec) s ≡ t → number 10 (span l 0 s) ≡ some sec
          → number 10 (span l (s + 1) 3) ≡ some ms → number 16 (span l (s + 5) 8) ≡ some id
          → pairs ((length l - (s + 14)) / 3) (drop (s + 13) l) ≡ some bs
          → pick t (some (record { id = id; bytes = bs; time = sec * 1000000 + ms * 1000 })) none ≡ some f → Read l f
      counted sec ms id bs false q a b d g r = let z : ◌≡◌ {A = ℕ} 0 1 = cc in absurd (omega arith)
      counted sec ms id bs true q a b d g r =
          let z : record { id = id; bytes = bs; time = sec * 1000000 + ms * 1000 } ≡ f = cc in
          let n = eqb-true (count_of sec) s q in
          rw (← z) (record { line = line-text s sec ms id l bs dot h a b d g n; carried = is_carried s sec ms id l bs dot h a b d g n })

      go : (o p q : Option ℕ) (w : Option (List ℕ)) → number 10 (span l 0 s) ≡ o → number 10 (span l (s + 1) 3) ≡ p
          → number 16 (span l (s + 5) 8) ≡ q
          → pairs ((length l - (s + 14)) / 3) (drop (s + 13) l) ≡ w → framed s o p q w ≡ some f → Read l f
      go none p q w a b d g r = let z : ◌≡◌ {A = ℕ} 0 1 = cc in absurd (omega arith)
      go (some sec) none q w a b d g r = let z : ◌≡◌ {A = ℕ} 0 1 = cc in absurd (omega arith)
      go (some sec) (some ms) none w a b d g r = let z : ◌≡◌ {A = ℕ} 0 1 = cc in absurd (omega arith)
      go (some sec) (some ms) (some id) none a b d g r = let z : ◌≡◌ {A = ℕ} 0 1 = cc in absurd (omega arith)
      go (some sec) (some ms) (some id) (some bs) a b d g r = counted sec ms id bs (eqb (count_of sec) s) refl a b d g r

pub read : (l : List ℕ) (f : Frame) → said l ≡ some f → Read l f
unfolding said
read l f e = go (shaped (before 46 l) l) refl e where
  go : (t : Bool) → shaped (before 46 l) l ≡ t → pick t (fields_of (before 46 l) l) none ≡ some f → Read l f
  go false q r = let z : ◌≡◌ {A = ℕ} 0 1 = cc in absurd (omega arith)
  go true q r =
      let h = shape (before 46 l) l q in
      took (before 46 l) l f (at_before 46 l (omega (arith, h.long))) h r

-- ── the line of a frame ──

pub data-length : (bs : List ℕ) → length (data_text bs) ≡ length bs * 3
unfolding data_text
data-length [] = refl
data-length (b ∷ bs) = omega (arith, length-append (digits 16 2 b) (data_text bs), length_digits 16 2 b, data-length bs)

pub time-length : (t : ℕ) → length (time_text t) ≡ count_of (t / 1000000) + 4
unfolding time_text decimal
time-length t =
    omega (
      arith,
      length-append (digits 10 (count_of (t / 1000000)) (t / 1000000)) (46 ∷ digits 10 3 (t / 1000 % 1000)),
      length_digits 10 (count_of (t / 1000000)) (t / 1000000),
      length_digits 10 3 (t / 1000 % 1000),
    )

pub line-length : (f : Frame) → length (line_of f) ≡ count_of (f.time / 1000000) + 14 + length f.bytes * 3
unfolding line_of
line-length f =
    omega (
      arith,
      length-append (time_text f.time) (32 ∷ (digits 16 8 f.id ++ (data_text f.bytes ++ (10 ∷ [])))),
      time-length f.time,
      length-append (digits 16 8 f.id) (data_text f.bytes ++ (10 ∷ [])),
      length_digits 16 8 f.id,
      length-append (data_text f.bytes) (10 ∷ []),
      data-length f.bytes,
    )

-- bytes read back, whatever follows them
data-back : (bs rest : List ℕ) → Octets bs → pairs (length bs) (data_text bs ++ rest) ≡ some bs
unfolding pairs pair_of data_text
data-back [] rest h = refl
data-back (b ∷ bs) rest h =
    let t : take 2 ((digits 16 2 b ++ data_text bs) ++ rest) ≡ digits 16 2 b =
    ap (λ (x : List ℕ). take 2 x) (append_assoc (digits 16 2 b) (data_text bs) rest)
    ∙ take_at (digits 16 2 b) (data_text bs ++ rest) 2 (length_digits 16 2 b) in
    let d : drop 2 ((digits 16 2 b ++ data_text bs) ++ rest) ≡ data_text bs ++ rest =
    ap (λ (x : List ℕ). drop 2 x) (append_assoc (digits 16 2 b) (data_text bs) rest)
    ∙ drop_at (digits 16 2 b) (data_text bs ++ rest) 2 (length_digits 16 2 b) in
    let n : number 16 (digits 16 2 b) ≡ some b = number_digits 16 (omega arith) (omega arith) 2 b (omega (arith, h.0)) in
    rw (t, n, d, data-back bs rest h.1)

-- what a list that is dropped into begins with
front : (l : List ℕ) (k c : ℕ) (rest : List ℕ) → drop k l ≡ c ∷ rest → c ≡ get_or l k 0
front l k c rest e = sym (sym (ap (λ (n : ℕ). get_or l n 0) (add-zero k)) ∙ sym (get_or-drop k l 0 0) ∙ ap (λ (x : List ℕ). get_or x 0 0) e)

module _ (f : Frame) (fine : Carried f) where
  sec : ℕ
  sec = f.time / 1000000

  ms : ℕ
  ms = f.time / 1000 % 1000

  s : ℕ
  s = count_of (f.time / 1000000)

  -- what follows the seconds, the milliseconds, the ID
  behind-id : List ℕ
  behind-id = data_text f.bytes ++ (10 ∷ [])

  behind-ms : List ℕ
  behind-ms = 32 ∷ (digits 16 8 f.id ++ (data_text f.bytes ++ (10 ∷ [])))

  text : line_of f ≡ digits 10 s sec ++ (46 ∷ (digits 10 3 ms ++ behind-ms))
  unfolding line_of time_text decimal sec ms s behind-ms
  text = append_assoc (digits 10 (count_of (f.time / 1000000)) (f.time / 1000000)) (46 ∷ digits 10 3 (f.time / 1000 % 1000))
      (32 ∷ (digits 16 8 f.id ++ (data_text f.bytes ++ (10 ∷ []))))

  dot_at : before 46 (line_of f) ≡ s
  dot_at = rw text (before-dot 10 s sec (digits 10 3 ms ++ behind-ms))

  drop-to : (n : ℕ) → drop (s + n) (line_of f) ≡ drop n (46 ∷ (digits 10 3 ms ++ behind-ms))
  drop-to n =
      rw (text, ap (λ (k : ℕ). k + n) (sym (length_digits 10 s sec)))
      (drop-append-add (digits 10 s sec) (46 ∷ (digits 10 3 ms ++ behind-ms)) n)

  after-ms : drop 4 (46 ∷ (digits 10 3 ms ++ behind-ms)) ≡ behind-ms
  after-ms = drop_at (digits 10 3 ms) behind-ms 3 (length_digits 10 3 ms)

  to-id : drop (s + 5) (line_of f) ≡ digits 16 8 f.id ++ behind-id
  unfolding behind-ms behind-id
  to-id =
      let e : s + 4 + 1 ≡ s + 5 = omega arith in
      ap (λ (k : ℕ). drop k (line_of f)) (sym e) ∙ sym (drop-drop 1 (s + 4) (line_of f)) ∙ ap (λ (x : List ℕ). drop 1 x) (drop-to 4 ∙ after-ms)

  to-data : drop (s + 13) (line_of f) ≡ behind-id
  to-data =
      let e : s + 5 + 8 ≡ s + 13 = omega arith in
      ap (λ (k : ℕ). drop k (line_of f)) (sym e) ∙ sym (drop-drop 8 (s + 5) (line_of f)) ∙ ap (λ (x : List ℕ). drop 8 x) to-id
      ∙ drop_at (digits 16 8 f.id) behind-id 8 (length_digits 16 8 f.id)

  long : length (line_of f) ≡ s + 14 + length f.bytes * 3
  unfolding s
  long = line-length f

  s-some : 0 < s
  unfolding s
  s-some = count-pos (f.time / 1000000)

  sec-lt' : sec < 10 ^ s
  unfolding s sec
  sec-lt' = count_fits (f.time / 1000000)

  s-few : s ≤ 9
  unfolding s
  s-few = count-le 8 (f.time / 1000000) (omega (arith, fine.time))

  -- 9 seconds' digits and 8 bytes at most
  pub line-short : length (line_of f) ≤ 47
  line-short = omega (arith, long, s-few, fine.few)

  line-shape : Shape s (line_of f)
  unfolding behind-ms behind-id
  line-shape =
      let g : s + 13 + length f.bytes * 3 ≡ length (line_of f) - 1 = omega (arith, long) in
      record {
        some = s-some;
        few = s-few;
        long = omega (arith, long);
        short = omega (arith, long, fine.few);
        whole = omega (arith, long);
        space = sym (front (line_of f) (s + 4) 32 _ (drop-to 4 ∙ after-ms));
        end =
            ap (λ (k : ℕ). get_or (line_of f) k 0) (sym g)
            ∙ sym (front (line_of f) (s + 13 + length f.bytes * 3) 10 [] (sym (drop-drop (length f.bytes * 3) (s + 13) (line_of f))
            ∙ ap (λ (x : List ℕ). drop (length f.bytes * 3) x) to-data
            ∙ drop_at (data_text f.bytes) (10 ∷ []) (length f.bytes * 3) (data-length f.bytes)));
      }

  seconds-back : number 10 (span (line_of f) 0 s) ≡ some sec
  seconds-back =
      rw (ap (λ (x : List ℕ). take s x) text ∙ take_at (digits 10 s sec) (46 ∷ (digits 10 3 ms ++ behind-ms)) s (length_digits 10 s sec))
      (number_digits 10 (omega arith) (omega arith) s sec sec-lt')

  milliseconds-back : number 10 (span (line_of f) (s + 1) 3) ≡ some ms
  unfolding ms
  milliseconds-back =
      rw (ap (λ (x : List ℕ). take 3 x) (drop-to 1) ∙ take_at (digits 10 3 ms) behind-ms 3 (length_digits 10 3 ms))
      (number_digits 10 (omega arith) (omega arith) 3 (f.time / 1000 % 1000) (omega arith))

  id-back : number 16 (span (line_of f) (s + 5) 8) ≡ some f.id
  id-back =
      rw (ap (λ (x : List ℕ). take 8 x) to-id ∙ take_at (digits 16 8 f.id) behind-id 8 (length_digits 16 8 f.id))
      (number_digits 16 (omega arith) (omega arith) 8 f.id (omega (arith, fine.id)))

  bytes_back : pairs ((length (line_of f) - (s + 14)) / 3) (drop (s + 13) (line_of f)) ≡ some f.bytes
  unfolding behind-id
  bytes_back =
      let e : (length (line_of f) - (s + 14)) / 3 ≡ length f.bytes = omega (arith, long) in
      rw (e, to-data) (data-back f.bytes (10 ∷ []) fine.octets)

  time-back : sec * 1000000 + ms * 1000 ≡ f.time
  unfolding sec ms
  time-back = omega (arith, fine.whole)

  pub line-back : said (line_of f) ≡ some f
  unfolding said fields_of framed s sec
  line-back =
      rw (
        dot_at,
        reshape s (line_of f) line-shape,
        seconds-back,
        milliseconds-back,
        id-back,
        bytes_back,
        eq-eqb (count_of (f.time / 1000000)) s
            refl,
        time-back,
      )

-- ── the time in front ──

pub record Timed (l : List ℕ) (f : Frame) : Type 0 where
  pub text : take (before 46 l + 4) l ≡ time_text f.time
  pub long : before 46 l + 4 ≤ length l
  pub few : before 46 l ≤ 9
  pub least : 15 ≤ length l

pub timed : (l : List ℕ) (f : Frame) → said l ≡ some f → Timed l f
unfolding line_of s
timed l f e =
    let r = read l f e in
    let fine = r.carried in
    let w = count_of (f.time / 1000000) in
    let d : before 46 l ≡ w = ap (before 46) (sym r.line) ∙ dot_at f fine in
    let t = time_text f.time in
    let n : length t ≡ w + 4 = time-length f.time in
    record {
      text = ap (λ (k : ℕ). take (k + 4) l) d ∙ ap (λ (x : List ℕ). take (w + 4) x) (sym r.line)
          ∙ take_at t (32 ∷ (digits 16 8 f.id ++ (data_text f.bytes ++ (10 ∷ [])))) (w + 4) n;
      long = omega (arith, d, ap length r.line, long f fine);
      few = omega (arith, d, s-few f fine);
      least = omega (arith, ap length r.line, long f fine, s-some f fine);
    }

-- ── a line that is too long ──

pub too_long : (l : List ℕ) → 48 ≤ length l → said l ≡ none
too_long l h = go (said l) refl where
  go : (o : Option Frame) → said l ≡ o → said l ≡ none
  go none e = e
  go (some f) e = let r = read l f e in absurd (omega (arith, ap length r.line, line-short f r.carried))
