-- The frames that carry bytes: how many, what the n-th is, and what a front part of them is.
use mathlib.Core.Path.{◌≡◌, refl, sym, ap, ap₂, ◌∙◌}
use mathlib.Core.Bool.{Bool, true, false, not, ◌&&◌, and-true, and-false, not-not}
use mathlib.Core.List.{List, [], ◌∷◌, ◌++◌, map, append-nil, nil≢cons, cons≢nil, head-eq_of_cons-eq, tail-eq_of_cons-eq}
use Prim.Native.Nat.{ℕ, zero, suc, ◌+◌, ◌*◌, ◌-◌, ◌/◌, ◌%◌, ◌≤◌, ◌<◌}
use native.Mathlib.Nat.{zero-add, suc-add}
use native.Mathlib.Omega.{arith}
use lib.Dec.{eqb, eqb-zero-suc, eqb-suc-zero, eqb-suc-suc}
use lib.ListN.{length, get_or, take, drop, length-append, length-take, length-drop, take-append-drop}
use lib.Seq.{get_or_at, take_at, drop_at, take_all, take-take, take-nil, drop-drop, drop-cons, drop-length, length-take-le}
use borrow.Author.Tests.{eqb-true, eqb-false, le-leb, lt-leb}
use Rattle.rules.specs.Frame.{tail_of, payload_of}
use Rattle.rules.specs.Sent.{tail_byte, framed, pieces, carrying, summed, with_sum, carried, sent}
use Rattle.rules.specs.SentLaws.{joined, opening, SentLaws}
use Rattle.rules.specs.Tests.{pick}

-- ── one frame ──

pub framed-length : (xs : List ℕ) (b : ℕ) → length (framed xs b) ≡ length xs + 1
framed-length xs b = length-append xs (b ∷ [])

pub framed-tail : (xs : List ℕ) (b : ℕ) → tail_of (framed xs b) ≡ b
framed-tail xs b = get_or_at xs b [] 0 (length (framed xs b) - 1) (omega (arith, framed-length xs b))

pub framed-payload : (xs : List ℕ) (b : ℕ) → payload_of (framed xs b) ≡ xs
framed-payload xs b = take_at xs (b ∷ []) (length (framed xs b) - 1) (omega (arith, framed-length xs b))

-- a frame is its payload and its tail
pub framed-back : (c : List ℕ) → 1 ≤ length c → c ≡ framed (payload_of c) (tail_of c)
framed-back c h =
    let e : suc (length c - 1) ≡ length c = omega arith in
    sym (take-append-drop (length c - 1) c)
    ∙ ap (λ l. payload_of c ++ l) (drop-cons c (length c - 1) 0 (omega arith) ∙ ap (λ l. tail_of c ∷ l) (ap (λ n. drop n c) e ∙ drop-length c))

payload-length : (c : List ℕ) (n : ℕ) → length c ≡ n + 1 → length (payload_of c) ≡ n
payload-length c n e = length-take-le (length c - 1) c (omega arith) ∙ omega arith

-- ── several ──

pub pieces-length : (n : ℕ) (s g : Bool) (t : ℕ) (xs : List ℕ) → length (pieces n s g t xs) ≡ suc n
unfolding pieces
pieces-length zero s g t xs = refl
pieces-length (suc n) s g t xs = ap suc (pieces-length n false (not g) t (drop 7 xs))

-- the toggle of the k-th frame from one with toggle g on
abbrev turned : Bool → ℕ → Bool
turned g k = pick (eqb (k % 2) 1) (not g) g

turned-suc : (g : Bool) (k : ℕ) → turned (not g) k ≡ turned g (suc k)
turned-suc g k = go (eqb (k % 2) 1) refl
  where
    go : (b : Bool) → eqb (k % 2) 1 ≡ b → pick b (not (not g)) (not g) ≡ turned g (suc k)
    go true e =
        let z : suc k % 2 ≡ 0 = omega (arith, eqb-true (k % 2) 1 e) in
        rw z (not-not g)
    go false e =
        let z : suc k % 2 ≡ 1 = omega (arith, eqb-false (k % 2) 1 e) in
        rw z

pieces-frame : (n : ℕ) (s g : Bool) (t : ℕ) (xs : List ℕ) (k : ℕ) → k ≤ n → length xs ≤ 7 * n + 7
    → get_or (pieces n s g t xs) k [] ≡ framed (take 7 (drop (7 * k) xs)) (tail_byte (s && eqb k 0) (eqb k n) (turned g k) t)
unfolding pieces
pieces-frame zero s g t xs zero h l = rw (and-true s, take_all 7 xs l)
pieces-frame zero s g t xs (suc k) h l = absurd (omega arith)
pieces-frame (suc n) s g t xs zero h l = rw (eqb-zero-suc n, and-true s)
pieces-frame (suc n) s g t xs (suc k) h l =
    let e : 7 + 7 * k ≡ 7 * suc k = omega arith in
    let q : drop (7 * k) (drop 7 xs) ≡ drop (7 * suc k) xs = drop-drop (7 * k) 7 xs ∙ ap (λ j. drop j xs) e in
    pieces-frame n false (not g) t (drop 7 xs) k (omega arith) (simp length-drop (omega arith))
    ∙ rw (eqb-suc-zero k, and-false s, eqb-suc-suc k n, q, turned-suc g k)

pieces-joined : (n : ℕ) (s g : Bool) (t : ℕ) (xs : List ℕ) → joined (pieces n s g t xs) ≡ xs
unfolding pieces joined
pieces-joined zero s g t xs = append-nil (payload_of (framed xs (tail_byte s true g t))) ∙ framed-payload xs (tail_byte s true g t)
pieces-joined (suc n) s g t xs =
    rw (framed-payload (take 7 xs) (tail_byte s false g t), pieces-joined n false (not g) t (drop 7 xs)) (take-append-drop 7 xs)

joined_length : (cs ds : List (List ℕ)) → map length cs ≡ map length ds → length (joined cs) ≡ length (joined ds)
unfolding joined
joined_length [] [] e = refl
joined_length [] (d ∷ ds) e = absurd (nil≢cons e)
joined_length (c ∷ cs) [] e = absurd (cons≢nil e)
joined_length (c ∷ cs) (d ∷ ds) e =
    let h : length c ≡ length d = head-eq_of_cons-eq e in
    simp (length-append, length-take) (omega (arith, joined_length cs ds (tail-eq_of_cons-eq e)))

-- frames that have the tails and the lengths of such frames are those that carry what they carry together
pieces-known : (n : ℕ) (s g : Bool) (t : ℕ) (xs : List ℕ) (cs : List (List ℕ)) → 7 * n ≤ length xs
    → map tail_of cs ≡ map tail_of (pieces n s g t xs) → map length cs ≡ map length (pieces n s g t xs) → cs ≡ pieces n s g t (joined cs)
unfolding pieces joined
pieces-known zero s g t xs [] h a b = absurd (nil≢cons a)
pieces-known (suc n) s g t xs [] h a b = absurd (nil≢cons a)
pieces-known zero s g t xs (c ∷ d ∷ cs) h a b = absurd (cons≢nil (tail-eq_of_cons-eq a))
pieces-known zero s g t xs (c ∷ []) h a b =
    let l : length c ≡ length xs + 1 = head-eq_of_cons-eq b ∙ framed-length xs (tail_byte s true g t) in
    let e : tail_of c ≡ tail_byte s true g t = head-eq_of_cons-eq a ∙ framed-tail xs (tail_byte s true g t) in
    ap (λ x. x ∷ []) (framed-back c (omega arith) ∙ ap₂ framed (sym (append-nil (payload_of c))) e)
pieces-known (suc n) s g t xs (c ∷ cs) h a b =
    let k : length (take 7 xs) ≡ 7 = length-take-le 7 xs (omega arith) in
    let l : length c ≡ 7 + 1 = head-eq_of_cons-eq b ∙ framed-length (take 7 xs) (tail_byte s false g t) ∙ ap (λ m. m + 1) k in
    let e : tail_of c ≡ tail_byte s false g t = head-eq_of_cons-eq a ∙ framed-tail (take 7 xs) (tail_byte s false g t) in
    let m : length (payload_of c) ≡ 7 = payload-length c 7 l in
    ap₂ (λ (x : List ℕ) (l : List (List ℕ)). x ∷ l)
    (framed-back c (omega arith) ∙ ap₂ framed (sym (take_at (payload_of c) (joined cs) 7 m)) e)
    (pieces-known n false (not g) t (drop 7 xs) cs (simp length-drop (omega arith)) (tail-eq_of_cons-eq a) (tail-eq_of_cons-eq b)
    ∙ ap (pieces n false (not g) t) (sym (drop_at (payload_of c) (joined cs) 7 m)))

pieces-front : (n : ℕ) (s g : Bool) (t : ℕ) (xs : List ℕ) (k : ℕ) → k ≤ n → take k (pieces n s g t xs) ≡ opening k s g t xs
unfolding pieces opening
pieces-front n s g t xs zero h = refl
pieces-front zero s g t xs (suc k) h = absurd (omega arith)
pieces-front (suc n) s g t xs (suc k) h =
    ap (λ l. framed (take 7 xs) (tail_byte s false g t) ∷ l) (pieces-front n false (not g) t (drop 7 xs) k (omega arith))

drop-take : (n m : ℕ) (l : List ℕ) → drop n (take (n + m) l) ≡ take m (drop n l)
drop-take zero m l = ap (λ k. take k l) (zero-add m)
drop-take (suc n) m [] = rw (suc-add n m, take-nil m)
drop-take (suc n) m (x ∷ l) = rw (suc-add n m) (drop-take n m l)

opening-take : (k : ℕ) (s g : Bool) (t : ℕ) (xs : List ℕ) → opening k s g t xs ≡ opening k s g t (take (7 * k) xs)
unfolding opening
opening-take zero s g t xs = refl
opening-take (suc k) s g t xs =
    let e : 7 * suc k ≡ 7 + 7 * k = omega arith in
    rw (e, take-take 7 (7 + 7 * k) xs (omega arith), drop-take 7 (7 * k) xs)
    (ap (λ l. framed (take 7 xs) (tail_byte s false g t) ∷ l) (opening-take k false (not g) t (drop 7 xs)))

-- ── the frames that carry bytes ──

-- how many full ones come before the last
abbrev pub fulls : List ℕ → ℕ
fulls xs = (length xs - 1) / 7

carrying-length : (t : ℕ) (xs : List ℕ) → length (carrying t xs) ≡ suc (fulls xs)
unfolding carrying
carrying-length t xs = pieces-length (fulls xs) true false t xs

module _ (t : ℕ) (xs : List ℕ) (n : ℕ) (h : n < length (carrying t xs)) where
  within : n ≤ fulls xs
  within = omega (arith, carrying-length t xs)

  carrying-frame : get_or (carrying t xs) n [] ≡ framed (take 7 (drop (7 * n) xs)) (tail_byte (eqb n 0) (eqb (suc n) (length (carrying t xs))) (eqb (n % 2) 1) t)
  unfolding carrying
  carrying-frame =
      pieces-frame (fulls xs) true false t xs n within (omega arith)
      ∙ rw (carrying-length t xs, eqb-suc-suc n (fulls xs))
      (ap (λ b. framed (take 7 (drop (7 * n) xs)) (tail_byte (eqb n 0) (eqb n (fulls xs)) b t)) (is_odd (eqb (n % 2) 1)))
    where
      is_odd : (b : Bool) → pick b true false ≡ b
      is_odd true = refl
      is_odd false = refl

  carrying-size : (1 ≤ length (get_or (carrying t xs) n [])) × (length (get_or (carrying t xs) n []) ≤ 8)
  carrying-size = rw carrying-frame (simp (framed-length, length-take) (omega arith))

  carrying-front : take n (carrying t xs) ≡ opening n true false t (take (7 * n) xs)
  unfolding carrying
  carrying-front = pieces-front (fulls xs) true false t xs n within ∙ opening-take n true false t xs

-- ── the frames of a payload ──

pub carried-short : (signature : ℕ) (p : List ℕ) → length p ≤ 7 → carried signature p ≡ p
unfolding carried
carried-short signature p h = rw (le-leb (length p) 7 h)

pub carried-long : (signature : ℕ) (p : List ℕ) → 7 < length p → carried signature p ≡ with_sum signature p
unfolding carried
carried-long signature p h = rw (lt-leb (length p) 7 h)

sent-single : (signature t : ℕ) (p : List ℕ) → length p ≤ 7 → sent signature t p ≡ framed p (tail_byte true true false t) ∷ []
unfolding sent carrying pieces
sent-single signature t p h =
    let z : fulls p ≡ 0 = omega arith in
    rw (carried-short signature p h, z)

sent-count : (signature t : ℕ) (p : List ℕ) → 7 < length p → length (sent signature t p) ≡ (length p + 8) / 7
unfolding sent
sent-count signature t p h = rw (carrying-length t (carried signature p), carried-long signature p h) (omega arith)

pub sent-laws : SentLaws
unfolding sent carrying
sent-laws =
    record {
      single = sent-single;
      count = sent-count;
      frame = λ signature t p n h. carrying-frame t (carried signature p) n h;
      size = λ signature t p n h. carrying-size t (carried signature p) n h;
      whole = λ signature t p. pieces-joined (fulls (carried signature p)) true false t (carried signature p);
      front = λ signature t p n h. carrying-front t (carried signature p) n h;
    }

-- frames that have the tails and the lengths of a payload's, and carry bytes that begin with some checksum
pub frames-known : (signature t : ℕ) (p : List ℕ) (cs : List (List ℕ)) (c : ℕ) (q : List ℕ) → 7 < length p → map tail_of cs ≡ map tail_of (sent signature t p)
    → map length cs ≡ map length (sent signature t p) → joined cs ≡ summed c q → (length p ≡ length q) × (cs ≡ carrying t (summed c q))
unfolding sent carrying
frames-known signature t p cs c q h a b e =
    let xs = carried signature p in
    let l : length (summed c q) ≡ length (with_sum signature p) =
    ap length (sym e) ∙ joined_length cs (sent signature t p) b ∙ ap length (pieces-joined (fulls xs) true false t xs ∙ carried-long signature p h) in
    let m : length xs ≡ length (summed c q) = ap length (carried-long signature p h) ∙ sym l in (
      omega arith,
      pieces-known (fulls xs) true false t xs cs (omega arith) a b
          ∙ ap₂ (λ (n : ℕ) (ys : List ℕ). pieces n true false t ys) (ap (λ (k : ℕ). (k - 1) / 7) m) e,
    )
