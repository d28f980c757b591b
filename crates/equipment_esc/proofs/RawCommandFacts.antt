-- RawCommand: what its reader and its writer go by.
use mathlib.Core.Path.{◌≡◌, refl, sym, ap, ◌∙◌}
use mathlib.Core.Bool.{Bool, true, false, ◌&&◌}
use mathlib.Core.List.{List, [], ◌∷◌, ◌++◌, map, append_assoc, append-nil}
use Prim.Native.Nat.{ℕ, zero, suc, ◌+◌, ◌*◌, ◌-◌, ◌≤◌, ◌<◌}
use native.Mathlib.Numerals.{add-one}
use native.Mathlib.Omega.{arith}
use borrow.Author.Tests.{lt-ltb, le-ltb, le-leb, ltb-true}
use lib.Dec.{ltb, leb}
use lib.IntN.{ℤ, pos}
use lib.Signed.{mag}
use lib.ListN.{length, take, drop, get_or, set, replicate, length-map}
use lib.Seq.{take-suc, take_all, take_at, set_at, length-take-le}
use mir.Syntax.{w64}
use mir.Val.{to_z, of_z}
use mir.ValLaws.{to_z-of_z}
use Rattle.bits.specs.Order.{Octets, unpack, bytes_for, store}
use Rattle.shape.specs.Answer.{refused, got, numbered, refuse_if, map_answer, wrote}
use Rattle.shape.specs.Shape.{item_bits, items_of, all_below, encode, decode, fits, written}
use Rattle.shape.specs.Cast.{signed, saturated}
use Rattle.shape.specs.Signed.{signed_of}
use Rattle.shape.proofs.Fields.{and_left, and_right, and_both, length-item_bits, length-items_of, items-below}
use Rattle.shape.proofs.Reading.{unrefused, unread, refused-from, refused-on, got-on}
use Rattle.shape.proofs.Writing.{refuse-8-padded, write-padded}
use Rattle.shape.proofs.ItemFacts.{Counts, counts}
use Rattle.shape.proofs.CastFacts.{cast-lt}
use Rattle.equipment_esc.specs.RawCommand.{raw_command, command_of, command_in, numbers_of, pattern_of, command_values, command_encoded}
use Rattle.equipment_esc.specs.declared.raw_command.RawCommand.{RawCommand}

-- ── maps of a front ──

map-append : {A B : Type 0} (f : A → B) (xs ys : List A) → map f (xs ++ ys) ≡ map f xs ++ map f ys
map-append f [] ys = refl
map-append f (x ∷ xs) ys = ap (λ l. f x ∷ l) (map-append f xs ys)

-- a turn of a loop that fills places from the front: one more is mapped
pub mapped : {A B : Type 0} (f : A → B) (xs : List A) (a : A) (z : B) (out : List B) (i : ℕ) (y : B) → i < length xs → i < 20
    → out ≡ map f (take i xs) ++ replicate (20 - i) z → y ≡ f (get_or xs i a)
    → set out i y ≡ map f (take (i + 1) xs) ++ replicate (20 - (i + 1)) z
mapped {A} {B} f xs a z out i y h l e g =
    let k : 20 - i ≡ suc (20 - (i + 1)) = omega arith in
    let n : length (map f (take i xs)) ≡ i = length-map (take i xs) f ∙ length-take-le i xs (omega arith) in
    let rest : List B = replicate (20 - (i + 1)) z in
    ap (λ (o : List B). set o i y) (e ∙ ap (λ (j : ℕ). map f (take i xs) ++ replicate j z) k) ∙ set_at (map f (take i xs)) z rest y i n
    ∙ ap (λ (x : B). map f (take i xs) ++ (x ∷ rest)) g
    ∙ sym (append_assoc (map f (take i xs)) (f (get_or xs i a) ∷ []) rest)
    ∙ ap (λ (o : List B). o ++ rest) (sym (map-append f (take i xs) (get_or xs i a ∷ [])) ∙ ap (λ (o : List A). map f o) (sym (take-suc xs i a h)))
    ∙ ap (λ (j : ℕ). map f (take j xs) ++ rest) (sym (add-one i))

-- all 20 are mapped
pub all-mapped : {A B : Type 0} (f : A → B) (xs : List A) (z : B) (out : List B) (i : ℕ) → length xs ≡ 20 → i ≡ 20
    → out ≡ map f (take i xs) ++ replicate (20 - i) z → out ≡ map f xs
all-mapped {A} {B} f xs z out i h l e =
    let k : 20 - i ≡ 0 = omega arith in
    e ∙ ap (λ (j : ℕ). map f (take i xs) ++ replicate j z) k ∙ append-nil (map f (take i xs)) ∙ ap (λ (o : List A). map f o) (take_all i xs (omega arith))

-- ── numbers and their bits ──

-- what a signed local holds
pub held : (z : ℤ) → mag z < 9223372036854775808 → to_z w64 (of_z w64 z) ≡ z
held z h = to_z-of_z w64 z (record { sfits = h })

pub below_at : (n : ℕ) (xs : List ℕ) (i : ℕ) → i < length xs → all_below n xs ≡ true → get_or xs i 0 < n
unfolding all_below
below_at n [] i h e = absurd (omega arith)
below_at n (x ∷ xs) zero h e = ltb-true x n (and_left (ltb x n) (all_below n xs) e)
below_at n (x ∷ xs) (suc i) h e = below_at n xs i (omega arith) (and_right (ltb x n) (all_below n xs) e)

-- ── reading ──

drop-same : {A : Type 0} (n m : ℕ) (a : A) → drop n (replicate m a) ≡ replicate (m - n) a
drop-same zero m a = let e : m - 0 ≡ m = omega arith in rw e
drop-same (suc n) zero a = let e : 0 - suc n ≡ 0 = omega arith in rw e
drop-same (suc n) (suc m) a = let e : suc m - suc n ≡ m - n = omega arith in rw e (drop-same n m a)

-- the first n of 20 places are read, the others are still zero
pub places-read : (u : List Bool) (n k : ℕ) (xs : List ℕ) → xs ≡ items_of 14 k u → k ≡ n → xs ++ drop (n - 0) (replicate 20 0) ≡ items_of 14 n u ++ replicate (20 - n) 0
places-read u n k xs e f =
    let z : n - 0 ≡ n = omega arith in
    let g : ◌≡◌ {A = List ℕ} (drop n (replicate 20 0)) (replicate (20 - n) 0) = drop-same n 20 0 in
    ap (λ (j : ℕ). xs ++ drop j (replicate 20 0)) z ∙ ap (λ (r : List ℕ). xs ++ r) g
    ∙ ap (λ (l : List ℕ). l ++ replicate (20 - n) 0) (e ∙ ap (λ (j : ℕ). items_of 14 j u) f)

below-append : (n : ℕ) (xs ys : List ℕ) → all_below n xs ≡ true → all_below n ys ≡ true → all_below n (xs ++ ys) ≡ true
unfolding all_below
below-append n [] ys h k = k
below-append n (x ∷ xs) ys h k = and_both (ltb x n) (all_below n (xs ++ ys)) (and_left (ltb x n) (all_below n xs) h) (below-append n xs ys (and_right (ltb x n) (all_below n xs) h) k)

zeros-below : (n : ℕ) → all_below 16384 (replicate n 0) ≡ true
unfolding all_below
zeros-below zero = refl
zeros-below (suc n) = zeros-below n

pub places-below : (u : List Bool) (n : ℕ) → n * 14 ≤ length u → all_below 16384 (items_of 14 n u ++ replicate (20 - n) 0) ≡ true
places-below u n h = below-append 16384 (items_of 14 n u) (replicate (20 - n) 0) (items-below 14 n u h) (zeros-below (20 - n))

signed-zeros : (n : ℕ) → map (signed_of 14) (replicate n 0) ≡ replicate n (pos 0)
unfolding signed_of
signed-zeros zero = refl
signed-zeros (suc n) = ap (λ (l : List ℤ). pos 0 ∷ l) (signed-zeros n)

module _ (p : List ℕ) where
  pub not-read : (n : ℕ) → numbered (refused n) ≡ numbered (map_answer length (decode raw_command (unpack p))) → numbered (refused n) ≡ numbered (command_in p)
  not-read n e = ap numbered (sym (refused-on command_of refl (refused-from length (decode raw_command (unpack p)) n (unrefused _ n e))))

  module _ (n : ℕ) (e : numbered (got n) ≡ numbered (map_answer length (decode raw_command (unpack p)))) where
    pub told : Counts 14 20 n (unpack p)
    told = counts 14 20 n (unpack p) (unread _ n e)

    pub was_read : (xs : List ℕ) (zs : List ℤ) → xs ≡ items_of 14 n (unpack p) ++ replicate (20 - n) 0 → zs ≡ map (signed_of 14) xs
        → numbered (got (record { count = n; cmd = zs })) ≡ numbered (command_in p)
    was_read xs zs f g =
        let ys : List ℕ = items_of 14 n (unpack p) in
        let l : length (map (signed_of 14) ys) ≡ n = length-map ys (signed_of 14) ∙ length-items_of 14 n (unpack p) in
        let q : zs ≡ map (signed_of 14) ys ++ replicate (20 - n) (pos 0) = g ∙ ap (λ (o : List ℕ). map (signed_of 14) o) f ∙ map-append (signed_of 14) ys (replicate (20 - n) 0)
        ∙ ap (λ (o : List ℤ). map (signed_of 14) ys ++ o) (signed-zeros (20 - n)) in
        let c : ◌≡◌ {A = RawCommand} (record { count = n; cmd = zs }) (command_of ys) = rw (l, q) in
        ap (λ (x : RawCommand). numbered (got x)) c ∙ ap numbered (sym (got-on command_of refl told.is))

-- ── writing ──

values-below : (zs : List ℤ) → all_below 16384 (map pattern_of zs) ≡ true
unfolding all_below
values-below [] = refl
values-below (z ∷ zs) =
    and_both (ltb (pattern_of z) 16384) (all_below 16384 (map pattern_of zs)) (lt-ltb (pattern_of z) 16384 (cast-lt signed saturated 14 z)) (values-below zs)

module _ (x : RawCommand) (m : List ℕ) where
  pub too_many : 20 < x.count → (numbered (refused 17), m) ≡ wrote (command_encoded x (length m)) m
  unfolding command_encoded refuse_if
  too_many h = rw (lt-ltb 20 x.count h)

  module _ (long : length x.cmd ≡ 20) (few : x.count ≤ 20) where
    as_many : length (command_values x) ≡ x.count
    as_many = length-map (numbers_of x) pattern_of ∙ length-take-le x.count x.cmd (omega (arith, few))

    values-fit : fits raw_command (command_values x) ≡ true
    unfolding fits
    values-fit =
        and_both (leb (length (command_values x)) 20) (all_below 16384 (command_values x) && true) (le-leb (length (command_values x)) 20 (omega (arith, as_many, few)))
        (and_both (all_below 16384 (command_values x)) true (values-below (numbers_of x)) refl)

    by_values : written raw_command (command_values x) m ≡ wrote (command_encoded x (length m)) m
    unfolding command_encoded refuse_if
    by_values = rw (le-ltb 20 x.count few)

    bits : length (encode raw_command (command_values x)) ≡ x.count * 14
    unfolding encode
    bits = length-item_bits 14 (command_values x) ∙ ap (λ (n : ℕ). n * 14) as_many

    size : bytes_for (length (encode raw_command (command_values x))) ≡ bytes_for (x.count * 14)
    size = ap bytes_for bits

    pub too_short : length m < bytes_for (x.count * 14) → (numbered (refused 8), m) ≡ wrote (command_encoded x (length m)) m
    too_short h = refuse-8-padded raw_command (command_values x) m refl values-fit (bytes_for (x.count * 14)) size h ∙ by_values

    -- xs: the patterns and zeros
    pub stored : Octets m → bytes_for (x.count * 14) ≤ length m → (xs m' : List ℕ) → xs ≡ command_values x ++ replicate (20 - x.count) 0
        → m' ≡ store m 0 (item_bits 14 (take x.count xs) ++ replicate (bytes_for (x.count * 14) * 8 - x.count * 14) false)
        → (numbered (got (bytes_for (x.count * 14))), m') ≡ wrote (command_encoded x (length m)) m
    unfolding encode
    stored o h xs m' e g =
        let t : take x.count xs ≡ command_values x = ap (λ (l : List ℕ). take x.count l) e ∙ take_at (command_values x) (replicate (20 - x.count) 0) x.count as_many in
        write-padded raw_command (command_values x) m refl values-fit (bytes_for (x.count * 14)) size o h m'
        (g ∙ ap (λ (l : List ℕ). store m 0 (item_bits 14 l ++ replicate (bytes_for (x.count * 14) * 8 - x.count * 14) false)) t
        ∙ ap (λ (n : ℕ). store m 0 (item_bits 14 (command_values x) ++ replicate (bytes_for n * 8 - n) false)) (sym bits))
        ∙ by_values
