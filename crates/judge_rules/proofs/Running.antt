-- The pass over the frames of one stream, transfer by transfer.
use mathlib.Core.Path.{◌≡◌, refl, sym, ap, ap₂, ◌∙◌}
use mathlib.Core.Bool.{Bool, true, false, not}
use mathlib.Core.List.{List, [], ◌∷◌, ◌++◌, append_assoc, append-nil}
use mathlib.Core.Option.{Option, some}
use Prim.Native.Nat.{ℕ, suc, ◌+◌, ◌*◌, ◌%◌, ◌≤◌, ◌<◌}
use native.Mathlib.Omega.{arith}
use lib.Dec.{ltb, leb, eqb}
use lib.ListN.{length, take, drop, length-append}
use lib.Seq.{take-add}
use borrow.Author.Tests.{eqb-true, eqb-false, eq-eqb, ne_eqb, leb-true, leb-false, le-leb, le-ltb, lt-leb, lt-ltb, ltb-true}
use Rattle.bits.specs.Order.{odd}
use Rattle.rules.specs.Frame.{Frame, Stream}
use Rattle.rules.specs.Sent.{tail_byte, framed, frame_at, pieces, with_sum, carried, sent, id_of}
use Rattle.rules.specs.Session.{sum_ok}
use Rattle.rules.specs.Tests.{pick}
use Rattle.rules.proofs.Frames.{fulls, carried-long, pieces-length, sent-laws}
use Rattle.judge_rules.specs.Good.{Transfer, stamped, data_of, frames_of, InRange, Before, start_of, as_before, may_follow, Series, all_frames}
use Rattle.judge_rules.specs.Numbers.{Cut, brought}
use Rattle.judge_rules.specs.Verdict.{seen, Followed, idle, amid, Next, goes, refuses, extends, follow}
use Rattle.judge_rules.proofs.Following.{begun, gone-on}
use Rattle.judge_rules.proofs.Pieces.{pieces-one, Opens, opens, sent_pieces, none-stamped, sum-front}

-- ── toggles ──

odd-next : (n : ℕ) → odd (suc n) ≡ not (odd n)
odd-next n = go (eqb (n % 2) 1) refl
  where
    go : (b : Bool) → eqb (n % 2) 1 ≡ b → eqb (suc n % 2) 1 ≡ not b
    go true e = ne_eqb (suc n % 2) 1 (λ z. let k = eqb-true (n % 2) 1 e in omega arith)
    go false e = eq-eqb (suc n % 2) 1 (let k = eqb-false (n % 2) 1 e in omega arith)

abbrev turned : Bool → ℕ → Bool
turned g n = pick (odd n) (not g) g

turned-next : (g : Bool) (n : ℕ) → turned (not g) n ≡ turned g (suc n)
turned-next g n = go (odd n) ∙ ap (λ b. pick b (not g) g) (sym (odd-next n))
  where
    twice : (g : Bool) → not (not g) ≡ g
    twice true = refl
    twice false = refl

    go : (b : Bool) → pick b (not (not g)) (not g) ≡ pick (not b) (not g) g
    go true = twice g
    go false = refl

module _ (signature : ℕ) (d : Stream) where
  -- ── the frames of one stream ──

  abbrev pub onward : Next Followed → (Followed → Next Followed) → Next Followed
  onward (goes s) k = k s
  onward (refuses n) k = refuses n

  unfoldable pub walk : Followed → List Frame → Next Followed
  walk s [] = goes s
  walk s (f ∷ fs) = onward (follow signature d s (seen f)) (λ s. walk s fs)

  pub walk-append : (s : Followed) (a b : List Frame) → walk s (a ++ b) ≡ onward (walk s a) (λ s. walk s b)
  unfolding walk
  walk-append s [] b = refl
  walk-append s (f ∷ a) b = go (follow signature d s (seen f)) (λ s. walk-append s a b)
    where
      go : (n : Next Followed) → ((s : Followed) → walk s (a ++ b) ≡ onward (walk s a) (λ s. walk s b))
          → onward n (λ s. walk s (a ++ b)) ≡ onward (onward n (λ s. walk s a)) (λ s. walk s b)
      go (goes s) h = h s
      go (refuses n) h = refl

  -- ── inside a transfer ──

  module _ (id : ℕ) (b : Before) (small : b.transfer < 32) (payload : List ℕ) (long : 7 < length payload) (size : length payload ≤ 512) where
    -- after n frames of those that carry `rest`
    abbrev left_at : Bool → List ℕ → List ℕ → ℕ → Followed
    left_at toggle gathered rest n = pick (leb n (fulls rest)) (amid id b (turned toggle n) (gathered ++ take (7 * n) rest)) (idle (some b))

    inside : (ts : List ℕ) (toggle : Bool) (gathered rest : List ℕ) → with_sum signature payload ≡ gathered ++ rest → 0 < length rest → length ts ≤ suc (fulls rest)
        → walk (amid id b toggle gathered) (stamped id (pieces (fulls rest) false toggle b.transfer rest) ts) ≡ goes (left_at toggle gathered rest (length ts))
    unfolding walk stamped extends
    inside [] toggle gathered rest e left w =
        ap (walk (amid id b toggle gathered)) (none-stamped id (pieces (fulls rest) false toggle b.transfer rest)) ∙ ap (λ l. goes (amid id b toggle l)) (sym (append-nil gathered))
        ∙ ap (λ y. goes (pick y (amid id b toggle (gathered ++ [])) (idle (some b)))) (sym (le-leb 0 (fulls rest) (omega arith)))
    inside (x ∷ ts) toggle gathered rest e left w =
        go (leb (length rest) 7) refl (λ g h r e l w. inside ts g h r e l w)
      where
        total : length gathered + length rest ≡ suc (suc (length payload))
        total = sym (ap length e ∙ length-append gathered rest)

        fits-514 : (ys : List ℕ) → length ys ≤ length rest → ltb 514 (length (gathered ++ ys)) ≡ false
        fits-514 ys h = le-ltb 514 (length (gathered ++ ys)) (let k = total in omega (arith, length-append gathered ys))

        go : (m : Bool) → leb (length rest) 7 ≡ m
            → ((toggle : Bool) (gathered rest : List ℕ) → with_sum signature payload ≡ gathered ++ rest → 0 < length rest → length ts ≤ suc (fulls rest)
            → walk (amid id b toggle gathered) (stamped id (pieces (fulls rest) false toggle b.transfer rest) ts) ≡ goes (left_at toggle gathered rest (length ts)))
            → walk (amid id b toggle gathered) (stamped id (pieces (fulls rest) false toggle b.transfer rest) (x ∷ ts)) ≡ goes (left_at toggle gathered rest (suc (length ts)))
        go true q ih =
            let h : length rest ≤ 7 = leb-true (length rest) 7 q in
            let z : fulls rest ≡ 0 = omega arith in
            let k = total in
            let nine : 9 < length (gathered ++ rest) = omega (arith, length-append gathered rest) in
            let sum : sum_ok signature (gathered ++ rest) ≡ true = ap (sum_ok signature) (sym e) ∙ sum-front signature payload in
            let ended : leb (suc (length ts)) (fulls rest) ≡ false = lt-leb (suc (length ts)) (fulls rest) (omega arith) in
            let went : follow signature d (amid id b toggle gathered) (seen (frame_at id (framed rest (tail_byte false true toggle b.transfer)) x)) ≡ goes (idle (some b)) =
            gone-on signature d id b toggle true gathered rest x small ∙ rw (fits-514 rest (omega arith), sum, lt-leb (length (gathered ++ rest)) 9 nine) in
            ap (λ cs. walk (amid id b toggle gathered) (stamped id cs (x ∷ ts))) (pieces-one false toggle b.transfer rest h)
            ∙ ap (λ n. onward n (λ s. walk s (stamped id [] ts)))
            went
            ∙ ap (λ y. goes (pick y (amid id b (turned toggle (suc (length ts))) (gathered ++ take (7 * suc (length ts)) rest)) (idle (some b)))) (sym ended)
        go false q ih =
            let more : 7 < length rest = leb-false (length rest) 7 q in
            let o : Opens false toggle b.transfer rest = opens false toggle b.transfer rest more in
            let n = o.left in
            let f7 : fulls rest ≡ suc (fulls (drop 7 rest)) = omega arith in
            let carries : with_sum signature payload ≡ (gathered ++ take 7 rest) ++ drop 7 rest =
            e ∙ ap (λ l. gathered ++ l) o.split ∙ sym (append_assoc gathered (take 7 rest) (drop 7 rest)) in
            let went : follow signature d (amid id b toggle gathered) (seen (frame_at id (framed (take 7 rest) (tail_byte false false toggle b.transfer)) x))
            ≡ goes (amid id b (not toggle) (gathered ++ take 7 rest)) =
            gone-on signature d id b toggle false gathered (take 7 rest) x small ∙ rw (fits-514 (take 7 rest) (omega (arith, o.seven))) in
            ap (λ cs. walk (amid id b toggle gathered) (stamped id cs (x ∷ ts))) o.first
            ∙ ap (λ n. onward n (λ s. walk s (stamped id (pieces (fulls (drop 7 rest)) false (not toggle) b.transfer (drop 7 rest)) ts)))
            went
            ∙ ih (not toggle) (gathered ++ take 7 rest) (drop 7 rest) carries (omega arith) (omega arith)
            ∙ ap goes (λ i. pick (same_test f7 i) (amid id b (turned-next toggle (length ts) i) (bytes (length ts) i)) (idle (some b)))
          where
            same_test : fulls rest ≡ suc (fulls (drop 7 rest)) → leb (length ts) (fulls (drop 7 rest)) ≡ leb (suc (length ts)) (fulls rest)
            same_test f7 = up (leb (length ts) (fulls (drop 7 rest))) refl
              where
                up : (y : Bool) → leb (length ts) (fulls (drop 7 rest)) ≡ y → y ≡ leb (suc (length ts)) (fulls rest)
                up true r = sym (le-leb (suc (length ts)) (fulls rest) (let h = leb-true (length ts) (fulls (drop 7 rest)) r in omega arith))
                up false r = sym (lt-leb (suc (length ts)) (fulls rest) (let h = leb-false (length ts) (fulls (drop 7 rest)) r in omega arith))

            bytes : (n : ℕ) → (gathered ++ take 7 rest) ++ take (7 * n) (drop 7 rest) ≡ gathered ++ take (7 * suc n) rest
            bytes n =
                let m : 7 * suc n ≡ 7 + 7 * n = omega arith in
                append_assoc gathered (take 7 rest) (take (7 * n) (drop 7 rest)) ∙ ap (λ l. gathered ++ l) (sym (ap (λ k. take k rest) m ∙ take-add 7 (7 * n) rest))

  -- ── one transfer ──

  abbrev pub after_one : Transfer → Followed
  after_one x =
      pick (ltb (length x.times) (length (data_of signature x)))
      (amid (id_of d x.priority) (as_before x) (odd (length x.times)) (brought signature x)) (idle (some (as_before x)))

  one_link : (b : Option Before) (priority t : ℕ) (p ts : List ℕ) → InRange signature (record { priority = priority; transfer = t; payload = p; times = ts })
      → may_follow d b t (start_of (record { priority = priority; transfer = t; payload = p; times = ts })) ≡ true
      → walk (idle b) (stamped (id_of d priority) (sent signature t p) ts) ≡ goes (after_one (record { priority = priority; transfer = t; payload = p; times = ts }))
  unfolding walk stamped
  one_link b priority t p [] r f = absurd (omega (arith, r.begun))
  one_link b priority t p (x ∷ ts) r f = go (leb (length p) 7) refl
    where
      go : (m : Bool) → leb (length p) 7 ≡ m
          → walk (idle b) (stamped (id_of d priority) (sent signature t p) (x ∷ ts)) ≡ goes (after_one (record { priority = priority; transfer = t; payload = p; times = x ∷ ts }))
      go true q =
          let single : sent signature t p ≡ framed p (tail_byte true true false t) ∷ [] = sent-laws.single signature t p (leb-true (length p) 7 q) in
          let n : length (sent signature t p) ≡ 1 = ap length single in
          let z : ltb (suc (length ts)) (length (sent signature t p)) ≡ false = le-ltb (suc (length ts)) (length (sent signature t p)) (omega arith) in
          ap (λ cs. walk (idle b) (stamped (id_of d priority) cs (x ∷ ts))) single
          ∙ ap (λ n. onward n (λ s. walk s (stamped (id_of d priority) [] ts))) (begun signature d b priority t true p x r.transfer f)
          ∙ ap (λ y. goes (pick y (amid (id_of d priority) (record { transfer = t; since = x }) (odd (suc (length ts))) (take (7 * suc (length ts)) (carried signature p)))
          (idle (some (record { transfer = t; since = x }))))) (sym z)
      go false q =
          let long : 7 < length p = leb-false (length p) 7 q in
          let ws : List ℕ = with_sum signature p in
          let o : Opens true false t ws = opens true false t ws (omega arith) in
          let first : sent signature t p ≡ framed (take 7 ws) (tail_byte true false false t) ∷ pieces (fulls (drop 7 ws)) false true t (drop 7 ws) =
          sent_pieces signature t p long ∙ o.first in
          let n : length (sent signature t p) ≡ suc (suc (fulls (drop 7 ws))) = ap length first ∙ ap suc (pieces-length (fulls (drop 7 ws)) false true t (drop 7 ws)) in
          let w : suc (length ts) ≤ length (sent signature t p) = r.within in
          ap (λ cs. walk (idle b) (stamped (id_of d priority) cs (x ∷ ts))) first
          ∙ ap (λ n. onward n (λ s. walk s (stamped (id_of d priority) (pieces (fulls (drop 7 ws)) false true t (drop 7 ws)) ts))) (begun signature d b priority t false (take 7 ws) x r.transfer f)
          ∙ inside (id_of d priority) (record { transfer = t; since = x }) r.transfer p long r.size ts true (take 7 ws) (drop 7 ws) o.split (omega (arith, o.left)) (omega arith)
          ∙ ap goes (λ i. pick (same_test n i) (amid (id_of d priority) (record { transfer = t; since = x }) ((parity (odd (length ts)) ∙ sym (odd-next (length ts))) i) (bytes long i))
          (idle (some (record { transfer = t; since = x }))))
        where
          same_test : length (sent signature t p) ≡ suc (suc (fulls (drop 7 (with_sum signature p))))
              → leb (length ts) (fulls (drop 7 (with_sum signature p))) ≡ ltb (suc (length ts)) (length (sent signature t p))
          same_test n = up (leb (length ts) (fulls (drop 7 (with_sum signature p)))) refl
            where
              up : (y : Bool) → leb (length ts) (fulls (drop 7 (with_sum signature p))) ≡ y → y ≡ ltb (suc (length ts)) (length (sent signature t p))
              up true k = sym (lt-ltb (suc (length ts)) (length (sent signature t p)) (let h = leb-true (length ts) (fulls (drop 7 (with_sum signature p))) k in omega arith))
              up false k = sym (le-ltb (suc (length ts)) (length (sent signature t p)) (let h = leb-false (length ts) (fulls (drop 7 (with_sum signature p))) k in omega arith))

          parity : (y : Bool) → pick y false true ≡ not y
          parity true = refl
          parity false = refl

          bytes : 7 < length p → take 7 (with_sum signature p) ++ take (7 * length ts) (drop 7 (with_sum signature p)) ≡ take (7 * suc (length ts)) (carried signature p)
          bytes long =
              let m : 7 + 7 * length ts ≡ 7 * suc (length ts) = omega arith in
              sym (take-add 7 (7 * length ts) (with_sum signature p)) ∙ ap₂ take m (sym (carried-long signature p long))

  -- ── all transfers ──

  abbrev pub state_after : Option Before → List Transfer → Followed
  state_after b [] = idle b
  state_after b (x ∷ []) = after_one x
  state_after b (x ∷ y ∷ ys) = state_after (some (as_before x)) (y ∷ ys)

  pub walks : (b : Option Before) (xs : List Transfer) → Series signature d b xs → walk (idle b) (all_frames signature d xs) ≡ goes (state_after b xs)
  unfolding walk all_frames
  walks b [] h = refl
  walks b (x ∷ []) h = ap (walk (idle b)) (append-nil (frames_of signature d x)) ∙ one_link b x.priority x.transfer x.payload x.times h.0.range h.0.follows
  walks b (x ∷ y ∷ ys) h =
      let z : ltb (length x.times) (length (data_of signature x)) ≡ false = le-ltb (length x.times) (length (data_of signature x)) (omega (arith, h.0.whole)) in
      walk-append (idle b) (frames_of signature d x) (all_frames signature d (y ∷ ys))
      ∙ ap (λ n. onward n (λ s. walk s (all_frames signature d (y ∷ ys))))
      (one_link b x.priority x.transfer x.payload x.times h.0.range h.0.follows
      ∙ ap (λ c. goes (pick c (amid (id_of d x.priority) (as_before x) (odd (length x.times)) (brought signature x)) (idle (some (as_before x))))) z)
      ∙ walks (some (as_before x)) (y ∷ ys) h.1

  pub state-last : (b : Option Before) (xs : List Transfer) (x : Transfer) → state_after b (xs ++ x ∷ []) ≡ after_one x
  state-last b [] x = refl
  state-last b (y ∷ []) x = refl
  state-last b (y ∷ z ∷ zs) x = state-last (some (as_before y)) (z ∷ zs) x

  -- in a transfer only if the last one is cut
  pub record Last (xs : List Transfer) (id : ℕ) (b : Before) (toggle : Bool) (gathered : List ℕ) : Type 0 where
    pub before : List Transfer
    pub transfer : Transfer
    pub is : xs ≡ before ++ transfer ∷ []
    pub cut : Cut signature transfer
    pub id-is : id ≡ id_of d transfer.priority
    pub number : b.transfer ≡ transfer.transfer
    pub toggle-is : toggle ≡ odd (length transfer.times)
    pub gathered-is : gathered ≡ brought signature transfer

  pub amid-last : (b : Option Before) (xs : List Transfer) (id : ℕ) (b' : Before) (toggle : Bool) (gathered : List ℕ)
      → state_after b xs ≡ amid id b' toggle gathered → Last xs id b' toggle gathered
  amid-last b [] id b' toggle gathered e = let z : ◌≡◌ {A = ℕ} 0 1 = cc in absurd (omega arith)
  amid-last b (x ∷ []) id b' toggle gathered e = go (ltb (length x.times) (length (data_of signature x))) refl e
    where
      go : (c : Bool) → ltb (length x.times) (length (data_of signature x)) ≡ c
          → pick c (amid (id_of d x.priority) (as_before x) (odd (length x.times)) (brought signature x)) (idle (some (as_before x))) ≡ amid id b' toggle gathered
          → Last (x ∷ []) id b' toggle gathered
      go false q k = let z : ◌≡◌ {A = ℕ} 0 1 = cc in absurd (omega arith)
      go true q k =
          let bs : as_before x ≡ b' = cc in
          record {
            before = [];
            transfer = x;
            is = refl;
            cut = ltb-true (length x.times) (length (data_of signature x)) q;
            id-is = cc;
            number = sym (ap (λ (z : Before). z.transfer) bs);
            toggle-is = cc;
            gathered-is = cc;
          }
  amid-last b (x ∷ y ∷ ys) id b' toggle gathered e =
      let l : Last (y ∷ ys) id b' toggle gathered = amid-last (some (as_before x)) (y ∷ ys) id b' toggle gathered e in
      record {
        before = x ∷ l.before;
        transfer = l.transfer;
        is = ap (λ zs. x ∷ zs) l.is;
        cut = l.cut;
        id-is = l.id-is;
        number = l.number;
        toggle-is = l.toggle-is;
        gathered-is = l.gathered-is;
      }
