-- One stream: the state after some frames, and which frames may come after it.
use mathlib.Core.Path.{◌≡◌, refl, sym, ap, ◌∙◌, subst}
use mathlib.Core.Bool.{Bool, true, false, not, ◌&&◌, false≢true}
use mathlib.Core.List.{List, [], ◌∷◌, ◌++◌, append_assoc, append-nil, cons≢nil, head-eq_of_cons-eq, tail-eq_of_cons-eq}
use mathlib.Core.Option.{Option, some}
use mathlib.Mathlib.Data.Bool.Basic.{and_elim_left, and_elim_right, and_intro}
use Prim.Native.Nat.{ℕ, suc, ◌+◌, ◌*◌, ◌-◌, ◌/◌, ◌%◌, ◌≤◌, ◌<◌}
use native.Mathlib.Omega.{arith}
use lib.Dec.{ltb, leb, eqb}
use lib.ListN.{length, take, drop, length-append, length-drop}
use borrow.Author.Tests.{eqb-true, eq-eqb, leb-true, leb-false, ltb-false, le-ltb, lt-leb}
use Rattle.bits.specs.Order.{Octets}
use Rattle.bits.proofs.Octets.{octets-drop, octets-append}
use Rattle.checksum.specs.Crc16.{checksum}
use Rattle.rules.specs.Frame.{Frame, Stream}
use Rattle.rules.specs.Sent.{tail_byte, framed, frame_at, pieces, with_sum, sent, id_of}
use Rattle.rules.specs.Session.{sum_ok}
use Rattle.rules.specs.Tests.{pick, same_bool}
use Rattle.rules.proofs.Delivery.{same_self}
use Rattle.rules.proofs.Frames.{fulls, pieces-length, sent-laws}
use Rattle.judge_rules.specs.Good.{Transfer, stamped, data_of, Whole, Before, start_of, may_follow, WholeBefore, Link, Series, all_frames, Sends}
use Rattle.judge_rules.specs.Verdict.{Seen, seen, Followed, idle, amid, Next, goes, refuses, as_before, opened, begins, continues, extends, follow}
use Rattle.judge_rules.proofs.Completion.{Completed, completed}
use Rattle.judge_rules.proofs.Pieces.{pieces-cons, pieces-one, Opens, opens, sent_pieces, none-stamped, sum-front, sum_back}
use Rattle.judge_rules.proofs.Views.{view, sees, frame_of, Valid}

pub same-bool : (a b : Bool) → same_bool a b ≡ true → a ≡ b
same-bool true true e = refl
same-bool true false e = absurd (false≢true e)
same-bool false true e = absurd (false≢true e)
same-bool false false e = refl

module _ (signature : ℕ) (d : Stream) where
  -- ── what may come after a state ──

  abbrev Closed : ℕ → List ℕ → List Transfer → Type 0
  Closed n ts [] = Unit {0}
  Closed n ts (y ∷ ys) = length ts ≡ suc n

  -- the rest of a transfer's frames, or some of it, and then others' if that is all of it
  pub record Amid (id : ℕ) (b : Before) (toggle : Bool) (gathered : List ℕ) (fs : List Frame) : Type 0 where
    pub transfer : b.transfer < 32
    pub payload : List ℕ
    pub long : 7 < length payload
    pub size : length payload ≤ 512
    pub bytes : Octets payload
    pub rest : List ℕ
    pub left : 0 < length rest
    pub carries : with_sum signature payload ≡ gathered ++ rest
    pub times : List ℕ
    pub within : length times ≤ suc (fulls rest)
    pub more : List Transfer
    pub whole : Closed (fulls rest) times more
    pub series : Series signature d (some b) more
    pub frames : fs ≡ stamped id (pieces (fulls rest) false toggle b.transfer rest) times ++ all_frames signature d more

  abbrev pub Continues : Followed → List Frame → Type 0
  Continues (idle b) fs = Sends signature d b fs
  Continues (amid id b toggle gathered) fs = Amid id b toggle gathered fs

  -- ── what is known of a state ──

  pub record AmidFits (can : ℕ) (b : Before) (gathered : List ℕ) : Type 0 where
    pub priority : ℕ
    pub small : priority < 32
    pub id : can ≡ id_of d priority
    pub transfer : b.transfer < 32
    pub count : ℕ
    pub full : length gathered ≡ 7 * suc count
    pub size : length gathered ≤ 514
    pub octets : Octets gathered

  abbrev pub Fits : Followed → Type 0
  Fits (idle b) = Unit {0}
  Fits (amid id b toggle gathered) = AmidFits id b gathered

  -- ── nothing may come: a cut transfer is the beginning of one ──

  cut : (id : ℕ) (b : Before) (toggle : Bool) (gathered : List ℕ) → AmidFits id b gathered → Amid id b toggle gathered []
  unfolding all_frames stamped pieces
  cut id b toggle [] h = absurd (omega (arith, h.full))
  cut id b toggle (x ∷ []) h = absurd (omega (arith, h.full))
  cut id b toggle (x ∷ y ∷ q) h =
      let l : x < 256 = h.octets.0 in
      let m : y < 256 = h.octets.1.0 in
      let n : suc (suc (length q)) ≡ 7 * suc h.count = h.full in
      let n2 : suc (suc (length q)) ≤ 514 = h.size in
      let c : Completed signature q (x + 256 * y) = completed signature q (x + 256 * y) (omega arith) in
      let k : length (q ++ c.rest) ≡ length q + 3 = length-append q c.rest ∙ ap (λ z. length q + z) c.three in
      let s : checksum signature (q ++ c.rest) ≡ x + 256 * y = c.sum in
      let a1 : checksum signature (q ++ c.rest) % 256 ≡ x = rw s (omega arith) in
      let a2 : checksum signature (q ++ c.rest) / 256 ≡ y = rw s (omega arith) in
      let three : length c.rest ≡ 3 = c.three in
      record {
        transfer = h.transfer;
        payload = q ++ c.rest;
        long = omega arith;
        size = omega arith;
        bytes = octets-append q c.rest h.octets.1.1 c.octets;
        rest = c.rest;
        left = omega arith;
        carries = λ i. a1 i ∷ a2 i ∷ (q ++ c.rest);
        times = [];
        within = omega arith;
        more = [];
        whole = tt;
        series = tt;
        frames = sym (append-nil (stamped id (pieces (fulls c.rest) false toggle b.transfer c.rest) []) ∙ none-stamped id (pieces (fulls c.rest) false toggle b.transfer c.rest));
      }

  pub nothing : (s : Followed) → Fits s → Continues s []
  unfolding all_frames
  nothing (idle b) h = record { transfers = []; series = tt; frames = refl }
  nothing (amid id b toggle gathered) h = cut id b toggle gathered h

  -- ── a frame before ──

  whole_before : (x : Transfer) (ys : List Transfer) → Whole signature x → WholeBefore signature x ys
  whole_before x [] h = tt
  whole_before x (y ∷ ys) h = h

  single : (b : Option Before) (priority t : ℕ) (xs : List ℕ) (x : ℕ) → priority < 32 → t < 32 → length xs ≤ 7 → Octets xs → may_follow d b t x ≡ true
      → (fs : List Frame) → Sends signature d (some (record { transfer = t; since = x })) fs
      → Sends signature d b (frame_at (id_of d priority) (framed xs (tail_byte true true false t)) x ∷ fs)
  unfolding all_frames stamped
  single b priority t xs x hp ht hl ho hf fs s =
      let z : Transfer = record { priority = priority; transfer = t; payload = xs; times = x ∷ [] } in
      let e : data_of signature z ≡ framed xs (tail_byte true true false t) ∷ [] = sent-laws.single signature t xs hl in
      let n : 1 ≡ length (data_of signature z) = sym (ap length e) in
      record {
        transfers = z ∷ s.transfers;
        series = (
          record {
            range = record { priority = hp; transfer = ht; size = omega arith; bytes = ho; begun = omega arith; within = omega arith };
            follows = hf;
            whole = whole_before z s.transfers n;
          },
          s.series,
        );
        frames = ap (λ l. frame_at (id_of d priority) (framed xs (tail_byte true true false t)) x ∷ l) s.frames
            ∙ ap (λ cs. stamped (id_of d priority) cs (x ∷ []) ++ all_frames signature d s.transfers) (sym e);
      }

  start-more : (b : Option Before) (priority t : ℕ) (xs : List ℕ) (x : ℕ) → priority < 32 → length xs ≡ 7 → may_follow d b t x ≡ true
      → (fs : List Frame) → Amid (id_of d priority) (record { transfer = t; since = x }) true xs fs
      → Sends signature d b (frame_at (id_of d priority) (framed xs (tail_byte true false false t)) x ∷ fs)
  unfolding all_frames stamped
  start-more b priority t xs x hp hl hf fs a =
      let z : Transfer = record { priority = priority; transfer = t; payload = a.payload; times = x ∷ a.times } in
      let e : data_of signature z ≡ framed xs (tail_byte true false false t) ∷ pieces (fulls a.rest) false true t a.rest =
      sent_pieces signature t a.payload a.long ∙ ap (λ l. pieces (fulls l) true false t l) a.carries ∙ pieces-cons true false t xs a.rest hl a.left in
      let n : length (data_of signature z) ≡ suc (suc (fulls a.rest)) = ap length e ∙ ap suc (pieces-length (fulls a.rest) false true t a.rest) in
      let w : length a.times ≤ suc (fulls a.rest) = a.within in
      record {
        transfers = z ∷ a.more;
        series = (
          record {
            range = record { priority = hp; transfer = a.transfer; size = a.size; bytes = a.bytes; begun = omega arith; within = omega arith };
            follows = hf;
            whole = closes z a.more a.whole n;
          },
          a.series,
        );
        frames = ap (λ l. frame_at (id_of d priority) (framed xs (tail_byte true false false t)) x ∷ l) a.frames
            ∙ ap (λ cs. stamped (id_of d priority) cs (x ∷ a.times) ++ all_frames signature d a.more) (sym e);
      }
    where
      closes : (z : Transfer) (ys : List Transfer) → Closed (fulls a.rest) a.times ys → length (data_of signature z) ≡ suc (suc (fulls a.rest))
          → WholeBefore signature (record { priority = z.priority; transfer = z.transfer; payload = z.payload; times = x ∷ a.times }) ys
      closes z [] h n = tt
      closes z (y ∷ ys) h n = ap suc h ∙ sym n

  next_more : (id : ℕ) (b : Before) (toggle : Bool) (gathered xs : List ℕ) (x : ℕ) → length xs ≡ 7
      → (fs : List Frame) → Amid id b (not toggle) (gathered ++ xs) fs
      → Amid id b toggle gathered (frame_at id (framed xs (tail_byte false false toggle b.transfer)) x ∷ fs)
  unfolding stamped
  next_more id b toggle gathered xs x hl fs a =
      let n : fulls (xs ++ a.rest) ≡ suc (fulls a.rest) = let l = a.left in simp length-append (omega arith) in
      let w : length a.times ≤ suc (fulls a.rest) = a.within in
      record {
        transfer = a.transfer;
        payload = a.payload;
        long = a.long;
        size = a.size;
        bytes = a.bytes;
        rest = xs ++ a.rest;
        left = let l = a.left in simp length-append (omega arith);
        carries = a.carries ∙ append_assoc gathered xs a.rest;
        times = x ∷ a.times;
        within = omega arith;
        more = a.more;
        whole = closes a.more a.whole n;
        series = a.series;
        frames = ap (λ l. frame_at id (framed xs (tail_byte false false toggle b.transfer)) x ∷ l) a.frames
            ∙ ap (λ cs. stamped id cs (x ∷ a.times) ++ all_frames signature d a.more) (sym (pieces-cons false toggle b.transfer xs a.rest hl a.left));
      }
    where
      closes : (ys : List Transfer) → Closed (fulls a.rest) a.times ys → fulls (xs ++ a.rest) ≡ suc (fulls a.rest)
          → Closed (fulls (xs ++ a.rest)) (x ∷ a.times) ys
      closes [] h n = tt
      closes (y ∷ ys) h n = ap suc h ∙ ap suc (sym n)

  end_more : (id : ℕ) (b : Before) (toggle : Bool) (gathered xs : List ℕ) (x : ℕ) → b.transfer < 32 → length xs ≤ 7 → 0 < length xs
      → Octets (gathered ++ xs) → length (gathered ++ xs) ≤ 514 → 9 < length (gathered ++ xs) → sum_ok signature (gathered ++ xs) ≡ true
      → (fs : List Frame) → Sends signature d (some b) fs
      → Amid id b toggle gathered (frame_at id (framed xs (tail_byte false true toggle b.transfer)) x ∷ fs)
  unfolding stamped
  end_more id b toggle gathered xs x ht most least o h514 h9 ok fs s =
      let n : length (drop 2 (gathered ++ xs)) ≡ length (gathered ++ xs) - 2 = length-drop 2 (gathered ++ xs) in
      let z : fulls xs ≡ 0 = omega arith in
      record {
        transfer = ht;
        payload = drop 2 (gathered ++ xs);
        long = omega arith;
        size = omega arith;
        bytes = octets-drop 2 (gathered ++ xs) o;
        rest = xs;
        left = least;
        carries = sum_back signature (gathered ++ xs) o ok;
        times = x ∷ [];
        within = omega arith;
        more = s.transfers;
        whole = closes s.transfers z;
        series = s.series;
        frames = ap (λ l. frame_at id (framed xs (tail_byte false true toggle b.transfer)) x ∷ l) s.frames
            ∙ ap (λ cs. stamped id cs (x ∷ []) ++ all_frames signature d s.transfers) (sym (pieces-one false toggle b.transfer xs most));
      }
    where
      closes : (ys : List Transfer) → fulls xs ≡ 0 → Closed (fulls xs) (x ∷ []) ys
      closes [] z = tt
      closes (y ∷ ys) z = ap suc (sym z)

  -- ── one frame, back ──

  pub record Back (s : Followed) (v : Seen) (next : Followed) : Type 0 where
    pub fits : Fits next
    pub before : (fs : List Frame) → Continues next fs → Continues s (frame_of v ∷ fs)

  abbrev pub Allows : Followed → Seen → Next Followed → Type 0
  Allows s v (goes next) = Back s v next
  Allows s v (refuses n) = Unit {0}

  begins-back : (b : Option Before) (v : Seen) → Valid d v → v.start ≡ true → Allows (idle b) v (begins d b v)
  unfolding begins
  begins-back b v ok st = go (may_follow d b v.transfer v.time) refl v.last refl
    where
      is-frame : (l : Bool) → v.last ≡ l → frame_at (id_of d ok.priority) (framed v.payload (tail_byte true l false v.transfer)) v.time ≡ frame_of v
      is-frame l q = λ i. frame_at (sym ok.id i) (framed v.payload (tail_byte (sym st i) (sym q i) (sym (ok.start st) i) v.transfer)) v.time

      go : (m : Bool) → may_follow d b v.transfer v.time ≡ m → (l : Bool) → v.last ≡ l
          → Allows (idle b) v (pick m (goes (pick l (idle (some (as_before v))) (amid v.id (as_before v) true v.payload))) (refuses 24))
      go false e l q = tt
      go true e true q = record {
        fits = tt;
        before = λ fs s. subst (λ f. Sends signature d b (f ∷ fs)) (is-frame true q)
            (single b ok.priority v.transfer v.payload v.time ok.small ok.transfer ok.most ok.octets e fs s);
      }
      go true e false q =
          let n : length v.payload ≡ 7 = ok.full q in
          record {
            fits = record { priority = ok.priority; small = ok.small; id = ok.id; transfer = ok.transfer; count = 0; full = n; size = omega arith; octets = ok.octets };
            before = λ fs a. subst (λ f. Sends signature d b (f ∷ fs)) (is-frame false q)
                (start-more b ok.priority v.transfer v.payload v.time ok.small n e fs (subst (λ k. Amid k (as_before v) true v.payload fs) ok.id a));
          }

  extends_back : (id : ℕ) (b : Before) (toggle : Bool) (gathered : List ℕ) (v : Seen) → AmidFits id b gathered → Valid d v → v.start ≡ false
      → continues id b toggle v ≡ true → Allows (amid id b toggle gathered) v (extends signature id b toggle (gathered ++ v.payload) v)
  unfolding extends
  extends_back id b toggle gathered v h ok st c = go (ltb 514 (length (gathered ++ v.payload))) refl v.last refl (sum_ok signature (gathered ++ v.payload)) refl (leb (length (gathered ++ v.payload)) 9) refl
    where
      c2 : (eqb b.transfer v.transfer && same_bool toggle v.toggle) ≡ true
      c2 = and_elim_right (eqb id v.id) _ c

      is-frame : (l : Bool) → v.last ≡ l → frame_at id (framed v.payload (tail_byte false l toggle b.transfer)) v.time ≡ frame_of v
      is-frame l q =
          let e1 = eqb-true id v.id (and_elim_left _ _ c) in
          let e2 = eqb-true b.transfer v.transfer (and_elim_left _ _ c2) in
          let e3 = same-bool toggle v.toggle (and_elim_right (eqb b.transfer v.transfer) _ c2) in
          λ i. frame_at (e1 i) (framed v.payload (tail_byte (sym st i) (sym q i) (e3 i) (e2 i))) v.time

      go : (x : Bool) → ltb 514 (length (gathered ++ v.payload)) ≡ x → (l : Bool) → v.last ≡ l → (y : Bool) → sum_ok signature (gathered ++ v.payload) ≡ y → (z : Bool) → leb (length (gathered ++ v.payload)) 9 ≡ z
          → Allows (amid id b toggle gathered) v (pick x (refuses 11) (pick l (pick y (pick z (refuses 24) (goes (idle (some b)))) (refuses 12)) (goes (amid id b (not toggle) (gathered ++ v.payload)))))
      go true e l q y r z w = tt
      go false e true q true r true w = tt
      go false e true q true r false w = record {
        fits = tt;
        before = λ fs s. subst (λ f. Amid id b toggle gathered (f ∷ fs)) (is-frame true q)
            (end_more id b toggle gathered v.payload v.time h.transfer ok.most (ok.one st) (octets-append gathered v.payload h.octets ok.octets)
            (ltb-false 514 (length (gathered ++ v.payload)) e) (leb-false (length (gathered ++ v.payload)) 9 w) r fs s);
      }
      go false e true q false r z w = tt
      go false e false q y r z w =
          let n : length v.payload ≡ 7 = ok.full q in
          let m : length (gathered ++ v.payload) ≡ length gathered + length v.payload = length-append gathered v.payload in
          record {
            fits = record {
              priority = h.priority;
              small = h.small;
              id = h.id;
              transfer = h.transfer;
              count = suc h.count;
              full = omega (arith, h.full);
              size = ltb-false 514 (length (gathered ++ v.payload)) e;
              octets = octets-append gathered v.payload h.octets ok.octets;
            };
            before = λ fs a. subst (λ f. Amid id b toggle gathered (f ∷ fs)) (is-frame false q) (next_more id b toggle gathered v.payload v.time n fs a);
          }

  pub allows : (s : Followed) (v : Seen) → Fits s → Valid d v → Allows s v (follow signature d s v)
  unfolding follow
  allows (idle b) v h ok = go v.start refl
    where
      go : (x : Bool) → v.start ≡ x → Allows (idle b) v (pick x (begins d b v) (refuses 24))
      go true e = begins-back b v ok e
      go false e = tt
  allows (amid id b toggle gathered) v h ok = go v.start refl (continues id b toggle v) refl
    where
      go : (x : Bool) → v.start ≡ x → (c : Bool) → continues id b toggle v ≡ c
          → Allows (amid id b toggle gathered) v (pick x (refuses 24) (pick c (extends signature id b toggle (gathered ++ v.payload) v) (refuses 24)))
      go true e c q = tt
      go false e true q = extends_back id b toggle gathered v h ok e q
      go false e false q = tt

  -- ── one frame, forth ──

  pub record Forth (s : Followed) (f : Frame) (fs : List Frame) : Type 0 where
    pub next : Followed
    pub taken : follow signature d s (seen f) ≡ goes next
    pub after : Continues next fs

  pub begun : (b : Option Before) (priority t : ℕ) (l : Bool) (xs : List ℕ) (x : ℕ) → t < 32 → may_follow d b t x ≡ true
      → follow signature d (idle b) (seen (frame_at (id_of d priority) (framed xs (tail_byte true l false t)) x)) ≡ goes (opened (view (id_of d priority) true l false t xs x))
  unfolding follow begins
  begun b priority t l xs x small f =
      ap (follow signature d (idle b)) (sees (id_of d priority) true l false t xs x small)
      ∙ ap (λ m. pick m (goes (opened (view (id_of d priority) true l false t xs x))) (refuses 24)) f

  pub gone-on : (id : ℕ) (b : Before) (toggle l : Bool) (gathered xs : List ℕ) (x : ℕ) → b.transfer < 32
      → follow signature d (amid id b toggle gathered) (seen (frame_at id (framed xs (tail_byte false l toggle b.transfer)) x))
      ≡ extends signature id b toggle (gathered ++ xs) (view id false l toggle b.transfer xs x)
  unfolding follow
  gone-on id b toggle l gathered xs x small =
      ap (follow signature d (amid id b toggle gathered)) (sees id false l toggle b.transfer xs x small)
      ∙ ap (λ c. pick c (extends signature id b toggle (gathered ++ xs) (view id false l toggle b.transfer xs x)) (refuses 24)) same
    where
      same : continues id b toggle (view id false l toggle b.transfer xs x) ≡ true
      same = and_intro (eq-eqb id id refl) (and_intro (eq-eqb b.transfer b.transfer refl) (same_self toggle))

  forth-link : (b : Option Before) (f : Frame) (fs : List Frame) (priority t : ℕ) (p ts : List ℕ) (xs : List Transfer)
      → Link signature d b (record { priority = priority; transfer = t; payload = p; times = ts }) xs
      → Series signature d (some (record { transfer = t; since = start_of (record { priority = priority; transfer = t; payload = p; times = ts }) })) xs
      → f ∷ fs ≡ stamped (id_of d priority) (sent signature t p) ts ++ all_frames signature d xs → Forth (idle b) f fs
  unfolding stamped
  forth-link b f fs priority t p [] xs link series e = absurd (omega (arith, link.range.begun))
  forth-link b f fs priority t p (x ∷ ts) xs link series e = go (leb (length p) 7) refl
    where
      start : (l : Bool) (ys : List ℕ) → f ≡ frame_at (id_of d priority) (framed ys (tail_byte true l false t)) x
          → follow signature d (idle b) (seen f) ≡ goes (opened (view (id_of d priority) true l false t ys x))
      start l ys q = ap (λ f. follow signature d (idle b) (seen f)) q ∙ begun b priority t l ys x link.range.transfer link.follows

      go : (m : Bool) → leb (length p) 7 ≡ m → Forth (idle b) f fs
      go true q =
          let one : sent signature t p ≡ framed p (tail_byte true true false t) ∷ [] = sent-laws.single signature t p (leb-true (length p) 7 q) in
          let e' : f ∷ fs ≡ frame_at (id_of d priority) (framed p (tail_byte true true false t)) x ∷ all_frames signature d xs =
          e ∙ ap (λ cs. stamped (id_of d priority) cs (x ∷ ts) ++ all_frames signature d xs) one in
          record {
            next = idle (some (record { transfer = t; since = x }));
            taken = start true p (head-eq_of_cons-eq e');
            after = record { transfers = xs; series = series; frames = tail-eq_of_cons-eq e' };
          }
      go false q =
          let long : 7 < length p = leb-false (length p) 7 q in
          let ws : List ℕ = with_sum signature p in
          let o : Opens true false t ws = opens true false t ws (omega arith) in
          let first : sent signature t p ≡ framed (take 7 ws) (tail_byte true false false t) ∷ pieces (fulls (drop 7 ws)) false true t (drop 7 ws) =
          sent_pieces signature t p long ∙ o.first in
          let n : length (sent signature t p) ≡ suc (suc (fulls (drop 7 ws))) = ap length first ∙ ap suc (pieces-length (fulls (drop 7 ws)) false true t (drop 7 ws)) in
          let e' : f ∷ fs ≡ frame_at (id_of d priority) (framed (take 7 ws) (tail_byte true false false t)) x
          ∷ (stamped (id_of d priority) (pieces (fulls (drop 7 ws)) false true t (drop 7 ws)) ts ++ all_frames signature d xs) =
          e ∙ ap (λ cs. stamped (id_of d priority) cs (x ∷ ts) ++ all_frames signature d xs) first in
          record {
            next = amid (id_of d priority) (record { transfer = t; since = x }) true (take 7 ws);
            taken = start false (take 7 ws) (head-eq_of_cons-eq e');
            after = record {
              transfer = link.range.transfer;
              payload = p;
              long = long;
              size = link.range.size;
              bytes = link.range.bytes;
              rest = drop 7 ws;
              left = omega (arith, o.left);
              carries = o.split;
              times = ts;
              within = omega (arith, link.range.within);
              more = xs;
              whole = closes xs link.whole n;
              series = series;
              frames = tail-eq_of_cons-eq e';
            };
          }
        where
          closes : (ys : List Transfer) → WholeBefore signature (record { priority = priority; transfer = t; payload = p; times = x ∷ ts }) ys
              → length (sent signature t p) ≡ suc (suc (fulls (drop 7 (with_sum signature p)))) → Closed (fulls (drop 7 (with_sum signature p))) ts ys
          closes [] h n = tt
          closes (y ∷ ys) h n = omega arith

  forth-idle : (b : Option Before) (f : Frame) (fs : List Frame) (xs : List Transfer) → Series signature d b xs → f ∷ fs ≡ all_frames signature d xs → Forth (idle b) f fs
  unfolding all_frames
  forth-idle b f fs [] series e = absurd (cons≢nil e)
  forth-idle b f fs (x ∷ xs) series e = forth-link b f fs x.priority x.transfer x.payload x.times xs series.0 series.1 e

  module _ (id : ℕ) (b : Before) (toggle : Bool) (gathered : List ℕ) (f : Frame) (fs : List Frame) (a : Amid id b toggle gathered (f ∷ fs)) where
    joined : length (with_sum signature a.payload) ≡ length gathered + length a.rest
    joined = ap length a.carries ∙ length-append gathered a.rest

    taken_as : (l : Bool) (ys : List ℕ) (x : ℕ) → f ≡ frame_at id (framed ys (tail_byte false l toggle b.transfer)) x
        → follow signature d (amid id b toggle gathered) (seen f) ≡ extends signature id b toggle (gathered ++ ys) (view id false l toggle b.transfer ys x)
    taken_as l ys x q = ap (λ f. follow signature d (amid id b toggle gathered) (seen f)) q ∙ gone-on id b toggle l gathered ys x a.transfer

    fits-514 : (ys : List ℕ) → length ys ≤ length a.rest → ltb 514 (length (gathered ++ ys)) ≡ false
    fits-514 ys h = le-ltb 514 (length (gathered ++ ys)) (let k = joined in let s : length a.payload ≤ 512 = a.size in omega (arith, length-append gathered ys))

    forth-amid : (ts : List ℕ) (xs : List Transfer) → length ts ≤ suc (fulls a.rest) → Closed (fulls a.rest) ts xs → Series signature d (some b) xs
        → f ∷ fs ≡ stamped id (pieces (fulls a.rest) false toggle b.transfer a.rest) ts ++ all_frames signature d xs
        → Forth (amid id b toggle gathered) f fs
    unfolding all_frames stamped extends
    forth-amid [] [] w c s e =
        absurd (cons≢nil (e ∙ ap (λ l. l ++ all_frames signature d []) (none-stamped id (pieces (fulls a.rest) false toggle b.transfer a.rest))))
    forth-amid [] (y ∷ ys) w c s e = absurd (omega arith)
    forth-amid (x ∷ ts) xs w c s e = go (leb (length a.rest) 7) refl
      where
        go : (m : Bool) → leb (length a.rest) 7 ≡ m → Forth (amid id b toggle gathered) f fs
        go true q =
            let e' : f ∷ fs ≡ frame_at id (framed a.rest (tail_byte false true toggle b.transfer)) x ∷ all_frames signature d xs =
            e ∙ ap (λ cs. stamped id cs (x ∷ ts) ++ all_frames signature d xs) (pieces-one false toggle b.transfer a.rest (leb-true (length a.rest) 7 q)) in
            let l : 9 < length (gathered ++ a.rest) = let k = a.long in omega (arith, ap length a.carries) in
            let sum : sum_ok signature (gathered ++ a.rest) ≡ true = ap (sum_ok signature) (sym a.carries) ∙ sum-front signature a.payload in
            record {
              next = idle (some b);
              taken = taken_as true a.rest x (head-eq_of_cons-eq e') ∙ rw (fits-514 a.rest (omega arith), sum, lt-leb (length (gathered ++ a.rest)) 9 l);
              after = record { transfers = xs; series = s; frames = tail-eq_of_cons-eq e' };
            }
        go false q =
            let more : 7 < length a.rest = leb-false (length a.rest) 7 q in
            let o : Opens false toggle b.transfer a.rest = opens false toggle b.transfer a.rest more in
            let n = o.left in
            let e' : f ∷ fs ≡ frame_at id (framed (take 7 a.rest) (tail_byte false false toggle b.transfer)) x
            ∷ (stamped id (pieces (fulls (drop 7 a.rest)) false (not toggle) b.transfer (drop 7 a.rest)) ts ++ all_frames signature d xs) =
            e ∙ ap (λ cs. stamped id cs (x ∷ ts) ++ all_frames signature d xs) o.first in
            let f7 : fulls a.rest ≡ suc (fulls (drop 7 a.rest)) = omega arith in
            record {
              next = amid id b (not toggle) (gathered ++ take 7 a.rest);
              taken = taken_as false (take 7 a.rest) x (head-eq_of_cons-eq e') ∙ rw (fits-514 (take 7 a.rest) (omega (arith, o.seven)));
              after = record {
                transfer = a.transfer;
                payload = a.payload;
                long = a.long;
                size = a.size;
                bytes = a.bytes;
                rest = drop 7 a.rest;
                left = omega arith;
                carries = a.carries ∙ ap (λ l. gathered ++ l) o.split ∙ sym (append_assoc gathered (take 7 a.rest) (drop 7 a.rest));
                times = ts;
                within = omega arith;
                more = xs;
                whole = closes xs c f7;
                series = s;
                frames = tail-eq_of_cons-eq e';
              };
            }
          where
            closes : (ys : List Transfer) → Closed (fulls a.rest) (x ∷ ts) ys → fulls a.rest ≡ suc (fulls (drop 7 a.rest)) → Closed (fulls (drop 7 a.rest)) ts ys
            closes [] h n = tt
            closes (y ∷ ys) h n = omega arith

  pub forth : (s : Followed) (f : Frame) (fs : List Frame) → Continues s (f ∷ fs) → Forth s f fs
  forth (idle b) f fs s = forth-idle b f fs s.transfers s.series s.frames
  forth (amid id b toggle gathered) f fs a = forth-amid id b toggle gathered f fs a a.times a.more a.within a.whole a.series a.frames
