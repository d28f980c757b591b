-- What a frame that passes the checks is: its ID that of its stream and a priority, its data a payload and a tail.
use mathlib.Core.Path.{◌≡◌, refl, sym, ap, ◌∙◌}
use mathlib.Core.Bool.{Bool, true, false, not, ◌&&◌, false≢true, and-false}
use mathlib.Core.List.{List, [], ◌∷◌}
use mathlib.Core.Option.{none}
use mathlib.Mathlib.Data.Bool.Basic.{or-eq-false-eq-eq-false-and-eq-false as or_off}
use Prim.Native.Nat.{ℕ, zero, suc, ◌+◌, ◌*◌, ◌-◌, ◌/◌, ◌%◌, ◌^◌, ◌≤◌, ◌<◌}
use native.Mathlib.Omega.{arith}
use lib.Dec.{ltb, eqb}
use lib.ListN.{length, get_or, length-take}
use borrow.Author.Tests.{eqb-true, eqb-false, eq-eqb, ltb-false, leb-false}
use Rattle.bits.specs.Order.{Octets}
use Rattle.bits.proofs.Octets.{octets-take}
use Rattle.rules.specs.Check as receiver
use Rattle.rules.specs.Check.{bad_tail, for_another}
use Rattle.rules.specs.Frame.{Frame, Arrival, Stream, is_service_stream, priority_of, is_anonymous, stream_of, tail_of, payload_of, is_start, is_end, toggle_of}
use Rattle.rules.specs.Sent.{flag, tail_byte, framed, id_of, frame_at}
use Rattle.rules.specs.Setup.{Setup}
use Rattle.rules.specs.Tests.{bit}
use Rattle.rules.proofs.Checks.{Accepted, accepted}
use Rattle.rules.proofs.Frames.{framed-tail, framed-payload, framed-back}
use Rattle.rules.proofs.Ids.{bit_is, flag-le, id-laws}
use Rattle.rules.proofs.Lasting.{stream-fits}
use Rattle.judge_rules.specs.Good.{frame_check}
use Rattle.judge_rules.specs.Verdict.{Seen, seen}

-- ── a frame that is made ──

module _ (s l g : Bool) (t : ℕ) (h : t < 32) where
  tail-start : bit (tail_byte s l g t) 128 ≡ s
  tail-start = bit_is (tail_byte s l g t) 128 s (omega (arith, flag-le s, flag-le l, flag-le g))

  tail-last : bit (tail_byte s l g t) 64 ≡ l
  tail-last = bit_is (tail_byte s l g t) 64 l (omega (arith, flag-le s, flag-le l, flag-le g))

  tail-toggle : bit (tail_byte s l g t) 32 ≡ g
  tail-toggle = bit_is (tail_byte s l g t) 32 g (omega (arith, flag-le s, flag-le l, flag-le g))

  tail-transfer : tail_byte s l g t % 32 ≡ t
  tail-transfer = omega arith

abbrev pub view : ℕ → Bool → Bool → Bool → ℕ → List ℕ → ℕ → Seen
view id s l g t xs x = record { id = id; start = s; last = l; toggle = g; transfer = t; payload = xs; time = x }

pub sees : (id : ℕ) (s l g : Bool) (t : ℕ) (xs : List ℕ) (x : ℕ) → t < 32 → seen (frame_at id (framed xs (tail_byte s l g t)) x) ≡ view id s l g t xs x
unfolding seen
sees id s l g t xs x small =
    let q = framed-tail xs (tail_byte s l g t) in
    λ i. record {
      id = id;
      start = (ap (λ b. bit b 128) q ∙ tail-start s l g t small) i;
      last = (ap (λ b. bit b 64) q ∙ tail-last s l g t small) i;
      toggle = (ap (λ b. bit b 32) q ∙ tail-toggle s l g t small) i;
      transfer = (ap (λ b. b % 32) q ∙ tail-transfer s l g t small) i;
      payload = framed-payload xs (tail_byte s l g t) i;
      time = x;
    }

-- ── a frame that is seen ──

abbrev pub frame_of : Seen → Frame
frame_of v = frame_at v.id (framed v.payload (tail_byte v.start v.last v.toggle v.transfer)) v.time

flag-bit : (n w : ℕ) → flag (bit n w) ≡ n / w % 2
flag-bit n w = go (eqb (n / w % 2) 1) refl
  where
    go : (b : Bool) → eqb (n / w % 2) 1 ≡ b → flag b ≡ n / w % 2
    go true e = sym (eqb-true (n / w % 2) 1 e)
    go false e = let k = eqb-false (n / w % 2) 1 e in let l : n / w % 2 < 2 = omega arith in omega arith

tail-back : (n : ℕ) → n < 256 → tail_byte (bit n 128) (bit n 64) (bit n 32) (n % 32) ≡ n
tail-back n h =
    let a = flag-bit n 128 in
    let b = flag-bit n 64 in
    let c = flag-bit n 32 in
    let p : n / 32 / 2 ≡ n / 64 = omega arith in
    let q : n / 64 / 2 ≡ n / 128 = omega arith in
    let r : n / 128 % 2 ≡ n / 128 = omega arith in
    let e1 : 2 * (n / 64 / 2) + n / 64 % 2 ≡ n / 64 = omega arith in
    let e2 : 2 * (n / 32 / 2) + n / 32 % 2 ≡ n / 32 = omega arith in
    let e3 : 32 * (n / 32) + n % 32 ≡ n = omega arith in
    rw (a, b, c) (omega arith)

octet-at : (m : List ℕ) (i : ℕ) → Octets m → get_or m i 0 < 256
octet-at [] i h = omega arith
octet-at (b ∷ bs) zero h = h.0
octet-at (b ∷ bs) (suc i) h = octet-at bs i h.1

pub seen-frame : (f : Frame) → Octets f.bytes → 0 < length f.bytes → frame_of (seen f) ≡ f
unfolding seen
seen-frame f o h =
    let n = tail_of f.bytes in
    ap (λ b. frame_at f.id b f.time) (ap (framed (payload_of f.bytes)) (tail-back n (octet-at f.bytes (length f.bytes - 1) o)) ∙ sym (framed-back f.bytes h))

-- what the checks and the stream say of it
pub record Valid (d : Stream) (v : Seen) : Type 0 where
  pub priority : ℕ
  pub small : priority < 32
  pub id : v.id ≡ id_of d priority
  pub transfer : v.transfer < 32
  pub most : length v.payload ≤ 7
  pub start : v.start ≡ true → v.toggle ≡ false
  pub full : v.last ≡ false → length v.payload ≡ 7
  pub one : v.start ≡ false → 0 < length v.payload
  pub octets : Octets v.payload

-- ── the checks ──

-- a receiver that a service is addressed to
abbrev pub hearer : Setup → Frame → Setup
hearer u f = record { own = (stream_of f.id).destination; subscriptions = u.subscriptions }

abbrev pub heard : Frame → Arrival
heard f = record { frame = f; interface = 0 }

mine : (d : Stream) → for_another d.destination d ≡ false
mine d = rw (eq-eqb d.destination d.destination refl) (and-false (is_service_stream d))

pub check-is : (u : Setup) (f : Frame) → frame_check u f ≡ receiver.frame_check (hearer u f) (heard f)
unfolding frame_check receiver.frame_check
check-is u f = rw (mine (stream_of f.id))

pub accepts : (u : Setup) (f : Frame) → frame_check u f ≡ none → Accepted (hearer u f) (heard f)
accepts u f e = accepted (hearer u f) (heard f) (sym (check-is u f) ∙ e)

record Tail (s l g : Bool) (n : ℕ) : Type 0 where
  pub start : s ≡ true → g ≡ false
  pub full : l ≡ false → 8 ≤ n
  pub one : s ≡ false → l ≡ true → n ≡ 1 → ⊥

good-tail : (s l g : Bool) (n : ℕ) → bad_tail false s l g n ≡ false → Tail s l g n
good-tail s l g n e =
    let a = (or_off _ _).0 e in
    let b = (or_off _ _).0 a.1 in
    record {
      start = λ q. toggles s g q a.0;
      full = λ q. fills l q b.0;
      one = λ q r k. ends s l q r k b.1;
    }
  where
    toggles : (s g : Bool) → s ≡ true → (s && g) ≡ false → g ≡ false
    toggles true g q k = k
    toggles false g q k = absurd (false≢true q)

    fills : (l : Bool) → l ≡ false → (not l && ltb n 8) ≡ false → 8 ≤ n
    fills false q k = ltb-false n 8 k
    fills true q k = absurd (false≢true (sym q))

    ends : (s l : Bool) → s ≡ false → l ≡ true → n ≡ 1 → (l && (not s && eqb n 1)) ≡ false → ⊥
    ends false true q r k w = eqb-false n 1 w k
    ends true l q r k w = false≢true (sym q)
    ends false false q r k w = false≢true r

pub record Named (d : Stream) (f : Frame) : Type 0 where
  pub valid : Valid d (seen f)
  pub some : 0 < length f.bytes

pub named-frame : (u : Setup) (f : Frame) → frame_check u f ≡ none → is_anonymous f.id ≡ false → Octets f.bytes → Named (stream_of f.id) f
unfolding seen
named-frame u f e a o =
    let k = accepts u f e in
    let b = (or_off (eqb (length f.bytes) 0) (ltb 8 (length f.bytes))).0 k.length in
    let n : 0 < length f.bytes = omega (arith, eqb-false (length f.bytes) 0 b.0) in
    let m : length f.bytes ≤ 8 = ltb-false 8 (length f.bytes) b.1 in
    let z : f.id < 2 ^ 29 = leb-false (2 ^ 29) f.id k.id in
    let len : length (payload_of f.bytes) ≡ length f.bytes - 1 = simp length-take (omega arith) in
    let t : Tail (is_start (tail_of f.bytes)) (is_end (tail_of f.bytes)) (toggle_of (tail_of f.bytes)) (length f.bytes) =
    good-tail _ _ _ _ (ap (λ x. bad_tail x (is_start (tail_of f.bytes)) (is_end (tail_of f.bytes)) (toggle_of (tail_of f.bytes)) (length f.bytes)) (sym a) ∙ k.tail) in
    record {
      valid = record {
        priority = priority_of f.id;
        small = omega arith;
        id = sym (id-laws.back f.id (stream-fits (hearer u f) (heard f) k a));
        transfer = omega arith;
        most = omega arith;
        start = t.start;
        full = λ q. omega (arith, t.full q);
        one = λ q. least q (is_end (tail_of f.bytes)) refl n len t;
        octets = octets-take (length f.bytes - 1) f.bytes o;
      };
      some = n;
    }
  where
    least : is_start (tail_of f.bytes) ≡ false → (l : Bool) → is_end (tail_of f.bytes) ≡ l → 0 < length f.bytes → length (payload_of f.bytes) ≡ length f.bytes - 1
        → Tail (is_start (tail_of f.bytes)) (is_end (tail_of f.bytes)) (toggle_of (tail_of f.bytes)) (length f.bytes) → 0 < length (payload_of f.bytes)
    least q true r n len t = omega (arith, t.one q r)
    least q false r n len t = omega (arith, t.full r)
