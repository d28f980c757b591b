-- The frames of a payload pass the checks, under the ID of a stream or of an anonymous message.
use mathlib.Core.Path.{◌≡◌, refl, sym, ap, ◌∙◌}
use mathlib.Core.Bool.{Bool, true, false, not, ◌&&◌, ◌||◌, false≢true, and-false}
use mathlib.Core.List.{List, [], ◌∷◌}
use mathlib.Core.Option.{none, some}
use mathlib.Mathlib.Data.Bool.Basic.{and_elim_left, and_elim_right}
use Prim.Native.Nat.{ℕ, zero, suc, ◌+◌, ◌-◌, ◌^◌, ◌≤◌, ◌<◌}
use native.Mathlib.Omega.{arith}
use lib.Dec.{ltb, eqb}
use lib.ListN.{length, take, drop, length-drop}
use lib.Seq.{length-take-le}
use borrow.Author.Tests.{ne_eqb, le-ltb, lt-leb, ltb-true}
use Rattle.rules.specs.Check.{unnamed_service, bad_tail}
use Rattle.rules.specs.Frame.{Stream, is_anonymous, stream_of}
use Rattle.rules.specs.Sent.{tail_byte, framed, frame_at, pieces, carrying, carried, sent}
use Rattle.rules.specs.Setup.{Setup, signature_for}
use Rattle.rules.specs.Sound.{message_fits, service_fits, stream_fits}
use Rattle.rules.specs.Tests.{pick, is_none}
use Rattle.rules.proofs.Checks.{bad_tail_in}
use Rattle.rules.proofs.Frames.{framed-length, fulls}
use Rattle.judge_rules.specs.Good.{stamped, frame_check, Checked}
use Rattle.judge_rules.specs.Verdict.{seen}
use Rattle.judge_rules.proofs.Views.{sees}

-- ── the ID ──

pub record IdPasses (u : Setup) (id : ℕ) : Type 0 where
  pub small : id < 2 ^ 29
  pub service : unnamed_service (stream_of id) ≡ false
  pub subscribed : is_none (signature_for u id) ≡ false

fits-named : (d : Stream) → stream_fits d ≡ true → unnamed_service d ≡ false
unfolding stream_fits
fits-named d h = go (eqb d.transfer_type 0) (and_elim_right (ltb d.transfer_type 3) _ (and_elim_right (ltb 0 d.source && ltb d.source 128) _ h))
  where
    go : (b : Bool) → pick b (message_fits d) (service_fits d) ≡ true → (not b && (eqb d.source 0 || eqb d.destination 0)) ≡ false
    go true k = refl
    go false k =
        let s : 0 < d.source = ltb-true 0 d.source (and_elim_left _ _ (and_elim_left (ltb 0 d.source && ltb d.source 128) _ h)) in
        let t : 0 < d.destination = ltb-true 0 d.destination (and_elim_left _ _ (and_elim_right (ltb d.type 256) _ k)) in
        rw (ne_eqb d.source 0 (λ z. omega arith), ne_eqb d.destination 0 (λ z. omega arith))

pub id-passes : (u : Setup) (id signature : ℕ) → id < 2 ^ 29 → stream_fits (stream_of id) ≡ true → signature_for u id ≡ some signature → IdPasses u id
id-passes u id signature h k e = record { small = h; service = fits-named (stream_of id) k; subscribed = ap is_none e }

pub anonymous-passes : (u : Setup) (id signature : ℕ) → id < 2 ^ 29 → is_anonymous id ≡ true → signature_for u id ≡ some signature → IdPasses u id
anonymous-passes u id signature h a e = record { small = h; service = go (eqb (stream_of id).transfer_type 0) a; subscribed = ap is_none e }
  where
    go : (b : Bool) → (b && eqb (stream_of id).source 0) ≡ true → (not b && (eqb (stream_of id).source 0 || eqb (stream_of id).destination 0)) ≡ false
    go true a = refl
    go false a = absurd (false≢true a)

-- ── the data ──

-- of a frame that 5 lets through
record Sizes (a s l g : Bool) (n : ℕ) : Type 0 where
  pub most : n ≤ 7
  pub start : (s && g) ≡ false
  pub alone : (a && not (s && l)) ≡ false
  pub full : l ≡ false → n ≡ 7
  pub one : s ≡ false → 0 < n

tail-passes : (a s l g : Bool) (n : ℕ) → Sizes a s l g n → bad_tail a s l g (n + 1) ≡ false
tail-passes a s l g n h = rw (h.start, h.alone) (ends s l h.full h.one)
  where
    ends : (s l : Bool) → (l ≡ false → n ≡ 7) → (s ≡ false → 0 < n) → ((not l && ltb (n + 1) 8) || (l && (not s && eqb (n + 1) 1))) ≡ false
    ends s false f o = let k = f refl in rw (le-ltb (n + 1) 8 (omega arith))
    ends true true f o = refl
    ends false true f o = let k = o refl in ne_eqb (n + 1) 1 (λ z. omega arith)

frame-passes : (u : Setup) (id t : ℕ) → t < 32 → IdPasses u id → (s l g : Bool) (xs : List ℕ) (x : ℕ) → Sizes (is_anonymous id) s l g (length xs)
    → frame_check u (frame_at id (framed xs (tail_byte s l g t)) x) ≡ none
unfolding frame_check seen
frame-passes u id t small ok s l g xs x h =
    let c : List ℕ = framed xs (tail_byte s l g t) in
    let n : length (framed xs (tail_byte s l g t)) ≡ length xs + 1 = framed-length xs (tail_byte s l g t) in
    let m = h.most in
    let bad : bad_tail_in (frame_at id (framed xs (tail_byte s l g t)) x) ≡ false =
    ap (λ v. bad_tail (is_anonymous id) v.start v.last v.toggle (length (framed xs (tail_byte s l g t)))) (sees id s l g t xs x small)
    ∙ ap (bad_tail (is_anonymous id) s l g) n ∙ tail-passes (is_anonymous id) s l g (length xs) h in
    rw (
      lt-leb (2 ^ 29) id ok.small,
      ne_eqb (length (framed xs (tail_byte s l g t))) 0 (λ z. omega arith),
      le-ltb 8 (length (framed xs (tail_byte s l g t))) (omega arith),
      ok.service,
      bad,
      ok.subscribed,
    )

-- ── all the frames ──

module _ (u : Setup) (id t : ℕ) (small : t < 32) (ok : IdPasses u id) where
  pieces-pass : is_anonymous id ≡ false → (n : ℕ) (s g : Bool) (xs : List ℕ) → n ≡ fulls xs → (s && g) ≡ false → (s ≡ false → 0 < length xs)
      → (ts : List ℕ) → Checked u (stamped id (pieces n s g t xs) ts)
  unfolding pieces stamped
  pieces-pass a zero s g xs e q o [] = tt
  pieces-pass a zero s g xs e q o (x ∷ ts) = (
    frame-passes u id t small ok s true g xs x
        (record { most = omega arith; start = q; alone = ap (λ b. b && not (s && true)) a; full = λ z. absurd (false≢true (sym z)); one = o }),
    tt,
  )
  pieces-pass a (suc n) s g xs e q o [] = tt
  pieces-pass a (suc n) s g xs e q o (x ∷ ts) =
      let k : length (take 7 xs) ≡ 7 = length-take-le 7 xs (omega arith) in
      let m : length (drop 7 xs) ≡ length xs - 7 = length-drop 7 xs in (
        frame-passes u id t small ok s false g (take 7 xs) x
            (record { most = omega arith; start = q; alone = ap (λ b. b && not (s && false)) a; full = λ z. k; one = λ z. omega arith }),
        pieces-pass a n false (not g) (drop 7 xs) (omega arith) refl (λ z. omega arith) ts,
      )

  pub sent-passes : is_anonymous id ≡ false → (signature : ℕ) (p ts : List ℕ) → Checked u (stamped id (sent signature t p) ts)
  unfolding sent carrying
  sent-passes a signature p ts =
      pieces-pass a (fulls (carried signature p)) true false (carried signature p) refl refl (λ z. absurd (false≢true (sym z))) ts

  pub single-passes : (xs : List ℕ) → length xs ≤ 7 → (ts : List ℕ) → Checked u (stamped id (framed xs (tail_byte true true false t) ∷ []) ts)
  unfolding stamped
  single-passes xs h [] = tt
  single-passes xs h (x ∷ ts) = (
    frame-passes u id t small ok true true false xs x
        (record { most = h; start = refl; alone = and-false (is_anonymous id); full = λ z. absurd (false≢true (sym z)); one = λ z. absurd (false≢true (sym z)) }),
    tt,
  )
