-- The call: the verdict of the pass over the records, under the subscriptions that were set up.
use mathlib.Core.Path.{◌≡◌, refl, ap, ◌∙◌}
use mathlib.Core.Bool.{Bool, true, false}
use mathlib.Core.List.{List, [], ◌++◌}
use Rattle.std.specs.Prelude.{Ok, Err}
use Prim.Native.Nat.{ℕ, zero, suc, ◌+◌, ◌*◌, ◌-◌, ◌^◌, ◌<◌}
use native.Mathlib.Omega.{arith}
use borrow.Author.Tests.{le-ltb}
use lib.ListN.{length, take, drop, replicate}
use Rattle.answers.specs.Setup.{Outcome}
use Rattle.answers.specs.declared.SetupError.TheVariants.{Unacceptable}
use Rattle.bits.specs.Order.{Octets}
use Rattle.bits.specs.Part.{span}
use Rattle.bits.proofs.Octets.{octets-take, octets-drop, octets-append, octets-span}
use Rattle.capture_convert.specs.Capture.{trailer_in, count_in, records_in, trailed}
use Rattle.capture_convert.specs.inside.Walks.{Located}
use Rattle.capture_convert.proofs.Calls.{size-there, records-are}
use Rattle.capture_record.specs.Record.{size_of}
use Rattle.judge_rules.specs.Laws.{Bytes}
use Rattle.judge_rules.specs.Verdict.{verdict, verdict_by, verdict_of, Entry, on, run}
use Rattle.judge_rules.specs.inside.Brief.{Brief, summing, brief_verdict}
use Rattle.judge_rules.proofs.Shorter.{same-verdict}
use Rattle.judge_streams.specs.inside.Table.{table_size}
use Rattle.judge_streams.proofs.Begun.{no-entries}
use Rattle.rules.specs.Setup.{Setup}
use Rattle.rules.specs.Tests.{pick}
use Rattle.setup.specs.Setup as setting
use Rattle.setup.specs.Setup.{given, accepted, state_of, after_setup}
use Rattle.setup.proofs.Fresh.{fresh}
use Rattle.state.specs.Layout.{size, setup_of}
use Rattle.judge_capture.specs.Judge as call
use Rattle.judge_capture.specs.Judge.{frames_in, captured, judges}
use Rattle.judge_capture.specs.Record.{frame_told, frames_told}
use Rattle.judge_capture.specs.inside.Feed.{count_of, Fed, fed_from, Feeds}
use Rattle.judge_capture.specs.Answer.{fails_at}
use Rattle.judge_capture.specs.declared.records.Failure.{Failure}
use Rattle.judge_capture.specs.declared.verdict.Refusal.TheVariants as answer

-- ── the frames of bytes ──

zeros-octets : (n : ℕ) → Octets (replicate n 0)
zeros-octets zero = tt
zeros-octets (suc n) = (omega arith, zeros-octets n)

pub told-octets : (n : ℕ) (b : List ℕ) → Octets b → Bytes (frames_told n b)
unfolding frames_told frame_told
told-octets zero b o = tt
told-octets (suc n) b o =
    let r = take 21 b in (
      octets-take (size_of r) (drop 13 r ++ replicate 247 0) (octets-append (drop 13 r) (replicate 247 0) (octets-drop 13 r (octets-take 21 b o)) (zeros-octets 247)),
      told-octets n (drop 21 b) (octets-drop 21 b o),
    )

pub in-octets : (c : List ℕ) → Octets c → Bytes (frames_in c)
unfolding frames_in
in-octets c o =
    let n = count_in (trailer_in c) in
    told-octets n (records_in c n) (octets-span c (length c - 16 - 21 * n) (21 * n) o)

-- ── a capture ──

module _ (u : Setup) (c : List ℕ) where
  pub no_capture : trailed c ≡ false → Err answer.NoCapture ≡ captured u c
  unfolding captured
  no_capture t = rw t

  module _ (from : ℕ) (o : Octets c) (p : Located c from) where
    abbrev b : List ℕ
    b = span c from (length c - 16 - from)

    abbrev count : ℕ
    count = count_in (trailer_in c)

    count-is : count_of b ≡ count
    count-is = omega (arith, size-there c from p)

    frames-are : frames_told (count_of b) b ≡ frames_in c
    unfolding frames_in
    frames-are = rw (count-is, records-are c [] from p b refl)

    same : (w : Fed) (t' : List ℕ) → Feeds u (replicate table_size 0) b w t' → verdict_of (fed_from 0 (count_of b) w t') ≡ verdict u (frames_in c)
    unfolding brief_verdict verdict_by
    same w t' h =
        ap verdict_of
        (h.next 0 ∙ ap (λ (es : List (Entry Brief)). run summing u (on 0 es) (frames_told (count_of b) b)) no-entries ∙ ap (run summing u (on 0 [])) frames-are)
        ∙ same-verdict u (frames_in c) (in-octets c o)

    pub passed : (t' : List ℕ) → Feeds u (replicate table_size 0) b (Ok tt) t' → Ok tt ≡ captured u c
    unfolding captured
    passed t' h = rw p.right (ap call.told (same (Ok tt) t' h))

    pub failed : (f : Failure) (t' : List ℕ) → Feeds u (replicate table_size 0) b (Err f) t' → (Err (answer.Fails f) ≡ captured u c) × (f.index < 2 ^ 32)
    unfolding captured
    failed f t' h = (
      rw p.right (ap (fails_at f.condition.0) (let q : f.index ≡ 0 + f.index = omega arith in q) ∙ ap call.told (same (Err f) t' h)),
      omega (arith, h.before.0, count-is, p.few),
    )

-- ── the setup ──

module _ (m s m' : List ℕ) (a : Outcome) (long : length m ≡ size) (e : setting.returned a m' ≡ after_setup m 0 s) where
  abbrev by : Bool → setting.Result
  by b = pick b (setting.returned (Ok tt) (state_of (given 0 s) ++ drop size m)) (setting.returned (Err Unacceptable) m)

  after : setting.returned a m' ≡ by (accepted 0 s)
  unfolding after_setup
  after = e ∙ (rw (le-ltb (length m) size (omega arith)))

  pub taken : a ≡ Ok tt → (accepted 0 s ≡ true) × (m' ≡ state_of (given 0 s) ++ drop size m)
  taken d = go (accepted 0 s) after
    where
      go : (b : Bool) → setting.returned a m' ≡ by b → (b ≡ true) × (m' ≡ state_of (given 0 s) ++ drop size m)
      go true q = (refl, ap (λ (x : setting.Result). x.state) q)
      go false q = let k = ap (λ (x : setting.Result). x.answer) q in cc

  pub refused : (a ≡ Ok tt → ⊥) → accepted 0 s ≡ false
  refused d = go (accepted 0 s) after
    where
      go : (b : Bool) → setting.returned a m' ≡ by b → b ≡ false
      go true q = absurd (d (ap (λ (x : setting.Result). x.answer) q))
      go false q = refl

  pub subscribes : a ≡ Ok tt → Octets s → setup_of m' ≡ given 0 s
  subscribes d o = rw (taken d).1 (fresh 0 s (drop size m) (taken d).0 o).setup

pub not-acceptable : (s c : List ℕ) → accepted 0 s ≡ false → Err answer.Unacceptable ≡ judges s c
unfolding judges
not-acceptable s c e = rw e

pub judged : (s c : List ℕ) → accepted 0 s ≡ true → captured (given 0 s) c ≡ judges s c
unfolding judges
judged s c e = rw e
