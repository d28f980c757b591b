-- One frame of the pass, by the checks in the order of the code.
use mathlib.Core.Path.{◌≡◌, refl, ◌∙◌}
use mathlib.Core.Bool.{Bool, true, false}
use mathlib.Core.List.{List}
use mathlib.Core.Option.{Option, none, some}
use Rattle.std.specs.Prelude.{Err}
use Prim.Native.Nat.{ℕ, suc, ◌≤◌, ◌<◌}
use Rattle.judge_rules.specs.Good.{signature_of, frame_check}
use Rattle.judge_rules.specs.Verdict.{Seen, Entry, seen, on, off, named, judged, advance}
use Rattle.judge_rules.specs.inside.Brief.{Brief, summing}
use Rattle.judge_rules.proofs.Views.{hearer, heard, check-is}
use Rattle.judge_streams.specs.inside.Table.{Turn, Table, entries_of, Turns, entering}
use Rattle.rules.specs.Check.{or_zero}
use Rattle.rules.specs.Frame.{Frame, Stream, stream_of, unnamed}
use Rattle.rules.specs.Setup.{Setup, subscribed, kind_of, signature_for}
use Rattle.rules.specs.Tests.{pick, is_none}
use Rattle.rules.proofs.Ordered.{reads, heads, read-refuses, head-refuses, heads-pass}
use Rattle.judge_capture.specs.inside.Feed.{admitting}

-- ── a frame that passed 2 to 5 ──

module _ (u : Setup) (d : Stream) (st : List (Entry Brief)) (v : Seen) (i : ℕ) where
  abbrev found : Option ℕ
  found = subscribed (kind_of d) d.type u.subscriptions

  pub not_found : found ≡ none → off 7 i ≡ admitting u d st v i
  not_found e = rw e

  module _ (g : ℕ) (e : found ≡ some g) where
    pub anonymous : unnamed d ≡ true → on (suc i) st ≡ admitting u d st v i
    anonymous n = rw (e, n)

    pub enters : unnamed d ≡ false → entering g d st v i ≡ admitting u d st v i
    unfolding signature_of
    enters n = rw (e, n)

-- ── the checks ──

abbrev pub Turned : Setup → Frame → List ℕ → Turn → List ℕ → Type 0
Turned u f t r t' = Turns (λ i. advance summing u (on i (entries_of t)) f) t r t'

module _ (u : Setup) (f : Frame) (t : List ℕ) (ok : Table t) where
  refused : (n : ℕ) → frame_check u f ≡ some n → Turned u f t (Err (record { 0 = n })) t
  unfolding advance judged
  refused n e = record { next = λ i. rw e; table = ok; stays = refl }

  pub unread : (r : ℕ) → r ≡ or_zero (reads (hearer u f) (heard f)) → 0 < r → Turned u f t (Err (record { 0 = r })) t
  unread r e h = refused r (check-is u f ∙ read-refuses (hearer u f) (heard f) r e h)

  module _ (r : ℕ) (e : r ≡ or_zero (reads (hearer u f) (heard f))) (z : r ≤ 0) where
    pub head-refused : (k : ℕ) → k ≡ or_zero (heads (hearer u f) (heard f)) → 0 < k → Turned u f t (Err (record { 0 = k })) t
    head-refused k d h = refused k (check-is u f ∙ head-refuses (hearer u f) (heard f) r e z k d h)

    admitted : (k : ℕ) → k ≡ or_zero (heads (hearer u f) (heard f)) → k ≤ 0 → (i : ℕ)
        → admitting u (stream_of f.id) (entries_of t) (seen f) i ≡ advance summing u (on i (entries_of t)) f
    unfolding advance judged named
    admitted k d y i = rw (check-is u f ∙ heads-pass (hearer u f) (heard f) r e z k d y) (go (signature_for u f.id) (unnamed (stream_of f.id)))
      where
        go : (o : Option ℕ) (b : Bool)
            → pick (is_none o) (off 7 i) (pick b (on (suc i) (entries_of t)) (entering (signature_of u (stream_of f.id)) (stream_of f.id) (entries_of t) (seen f) i))
            ≡ judged summing u (pick (is_none o) (some 7) none) b i (entries_of t) f
        go none b = refl
        go (some g) true = refl
        go (some g) false = refl

    pub admits : (k : ℕ) → k ≡ or_zero (heads (hearer u f) (heard f)) → k ≤ 0 → (w : Turn) (t' : List ℕ)
        → Turns (admitting u (stream_of f.id) (entries_of t) (seen f)) t w t' → Turned u f t w t'
    admits k d y w t' h = record { next = λ i. h.next i ∙ admitted k d y i; table = h.table; stays = h.stays }
