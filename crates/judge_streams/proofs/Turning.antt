-- One frame on the table: what is put back is what the definition says.
use mathlib.Core.Path.{◌≡◌, refl, sym, ap, ◌∙◌}
use mathlib.Core.List.{List}
use mathlib.Core.Option.{none}
use Rattle.std.specs.Prelude.{Ok, Err}
use Prim.Native.Nat.{ℕ, suc, ◌+◌, ◌≤◌, ◌<◌}
use native.Mathlib.Omega.{arith}
use borrow.Author.Tests.{le-ltb, lt-ltb}
use lib.ListN.{length, get_or}
use Rattle.judge_rules.specs.Good.{add}
use Rattle.judge_rules.specs.Limits.{streams_max}
use Rattle.judge_rules.specs.Verdict.{Entry, streams, state_of, put, on, entered}
use Rattle.judge_rules.specs.inside.Brief.{Brief, rests}
use Rattle.judge_stream.specs.inside.Kept.{Step, brief_in, stream_of, seen_of, Follows}
use Rattle.judge_stream.specs.declared.Kept.{Kept}
use Rattle.judge_stream.specs.declared.Seen.{Seen}
use Rattle.judge_streams.specs.inside.Table.{count_at, kept_at, Table, entries_of, Found, Stored, Ranged, Turn, Puts, Turns, entering, Enters}
use Rattle.judge_streams.proofs.Places.{known-state, known-count, known-put, new-state, new-count, new-put}

-- what a frame keeps is in range
pub ranged : (signature : ℕ) (b : Brief) (v : Seen) (p : List ℕ) (s : Step) → Follows signature b v p s → Ranged s
ranged signature b v p (Ok k) f = f.keeps.1
ranged signature b v p (Err e) f = tt

module _ (signature : ℕ) (t : List ℕ) (v : Seen) (p : List ℕ) (ok : Table t) where
  abbrev st : List (Entry Brief)
  st = entries_of t

  module _ (j n : ℕ) (b : Brief) (fits : n ≤ streams_max) (count : length (add (stream_of v) (streams st)) ≡ n) (state : state_of (rests none) (stream_of v) st ≡ b) where
    turned : ((k : Kept) (t' : List ℕ) → Stored t j n k t' → k.id ≡ v.id → entries_of t' ≡ put (stream_of v) (brief_in k) st)
        → (s : Step) → Follows signature b v p s → (r : Turn) (t' : List ℕ) → Puts t j n s r t' → Turns (entering signature (stream_of v) st (seen_of v p)) t r t'
    unfolding entered
    turned puts (Ok k) f r t' w =
        rw w.0
        (record {
          next =
              λ i.
              ap (on (suc i)) (puts k t' w.1 f.keeps.0) ∙ (rw (count, le-ltb streams_max n fits, state, sym f.next));
          table = record { long = w.1.long; few = rw w.1.count fits };
          stays = tt;
        })
    turned puts (Err e) f r t' w =
        rw (w.0, w.1)
        (record { next = λ i. rw (count, le-ltb streams_max n fits, state, sym f.next); table = ok; stays = refl })

  module _ (x : Enters v p) (j : ℕ) (f : Found t (get_or t count_at 0) v.id j) where
    pub known : (l : j < get_or t count_at 0) (s : Step) → Follows signature (brief_in (kept_at t j)) v p s → (r : Turn) (t' : List ℕ)
        → Puts t j (get_or t count_at 0) s r t' → Turns (entering signature (stream_of v) st (seen_of v p)) t r t'
    known l =
        turned j (get_or t count_at 0) (brief_in (kept_at t j)) ok.few (rw x.stream (known-count t v.id x.named j f l))
        (rw x.stream (known-state t v.id x.named j f l (rests none)))
        (λ k t' w e. rw x.stream (known-put t v.id x.named j f l k t' ok w e))

    module _ (l : get_or t count_at 0 ≤ j) where
      pub full : streams_max ≤ get_or t count_at 0 → Turns (entering signature (stream_of v) st (seen_of v p)) t (Err (record { 0 = 9 })) t
      full h =
          record {
            next =
                λ i.
                rw (x.stream, new-count t v.id x.named j f l, lt-ltb streams_max (get_or t count_at 0 + 1) (omega arith));
            table = ok;
            stays = refl;
          }

      pub new : get_or t count_at 0 < streams_max → (s : Step) → Follows signature (rests none) v p s → (r : Turn) (t' : List ℕ)
          → Puts t (get_or t count_at 0) (get_or t count_at 0 + 1) s r t' → Turns (entering signature (stream_of v) st (seen_of v p)) t r t'
      new h =
          turned (get_or t count_at 0) (get_or t count_at 0 + 1) (rests none) (omega arith) (rw x.stream (new-count t v.id x.named j f l))
          (rw x.stream (new-state t v.id x.named j f l (rests none))) (λ k t' w e. rw x.stream (new-put t v.id x.named j f l k t' h w e))
