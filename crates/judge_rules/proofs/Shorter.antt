-- The pass with little memory gives the same verdict.
use mathlib.Core.Path.{◌≡◌, refl, sym, ap, ◌∙◌}
use mathlib.Core.Bool.{Bool, true, false, not}
use mathlib.Core.List.{List, [], ◌∷◌, ◌++◌, append_assoc}
use mathlib.Core.Option.{Option, none, some}
use Prim.Native.Nat.{ℕ, suc, ◌+◌, ◌*◌, ◌≤◌}
use native.Mathlib.Omega.{arith}
use lib.Dec.{ltb, leb, eqb}
use lib.ListN.{length, drop, length-append}
use Rattle.bits.specs.Little.{le_bytes}
use Rattle.checksum.specs.Crc.{crc_over}
use Rattle.checksum.specs.Crc16.{ccitt, checksum}
use Rattle.checksum.proofs.Linear.{over-append}
use Rattle.rules.specs.Frame.{Frame, Stream, same_stream, stream_of, is_anonymous}
use Rattle.rules.specs.Session.{sum_ok}
use Rattle.rules.specs.Setup.{Setup}
use Rattle.rules.specs.Tests.{pick}
use Rattle.rules.proofs.Table.{same-eq}
use Rattle.judge_rules.specs.Good.{may_follow, signature_of, frame_check, add}
use Rattle.judge_rules.specs.Laws.{Bytes}
use Rattle.judge_rules.specs.Verdict.{Seen, seen, Followed, idle, amid, Next, goes, refuses, as_before, continues, begins, extends, follow, Entry, streams, state_of, put, Judging, on, off, entered, named, judged, advance, run, gathering, verdict_of, verdict_by, verdict}
use Rattle.judge_rules.specs.inside.Brief.{Brief, rests, within, front, starts_in, grows_to, goes_on, summing, brief_verdict, SameVerdict}
use Rattle.judge_rules.proofs.Following.{Fits}
use Rattle.judge_rules.proofs.Streams.{known, followed, Reached, ReachedJ, reached-step}
use Rattle.judge_rules.proofs.Theorem.{begun}

-- ── one stream ──

abbrev brief_of : ℕ → Followed → Brief
brief_of signature (idle b) = rests b
brief_of signature (amid id b toggle gathered) = within id b toggle (length gathered) (front gathered) (checksum signature (drop 2 gathered))

abbrev brief_next : ℕ → Next Followed → Next Brief
brief_next signature (goes s) = goes (brief_of signature s)
brief_next signature (refuses n) = refuses n

sum-on : (signature : ℕ) (q p : List ℕ) → checksum signature (q ++ p) ≡ crc_over ccitt (checksum signature q) p
unfolding checksum
sum-on signature q p = ap (crc_over ccitt 65535) (sym (append_assoc (le_bytes 8 signature) q p)) ∙ over-append ccitt 65535 (le_bytes 8 signature ++ q) p

-- two bytes or more
record Front (g p : List ℕ) (signature : ℕ) : Type 0 where
  pub same : front (g ++ p) ≡ front g
  pub register : checksum signature (drop 2 (g ++ p)) ≡ crc_over ccitt (checksum signature (drop 2 g)) p
  pub sum : sum_ok signature (g ++ p) ≡ eqb (front g) (crc_over ccitt (checksum signature (drop 2 g)) p)

fronts : (signature : ℕ) (g p : List ℕ) → 2 ≤ length g → Front g p signature
fronts signature [] p h = absurd (omega arith)
fronts signature (a ∷ []) p h = absurd (omega arith)
fronts signature (a ∷ b ∷ q) p h =
    record { same = refl; register = sum-on signature q p; sum = ap (eqb (a + 256 * b)) (sum-on signature q p) }

same-follow : (signature : ℕ) (d : Stream) (s : Followed) (v : Seen) → Fits signature d s
    → goes_on signature d (brief_of signature s) v ≡ brief_next signature (follow signature d s v)
unfolding goes_on starts_in grows_to follow begins extends
same-follow signature d (idle b) v h = go v.start (may_follow d b v.transfer v.time) v.last
  where
    go : (x y l : Bool)
        → pick x (pick y (goes (pick l (rests (some (as_before v))) (within v.id (as_before v) true (length v.payload) (front v.payload) (checksum signature (drop 2 v.payload))))) (refuses 24)) (refuses 24)
        ≡ brief_next signature (pick x (pick y (goes (pick l (idle (some (as_before v))) (amid v.id (as_before v) true v.payload))) (refuses 24)) (refuses 24))
    go true true true = refl
    go true true false = refl
    go true false l = refl
    go false y l = refl
same-follow signature d (amid id b toggle g) v h = go v.start (continues id b toggle v)
  where
    k : Front g v.payload signature
    k = fronts signature g v.payload (omega (arith, h.full))

    inner : (x l y z : Bool)
        → pick x (refuses 11) (pick l (pick y (pick z (refuses 24) (goes (rests (some b)))) (refuses 12)) (goes (within id b (not toggle) (length (g ++ v.payload)) (front (g ++ v.payload)) (checksum signature (drop 2 (g ++ v.payload))))))
        ≡ brief_next signature (pick x (refuses 11) (pick l (pick y (pick z (refuses 24) (goes (idle (some b)))) (refuses 12)) (goes (amid id b (not toggle) (g ++ v.payload)))))
    inner true l y z = refl
    inner false true true true = refl
    inner false true true false = refl
    inner false true false z = refl
    inner false false y z = refl

    go : (x c : Bool)
        → pick x (refuses 24) (pick c (grows_to id b toggle (length g + length v.payload) (front g) (crc_over ccitt (checksum signature (drop 2 g)) v.payload) v.last) (refuses 24))
        ≡ brief_next signature (pick x (refuses 24) (pick c (extends signature id b toggle (g ++ v.payload) v) (refuses 24)))
    go true c = refl
    go false false = refl
    go false true =
        (λ i. grows_to id b toggle (sym (length-append g v.payload) i) (front g) (crc_over ccitt (checksum signature (drop 2 g)) v.payload) v.last)
        ∙ (λ i. pick (ltb 514 (length (g ++ v.payload))) (refuses 11)
        (pick v.last (pick (sym k.sum i) (pick (leb (length (g ++ v.payload)) 9) (refuses 24) (goes (rests (some b)))) (refuses 12))
        (goes (within id b (not toggle) (length (g ++ v.payload)) (sym k.same i) (sym k.register i)))))
        ∙ inner (ltb 514 (length (g ++ v.payload))) v.last (sum_ok signature (g ++ v.payload)) (leb (length (g ++ v.payload)) 9)

-- ── all streams ──

briefs : Setup → List (Entry Followed) → List (Entry Brief)
briefs u [] = []
briefs u (e ∷ es) = record { stream = e.stream; state = brief_of (signature_of u e.stream) e.state } ∷ briefs u es

briefly : Setup → Judging Followed → Judging Brief
briefly u (on i st) = on i (briefs u st)
briefly u (off n i) = off n i

same-streams : (u : Setup) (st : List (Entry Followed)) → streams (briefs u st) ≡ streams st
unfolding briefs streams
same-streams u [] = refl
same-streams u (e ∷ es) = ap (λ l. e.stream ∷ l) (same-streams u es)

same-state : (u : Setup) (d : Stream) (st : List (Entry Followed)) → state_of (rests none) d (briefs u st) ≡ brief_of (signature_of u d) (known d st)
unfolding briefs state_of
same-state u d [] = refl
same-state u d (e ∷ es) = go (same_stream e.stream d) refl (same-state u d es)
  where
    go : (b : Bool) → same_stream e.stream d ≡ b → state_of (rests none) d (briefs u es) ≡ brief_of (signature_of u d) (known d es)
        → pick b (brief_of (signature_of u e.stream) e.state) (state_of (rests none) d (briefs u es))
        ≡ brief_of (signature_of u d) (pick b e.state (known d es))
    go true q h = ap (λ x. brief_of (signature_of u x) e.state) (same-eq e.stream d q)
    go false q h = h

same-put : (u : Setup) (d : Stream) (s : Followed) (st : List (Entry Followed)) → put d (brief_of (signature_of u d) s) (briefs u st) ≡ briefs u (put d s st)
unfolding briefs put
same-put u d s [] = refl
same-put u d s (e ∷ es) = go (same_stream e.stream d) refl (same-put u d s es)
  where
    go : (b : Bool) → same_stream e.stream d ≡ b → put d (brief_of (signature_of u d) s) (briefs u es) ≡ briefs u (put d s es)
        → pick b (record { stream = e.stream; state = brief_of (signature_of u d) s } ∷ briefs u es)
        (record { stream = e.stream; state = brief_of (signature_of u e.stream) e.state } ∷ put d (brief_of (signature_of u d) s) (briefs u es))
        ≡ briefs u (pick b (record { stream = e.stream; state = s } ∷ es) (e ∷ put d s es))
    go true q h = ap (λ x. record { stream = e.stream; state = brief_of (signature_of u x) s } ∷ briefs u es) (sym (same-eq e.stream d q))
    go false q h = ap (λ l. record { stream = e.stream; state = brief_of (signature_of u e.stream) e.state } ∷ l) h

module _ (u : Setup) (i : ℕ) (st : List (Entry Followed)) (f : Frame) (h : Reached u st) where
  abbrev d : Stream
  d = stream_of f.id

  same-entered : (n : Next Followed) → entered i d (briefs u st) (brief_next (signature_of u d) n) ≡ briefly u (entered i d st n)
  unfolding entered briefly
  same-entered (goes s) = ap (on (suc i)) (same-put u d s st)
  same-entered (refuses n) = refl

  same-named : named summing u i d (briefs u st) f ≡ briefly u (named gathering u i d st f)
  unfolding named briefly
  same-named =
      ap (λ ds. pick (ltb 64 (length (add d ds))) (off 9 i) (entered i d (briefs u st) (goes_on (signature_of u d) d (state_of (rests none) d (briefs u st)) (seen f)))) (same-streams u st)
      ∙ counted (ltb 64 (length (add d (streams st))))
    where
      counted : (b : Bool)
          → pick b (off 9 i) (entered i d (briefs u st) (goes_on (signature_of u d) d (state_of (rests none) d (briefs u st)) (seen f)))
          ≡ briefly u (pick b (off 9 i) (entered i d st (followed u st f)))
      counted true = refl
      counted false =
          ap (entered i d (briefs u st))
          (ap (λ s. goes_on (signature_of u d) d s (seen f)) (same-state u d st) ∙ same-follow (signature_of u d) d (known d st) (seen f) (h.fits d))
          ∙ same-entered (followed u st f)

  same-advance : advance summing u (on i (briefs u st)) f ≡ briefly u (advance gathering u (on i st) f)
  unfolding advance judged briefly
  same-advance = go (frame_check u f) (is_anonymous f.id)
    where
      go : (o : Option ℕ) (b : Bool) → judged summing u o b i (briefs u st) f ≡ briefly u (judged gathering u o b i st f)
      go (some n) b = refl
      go none true = refl
      go none false = same-named

same-run : (u : Setup) (l : List Frame) (j : Judging Followed) → ReachedJ u j → Bytes l → run summing u (briefly u j) l ≡ briefly u (run gathering u j l)
unfolding run briefly advance
same-run u [] j h b = refl
same-run u (f ∷ l) (on i st) h b =
    ap (λ j. run summing u j l) (same-advance u i st f h) ∙ same-run u l (advance gathering u (on i st) f) (reached-step u i st f h b.0) b.1
same-run u (f ∷ l) (off n i) h b = same-run u l (off n i) tt b.1

pub same-verdict : SameVerdict
unfolding brief_verdict verdict verdict_by briefly briefs
same-verdict u l b = ap verdict_of (same-run u l (on 0 []) (begun u) b) ∙ same (run gathering u (on 0 []) l)
  where
    same : (j : Judging Followed) → verdict_of (briefly u j) ≡ verdict_of j
    same (on i st) = refl
    same (off n i) = refl
