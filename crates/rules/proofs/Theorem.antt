-- Condition 3 (RULES 14.1): the theorem.
use mathlib.Core.Path.{◌≡◌, refl, sym, ap, ap₂, ◌∙◌, subst}
use mathlib.Core.Bool.{Bool, true, false, true≢false}
use mathlib.Core.List.{List, [], ◌∷◌}
use mathlib.Core.Option.{some}
use mathlib.Mathlib.Data.Bool.Basic.{and_elim_left, and_elim_right}
use Prim.Native.Nat.{ℕ, suc, ◌+◌, ◌*◌, ◌/◌, ◌%◌, ◌≤◌, ◌<◌}
use native.Mathlib.Omega.{arith}
use lib.Dec.{eqb, leb}
use lib.ListN.{length, take}
use lib.Seq.{take_all, take-length}
use borrow.Author.Tests.{eq-eqb, lt-leb, leb-true, leb-false}
use Rattle.checksum.specs.Crc16.{checksum}
use Rattle.rules.specs.Answer.{Answer, handed, number_of}
use Rattle.rules.specs.Check.{parsed}
use Rattle.rules.specs.Condition3.{Past, from_setup, lent, heard, of_stream, start_of, keep, frames_with, answers_to, Receiver, frames, answers, front, While, Brings, next, again, beside, Transfer, handouts, Condition3, rules_table}
use Rattle.rules.specs.Damage.{Opens}
use Rattle.rules.specs.Frame.{Arrival, Stream, stream_of, priority_of, is_anonymous, is_start, tail_of}
use Rattle.rules.specs.Limits.{switch_delay}
use Rattle.rules.specs.Reception.{step}
use Rattle.rules.specs.Sent.{with_sum, carried, carrying, sent, id_of}
use Rattle.rules.specs.Session.{Out, closing, takes, fresh}
use Rattle.rules.specs.Setup.{Setup, signature_for}
use Rattle.rules.specs.Sound.{stream_fits, places_fit, sound}
use Rattle.rules.specs.Table.{Places}
use Rattle.rules.specs.Tests.{pick}
use Rattle.rules.proofs.Checks.{Accepted, accepted, named-not-anonymous, of-stream}
use Rattle.rules.proofs.Delivery.{Goes, over-now, goes_on, closes_by, not-one, verdict, closes-once}
use Rattle.rules.proofs.Follow.{frames-upto, answers-upto, answers-length, follow}
use Rattle.rules.proofs.Frames.{carried-short, carried-long}
use Rattle.rules.proofs.Ids.{id-priority}
use Rattle.rules.proofs.Lasting.{stream-fits, sound-fits, sound-sole, sound-after, lasting}
use Rattle.rules.proofs.Others.{sole-step}
use Rattle.rules.proofs.Own.{ref_run, same}
use Rattle.rules.proofs.Start.{took-checked, began-by}
use Rattle.rules.proofs.Table.{Sole}

-- ── pasts ──

pub past-sound : (u : Setup) (ps : Places) → Past u ps → sound ps ≡ true
past-sound u ps from_setup = lasting.setup
past-sound u ps (lent h) = h
past-sound u ps (heard {ps = qs} h l) = sound-after u qs l (past-sound u qs h)

pub past_fits : (u : Setup) (ps : Places) → Past u ps → places_fit ps ≡ true
past_fits u ps h = sound-fits ps (past-sound u ps h)

past-sole : (u : Setup) (ps : Places) → Past u ps → Sole ps
past-sole u ps h = sound-sole ps (past-sound u ps h)

-- ── the frames of a payload ──

pub sender : {i id till : ℕ} {ms : List (List ℕ)} {f : Arrival} {fs : List Arrival} → eqb f.interface i ≡ true → Brings i id till ms (f ∷ fs)
    → f.frame.id ≡ id
sender k (next t h b) = refl
sender k (again t h b) = refl
sender k (beside a e h b) = absurd (true≢false (sym k ∙ e))

carried-most : (signature : ℕ) (p : List ℕ) → length p ≤ 512 → length (carried signature p) ≤ 514
carried-most signature p h = go (leb (length p) 7) refl
  where
    go : (b : Bool) → leb (length p) 7 ≡ b → length (carried signature p) ≤ 514
    go true e = rw (carried-short signature p (leb-true (length p) 7 e)) (omega arith)
    go false e = rw (carried-long signature p (leb-false (length p) 7 e)) (omega arith)

-- what a correctly sent payload closes with is the payload
unaltered : (u : Setup) (id t signature : ℕ) (p : List ℕ) → signature_for u id ≡ some signature
    → verdict u id t (carried signature p) (leb (length (carried signature p)) 7) ≡ handed p (stream_of id) (priority_of id) t
unfolding closing
unaltered u id t signature p e = go (leb (length p) 7) refl
  where
    go : (b : Bool) → leb (length p) 7 ≡ b
        → verdict u id t (carried signature p) (leb (length (carried signature p)) 7) ≡ handed p (stream_of id) (priority_of id) t
    go true k = rw (carried-short signature p (leb-true (length p) 7 k), k)
    go false k =
        let h = leb-false (length p) 7 k in
        rw (
          carried-long signature p h,
          lt-leb (length (with_sum signature p)) 7 (omega arith),
          e,
          eq-eqb (checksum signature p % 256 + 256 * (checksum signature p / 256)) (checksum signature p) (omega arith),
        )

-- of the answers to a transfer's frames the one that closes it alone may be 1
pub goes-handouts : (u : Setup) {i : ℕ} {v : Answer} {single ended : Bool} {fs : List Arrival} {l : List Answer} → Goes i v single ended fs l
    → handouts (rules_table u) l ≡ pick ended [] (handouts (rules_table u) (v ∷ []))
goes-handouts u over-now = refl
goes-handouts u {single = single} {ended = ended} (goes_on a x e q g) = rw (not-one single ended (number_of x) q) (goes-handouts u g)
goes-handouts u {v = v} (closes_by a e g) = ap (keep (eqb (number_of v) 1) v) (goes-handouts u g)

-- ── one receiver ──

abbrev pub first : Setup → Arrival → Out
first u f = takes (fresh (parsed u f)) (parsed u f)

module _ (u : Setup) (d : Stream) (x : Receiver (rules_table u)) (s : Opens (rules_table u) d x) where
  abbrev f : Arrival
  f = x.start.arrival

  mine : of_stream d f.frame ≡ true
  mine = and_elim_left (of_stream d f.frame) (is_start (tail_of f.frame.bytes)) s.start

  -- it answers as the reference that begins with the start
  pub as-reference : (k : ℕ) → While (rules_table u) d k x
      → take (suc k) (answers (rules_table u) d x) ≡ (first u f).answer ∷ ref_run u (first u f).session (take k (frames (rules_table u) d x))
  unfolding answers_to parsed
  as-reference k w =
      let sole = past-sole u x.state s.past in
      let b = began-by u d x.state x.start s.named mine (and_elim_right (of_stream d f.frame) _ s.start) sole s.take in
      let qs = (step u x.state x.start).places in
      let q = follow u d s.named f.frame.time qs (first u f).session (front (rules_table u) d k x) w.time w.room w.table w.blocks
      (sole-step u x.state x.start sole) (same b.session) in
      rw mine
      (ap (λ a. a ∷ take k (answers_to (rules_table u) (of_stream d) qs x.list)) b.answer
      ∙ ap (λ l. (first u f).answer ∷ l)
      (sym (answers-upto (of_stream d) u qs x.list k) ∙ q ∙ ap (ref_run u (first u f).session) (frames-upto (of_stream d) u x.list k)))

  -- all of its answers, where the premises hold up to the stream's last frame
  pub all-answers : While (rules_table u) d (length (frames (rules_table u) d x)) x
      → answers (rules_table u) d x ≡ (first u f).answer ∷ ref_run u (first u f).session (frames (rules_table u) d x)
  unfolding frames_with
  all-answers w =
      let n = length (frames (rules_table u) d x) in
      let c : length (answers (rules_table u) d x) ≤ suc n = rw (answers-length (of_stream d) u x.state (x.start ∷ x.list), mine) (omega arith) in
      sym (take_all (suc n) (answers (rules_table u) d x) c) ∙ as-reference n w
      ∙ ap (λ fs. (first u f).answer ∷ ref_run u (first u f).session fs) (take-length (frames (rules_table u) d x))

  -- ── a transfer ──

  abbrev ok : Accepted u f
  ok = accepted u f (took-checked u x.state x.start s.take)

  stream-is : stream_of f.frame.id ≡ d
  stream-is = of-stream d f.frame mine

  not-anonymous : is_anonymous f.frame.id ≡ false
  not-anonymous = named-not-anonymous f.frame.id (rw stream-is s.named)

  -- the answers to frames that carry some bytes
  pub closes : (t : ℕ) → t < 32 → (all : List ℕ) → length all ≤ 514 → While (rules_table u) d (length (frames (rules_table u) d x)) x
      → Brings f.interface f.frame.id (f.frame.time + switch_delay) (carrying t all) (f ∷ frames (rules_table u) d x)
      → Goes f.interface (verdict u f.frame.id t all (leb (length all) 7)) (leb (length all) 7) false (f ∷ frames (rules_table u) d x) (answers (rules_table u) d x)
  closes t small all most w b = rw (all-answers w) (closes-once u f ok not-anonymous t small all most (frames (rules_table u) d x) b)

  hands_out : (priority t : ℕ) (p : List ℕ) → Transfer u d f (frames (rules_table u) d x) priority t p
      → While (rules_table u) d (length (frames (rules_table u) d x)) x → handouts (rules_table u) (answers (rules_table u) d x) ≡ handed p d priority t ∷ []
  unfolding sent
  hands_out priority t p tr w =
      let i : f.frame.id ≡ id_of d priority = sender (eq-eqb f.interface f.interface refl) tr.brings in
      let e : priority_of f.frame.id ≡ priority = ap priority_of i ∙ id-priority d priority (subst (λ k. stream_fits k ≡ true) stream-is (stream-fits u f ok not-anonymous)) in
      goes-handouts u
      (closes t tr.fields.1 (carried tr.signature p) (carried-most tr.signature p tr.size) w
      (subst (λ id. Brings f.interface id (f.frame.time + switch_delay) (carrying t (carried tr.signature p)) (f ∷ frames (rules_table u) d x)) (sym i) tr.brings))
      ∙ ap (λ a. handouts (rules_table u) (a ∷ [])) (unaltered u f.frame.id t tr.signature p (ap (signature_for u) i ∙ tr.subscribed))
      ∙ λ j. handed p (stream-is j) (e j) t ∷ []

pub theorem : Condition3 rules_table
theorem u d x y h =
    record {
      alike = λ k v w. as-reference u d x sx k v
          ∙ ap₂ (λ (f : Arrival) (fs : List Arrival). (first u f).answer ∷ ref_run u (first u f).session (take k fs)) h.together h.same
          ∙ sym (as-reference u d y sy k w);
      delivered = λ priority t p tr v w. (
        hands_out u d x sx priority t p tr v,
        hands_out u d y sy priority t p
            (subst (λ fs. Transfer u d y.start.arrival fs priority t p) h.same
            (subst (λ f. Transfer u d f (frames (rules_table u) d x) priority t p) h.together tr)) w,
      );
    }
  where
    sx : Opens (rules_table u) d x
    sx = record { past = h.pasts.0; typed = h.typed.0; named = h.named; start = h.start; take = h.take.0 }

    sy : Opens (rules_table u) d y
    sy = record { past = h.pasts.1; typed = h.typed.1; named = h.named; start = subst (λ f. start_of d f.frame ≡ true) h.together h.start; take = h.take.1 }
