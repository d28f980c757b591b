-- A burst is caught (RULES 14.16 to 14.18): the theorem over the rules' table. What arrives carries the checksum of what was sent, so its end is 12.
use mathlib.Core.Path.{◌≡◌, refl, sym, ap, ◌∙◌, subst}
use mathlib.Core.Bool.{Bool, true, false, true≢false}
use mathlib.Core.List.{List, [], ◌∷◌, ◌++◌}
use mathlib.Core.Option.{some}
use Prim.Native.Nat.{ℕ, suc, ◌+◌, ◌*◌, ◌/◌, ◌%◌}
use native.Mathlib.Omega.{arith}
use lib.Dec.{eqb, leb}
use lib.ListN.{length}
use borrow.Author.Tests.{eq-eqb, ne_eqb, lt-leb}
use Rattle.checksum.proofs.Damage.{caught}
use Rattle.checksum.specs.Crc16.{checksum}
use Rattle.rules.specs.Answer.{Answer, differs, number_of}
use Rattle.rules.specs.Condition3.{All, Receiver, frames, answers, While, Brings, rules_table}
use Rattle.rules.specs.Damage.{Opens, Damaged, end_at, before_end, after_end, BurstIsCaught}
use Rattle.rules.specs.Frame.{Arrival, Stream}
use Rattle.rules.specs.Limits.{switch_delay}
use Rattle.rules.specs.Sent.{summed, carrying, id_of}
use Rattle.rules.specs.Session.{closing}
use Rattle.rules.specs.Setup.{Setup, signature_for}
use Rattle.rules.proofs.Delivery.{Goes, over-now, goes_on, closes_by, verdict}
use Rattle.rules.proofs.Frames.{frames-known}
use Rattle.rules.proofs.Theorem.{sender, closes, goes-handouts}

-- ── the answer that closes, in its place ──

quiet-after : {i : ℕ} {v : Answer} {ended : Bool} {fs : List Arrival} {l : List Answer} → ended ≡ true → Goes i v false ended fs l
    → All (λ a. after_end (number_of a) ≡ true) l
quiet-after e over-now = tt
quiet-after e (goes_on {ended = true} a x h q g) = (q, quiet-after e g)
quiet-after e (goes_on {ended = false} a x h q g) = absurd (true≢false (sym e))
quiet-after e (closes_by a h g) = absurd (true≢false (sym e))

record Placed (v : Answer) (i : ℕ) (fs : List Arrival) (l : List Answer) : Type 0 where
  before : List Answer
  after : List Answer
  parts : l ≡ before ++ (v ∷ after)
  end : length before ≡ end_at i fs
  others : All (λ a. before_end (number_of a) ≡ true) before × All (λ a. after_end (number_of a) ≡ true) after

placed : {i : ℕ} {v : Answer} {ended : Bool} {fs : List Arrival} {l : List Answer} → ended ≡ false → Goes i v false ended fs l → Placed v i fs l
unfolding end_at
placed e over-now = absurd (true≢false e)
placed e (goes_on {ended = true} a x h q g) = absurd (true≢false e)
placed e (goes_on {ended = false} a x h q g) =
    let r = placed e g in
    record {
      before = x ∷ r.before;
      after = r.after;
      parts = ap (λ l. x ∷ l) r.parts;
      end = rw (h refl) (ap suc r.end);
      others = ((q, r.others.0), r.others.1);
    }
placed e (closes_by {l = l} a h g) = record { before = []; after = l; parts = refl; end = rw h; others = (tt, quiet-after refl g) }

-- ── a receiver ──

module _ (u : Setup) (d : Stream) (x : Receiver (rules_table u)) (s : Opens (rules_table u) d x) (priority t : ℕ) (p q : List ℕ)
    (dm : Damaged u d x.start.arrival (frames (rules_table u) d x) priority t p q) where
  abbrev f : Arrival
  f = x.start.arrival

  abbrev sum : ℕ
  sum = checksum dm.signature p

  abbrev all : List ℕ
  all = summed sum q

  id-is : f.frame.id ≡ id_of d priority
  id-is = sender (eq-eqb f.interface f.interface refl) dm.brings

  known : (length p ≡ length q) × (dm.arriving ≡ carrying t all)
  known = frames-known dm.signature t p dm.arriving sum q dm.size.0 dm.tails dm.lengths dm.carried

  not-single : leb (length all) 7 ≡ false
  not-single = lt-leb (length all) 7 (omega (arith, known.0, dm.size.0))

  -- the checksum that arrives is not that of the payload that arrives
  unlike : eqb (sum % 256 + 256 * (sum / 256)) (checksum dm.signature q) ≡ false
  unlike =
      let e : sum % 256 + 256 * (sum / 256) ≡ sum = omega arith in
      ap (λ n. eqb n (checksum dm.signature q)) e ∙ ne_eqb sum (checksum dm.signature q) (caught dm.signature p q known.0 dm.burst)

  ends-12 : verdict u f.frame.id t all false ≡ differs
  unfolding closing
  ends-12 =
      let e : signature_for u f.frame.id ≡ some dm.signature = ap (signature_for u) id-is ∙ dm.subscribed in
      rw (e, unlike)

  goes : While (rules_table u) d (length (frames (rules_table u) d x)) x
      → Goes f.interface differs false false (f ∷ frames (rules_table u) d x) (answers (rules_table u) d x)
  goes w =
      let b = subst (λ id. Brings f.interface id (f.frame.time + switch_delay) (carrying t all) (f ∷ frames (rules_table u) d x)) (sym id-is)
      (subst (λ cs. Brings f.interface (id_of d priority) (f.frame.time + switch_delay) cs (f ∷ frames (rules_table u) d x)) known.1 dm.brings) in
      let g = closes u d x s t dm.fields.1 all (omega (arith, known.0, dm.size.1)) w b in
      rw (not-single, ends-12) at g

pub burst-caught : BurstIsCaught rules_table
burst-caught u d x s priority t p q dm w =
    let g = goes u d x s priority t p q dm w in
    let r = placed refl g in
    record { before = r.before; after = r.after; parts = r.parts; end = r.end; number = refl; silent = goes-handouts u g; others = r.others }
