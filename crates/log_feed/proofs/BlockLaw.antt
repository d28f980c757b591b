-- However the input is cut into blocks, the texts are those of the whole input.
use mathlib.Core.Path.{◌≡◌, refl, sym, ap, ◌∙◌}
use mathlib.Core.Bool.{Bool, true, false}
use mathlib.Core.List.{List, [], ◌∷◌, ◌++◌, append_assoc, append-nil}
use Prim.Native.Nat.{ℕ, zero, suc, ◌<◌}
use native.Mathlib.Omega.{arith}
use borrow.Author.Tests.{leb-true, leb-false}
use lib.Dec.{leb}
use lib.ListN.{length, take, length-append}
use lib.Seq.{take_all, length-take-le}
use Rattle.log_line.specs.Reading.{said}
use Rattle.log_line.proofs.Lines.{too_long}
use Rattle.log_replay.specs.Replay.{end_text}
use Rattle.log_replay.specs.declared.Counts.{Counts}
use Rattle.log_line.specs.Lines.{cut, last_line, lines_of}
use Rattle.log_feed.specs.Log.{Replay, behind, replay, closed, begun}
use Rattle.log_feed.specs.Log as log
use Rattle.log_feed.specs.Feed.{Feed, feed_all, concat, BlockLaw}
use Rattle.log_line.proofs.Cutting.{cut-append, Plain, plain-rest, plain-take, onto, cut-onto, cut-plain}
use Rattle.log_feed.proofs.Replays.{replay-append}

-- ── 48 bytes of an unfinished line are enough ──

said-cut : (u l : List ℕ) → said (take 48 u ++ l) ≡ said (u ++ l)
said-cut u l = go (leb (length u) 48) refl where
  go : (b : Bool) → leb (length u) 48 ≡ b → said (take 48 u ++ l) ≡ said (u ++ l)
  go true e = rw (take_all 48 u (leb-true (length u) 48 e))
  go false e =
      let h : 48 < length u = leb-false (length u) 48 e in
      too_long (take 48 u ++ l) (omega (arith, length-append (take 48 u) l, length-take-le 48 u (omega arith)))
      ∙ sym (too_long (u ++ l) (omega (arith, length-append u l)))

said-short : (u : List ℕ) → said (take 48 u) ≡ said u
said-short u = ap said (sym (append-nil (take 48 u))) ∙ said-cut u [] ∙ ap said (append-nil u)

line_same : (m : List ℕ) (c : Counts) (k l : List ℕ) (ls : List (List ℕ)) → said k ≡ said l → replay m c (k ∷ ls) ≡ replay m c (l ∷ ls)
unfolding replay
line_same m c k l ls e = rw e

take-front : (n : ℕ) (u r : List ℕ) → take n (take n u ++ r) ≡ take n (u ++ r)
take-front zero u r = refl
take-front (suc n) [] r = refl
take-front (suc n) (x ∷ u) r = ap (λ (l : List ℕ). x ∷ l) (take-front n u r)

last-same : (m : List ℕ) (c : Counts) (u : List ℕ) → replay m c (last_line (take 48 u)) ≡ replay m c (last_line u)
last-same m c [] = refl
last-same m c (x ∷ u) = line_same m c (take 48 (x ∷ u)) (x ∷ u) [] (said-short (x ∷ u))

-- ── one block ──

module _ (m : List ℕ) (c : Counts) (u b : List ℕ) (h : Plain u) where
  same : (ls : List (List ℕ)) (r : List ℕ) → replay m c (onto (take 48 u) ls r).whole ≡ replay m c (onto u ls r).whole
  unfolding onto
  same [] r = refl
  same (l ∷ ls) r = line_same m c (take 48 u ++ l) (u ++ l) ls (said-cut u l)

  whole_same : replay m c (cut (take 48 u ++ b)).whole ≡ replay m c (cut (u ++ b)).whole
  whole_same = rw (cut-onto (take 48 u) b (plain-take 48 u h), cut-onto u b h) (same (cut b).whole (cut b).rest)

  kept : (ls : List (List ℕ)) (r : List ℕ) → take 48 (onto (take 48 u) ls r).rest ≡ take 48 (onto u ls r).rest
  unfolding onto
  kept [] r = take-front 48 u r
  kept (l ∷ ls) r = refl

  rest-same : take 48 (cut (take 48 u ++ b)).rest ≡ take 48 (cut (u ++ b)).rest
  rest-same = rw (cut-onto (take 48 u) b (plain-take 48 u h), cut-onto u b h) (kept (cut b).whole (cut b).rest)

abbrev fed_of : Replay → List ℕ → Feed
fed_of r k = record { text = r.text; state = r.state; counts = r.counts; kept = k }

-- ── all blocks ──

closed-behind : (t : List ℕ) (r : Replay) → closed (behind t r) ≡ t ++ closed r
closed-behind t r = append_assoc t r.text (end_text r.counts)

lines-append : (s t : List ℕ) → lines_of (s ++ t) ≡ (cut s).whole ++ lines_of ((cut s).rest ++ t)
lines-append s t =
    rw (cut-append s t) (append_assoc (cut s).whole (cut ((cut s).rest ++ t)).whole (last_line (cut ((cut s).rest ++ t)).rest))

log-append : (m : List ℕ) (c : Counts) (s t : List ℕ)
    → closed (replay m c (lines_of (s ++ t)))
    ≡ (replay m c (cut s).whole).text ++ closed (replay (replay m c (cut s).whole).state (replay m c (cut s).whole).counts (lines_of ((cut s).rest ++ t)))
log-append m c s t =
    let r = replay m c (cut s).whole in
    ap (λ (ls : List (List ℕ)). closed (replay m c ls)) (lines-append s t)
    ∙ ap closed (replay-append m c (cut s).whole (lines_of ((cut s).rest ++ t)))
    ∙ closed-behind r.text (replay r.state r.counts (lines_of ((cut s).rest ++ t)))

abbrev onward : Feed → List (List ℕ) → List ℕ
onward f bs = f.text ++ feed_all f.state f.counts f.kept bs

all : (blocks : List (List ℕ)) (m : List ℕ) (c : Counts) (u : List ℕ) → Plain u
    → feed_all m c (take 48 u) blocks ≡ closed (replay m c (lines_of (u ++ concat blocks)))
unfolding feed_all concat
all [] m c u h =
    ap closed (last-same m c u)
    ∙ sym (rw (append-nil u, cut-plain u h))
all (b ∷ bs) m c u h =
    let r = replay m c (cut (u ++ b)).whole in
    let k = (cut (u ++ b)).rest in
    ap (λ (x : Replay). onward (fed_of x (take 48 (cut (take 48 u ++ b)).rest)) bs) (whole_same m c u b h)
    ∙ ap (λ (x : List ℕ). onward (fed_of r x) bs) (rest-same m c u b h)
    ∙ ap (λ (x : List ℕ). r.text ++ x) (all bs r.state r.counts k (plain-rest (u ++ b)))
    ∙ sym (log-append m c (u ++ b) (concat bs))
    ∙ ap (λ (x : List ℕ). closed (replay m c (lines_of x))) (append_assoc u b (concat bs))

pub law : BlockLaw
law blocks = ap (λ (x : List ℕ). log.heading ++ x) (all blocks begun log.zero [] tt)
