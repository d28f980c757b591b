-- `all_fit` meets its contract. The invariant: the subscriptions passed are in range, each the first of its key, and have left their marks.
use mathlib.Core.Path.{◌≡◌, refl, sym, ap, subst, ◌∙◌}
use mathlib.Core.Bool.{Bool, true, false, false≢true, ◌&&◌, ◌||◌}
use mathlib.Core.List.{List}
use Prim.Native.Nat.{ℕ, suc, ◌+◌, ◌<◌}
use native.Mathlib.Numerals.{add-one}
use native.Mathlib.Omega.{arith}
use borrow.Author.Count.{below_more}
use borrow.Author.Tests.{eqb-true, eqb-false}
use lib.Dec.{eqb, ltb}
use lib.ListN.{length, get_or, set, length-set}
use Rattle.keys.specs.inside.Keys.{word_at, lowest, marks_max, mark_at}
use Rattle.keys.proofs.Distinct.{First}
use Rattle.keys.proofs.Lowest.{lowest-takes, lowest-passes, lowest-le}
use Rattle.keys.proofs.Marks.{Marked, unmarked, mark}
use Rattle.rules.specs.Setup.{type_fits, all_fit}
use Rattle.state.specs.Layout.{subscription_count_at, subscription_keys_at, subscription_key_at, subscription_at, setup_of}
use Rattle.subscriptions.specs.inside.Subscription.{keys_end, key_fits}
use Rattle.subscriptions.proofs.Fit.{entry_of, type-fits, one-unfit, first-fit, twice-unfit}
use Rattle.subscriptions.proofs.all_fit.Invariants.{Good}
use Rattle.subscriptions.proofs.all_fit.Goals as goal

own-entry : (m : List ℕ) (j : ℕ) → entry_of (subscription_at m j) ≡ subscription_key_at m j + 1
unfolding subscription_at
own-entry m j = omega arith

own-fits : (m : List ℕ) (j : ℕ) → type_fits (subscription_at m j).kind (subscription_at m j).type ≡ ltb (subscription_key_at m j) keys_end
unfolding subscription_at
own-fits m j = type-fits (subscription_key_at m j)

-- one turn
module _ (m : List ℕ) (j k : ℕ) (is : k ≡ subscription_key_at m j) where
  abbrev place : ℕ
  place = lowest (λ i. eqb (word_at m subscription_keys_at i) k) 0 j

  -- none of the first j has the key
  new : place ≡ j → First (subscription_key_at m) j
  unfolding subscription_key_at
  new e a l q =
      let p = lowest-passes (λ i. eqb (word_at m subscription_keys_at i) k) j 0 a (omega arith) (omega arith) in
      eqb-false (word_at m subscription_keys_at a) k p (q ∙ sym is)

  -- one of them has it
  old : place < j → (place < j) × (subscription_key_at m place ≡ subscription_key_at m j)
  unfolding subscription_key_at
  old h =
      let t = lowest-takes (λ i. eqb (word_at m subscription_keys_at i) k) j 0 (omega arith) in
      (h, eqb-true (word_at m subscription_keys_at place) k t ∙ is)

  in-range : (b : Bool) → ltb k keys_end ≡ b → type_fits (subscription_at m j).kind (subscription_at m j).type ≡ b
  in-range b e = own-fits m j ∙ ap (λ (x : ℕ). ltb x keys_end) (sym is) ∙ e

  module _ (marks : List ℕ) (long : length marks ≡ marks_max) (marked : Marked (subscription_key_at m) j marks) where
    marks-more : (marks' : List ℕ) → marks' ≡ set marks (mark_at k) 1 → Marked (subscription_key_at m) (suc j) marks'
    marks-more marks' e =
        subst (Marked (subscription_key_at m) (suc j)) (sym (e ∙ ap (λ (x : ℕ). set marks (mark_at x) 1) is))
        (mark (subscription_key_at m) j marks (omega (arith, long)) marked)

    good : (first : Bool) → first ≡ eqb (get_or marks (mark_at k) 0) 0 → key_fits m k j first ≡ true → Good m j
    unfolding key_fits
    good first e t = go (ltb k keys_end) refl first e t where
      go : (a : Bool) → ltb k keys_end ≡ a → (b : Bool) → b ≡ eqb (get_or marks (mark_at k) 0) 0 → (a && (b || eqb place j)) ≡ true → Good m j
      go true p true q t = record { fit = in-range true p; first = unmarked (subscription_key_at m) j marks marked (mark_at k) (ap mark_at is) (sym q) }
      go true p false q t = record { fit = in-range true p; first = new (eqb-true place j t) }
      go false p b q t = absurd (false≢true t)

  refused : j < get_or m subscription_count_at 0 → (first : Bool) → key_fits m k j first ≡ false → all_fit (setup_of m).subscriptions ≡ false
  unfolding key_fits setup_of
  refused h first t = go (ltb k keys_end) refl first t where
    n : ℕ
    n = get_or m subscription_count_at 0

    go : (a : Bool) → ltb k keys_end ≡ a → (b : Bool) → (a && (b || eqb place j)) ≡ false → all_fit (setup_of m).subscriptions ≡ false
    go true p true t = absurd (false≢true (sym t))
    go true p false t =
        let l = lowest-le (λ i. eqb (word_at m subscription_keys_at i) k) j 0 in
        let w = eqb-false place j t in
        let o = old (omega arith) in
        twice-unfit (subscription_at m) n place j o.0 h (own-entry m place ∙ ap (λ (x : ℕ). x + 1) o.1 ∙ sym (own-entry m j))
    go false p b t = one-unfit (subscription_at m) n 0 j (omega arith) (omega arith) (in-range false p)

-- at last all are passed
whole : (m : List ℕ) → ((l : ℕ) → l < get_or m subscription_count_at 0 → Good m l) → all_fit (setup_of m).subscriptions ≡ true
unfolding setup_of
whole m all =
    first-fit (subscription_at m) (get_or m subscription_count_at 0) (λ l h. (all l h).fit)
    (λ i h a b e. (all i h).first a b (let p = own-entry m a in let q = own-entry m i in omega arith))

pub loop-j-init : goal.loop-j-init
loop-j-init c = (refl, (λ a h. absurd (omega arith), λ l h. absurd (omega arith)))

pub mark-first-requires : goal.mark-first-requires
mark-first-requires c = c.loop-j.invariant.0

pub loop-j-preserved : goal.loop-j-preserved
unfolding subscription_key_at
loop-j-preserved c =
    let k = c.get_u32-k in
    let m = c.mark-first in
    let s = c.args.state.now in
    let v = c.loop-j.invariant in
    let t = sym c.key_fits.ensures ∙ c.if-not-key_fits.false in (
      ap length m.ensures.1 ∙ simp length-set v.0,
      (
        rw add-one (marks-more s c.loop-j.j k.result k.ensures c.loop-j.marks v.0 v.1.0 _ m.ensures.1),
        below_more _ _ v.1.1 (good s c.loop-j.j k.result k.ensures c.loop-j.marks v.0 v.1.0 m.result m.ensures.0 t),
      ),
    )

pub returns-then-not-key_fits : goal.returns-then-not-key_fits
unfolding subscription_key_at
returns-then-not-key_fits c =
    let k = c.get_u32-k in
    let s = c.args.state.now in
    sym (refused s c.loop-j.j k.result k.ensures (omega arith) c.mark-first.result (sym c.key_fits.ensures ∙ c.if-not-key_fits.true))

pub returns : goal.returns
returns c = sym (whole c.args.state.now (λ i h. c.loop-j.invariant.1.1 i (omega arith)))
