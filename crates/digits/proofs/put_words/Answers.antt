-- `put_words` meets its contract.
use Rattle.digits.proofs.Puts.{splice-nil, puts-next, words_snoc}
use Rattle.digits.specs.Digits.{words}
use Rattle.digits.specs.inside.Text.{Puts}
use lib.Seq.{take-suc, take_all}
use lib.ListN.{length, take, get_or}
use native.Mathlib.Omega.{arith}
use native.Mathlib.Numerals.{add-one}
use native.Mathlib.Nat.{add-zero}
use Prim.Native.Nat.{ℕ, suc, ◌+◌, ◌≤◌, ◌<◌}
use mathlib.Core.List.{List, [], ◌∷◌, ◌++◌}
use mathlib.Core.Path.{◌≡◌, sym, ap, ◌∙◌}
use Rattle.digits.proofs.put_words.Goals as goal

-- a turn: one word after the others
turn : (a b d vs : List ℕ) (at i p q : ℕ) → i < length vs → p + 21 ≤ length a → Puts a b at p (words (take i vs))
    → Puts b d p q (words (get_or vs i 0 ∷ [])) → Puts a d at q (words (take (suc i) vs))
turn a b d vs at i p q h l f g =
    let e : words (take (suc i) vs) ≡ words (take i vs) ++ words (get_or vs i 0 ∷ []) = ap words (take-suc vs i 0 h)
    ∙ words_snoc (take i vs) (get_or vs i 0) in
    rw e (puts-next a b d at p q (words (take i vs)) (words (get_or vs i 0 ∷ [])) f g (omega (arith, f.end)))

pub loop-v-init : goal.loop-v-init
unfolding words
loop-v-init c =
    let a = c.args in
    (omega arith, record { out = sym (splice-nil a.out.now a.at); end = sym (add-zero a.at) })

pub loop-v-preserved : goal.loop-v-preserved
loop-v-preserved c =
    let a = c.args in
    let i = c.loop-v.v-index in
    let v = c.loop-v.invariant in (
      omega (arith, c.word-p.ensures.1, v.0),
      rw (add-one i) (turn a.out.now c.loop-v.out c.word-p.new.out a.vs.now a.at i c.loop-v.p c.word-p.result (omega arith)
          (omega (arith, c.requires, v.0, c.loop-v.auto.out)) v.1 c.word-p.ensures.0),
    )

pub returns : goal.returns
returns c =
    let a = c.args in
    let v = c.loop-v.invariant in
    let e : take c.loop-v.v-index a.vs.now ≡ a.vs.now = take_all c.loop-v.v-index a.vs.now (omega arith) in
    (rw e at v.1, omega (arith, v.0))
