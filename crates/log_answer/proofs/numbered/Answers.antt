-- `numbered` meets its contract.
use Rattle.log_answer.specs.Answer.{numbered}
use Rattle.digits.proofs.Puts.{puts-next}
use Rattle.digits.specs.Digits.{words}
use native.Mathlib.Omega.{arith}
use mathlib.Core.List.{[], ◌∷◌, ◌++◌}
use Rattle.log_answer.proofs.numbered.Goals as goal

pub returns : goal.returns
unfolding numbered
returns c =
    let a = c.args in
    let m = a.out.now in
    let vs = a.n ∷ [] in
    let w = c.put_words-c in
    let k = c.put-a.auto.out in
    let k2 = c.put-b.auto.out in
    let k3 = w.auto.out in
    let e = c.put-a.ensures.end in
    let e2 = c.put-b.ensures.end in
    let e3 = w.ensures.1 in (
      puts-next m c.put-a.new.out c.put.new.out a.at c.put-a.result c.put.result (32 ∷ [])
          (a.sign ∷ (words vs ++ (10 ∷ []))) c.put-a.ensures
          (puts-next c.put-a.new.out c.put-b.new.out c.put.new.out c.put-a.result c.put-b.result
          c.put.result (a.sign ∷ []) (words vs ++ (10 ∷ [])) c.put-b.ensures
          (puts-next c.put-b.new.out w.new.out c.put.new.out c.put-b.result w.result c.put.result
          (words vs) (10 ∷ []) w.ensures.0 c.put.ensures (omega (arith, c.requires, w.ensures.0.end)))
          (omega (arith, c.requires)))
          (omega (arith, c.requires)),
      omega (arith, c.requires, c.put.ensures.end),
    )
