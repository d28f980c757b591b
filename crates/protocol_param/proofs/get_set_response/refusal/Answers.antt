-- `get_set_response::refusal` meets its contract: the first refusal of its fields.
use mathlib.Core.Path.{◌≡◌, sym, ap, ◌∙◌}
use mathlib.Core.List.{List}
use Prim.Native.Nat.{ℕ}
use native.Mathlib.Omega.{arith}
use lib.ListN.{length, drop}
use Rattle.bits.proofs.Octets.{octets-all}
use Rattle.protocol_param.proofs.ValueFacts.{number_of, value-all, stops}
use Rattle.protocol_param.proofs.GetSetFacts.{stop-value, stop-default, stop-max, stop-min, response-long, response-held}
use Rattle.protocol_param.specs.inside.Value.{sized}
use Rattle.protocol_param.specs.GetSetResponse.{default_at, max_at, min_at}
use Rattle.protocol_param.proofs.get_set_response.refusal.Goals as goal

-- each value, where it is in the payload
at : (n : ℕ) (p : List ℕ) (l : List ℕ) (k j : ℕ) → l ≡ drop k p → k ≡ j → number_of (sized n l) ≡ number_of (sized n (drop j p))
at n p l k j e f = ap (λ (x : List ℕ). number_of (sized n x)) (e ∙ ap (λ (i : ℕ). drop i p) f)

pub returns-in_err-refusal : goal.returns-in_err-refusal
returns-in_err-refusal c =
    let p = c.args.payload.now in
    let o = octets-all p (λ i. omega (arith, c.shared_slice_known-1.given i)) in
    let r = c.from_residual in
    stops (sized 5 p) r.result c.in_err-refusal.field-0.0 r.ensures.1 (c.in_err-refusal.ensures) (stop-value p o)

pub returns-in_err-refusal-2 : goal.returns-in_err-refusal-2
returns-in_err-refusal-2 c =
    let p = c.args.payload.now in
    let o = octets-all p (λ i. omega (arith, c.shared_slice_known-1.given i)) in
    let A₁ = value-all 5 p (c.in_ok-refusal.ensures) in
    let r = c.from_residual-in_err-refusal-2 in
    stops (sized 5 (drop (default_at p) p)) r.result c.in_err-refusal-2.field-0.0 r.ensures.1 (c.in_err-refusal-2.ensures ∙ at 5 p _ _ _ c.behind.ensures c.default_at-default.ensures) (stop-default p o A₁)

pub returns-in_err-refusal-3 : goal.returns-in_err-refusal-3
returns-in_err-refusal-3 c =
    let p = c.args.payload.now in
    let o = octets-all p (λ i. omega (arith, c.shared_slice_known-1.given i)) in
    let A₁ = value-all 5 p (c.in_ok-refusal.ensures) in
    let A₂ = value-all 5 (drop (default_at p) p) (c.in_ok-refusal-2.ensures ∙ at 5 p _ _ _ c.behind.ensures c.default_at-default.ensures) in
    let r = c.from_residual-in_err-refusal-3 in
    stops (sized 3 (drop (max_at p) p)) r.result c.in_err-refusal-3.field-0.0 r.ensures.1 (c.in_err-refusal-3.ensures ∙ at 3 p _ _ _ c.behind-2.ensures c.max_behind-max.ensures) (stop-max p o A₁ A₂)

pub returns-in_err-refusal-4 : goal.returns-in_err-refusal-4
returns-in_err-refusal-4 c =
    let p = c.args.payload.now in
    let o = octets-all p (λ i. omega (arith, c.shared_slice_known-1.given i)) in
    let A₁ = value-all 5 p (c.in_ok-refusal.ensures) in
    let A₂ = value-all 5 (drop (default_at p) p) (c.in_ok-refusal-2.ensures ∙ at 5 p _ _ _ c.behind.ensures c.default_at-default.ensures) in
    let A₃ = value-all 3 (drop (max_at p) p) (c.in_ok-refusal-3.ensures ∙ at 3 p _ _ _ c.behind-2.ensures c.max_behind-max.ensures) in
    let r = c.from_residual-in_err-refusal-4 in
    stops (sized 3 (drop (min_at p) p)) r.result c.in_err-refusal-4.field-0.0 r.ensures.1 (c.in_err-refusal-4.ensures ∙ at 3 p _ _ _ c.behind-3.ensures c.min_behind-min.ensures) (stop-min p o A₁ A₂ A₃)

pub returns-then-behind-gt92 : goal.returns-then-behind-gt92
returns-then-behind-gt92 c =
    let p = c.args.payload.now in
    let o = octets-all p (λ i. omega (arith, c.shared_slice_known-1.given i)) in
    let A₁ = value-all 5 p (c.in_ok-refusal.ensures) in
    let A₂ = value-all 5 (drop (default_at p) p) (c.in_ok-refusal-2.ensures ∙ at 5 p _ _ _ c.behind.ensures c.default_at-default.ensures) in
    let A₃ = value-all 3 (drop (max_at p) p) (c.in_ok-refusal-3.ensures ∙ at 3 p _ _ _ c.behind-2.ensures c.max_behind-max.ensures) in
    let A₄ = value-all 3 (drop (min_at p) p) (c.in_ok-refusal-4.ensures ∙ at 3 p _ _ _ c.behind-3.ensures c.min_behind-min.ensures) in
    sym (ap number_of (response-long p o A₁ A₂ A₃ A₄ (omega (arith, ap (λ (l : List ℕ). length l) (c.behind-4.ensures ∙ ap (λ (j : ℕ). drop j p) c.name_behind.ensures), c.if-behind-gt92.true))))

pub returns : goal.returns
returns c =
    let p = c.args.payload.now in
    let o = octets-all p (λ i. omega (arith, c.shared_slice_known-1.given i)) in
    let A₁ = value-all 5 p (c.in_ok-refusal.ensures) in
    let A₂ = value-all 5 (drop (default_at p) p) (c.in_ok-refusal-2.ensures ∙ at 5 p _ _ _ c.behind.ensures c.default_at-default.ensures) in
    let A₃ = value-all 3 (drop (max_at p) p) (c.in_ok-refusal-3.ensures ∙ at 3 p _ _ _ c.behind-2.ensures c.max_behind-max.ensures) in
    let A₄ = value-all 3 (drop (min_at p) p) (c.in_ok-refusal-4.ensures ∙ at 3 p _ _ _ c.behind-3.ensures c.min_behind-min.ensures) in
    sym (ap number_of (response-held p o A₁ A₂ A₃ A₄ (omega (arith, ap (λ (l : List ℕ). length l) (c.behind-4.ensures ∙ ap (λ (j : ℕ). drop j p) c.name_behind.ensures), c.if-behind-gt92.false))))
