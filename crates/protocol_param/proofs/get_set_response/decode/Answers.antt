-- `get_set_response::decode` meets its contract: what it is refused for, or a response.
use mathlib.Core.Path.{sym, subst, ap, ◌∙◌}
use mathlib.Core.List.{List}
use Prim.Native.Nat.{ℕ, ◌≤◌}
use native.Mathlib.Omega.{arith}
use lib.Dec.{lit≤}
use lib.ListN.{length, drop}
use Rattle.bits.proofs.Octets.{octets-all}
use Rattle.shape.specs.Shape.{decoded}
use Rattle.protocol_param.proofs.ValueFacts.{gives, hands}
use Rattle.protocol_param.proofs.GetSetFacts.{default_lt, response-good, response-made}
use Rattle.protocol_param.specs.Value.{value_at, size_at}
use Rattle.protocol_param.specs.GetSetResponse.{response, response_of}
use Rattle.protocol_param.proofs.get_set_response.decode.Goals as goal

pub returns-in_err-refusal : goal.returns-in_err-refusal
returns-in_err-refusal c =
    hands (decoded response c.args.payload.now) response_of c.from_residual.result c.in_err-refusal.field-0.0 c.from_residual.ensures.1 c.in_err-refusal.ensures

pub read-requires : goal.read-requires
read-requires c =
    let p = c.args.payload.now in
    let o = octets-all p (λ i. omega (arith, c.shared_slice_known-1.given i)) in
    let g = response-good p o c.in_ok-refusal.ensures in
    ((lit≤ tt, lit≤ tt), g.one.there)

pub read-requires-2 : goal.read-requires-2
read-requires-2 c =
    let p = c.args.payload.now in
    let o = octets-all p (λ i. omega (arith, c.shared_slice_known-1.given i)) in
    let g = response-good p o c.in_ok-refusal.ensures in
    ((lit≤ tt, lit≤ tt), subst (λ (l : List ℕ). size_at 5 l ≤ length l) (sym (c.behind.ensures ∙ ap (λ (j : ℕ). drop j p) c.default_at-at.ensures)) g.two.there)

pub overflow_add-result : goal.overflow_add-result
overflow_add-result c =
    let p = c.args.payload.now in
    let o = octets-all p (λ i. omega (arith, c.shared_slice_known-1.given i)) in
    let g = response-good p o c.in_ok-refusal.ensures in
    omega (arith, c.default_at-at.ensures, default_lt p)

pub read-requires-3 : goal.read-requires-3
read-requires-3 c =
    let p = c.args.payload.now in
    let o = octets-all p (λ i. omega (arith, c.shared_slice_known-1.given i)) in
    let g = response-good p o c.in_ok-refusal.ensures in
    ((lit≤ tt, lit≤ tt), subst (λ (l : List ℕ). size_at 3 l ≤ length l) (sym (c.behind-2.ensures ∙ ap (λ (j : ℕ). drop j p) c.max_behind-max.ensures)) g.three.there)

pub read-requires-4 : goal.read-requires-4
read-requires-4 c =
    let p = c.args.payload.now in
    let o = octets-all p (λ i. omega (arith, c.shared_slice_known-1.given i)) in
    let g = response-good p o c.in_ok-refusal.ensures in
    ((lit≤ tt, lit≤ tt), subst (λ (l : List ℕ). size_at 3 l ≤ length l) (sym (c.behind-3.ensures ∙ ap (λ (j : ℕ). drop j p) c.min_behind-min.ensures)) g.four.there)

pub returns : goal.returns
returns c =
    let p = c.args.payload.now in
    let o = octets-all p (λ i. omega (arith, c.shared_slice_known-1.given i)) in
    let g = response-good p o c.in_ok-refusal.ensures in
    gives response_of
    (response-made p o g.one g.two g.three g.four _ _ _ _ _ _ _ _ _ c.read.ensures (ap (λ (l : List ℕ). length l) c.string_value.ensures) (c.read-2.ensures ∙ ap (λ (l : List ℕ). value_at 5 l) (c.behind.ensures ∙ ap (λ (j : ℕ). drop j p) c.default_at-at.ensures)) c.default_at-at.ensures (ap (λ (l : List ℕ). length l) c.default_string_value.ensures)
    (c.read-3.ensures ∙ ap (λ (l : List ℕ). value_at 3 l) (c.behind-2.ensures ∙ ap (λ (j : ℕ). drop j p) c.max_behind-max.ensures)) (c.read-4.ensures ∙ ap (λ (l : List ℕ). value_at 3 l) (c.behind-3.ensures ∙ ap (λ (j : ℕ). drop j p) c.min_behind-min.ensures)) c.name_behind-name_at.ensures (ap (λ (l : List ℕ). length l) (c.behind-4.ensures ∙ ap (λ (j : ℕ). drop j p) c.name_behind-name_at.ensures))) g.held
