-- `get_set_request::decode` meets its contract: the first refusal of its fields, or a request.
use mathlib.Core.Path.{◌≡◌, sym, subst, ap, ◌∙◌}
use mathlib.Core.List.{List}
use Prim.Native.Nat.{ℕ, ◌≤◌}
use native.Mathlib.Omega.{arith}
use lib.Dec.{lit≤}
use lib.ListN.{length, drop}
use Rattle.bits.proofs.Octets.{octets-all}
use Rattle.shape.proofs.CastFacts.{number_read}
use Rattle.protocol_param.proofs.ValueFacts.{number_of, All, value-all, gives, refuses, stopped}
use Rattle.protocol_param.proofs.GetSetFacts.{request-stop, request-long, request-held, request-there, request-made}
use Rattle.protocol_param.specs.Value.{value_at, size_at}
use Rattle.protocol_param.specs.inside.Value.{sized}
use Rattle.protocol_param.specs.GetSetRequest.{request_name_at, request_name_in, request_of}
use Rattle.protocol_param.proofs.get_set_request.decode.Goals as goal

-- l: from the value on, and from the name on
there : (p l : List ℕ) → l ≡ drop 1 p → 0 ≡ number_of (sized 5 l) → All 5 (drop 1 p)
there p l e h = value-all 5 (drop 1 p) (h ∙ ap (λ (x : List ℕ). number_of (sized 5 x)) e)

named : (p l : List ℕ) (i : ℕ) → l ≡ drop i p → i ≡ request_name_at p → length l ≡ length (request_name_in p)
named p l i e h = ap (λ (x : List ℕ). length x) (e ∙ ap (λ (j : ℕ). drop j p) h)

pub returns-in_err-refusal : goal.returns-in_err-refusal
returns-in_err-refusal c =
    let p = c.args.payload.now in
    let o = octets-all p (λ i. omega (arith, c.type_inv.payload i)) in
    let e = c.in_err-refusal.ensures ∙ ap (λ (l : List ℕ). number_of (sized 5 l)) c.behind.ensures in
    stopped (sized 5 (drop 1 p)) c.from_residual.result c.in_err-refusal.field-0.0 c.from_residual.ensures.1 e (request-stop p o) request_of

pub returns-then-name-gt92 : goal.returns-then-name-gt92
returns-then-name-gt92 c =
    let p = c.args.payload.now in
    let o = octets-all p (λ i. omega (arith, c.type_inv.payload i)) in
    let a = there p c.behind.result.now c.behind.ensures c.in_ok-refusal.ensures in
    let e = named p c.behind-name.result.now c.name_at-name_at.result c.behind-name.ensures c.name_at-name_at.ensures in
    refuses request_of (request-long p o a (omega (arith, e, c.if-name-gt92.true)))

pub read-requires : goal.read-requires
read-requires c =
    let p = c.args.payload.now in
    let o = octets-all p (λ i. omega (arith, c.type_inv.payload i)) in
    let a = there p c.behind.result.now c.behind.ensures c.in_ok-refusal.ensures in
    (lit≤ tt, (omega arith, omega (arith, request-there p o a)))

pub read-requires-2 : goal.read-requires-2
read-requires-2 c =
    let p = c.args.payload.now in
    let a = there p c.behind.result.now c.behind.ensures c.in_ok-refusal.ensures in
    ((lit≤ tt, lit≤ tt), subst (λ (l : List ℕ). size_at 5 l ≤ length l) (sym c.behind-2.ensures) a.there)

pub returns : goal.returns
returns c =
    let p = c.args.payload.now in
    let o = octets-all p (λ i. omega (arith, c.type_inv.payload i)) in
    let a = there p c.behind.result.now c.behind.ensures c.in_ok-refusal.ensures in
    let e = named p c.behind-name.result.now c.name_at-name_at.result c.behind-name.ensures c.name_at-name_at.ensures in
    gives request_of
    (request-made p o a _ _ _ _ _ (number_read p 0 13 (lit≤ tt) (omega (arith, request-there p o a)) c.read.result c.read.ensures)
    (c.read-2.ensures ∙ ap (λ (l : List ℕ). value_at 5 l) c.behind-2.ensures) (ap (λ (l : List ℕ). length l) c.string_value.ensures) c.name_at-name_at.ensures e)
    (request-held p o a (omega (arith, e, c.if-name-gt92.false)))
