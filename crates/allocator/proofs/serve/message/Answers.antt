-- `serve::message` meets its contract, case by case.
use mathlib.Core.Path.{◌≡◌, refl, sym, ap, ◌∙◌}
use mathlib.Core.List.{List, ◌++◌}
use Prim.Native.Nat.{ℕ, ◌+◌, ◌-◌}
use native.Mathlib.Nat.{sub-zero}
use native.Mathlib.Omega.{arith}
use lib.ListN.{length, take}
use lib.Seq.{take_all, length-take-le}
use Rattle.std.specs.Prelude.{None, Ok}
use Rattle.bits.specs.Part.{span}
use Rattle.allocator_table.specs.Layout.{gathered_at, with_count}
use Rattle.allocator_table.proofs.Soundness.{long-enough}
use Rattle.allocator.specs.Allocate.{Verdict, returned, gathers, completes, Fields, performs}
use Rattle.allocator.specs.Stage.{accepts, kept_at, joined}
use Rattle.allocator.proofs.Decisions.{is-ignored, is-awaited, is-part, is-whole, kept-few, accepted-fits, length-joined}
use Rattle.allocator.proofs.serve.message.Goals as goal

-- what was joined in code, by the definition
is-joined : (m u g : List ℕ) (t n k : ℕ) → n ≡ kept_at m t → k ≡ n + length u → take (n + length u) g ≡ span m gathered_at n ++ u → take k g ≡ joined m t u
unfolding joined
is-joined m u g t n k e l h = ap (λ (j : ℕ). take j g) l ∙ h ∙ ap (λ (j : ℕ). span m gathered_at j ++ u) e

pub returns-then-q-ne0 : goal.returns-then-q-ne0
unfolding performs
returns-then-q-ne0 c =
    let a = c.args in
    ap (λ (v : Verdict). performs v a.state.now a.q.time (joined a.state.now a.q.time a.u.now) a.out.now) (sym (is-ignored a.state.now a.q (a.p, (a.first, a.u.now)) c.if-q-ne0.true))

pub kept-n-requires : goal.kept-n-requires
kept-n-requires c = long-enough c.args.state.now c.requires

pub accepts-requires : goal.accepts-requires
accepts-requires c = omega (arith, c.kept-n.ensures, kept-few c.args.state.now c.args.q.time c.requires)

pub gathered_count-requires : goal.gathered_count-requires
gathered_count-requires c = (long-enough c.args.state.now c.requires, omega (arith, c.kept-n.ensures, kept-few c.args.state.now c.args.q.time c.requires))

pub returns-then-not-accepts : goal.returns-then-not-accepts
unfolding performs
returns-then-not-accepts c =
    let a = c.args in
    let e = ap (accepts a.first (length a.u.now)) (sym c.kept-n.ensures) ∙ sym c.accepts.ensures ∙ c.if-not-accepts.true in
    ap (λ (m : List ℕ). returned (Ok None) m a.out.now) (c.gathered_count.ensures ∙ ap (with_count a.state.now) c.kept-n.ensures)
    ∙ ap (λ (v : Verdict). performs v a.state.now a.q.time (joined a.state.now a.q.time a.u.now) a.out.now) (sym (is-awaited a.state.now a.q (a.p, (a.first, a.u.now)) c.if-q-ne0.false e))

pub join-g-requires : goal.join-g-requires
join-g-requires c =
    let a = c.args in
    let e = sym c.accepts.ensures ∙ c.if-not-accepts.false in
    (long-enough a.state.now c.requires, accepted-fits a.first (length a.u.now) c.kept-n.result e)

pub overflow_add-len : goal.overflow_add-len
overflow_add-len c =
    let a = c.args in
    omega (arith, accepted-fits a.first (length a.u.now) c.kept-n.result (sym c.accepts.ensures ∙ c.if-not-accepts.false))

pub follow_up-requires : goal.follow_up-requires
follow_up-requires c =
    let l = length-take-le (c.kept-n.result + length c.args.u.now - 0) c.join-g.result (omega (arith, c.join-g.ensures.1)) in
    (long-enough c.args.state.now c.requires, omega arith)

pub returns-then-len-lt-UNIQUE_ID : goal.returns-then-len-lt-UNIQUE_ID
returns-then-len-lt-UNIQUE_ID c =
    let a = c.args in
    let m = a.state.now in
    let t = a.q.time in
    let u = a.u.now in
    let v : Fields = (a.p, (a.first, u)) in
    let e = ap (accepts a.first (length u)) (sym c.kept-n.ensures) ∙ sym c.accepts.ensures ∙ c.if-not-accepts.false in
    let d = length-joined m t u c.requires in
    let g = is-joined m u c.join-g.result t c.kept-n.result (c.kept-n.result + length u - 0) c.kept-n.ensures (sub-zero (c.kept-n.result + length u)) c.join-g.ensures.0 in
    ap (λ x. returned x c.follow_up.new.state c.follow_up.new.out) c.replied.ensures ∙ c.follow_up.ensures ∙ ap (λ (y : List ℕ). performs gathers m t y a.out.now) g
    ∙ ap (λ (y : Verdict). performs y m t (joined m t u) a.out.now) (sym (is-part m a.q v c.if-q-ne0.false e (omega (arith, d, c.kept-n.ensures, c.if-len-lt-UNIQUE_ID.true))))

pub returns : goal.returns
returns c =
    let a = c.args in
    let m = a.state.now in
    let t = a.q.time in
    let u = a.u.now in
    let v : Fields = (a.p, (a.first, u)) in
    let e = ap (accepts a.first (length u)) (sym c.kept-n.ensures) ∙ sym c.accepts.ensures ∙ c.if-not-accepts.false in
    let d = length-joined m t u c.requires in
    let g = sym (take_all (c.kept-n.result + length u) c.join-g.result (omega (arith, c.join-g.ensures.1, c.if-len-lt-UNIQUE_ID.false)))
    ∙ is-joined m u c.join-g.result t c.kept-n.result (c.kept-n.result + length u) c.kept-n.ensures refl c.join-g.ensures.0 in
    c.complete.ensures ∙ ap (λ (y : List ℕ). performs (completes m a.q y a.p) m t y a.out.now) g
    ∙ ap (λ (y : Verdict). performs y m t (joined m t u) a.out.now) (sym (is-whole m a.q v c.if-q-ne0.false e (omega (arith, d, c.kept-n.ensures, c.if-len-lt-UNIQUE_ID.false))))
