-- `serve::complete` meets its contract, case by case.
use mathlib.Core.Path.{◌≡◌, sym, ap, ◌∙◌}
use mathlib.Core.List.{List}
use mathlib.Core.Option.{none, some}
use Prim.Native.Nat.{ℕ}
use native.Mathlib.Omega.{arith}
use lib.ListN.{length}
use lib.Seq.{take_all}
use Rattle.std.specs.Prelude.{None, Some, Err}
use Rattle.bits.specs.Little.{le}
use Rattle.bits.specs.Part.{span}
use Rattle.allocator_table.specs.Layout.{table_of}
use Rattle.allocator_table.specs.Limits.{unique_id_max}
use Rattle.allocator_table.specs.Table.{node_of, is_free, given}
use Rattle.allocator_table.specs.inside.Code.{optional}
use Rattle.allocator_table.proofs.Search.{is-some, is-none}
use Rattle.allocator_table.proofs.Soundness.{long-enough}
use Rattle.allocator.specs.Allocate.{Verdict, returned, performs}
use Rattle.allocator.specs.declared.answer.AllocateError.TheVariants.{Exhausted}
use Rattle.allocator.proofs.Decisions.{is_known, known-low, none_left, one_left, room-left}
use Rattle.allocator.proofs.serve.complete.Goals as goal

-- the node ID by the unique ID itself
module _ (m g : List ℕ) (u : ℕ) (l : length g ≡ unique_id_max) (e : u ≡ le (span g 0 unique_id_max)) where
  by_id : node_of u (table_of m) ≡ node_of (le g) (table_of m)
  by_id = ap (λ (k : ℕ). node_of k (table_of m)) (e ∙ ap le (take_all unique_id_max g (omega arith)))

  found : (n : ℕ) → Some n ≡ optional (node_of u (table_of m)) → node_of (le g) (table_of m) ≡ some n
  found n h = sym by_id ∙ is-some n (node_of u (table_of m)) h

  new : None ≡ optional (node_of u (table_of m)) → node_of (le g) (table_of m) ≡ none
  new h = sym by_id ∙ is-none (node_of u (table_of m)) h

pub confirm-requires : goal.confirm-requires
confirm-requires c =
    let a = c.args in
    let k = found a.state.now a.g.now _ c.requires.1 c.read.ensures c.in-Some.node c.in-Some.ensures in
    (long-enough a.state.now c.requires.0, known-low a.state.now a.q a.g.now a.p c.requires.0 c.in-Some.node k)

pub returns-in-Some : goal.returns-in-Some
returns-in-Some c =
    let a = c.args in
    let k = found a.state.now a.g.now _ c.requires.1 c.read.ensures c.in-Some.node c.in-Some.ensures in
    ap (λ x. returned x c.confirm.new.state c.confirm.new.out) c.replied.ensures ∙ c.confirm.ensures ∙ ap (λ (v : Verdict). performs v a.state.now a.q.time a.g.now a.out.now) (sym (is_known a.state.now a.q a.g.now a.p c.requires.0 c.in-Some.node k))

pub gathered_count-requires : goal.gathered_count-requires
gathered_count-requires c = let l = long-enough c.args.state.now c.requires.0 in (omega arith, omega arith)

pub enter-requires : goal.enter-requires
enter-requires c =
    let a = c.args in
    let k = new a.state.now a.g.now _ c.requires.1 c.read.ensures c.in_default.ensures in
    let n = c.in-Some-given.node in
    let e = ap (given (is_free a.q.reserved (table_of a.state.now))) (sym c.preferred.ensures.0) ∙ is-some n _ c.in-Some-given.ensures.0 in
    (c.requires.0, (room-left a.state.now a.q a.g.now a.p c.requires.0 k n e, (c.requires.1, c.in-Some-given.ensures.1)))

pub returns-in-Some-given : goal.returns-in-Some-given
returns-in-Some-given c =
    let a = c.args in
    let k = new a.state.now a.g.now _ c.requires.1 c.read.ensures c.in_default.ensures in
    let n = c.in-Some-given.node in
    let e = ap (given (is_free a.q.reserved (table_of a.state.now))) (sym c.preferred.ensures.0) ∙ is-some n _ c.in-Some-given.ensures.0 in
    ap (λ x. returned x c.enter.new.state c.enter.new.out) c.replied-in-Some-given.ensures ∙ c.enter.ensures ∙ ap (λ (v : Verdict). performs v a.state.now a.q.time a.g.now a.out.now) (sym (one_left a.state.now a.q a.g.now a.p c.requires.0 k n e))

pub returns-in-None : goal.returns-in-None
unfolding performs
returns-in-None c =
    let a = c.args in
    let k = new a.state.now a.g.now _ c.requires.1 c.read.ensures c.in_default.ensures in
    let e = ap (given (is_free a.q.reserved (table_of a.state.now))) (sym c.preferred.ensures.0) ∙ is-none _ c.in-None.ensures.0 in
    ap (λ (m : List ℕ). returned (Err Exhausted) m a.out.now) c.gathered_count.ensures
    ∙ ap (λ (v : Verdict). performs v a.state.now a.q.time a.g.now a.out.now) (sym (none_left a.state.now a.q a.g.now a.p c.requires.0 k e))
