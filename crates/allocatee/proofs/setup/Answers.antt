-- `setup` meets its contract.
use mathlib.Core.Path.{◌≡◌, ap, ◌∙◌}
use mathlib.Core.List.{List}
use Prim.Native.Nat.{ℕ, ◌≤◌, ◌<◌}
use borrow.Author.Tests.{lt-ltb, le-ltb, eq-eqb, ne_eqb}
use lib.ListN.{length}
use Rattle.std.specs.Prelude.{Ok, Err}
use Rattle.allocatee.specs.Calls.{state, waits, after_setup}
use Rattle.allocatee.specs.Layout.{size, wait_of, fresh}
use Rattle.allocatee.specs.Limits.{unique_id_max, node_max}
use Rattle.allocatee.specs.declared.Start.{Start}
use Rattle.allocatee.specs.declared.answer.AllocateeError.TheVariants.{NodeId, UniqueId, Faulty}
use Rattle.allocatee.specs.declared.answer.Step.TheVariants.{Waits}
use Rattle.allocatee.proofs.setup.Goals as goal

module _ (m u : List ℕ) (q : Start) where
  other_length : (length u ≡ unique_id_max → ⊥) → state (Err UniqueId) m ≡ after_setup m u q
  unfolding after_setup
  other_length n = rw (ne_eqb (length u) unique_id_max n)

  module _ (l : length u ≡ unique_id_max) where
    short : length m < size → state (Err Faulty) m ≡ after_setup m u q
    unfolding after_setup
    short h = rw (eq-eqb (length u) unique_id_max l, lt-ltb (length m) size h)

    module _ (h : size ≤ length m) where
      large : node_max < q.preferred → state (Err NodeId) m ≡ after_setup m u q
      unfolding after_setup
      large p = rw (eq-eqb (length u) unique_id_max l, le-ltb (length m) size h, lt-ltb node_max q.preferred p)

      done : q.preferred ≤ node_max → (m' : List ℕ) → m' ≡ fresh m u q.preferred q.time q.random → (w : ℕ) → w ≡ wait_of m' q.time → state (Ok (Waits w)) m' ≡ after_setup m u q
      unfolding after_setup
      done p m' e w ew =
          rw (eq-eqb (length u) unique_id_max l, le-ltb (length m) size h, le-ltb node_max q.preferred p)
          (ap (λ (k : ℕ). state (Ok (Waits k)) m') ew ∙ ap (λ x. waits x q.time) e)

pub returns-then-unique_id-ne-UNIQUE_ID : goal.returns-then-unique_id-ne-UNIQUE_ID
returns-then-unique_id-ne-UNIQUE_ID c = let a = c.args in other_length a.bytes.now a.unique_id.now a.q c.if-unique_id-ne-UNIQUE_ID.true

pub returns-then-bytes-lt-SIZE : goal.returns-then-bytes-lt-SIZE
returns-then-bytes-lt-SIZE c = let a = c.args in short a.bytes.now a.unique_id.now a.q c.if-unique_id-ne-UNIQUE_ID.false c.if-bytes-lt-SIZE.true

pub returns-then-q-gt-NODE : goal.returns-then-q-gt-NODE
returns-then-q-gt-NODE c = let a = c.args in large a.bytes.now a.unique_id.now a.q c.if-unique_id-ne-UNIQUE_ID.false c.if-bytes-lt-SIZE.false c.if-q-gt-NODE.true

pub returns : goal.returns
returns c =
    let a = c.args in
    done a.bytes.now a.unique_id.now a.q c.if-unique_id-ne-UNIQUE_ID.false c.if-bytes-lt-SIZE.false c.if-q-gt-NODE.false c.fresh.new.bytes c.fresh.ensures c.wait.result c.wait.ensures
