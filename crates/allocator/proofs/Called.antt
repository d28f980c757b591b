-- What a call does, case by case.
use mathlib.Core.Path.{◌≡◌, refl, sym, ap, ◌∙◌, subst}
use mathlib.Core.Bool.{Bool, true, false}
use mathlib.Core.List.{List}
use mathlib.Core.Option.{Option, none, some}
use Prim.Native.Nat.{ℕ, ◌≤◌, ◌<◌}
use native.Mathlib.Omega.{arith}
use borrow.Author.Tests.{eqb-true, eqb-false, ltb-true, ltb-false}
use lib.Dec.{eqb, ltb}
use lib.ListN.{length}
use Rattle.bits.specs.Little.{le}
use Rattle.bits.specs.Order.{unpack}
use Rattle.std.specs.Prelude.{Err}
use Rattle.shape.specs.Answer.{Answer, refused, got}
use Rattle.shape.specs.Shape.{Values, decoded}
use Rattle.protocol_dynamic_node_id.specs.Allocation.{allocation}
use Rattle.allocator_table.specs.Layout.{table_of, sound_state}
use Rattle.allocator_table.specs.Limits.{unique_id_max}
use Rattle.allocator_table.specs.Table.{node_of, is_free, given}
use Rattle.allocator.specs.Allocate.{Verdict, ignored, awaits, gathers, knows, gives, exhausted, allots, completes, Fields, fields_of, decide, Result, returned, performs, on_message, no_own, allocated}
use Rattle.allocator.specs.Answer.{refusal_of}
use Rattle.allocator.specs.Stage.{accepts, kept_at, joined, preferred}
use Rattle.allocator.specs.declared.Request.{Request}
use Rattle.allocator.specs.declared.answer.AllocateError.TheVariants.{OwnId, Message, Faulty}
use Rattle.allocator.proofs.Messages.{values_of, read-natural}
use Rattle.allocator.proofs.Refusals.{Told, Small, small-read}
use Rattle.allocator.proofs.Decisions.{is-ignored, is-awaited, is-part, is-whole, accepted-fits, length-joined}

-- an anonymous message of the stage that is expected
pub record Expected (m : List ℕ) (q : Request) (v : Fields) : Type 0 where
  pub anonymous : q.source ≡ 0
  pub accepted : accepts v.1.0 (length v.1.1) (kept_at m q.time) ≡ true

-- ── a verdict, and why ──

pub data Decided (m : List ℕ) (q : Request) (v : Fields) : Verdict → Type 0 where
  ignores : Decided m q v ignored
  waits : Decided m q v awaits
  parts : Expected m q v → length (joined m q.time v.1.1) < unique_id_max → Decided m q v gathers
  finds : Expected m q v → length (joined m q.time v.1.1) ≡ unique_id_max → (n : ℕ) → node_of (le (joined m q.time v.1.1)) (table_of m) ≡ some n → Decided m q v (knows n)
  adds : Expected m q v → length (joined m q.time v.1.1) ≡ unique_id_max → (n : ℕ) → node_of (le (joined m q.time v.1.1)) (table_of m) ≡ none
      → given (is_free q.reserved (table_of m)) (preferred v.0) ≡ some n → Decided m q v (gives n)
  lacks : Expected m q v → length (joined m q.time v.1.1) ≡ unique_id_max → node_of (le (joined m q.time v.1.1)) (table_of m) ≡ none
      → given (is_free q.reserved (table_of m)) (preferred v.0) ≡ none → Decided m q v exhausted

module _ (m : List ℕ) (q : Request) (v : Fields) where
  abbrev g : List ℕ
  g = joined m q.time v.1.1

  completed : Expected m q v → length (joined m q.time v.1.1) ≡ unique_id_max → Decided m q v (completes m q (joined m q.time v.1.1) v.0)
  unfolding completes
  completed e l = go (node_of (le g) (table_of m)) refl (given (is_free q.reserved (table_of m)) (preferred v.0)) refl where
    go : (a : Option ℕ) → node_of (le g) (table_of m) ≡ a → (b : Option ℕ) → given (is_free q.reserved (table_of m)) (preferred v.0) ≡ b → Decided m q v (allots a b)
    go (some n) x b y = finds e l n x
    go none x (some n) y = adds e l n x y
    go none x none y = lacks e l x y

  pub decided : sound_state m ≡ true → Decided m q v (decide m q v)
  decided s = source (eqb q.source 0) refl where
    long : Expected m q v → (b : Bool) → ltb (length g) unique_id_max ≡ b → Decided m q v (decide m q v)
    long e true l = let h = ltb-true (length g) unique_id_max l in subst (Decided m q v) (sym (is-part m q v e.anonymous e.accepted h)) (parts e h)
    long e false l =
        let h = ltb-false (length g) unique_id_max l in
        let f = accepted-fits v.1.0 (length v.1.1) (kept_at m q.time) e.accepted in
        subst (Decided m q v) (sym (is-whole m q v e.anonymous e.accepted h)) (completed e (omega (arith, length-joined m q.time v.1.1 s)))

    stage : q.source ≡ 0 → (b : Bool) → accepts v.1.0 (length v.1.1) (kept_at m q.time) ≡ b → Decided m q v (decide m q v)
    stage z true a = long (record { anonymous = z; accepted = a }) (ltb (length g) unique_id_max) refl
    stage z false a = subst (Decided m q v) (sym (is-awaited m q v z a)) waits

    source : (b : Bool) → eqb q.source 0 ≡ b → Decided m q v (decide m q v)
    source true z = stage (eqb-true q.source 0 z) (accepts v.1.0 (length v.1.1) (kept_at m q.time)) refl
    source false z = subst (Decided m q v) (sym (is-ignored m q v (eqb-false q.source 0 z))) ignores

-- ── a call ──

pub data Called (m : List ℕ) (q : Request) (p out : List ℕ) : Result → Type 0 where
  faults : Called m q p out (returned (Err Faulty) m out)
  disowned : Called m q p out (returned (Err OwnId) m out)
  refuses : (n : ℕ) → Told n → Called m q p out (returned (Err (Message (refusal_of n))) m out)
  acts : sound_state m ≡ true → no_own q.reserved.own ≡ false → (v : Fields) → decoded allocation p ≡ got (values_of v) → (x : Verdict) → Decided m q v x
      → Called m q p out (performs x m q.time (joined m q.time v.1.1) out)

module _ (m : List ℕ) (q : Request) (p out : List ℕ) where
  by-fault : sound_state m ≡ false → allocated m q p out ≡ returned (Err Faulty) m out
  unfolding allocated
  by-fault s = rw s

  by-own : sound_state m ≡ true → no_own q.reserved.own ≡ true → allocated m q p out ≡ returned (Err OwnId) m out
  unfolding allocated
  by-own s o = rw (s, o)

  pub by-message : sound_state m ≡ true → no_own q.reserved.own ≡ false → allocated m q p out ≡ on_message (decoded allocation p) m q out
  unfolding allocated
  by-message s o = rw (s, o)

  pub called : Called m q p out (allocated m q p out)
  unfolding on_message
  called = sound (sound_state m) refl where
    small-number : (n : ℕ) → decoded allocation p ≡ refused n → Told n
    small-number n e = subst Small e (small-read (unpack p))

    message : sound_state m ≡ true → no_own q.reserved.own ≡ false → (r : Answer (Values allocation)) → decoded allocation p ≡ r → Called m q p out (on_message r m q out)
    message s o (refused n) e = refuses n (small-number n e)
    message s o (got v) e = acts s o (fields_of v) (e ∙ ap got (read-natural p v e)) (decide m q (fields_of v)) (decided m q (fields_of v) s)

    own : sound_state m ≡ true → (b : Bool) → no_own q.reserved.own ≡ b → Called m q p out (allocated m q p out)
    own s true o = subst (Called m q p out) (sym (by-own s o)) disowned
    own s false o = subst (Called m q p out) (sym (by-message s o)) (message s o (decoded allocation p) refl)

    sound : (b : Bool) → sound_state m ≡ b → Called m q p out (allocated m q p out)
    sound true s = own s (no_own q.reserved.own) refl
    sound false s = subst (Called m q p out) (sym (by-fault s)) faults
