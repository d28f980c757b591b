-- What of a record is looked at, and the records that are put one after the other.
use mathlib.Core.Path.{◌≡◌, refl, sym, ap, ◌∙◌}
use mathlib.Core.Bool.{Bool, true, false}
use mathlib.Core.List.{List, ◌∷◌}
use Prim.Native.Nat.{ℕ, suc, ◌+◌, ◌-◌, ◌^◌, ◌≤◌, ◌<◌}
use native.Mathlib.Omega.{arith}
use borrow.Author.Tests.{lt-ltb, le-ltb, le-leb, lt-leb, eq-eqb, ne_eqb, eqb-true}
use lib.Dec.{eqb}
use lib.ListN.{drop, get_or}
use lib.Seq.{take-take, get_or-take, get_or-drop}
use Rattle.std.specs.Prelude.{is_err, IsErrAnd, Ok, Err}
use Rattle.std.proofs.lemmas.Result.{err_from_is_err_and}
use Rattle.bits.specs.Little.{le}
use Rattle.bits.specs.Part.{span}
use Rattle.bits.specs.Tabulate.{tabulate}
use Rattle.rules.specs.Limits.{frame_record, frame_data}
use Rattle.rules.specs.Tests.{pick}
use Rattle.queue.specs.Answer.{Answer, refusal}
use Rattle.queue.specs.inside.Checked.{checked}
use Rattle.queue.specs.Queue.{Record, id_of, fault_of, first_fault}
use Rattle.queue.specs.declared.answer.QueueError.{QueueError}

pub id-is : (m : List ℕ) (at : ℕ) → le (span m at 4) ≡ id_of (span m at frame_record)
unfolding id_of
id-is m at = ap le (sym (take-take 4 frame_record (drop at m) (omega arith)))

pub length-is : (m : List ℕ) (at : ℕ) → get_or m (at + 4) 0 ≡ get_or (span m at frame_record) 4 0
length-is m at = sym (get_or-take frame_record (drop at m) 4 0 (omega arith) ∙ get_or-drop at m 4 0)

-- ── the checks of one record, in their order ──

module _ (r : Record) where
  pub large : 2 ^ 29 ≤ id_of r → 2 ≡ fault_of r
  unfolding fault_of
  large h = rw (le-leb (2 ^ 29) (id_of r) h)

  pub empty : id_of r < 2 ^ 29 → get_or r 4 0 ≡ 0 → 3 ≡ fault_of r
  unfolding fault_of
  empty h e = rw (lt-leb (2 ^ 29) (id_of r) h, eq-eqb (get_or r 4 0) 0 e)

  pub long : id_of r < 2 ^ 29 → (get_or r 4 0 ≡ 0 → ⊥) → frame_data < get_or r 4 0 → 3 ≡ fault_of r
  unfolding fault_of
  long h n l = rw (lt-leb (2 ^ 29) (id_of r) h, ne_eqb (get_or r 4 0) 0 n, lt-ltb frame_data (get_or r 4 0) l)

  pub fine : id_of r < 2 ^ 29 → (get_or r 4 0 ≡ 0 → ⊥) → get_or r 4 0 ≤ frame_data → 0 ≡ fault_of r
  unfolding fault_of
  fine h n l = rw (lt-leb (2 ^ 29) (id_of r) h, ne_eqb (get_or r 4 0) 0 n, le-ltb frame_data (get_or r 4 0) l)

-- ── the checks' answer ──

-- a refusal that is handed on
pub handed-on : (r : Answer (Unit {0})) (e : QueueError) → IsErrAnd r (λ (x : QueueError). x ≡ e) → r ≡ Err e
handed-on r e h = let p = err_from_is_err_and r h in rw (p.1, p.2)

pub passes : (n : ℕ) → is_err (checked n) ≡ false → n ≡ 0
passes n = go (eqb n 0) refl where
  go : (b : Bool) → eqb n 0 ≡ b → is_err (pick b (Ok (tt {0})) (Err (refusal n))) ≡ false → n ≡ 0
  go true e h = eqb-true n 0 e
  go false e h = absurd (let z : ◌≡◌ {A = ℕ} 0 1 = ap (λ (b : Bool). pick b 0 1) h in omega arith)

pub stops : (n : ℕ) → is_err (checked n) ≡ true → n ≡ 0 → ⊥
stops n h z = let y : ◌≡◌ {A = ℕ} 0 1 = ap (λ (b : Bool). pick b 1 0) (ap (λ k. is_err (checked k)) (sym z) ∙ h) in omega arith

-- ── the first that is refused ──

module _ (f : ℕ → Record) (i k : ℕ) where
  pub next : i < k → tabulate f i (k - i) ≡ f i ∷ tabulate f (suc i) (k - suc i)
  unfolding tabulate
  next h = let e : k - i ≡ suc (k - suc i) = omega arith in ap (tabulate f i) e

  pub hit : i < k → (fault_of (f i) ≡ 0 → ⊥) → fault_of (f i) ≡ first_fault (tabulate f i (k - i))
  unfolding first_fault
  hit h n = rw (next h, ne_eqb (fault_of (f i)) 0 n)

  pub miss : i < k → fault_of (f i) ≡ 0 → first_fault (tabulate f (suc i) (k - suc i)) ≡ first_fault (tabulate f i (k - i))
  unfolding first_fault
  miss h e = rw (next h, eq-eqb (fault_of (f i)) 0 e)

  pub none : k ≤ i → 0 ≡ first_fault (tabulate f i (k - i))
  unfolding first_fault tabulate
  none h = let e : k - i ≡ 0 = omega arith in rw e
