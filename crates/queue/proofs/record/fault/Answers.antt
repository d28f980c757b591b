-- `record::fault` meets its contract: each check in its order.
use mathlib.Core.Path.{◌≡◌, sym, ap, ◌∙◌}
use mathlib.Core.List.{List}
use Prim.Native.Nat.{ℕ, ◌+◌, ◌≤◌, ◌<◌}
use lib.ListN.{get_or}
use Rattle.bits.specs.Little.{le}
use Rattle.bits.specs.Part.{span}
use Rattle.rules.specs.Limits.{frame_record, frame_data}
use Rattle.queue.specs.inside.Checked.{checked}
use Rattle.queue.specs.Queue.{id_of, fault_of}
use Rattle.queue.proofs.Records.{id-is, length-is, large, empty, long, fine}
use Rattle.queue.proofs.record.fault.Goals as goal

-- what was read is the record's
module _ (m : List ℕ) (at id len : ℕ) (i : id ≡ le (span m at 4)) (l : len ≡ get_or m (at + 4) 0) where
  i' : id ≡ id_of (span m at frame_record)
  i' = i ∙ id-is m at

  l' : len ≡ get_or (span m at frame_record) 4 0
  l' = l ∙ length-is m at

  is-large : 536870912 ≤ id → 2 ≡ fault_of (span m at frame_record)
  is-large h = large (span m at frame_record) (rw (← i') h)

  is-empty : id < 536870912 → len ≡ 0 → 3 ≡ fault_of (span m at frame_record)
  is-empty h e = empty (span m at frame_record) (rw (← i') h) (sym l' ∙ e)

  is-long : id < 536870912 → (len ≡ 0 → ⊥) → frame_data < len → 3 ≡ fault_of (span m at frame_record)
  is-long h n x = long (span m at frame_record) (rw (← i') h) (λ e. n (l' ∙ e)) (rw (← l') x)

  is-fine : id < 536870912 → (len ≡ 0 → ⊥) → len ≤ frame_data → 0 ≡ fault_of (span m at frame_record)
  is-fine h n x = fine (span m at frame_record) (rw (← i') h) (λ e. n (l' ∙ e)) (rw (← l') x)

pub returns-then-found-ge536870912 : goal.returns-then-found-ge536870912
returns-then-found-ge536870912 c =
    let a = c.args in
    ap checked (is-large a.s.now a.at c.get-found.result.id c.get-found.result.len c.get-found.ensures.0 c.get-found.ensures.1 c.if-found-ge536870912.true)

pub returns-then-found-eq0 : goal.returns-then-found-eq0
returns-then-found-eq0 c =
    let a = c.args in
    ap checked (is-empty a.s.now a.at c.get-found.result.id c.get-found.result.len c.get-found.ensures.0 c.get-found.ensures.1 c.if-found-ge536870912.false c.if-found-eq0.true)

pub returns-then-found-gt-FRAME_DATA : goal.returns-then-found-gt-FRAME_DATA
returns-then-found-gt-FRAME_DATA c =
    let a = c.args in
    ap checked (is-long a.s.now a.at c.get-found.result.id c.get-found.result.len c.get-found.ensures.0 c.get-found.ensures.1 c.if-found-ge536870912.false c.if-found-eq0.false c.if-found-gt-FRAME_DATA.true)

pub returns : goal.returns
returns c =
    let a = c.args in
    ap checked (is-fine a.s.now a.at c.get-found.result.id c.get-found.result.len c.get-found.ensures.0 c.get-found.ensures.1 c.if-found-ge536870912.false c.if-found-eq0.false c.if-found-gt-FRAME_DATA.false)
