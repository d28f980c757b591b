-- The calls, case by case.
use mathlib.Core.Path.{◌≡◌, refl, sym, ap, ◌∙◌}
use mathlib.Core.Bool.{Bool, true, false}
use mathlib.Core.List.{List, [], ◌∷◌, ◌++◌}
use Prim.Native.Nat.{ℕ, suc, ◌+◌, ◌*◌, ◌-◌, ◌/◌, ◌%◌, ◌≤◌, ◌<◌}
use native.Mathlib.Omega.{arith}
use borrow.Author.Tests.{lt-ltb, le-ltb, eq-eqb, ne_eqb}
use lib.ListN.{length, drop}
use Rattle.bits.specs.Little.{le_bytes}
use Rattle.bits.specs.Part.{splice}
use Rattle.bits.proofs.Splice.{length-span}
use Rattle.bits.proofs.Tabulate.{length-tabulate}
use Rattle.rules.specs.Limits.{frame_record}
use Rattle.std.specs.Prelude.{Ok, Err}
use Rattle.queue.specs.Answer.{Answer}
use Rattle.queue.specs.inside.Checked.{checked}
use Rattle.queue.specs.Calls.{returned, after_put, after_take, shown, looked}
use Rattle.queue.specs.Layout.{count_at, records_at, capacity, count_of, record_at, queued, queue_of, sound_queue, given, records_of, stored, holding}
use Rattle.queue.specs.Queue.{first_fault, put_all}
use Rattle.queue.specs.declared.answer.QueueError.TheVariants.{OutputSmall, Full, PartRecord, Faulty}
use Rattle.queue.proofs.Bytes.{holding-fewer, all-counted}
use Rattle.queue.proofs.Places.{length-queued}
use Rattle.queue.proofs.Soundness.{long-enough, few, fit, places-fit}

-- what the test says
pub sound-is : (m : List ℕ) (b : Bool) → b ≡ sound_queue m → b ≡ true → sound_queue m ≡ true
sound-is m b e l = sym e ∙ l

module _ (m : List ℕ) (b : Bool) (e : b ≡ sound_queue m) (t : b ≡ false) where
  faulty : sound_queue m ≡ false
  faulty = sym e ∙ t

  pub look-faulty : (out : List ℕ) → shown (Err Faulty) out ≡ looked m out
  unfolding looked
  look-faulty out = rw faulty

  pub take-faulty : returned (Err Faulty) m ≡ after_take m
  unfolding after_take
  take-faulty = rw faulty

  pub put-faulty : (p : List ℕ) → returned (Err Faulty) m ≡ after_put m p
  unfolding after_put
  put-faulty p = rw faulty

module _ (m : List ℕ) (fine : sound_queue m ≡ true) (n : ℕ) (is : n ≡ count_of m) where
  pub n-fits : records_at + n * frame_record ≤ length m
  n-fits = omega (arith, fit m fine)

  -- ── no record ──

  none : n ≡ 0 → queue_of m ≡ []
  unfolding queued
  none z = ap (queued m) (sym is ∙ z)

  pub look_none : n ≡ 0 → (out : List ℕ) → shown (Ok false) out ≡ looked m out
  unfolding looked
  look_none z out = rw (fine, none z)

  pub take_none : n ≡ 0 → returned (Ok false) m ≡ after_take m
  unfolding after_take
  take_none z = rw (fine, none z)

  -- ── the first record ──

  module _ (nz : n ≡ 0 → ⊥) where
    some : queue_of m ≡ record_at m (n - 1) ∷ queued m (n - 1)
    unfolding queued
    some = let s : count_of m ≡ suc (n - 1) = omega arith in ap (queued m) s

    pub look-small : (out : List ℕ) → length out < frame_record → shown (Err OutputSmall) out ≡ looked m out
    unfolding looked
    look-small out h = rw (fine, some, lt-ltb (length out) frame_record h)

    pub look-done : (out out' : List ℕ) → frame_record ≤ length out → out' ≡ splice out 0 (record_at m (n - 1)) → shown (Ok true) out' ≡ looked m out
    unfolding looked
    look-done out out' h e =
        let l : 0 + length (record_at m (n - 1)) ≡ frame_record = omega (arith, length-span m (records_at + (n - 1) * frame_record) frame_record (omega (arith, n-fits))) in
        rw (fine, some, le-ltb (length out) frame_record h) (ap (shown (Ok true)) (e ∙ ap (λ (k : ℕ). record_at m (n - 1) ++ drop k out) l))

    pub take_done : (m' : List ℕ) → m' ≡ splice m count_at (le_bytes 8 (n - 1)) → returned (Ok true) m' ≡ after_take m
    unfolding after_take
    take_done m' e = rw (fine, some) (ap (returned (Ok true)) (e ∙ holding-fewer m (n - 1) (omega (arith, n-fits))))

  -- ── put ──

  module _ (p : List ℕ) where
    pub put-cut : (length p % frame_record ≡ 0 → ⊥) → returned (Err PartRecord) m ≡ after_put m p
    unfolding after_put
    put-cut h = rw (fine, ne_eqb (length p % frame_record) 0 h)

    module _ (cut : length p % frame_record ≡ 0) where
      pub put_refused : (a : Answer (Unit {0})) → a ≡ checked (first_fault (records_of p)) → (first_fault (records_of p) ≡ 0 → ⊥) → returned a m ≡ after_put m p
      unfolding after_put
      put_refused a e h =
          let z = ne_eqb (first_fault (records_of p)) 0 h in rw (fine, eq-eqb (length p % frame_record) 0 cut, z) (ap (λ b. returned b m) (e ∙ rw z refl))

      module _ (none : first_fault (records_of p) ≡ 0) where
        sum : length (queue_of m) + length (records_of p) ≡ n + length p / frame_record
        sum = omega (arith, length-queued m (count_of m), length-tabulate (given p) 0 (length p / frame_record))

        pub put_full : (x : ℕ) → x ≡ capacity (length m) → x - n < length p / frame_record → returned (Err Full) m ≡ after_put m p
        unfolding after_put
        put_full x c h =
            rw (fine, eq-eqb (length p % frame_record) 0 cut, eq-eqb (first_fault (records_of p)) 0 none, lt-ltb (capacity (length m)) (length (queue_of m) + length (records_of p)) (omega (arith, sum)))

        pub room_for : (x : ℕ) → x ≡ capacity (length m) → length p / frame_record ≤ x - n → records_at + (n + length p / frame_record) * frame_record ≤ length m
        room_for x c h = places-fit (length m) (n + length p / frame_record) (long-enough m fine) (omega (arith, few m fine))

        pub put-done : (x : ℕ) → x ≡ capacity (length m) → length p / frame_record ≤ x - n → (m₁ m₂ : List ℕ) → m₁ ≡ splice m records_at (stored (put_all (queued m n) (records_of p)))
            → m₂ ≡ splice m₁ count_at (le_bytes 8 (n + length p / frame_record)) → returned (Ok tt) m₂ ≡ after_put m p
        unfolding after_put
        put-done x c h m₁ m₂ e₁ e₂ =
            rw (
              fine,
              eq-eqb (length p % frame_record) 0 cut,
              eq-eqb (first_fault (records_of p)) 0 none,
              le-ltb (capacity (length m)) (length (queue_of m) + length (records_of p)) (omega (arith, sum, few m fine)),
            )
            (ap (returned (Ok tt))
            (all-counted m p n (length p / frame_record) (room_for x c h) (omega arith) m₁ m₂ e₁ e₂ ∙ ap (λ (k : ℕ). holding m (put_all (queued m k) (records_of p))) is))
